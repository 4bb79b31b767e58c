-- The words of a call: a command, and in any order its options, each once, as `--name value`,
-- `--name=value`, or `--name` alone where it takes no value; and at most one word for the input,
-- which behind `--` may be any. Or they ask for help or the version.
use Rattle.std.specs.Prelude.{◌≡◌, ℕ, ◌⊎◌, true, false, ◌&&◌, ◌||◌, not, Bool, List, [], ◌∷◌, ◌++◌, fold, find, nat_eq, Option, None, Some, is_some, bytes_eq, codes, if◌then◌else◌}
use Rattle.std.specs.List.{list_all, starts_with}
use Rattle.std.specs.Option.{option_map}
use Rattle.clap.specs.Lexer.{long_of, short_of}
use Rattle.clap.specs.Words.{Rule, Text}
use Rattle.clap.specs.declared.builder.action.ArgAction.{ArgAction}
use Rattle.pp_command.specs.CommandLine.{AsksForMore, Command, IsAskedOf, MixesForms, ReadsFile, command_named}
use Rattle.pp_command.specs.declared.{command_kind.CommandKind.CommandKind, work.Work.Work}
use Rattle.pp_call.specs.declared.call_fault.CallFault.{CallFault}
use Rattle.pp_condition.specs.declared.until.Until.{Until}

-- what words come to: what they give, a request for help or the version, or nothing
pub data Reading (X : Type 0) : Type 0 where
  given : X → Reading X
  help : Reading X
  refused : Reading X

-- what comes of what is given; a request stays one, and nothing nothing
abbrev pub with_given : {X Y : Type 0} → (X → Reading Y) → Reading X → Reading Y
with_given more (given x) = more x
with_given more help = help
with_given more refused = refused

-- the values that words have given so far, each after the name of its option, and the option whose
-- value is the next word; and whether `--` has ended the options
pub record Given : Type 0 where
  pub values : List (Text × Text)
  pub waiting : Option Text
  pub ended : Bool

abbrev pub nothing_given : Given
nothing_given = record { values = []; waiting = None; ended = false }

-- the value of an option among these
abbrev pub value_among : List (Text × Text) → Text → Option Text
value_among values id = option_map (λ pair. pair.1) (find (λ pair. bytes_eq pair.0 id) values)

-- one more value, of an option that has none yet
abbrev pub with_value : Given → Text → Text → Reading Given
with_value so_far id value = if is_some (value_among so_far.values id) then refused
    else given (record so_far { values = so_far.values ++ (id, value) ∷ []; waiting = None })

-- whether an option takes no value
abbrev pub is_flag : Option ArgAction → Bool
is_flag (Some ArgAction.SetTrue) = true
is_flag action = false

-- one more option: with no value, with a value in its own word, or with one to come
abbrev pub with_option : Given → Text → Bool → Option Text → Reading Given
with_option so_far id true None = with_value so_far id (codes "true")
with_option so_far id true (Some value) = refused
with_option so_far id false (Some value) = with_value so_far id value
with_option so_far id false None = given (record so_far { waiting = Some id })

-- the option of these that has this name
abbrev pub option_named : List Rule → Text → Option Rule
option_named options name = find (λ rule. bytes_eq rule.id name) options

-- whether a word looks like an option
abbrev pub is_option : Text → Bool
is_option word = is_some (long_of word) || is_some (short_of word)

-- whether a word asks for help: `--help`, or `-h` and whatever follows
abbrev pub asks_for_help : Text → Bool
asks_for_help word = bytes_eq word (codes "--help") || starts_with nat_eq word (codes "-h")

-- one more value: that of an option, or the word for the input
abbrev pub with_plain_word : Given → Text → Text → Reading Given
with_plain_word so_far id word = if is_option word then refused else with_value so_far id word

-- one more option by its name, if it is one of these
abbrev pub with_named : Given → Option Rule → Option Text → Reading Given
with_named so_far None value = refused
with_named so_far (Some rule) value = with_option so_far rule.id (is_flag rule.action) value

-- one more word, before which no option waits for its value; the word's parts, if it is an option
abbrev pub with_free_word : List Rule → Given → Text → Option (Text × Option Text) → Reading Given
with_free_word options so_far word None = with_plain_word so_far (codes "file") word
with_free_word options so_far word (Some (name, value)) =
    with_named so_far (option_named options name) value

-- `--`, behind which no word is an option
abbrev pub with_end : Given → Reading Given
with_end so_far = if is_some so_far.waiting then refused else given (record so_far { ended = true })

-- one more word before `--`
abbrev pub with_word_by : List Rule → Given → Text → Option Text → Reading Given
with_word_by options so_far word (Some id) = with_plain_word so_far id word
with_word_by options so_far word None =
    if asks_for_help word then help else with_free_word options so_far word (long_of word)

-- one more word
unfoldable pub with_word : List Rule → Text → Given → Reading Given
with_word options word so_far = if so_far.ended then with_value so_far (codes "file") word
    else (if bytes_eq word (codes "--") then with_end so_far
    else with_word_by options so_far word so_far.waiting)

-- what some words give after others, in order
abbrev pub given_from : List Rule → Reading Given → List Text → Reading Given
given_from options so_far words =
    fold (λ so_far word. with_given (with_word options word) so_far) so_far words

abbrev pub given_by : List Rule → List Text → Reading Given
given_by options words = given_from options (given nothing_given) words

-- whether each option that has to be given has a value among these
abbrev pub has_required : List Rule → List (Text × Text) → Bool
has_required options values =
    list_all (λ rule. not rule.required || is_some (value_among values rule.id)) options

-- whether no value is to come, and all are given that have to be
abbrev pub is_whole : List Rule → Given → Bool
is_whole options so_far = not (is_some so_far.waiting) && has_required options so_far.values

abbrev pub whole : List Rule → Given → Reading (List (Text × Text))
whole options so_far = if is_whole options so_far then given so_far.values else refused

-- the values that words give to these options
unfoldable pub reading_of_words : List Rule → List Text → Reading (List (Text × Text))
reading_of_words options words = with_given (whole options) (given_by options words)

-- whether help has a page of this name
abbrev pub is_topic : Text → Bool
is_topic name = bytes_eq name (codes "help") || is_some (command_named name)

-- whether a word asks for the version: `--version`, or `-V` and whatever follows
abbrev pub asks_for_version : Text → Bool
asks_for_version word = bytes_eq word (codes "--version") || starts_with nat_eq word (codes "-V")

-- what words come to that begin with no command: `help`, alone or before one topic, asks for help
abbrev pub reading_of_topics : List Text → Reading (CommandKind × List (Text × Text))
reading_of_topics [] = help
reading_of_topics (topic ∷ []) = if is_topic topic then help else refused
reading_of_topics (topic ∷ other ∷ more) = refused

abbrev pub reading_without_command : Text → List Text → Reading (CommandKind × List (Text × Text))
reading_without_command name topics =
    if bytes_eq name (codes "help") then reading_of_topics topics
    else (if asks_for_help name || asks_for_version name then help else refused)

abbrev pub reading_by : Text → List Text → Option Command
    → Reading (CommandKind × List (Text × Text))
reading_by name words None = reading_without_command name words
reading_by name words (Some command) =
    with_given (λ values. given (command.kind, values)) (reading_of_words command.options words)

-- what the words of a call come to: a command, and the values that the words after its name give
abbrev pub reading_of_call : List Text → Reading (CommandKind × List (Text × Text))
reading_of_call [] = refused
reading_of_call (name ∷ words) = reading_by name words (command_named name)

-- WHAT A CALL ASKS FOR: by the values of its options, as a command line does by those of its own;
-- over the input, or over a file
pub record CallFor (words : List Text) (work : Work) (first : List ℕ) (until : Option Until)
    (file : Option Text) : Type 0 where
  pub call : CommandKind × List (Text × Text)
  pub read : reading_of_call words ≡ given call
  pub asked : IsAskedOf call.0 (value_among call.1) work first until
  pub named : ReadsFile (value_among call.1 (codes "file")) file

-- it asks for no work
abbrev pub AsksForNone : CommandKind → (Text → Option Text) → Type 0
AsksForNone kind value = (work : Work) (first : List ℕ) (until : Option Until)
    → ¬ IsAskedOf kind value work first until

-- WHY THEY ASK FOR NO WORK

-- what was read comes to a request, or to nothing, or memory was refused; no number is to blame
abbrev pub IsRefusal : {X : Type 0} → Reading X → CallFault → Type 0
IsRefusal reading CallFault.Memory = Unit {0}
IsRefusal reading CallFault.Help = reading ≡ help
IsRefusal reading CallFault.Refused = reading ≡ refused
IsRefusal reading CallFault.Number = ⊥
IsRefusal reading CallFault.Picture = ⊥
IsRefusal reading CallFault.Forms = ⊥

-- by these values a command asks for no work, for one of these reasons: `Memory` says nothing;
-- `Picture` that it asks for more turns than a picture has; `Forms` that it mixes the forms of
-- `test`; `Number` that it does neither
abbrev pub IsAskRefused : CommandKind → (Text → Option Text) → CallFault → Type 0
IsAskRefused kind value CallFault.Memory = Unit {0}
IsAskRefused kind value CallFault.Help = ⊥
IsAskRefused kind value CallFault.Refused = ⊥
IsAskRefused kind value CallFault.Number =
    AsksForNone kind value × (¬ AsksForMore kind value) × (¬ MixesForms kind value)
IsAskRefused kind value CallFault.Picture = AsksForNone kind value × AsksForMore kind value
IsAskRefused kind value CallFault.Forms = AsksForNone kind value × MixesForms kind value

-- what is given holds, if anything is
abbrev pub IsGivenAnd : {X : Type 0} → Reading X → (X → Type 0) → Type 0
IsGivenAnd (given x) Holds = Holds x
IsGivenAnd help Holds = ⊥
IsGivenAnd refused Holds = ⊥

-- why words ask for no work: for `Number`, `Picture` and `Forms` they are a call, which asks for
-- none; for `Help` they ask for help or the version; for `Refused` they do neither; `Memory` says
-- nothing
abbrev pub IsCallRefused : List Text → CallFault → Type 0
IsCallRefused words fault = IsRefusal (reading_of_call words) fault
    ⊎ IsGivenAnd (reading_of_call words) (λ call. IsAskRefused call.0 (value_among call.1) fault)

-- a fault as it is reported: memory may be refused for its text
abbrev pub IsReportedAs : CallFault → CallFault → Type 0
IsReportedAs fault reported = (reported ≡ fault) ⊎ (reported ≡ CallFault.Memory)
