-- What a command line asks for, by the words that stand in it.
use Rattle.std.specs.Prelude.{◌≡◌, ◌≢◌, ℕ, ◌-◌, ◌<◌, ◌≤◌, Bool, true, false, IsSomeAnd, IsTrue, List, [], ◌∷◌, ◌++◌, find, fold, map, replicate, Option, Some, None, Ok, bytes_eq, codes}
use Rattle.std.specs.Str.Parse.{ParsesUnsigned}
use Rattle.clap.specs.Words.{App, IsAmong, Kinds, Row, Rule, Text, fault_of, first_of, found_of, is_simple, is_simple_and_free, kind_of, new_app, new_rule, rows_of, subcommand_of, with_rule, with_subcommand}
use Rattle.clap.specs.declared.builder.action.ArgAction.TheVariants.{Set, SetTrue}
use Rattle.clap.specs.declared.{error.Error.Error, parser.matches.ArgMatches.ArgMatches}
use Rattle.clap.specs.declared.error.kind.ErrorKind.TheVariants.{OutOfMemory}
use Rattle.pp_numbers.specs.ChannelNo.{channel_count}
use Rattle.pp_condition.specs.ConditionText.{condition_in}
use Rattle.pp_condition.specs.declared.{condition.Condition.Condition, until.Until.Until}
use Rattle.pp_command.specs.ChannelList.{AreListed}
use Rattle.pp_command.specs.OrderList.{listed_steps, most_steps}
use Rattle.pp_command.specs.ProcessorList.{AreProcessorsListed}
use Rattle.pp_numbers.specs.declared.{window.Window.Window, bounds.Bounds.Bounds, profile.Profile.Profile}
use Rattle.pp_numbers.specs.Profile.{has_processor, processors_in}
use Rattle.pp_numbers.specs.Limits.{AreLimits}
use Rattle.pp_word.specs.Address.{place_count}
use Rattle.pp_command.specs.declared.{command.CommandForm.CommandForm, command.OptionForm.OptionForm, command.ValueForm.ValueForm, line_fault.LineFault.LineFault, text_of.TextOf.TextOf, view.ChosenSteps.ChosenSteps, view.View.View, work.Tested.Tested, work.Work.Work}
use Rattle.pp_command.specs.declared.command_kind.CommandKind.{CommandKind}
use Rattle.pp_command.specs.declared.command_kind.CommandKind.TheVariants as Kind

-- THE COMMAND LINE, as clap sees it: `ppsim`, one of the commands of `ppsim` below, its options, of
-- which some may be left out, and a file, which may be left out; or `ppsim --version`

-- an option that may be left out, with one value
abbrev pub optional_value : Text → Rule
optional_value id = record (new_rule id) { long = Some id; action = Some Set; value_names = 1 }

-- a required option whose value is a number
abbrev pub number_option : Text → Rule
number_option id = record (optional_value id) { required = true }

-- an option without a value
abbrev pub flag_option : Text → Rule
flag_option id = record (new_rule id) { long = Some id; action = Some SetTrue }

-- the option that says how many processors the machine has
abbrev pub processors_option : Rule
processors_option = optional_value (codes "processors")

abbrev pub file_argument : Rule
file_argument = record (new_rule (codes "file")) { action = Some Set; value_names = 1 }

-- a command: what it is for, its name and its options
pub record Command : Type 0 where
  pub kind : CommandKind
  pub name : Text
  pub options : List Rule

abbrev pub command : CommandKind → Text → List Rule → Command
command kind name options = record { kind = kind; name = name; options = options }

-- what clap sees of it: these options, and a file
abbrev pub app_of_command : Command → App
app_of_command command =
    with_rule (fold with_rule (new_app command.name) command.options) file_argument

-- the option that lists the processors of the first steps
abbrev pub order_option : Rule
order_option = optional_value (codes "order")

-- the options that say until when its run goes on: until how many steps meet a condition
abbrev pub until_options : List Rule
until_options = optional_value (codes "until") ∷ optional_value (codes "times") ∷ []

-- the options that any such run has, which may be left out
abbrev pub run_options : List Rule
run_options = until_options ++ order_option ∷ processors_option ∷ []

-- a command that makes a run of some steps in any order, with these options besides
abbrev pub steps : CommandKind → Text → List Rule → Command
steps kind name options =
    command kind name (number_option (codes "turns") ∷ options ++ run_options)

-- a command that makes a run of some turns of the barrel, with these options besides
abbrev pub turns : CommandKind → Text → List Rule → Command
turns kind name options =
    command kind name (number_option (codes "turns") ∷ options ++ processors_option ∷ [])

-- the program without a command
abbrev pub bare : App
bare = record (new_app (codes "ppsim")) {
  top = record (new_app (codes "ppsim")).top { has_version = true; subcommand_required = true };
}

-- an app with these as its commands as well
abbrev pub with_commands : App → List App → App
with_commands app commands = fold (λ app command. with_subcommand app command.top) app commands

-- the commands, in the order in which help lists them
abbrev pub commands : List Command
commands = steps Kind.Barrel (codes "barrel") []
    ∷ command Kind.Threads (codes "threads") (number_option (codes "steps")
    ∷ number_option (codes "patience") ∷ processors_option ∷ [])
    ∷ command Kind.List (codes "list") (processors_option ∷ [])
    ∷ command Kind.Lint (codes "lint") (processors_option ∷ [])
    ∷ steps Kind.Dump (codes "dump") []
    ∷ steps Kind.Steps (codes "steps") (optional_value (codes "pp") ∷ optional_value (codes "ch")
    ∷ optional_value (codes "from") ∷ optional_value (codes "to")
    ∷ optional_value (codes "where") ∷ [])
    ∷ steps Kind.State (codes "state") [] ∷ turns Kind.Ends (codes "ends") []
    ∷ steps Kind.Memory (codes "memory") (number_option (codes "pp")
    ∷ optional_value (codes "first") ∷ optional_value (codes "last") ∷ [])
    ∷ steps Kind.Central (codes "central") (optional_value (codes "first")
    ∷ optional_value (codes "last") ∷ [])
    ∷ steps Kind.Sessions (codes "sessions") (flag_option (codes "words") ∷ [])
    ∷ steps Kind.Races (codes "races") []
    ∷ command Kind.Orders (codes "orders") (number_option (codes "states") ∷ processors_option ∷ [])
    ∷ command Kind.Test (codes "test") (optional_value (codes "turns")
    ∷ flag_option (codes "every-order") ∷ optional_value (codes "states") ∷ run_options)
    ∷ steps Kind.Draw (codes "draw") (optional_value (codes "from")
    ∷ optional_value (codes "to") ∷ [])
    ∷ command Kind.Check (codes "check") (optional_value (codes "opened") ∷ []) ∷ []

-- the command of this name
unfoldable pub command_named : Text → Option Command
command_named name = find (λ command. bytes_eq command.name name) commands

unfoldable pub ppsim : App
ppsim = with_commands bare (map app_of_command commands)

-- the kinds of refusal that clap's parse may give to the words: none if they are a command line
unfoldable pub refusals : List Text → Kinds
refusals words = fault_of ppsim words

-- ITS NUMBERS

-- std's parse reads this number in an option's text
abbrev pub ReadsNumber : Option Text → ℕ → Type 0
ReadsNumber None n = ⊥
ReadsNumber (Some text) n = ParsesUnsigned {E = ℕ} 32 10 text (Ok n)

-- the profile with as many processors as the text says; the 6600's own if there is none
abbrev pub ReadsProfile : Option Text → Profile → Type 0
ReadsProfile None profile = profile ≡ Profile.Ten
ReadsProfile (Some text) profile = ReadsNumber (Some text) (processors_in profile)

-- a processor of a machine of this profile, by its number in octal
abbrev pub ReadsProcessor : Profile → Option Text → ℕ → Type 0
ReadsProcessor profile None n = ⊥
ReadsProcessor profile (Some text) n =
    ParsesUnsigned {E = ℕ} 8 8 text (Ok n) × IsTrue (has_processor profile n)

-- processors of such a machine, of a list as `0,1,11`, by flags in the barrel's order; or none
abbrev pub ReadsProcessors : Profile → Option Text → Option (List Bool) → Type 0
ReadsProcessors profile None flags = flags ≡ None
ReadsProcessors profile (Some text) None = ⊥
ReadsProcessors profile (Some text) (Some flags) = AreProcessorsListed profile text flags

-- a turn, or else this one if none is given
abbrev pub ReadsTurn : ℕ → Option Text → ℕ → Type 0
ReadsTurn default None turn = turn ≡ default
ReadsTurn default (Some text) turn = ReadsNumber (Some text) turn × (turn ≤ most_steps)

-- an address, in octal, or else this one if none is given
abbrev pub ReadsAddress : ℕ → Option Text → ℕ → Type 0
ReadsAddress default None address = address ≡ default
ReadsAddress default (Some text) address = ParsesUnsigned {E = ℕ} 32 8 text (Ok address)

-- the bounds of the words to print, of a memory of this size
abbrev pub ReadsBounds : ℕ → (Text → Option Text) → Bounds → Type 0
ReadsBounds size value_of bounds = ReadsAddress 0 (value_of (codes "first")) bounds.first
    × ReadsAddress (size - 1) (value_of (codes "last")) bounds.last
    × ((bounds.first ≤ bounds.last) × (bounds.last < size))

-- the end of the turns to draw, that of the run if none is given
abbrev pub ReadsEnd : ℕ → Option Text → ℕ → Type 0
ReadsEnd turns None to = to ≡ turns
ReadsEnd turns (Some text) to = ReadsNumber (Some text) to × (to ≤ turns)

-- how many turns are run
abbrev pub ReadsTurns : (Text → Option Text) → ℕ → Type 0
ReadsTurns value_of turns = ReadsNumber (value_of (codes "turns")) turns × (turns ≤ most_steps)

-- how many standings are kept
abbrev pub ReadsStates : (Text → Option Text) → ℕ → Type 0
ReadsStates value_of states =
    ReadsNumber (value_of (codes "states")) states × (1 ≤ states) × (states ≤ 9999999)

-- the turns to draw, of those that are run: from one on, and before another
unfoldable pub ReadsWindow : (Text → Option Text) → Window → Type 0
ReadsWindow value_of w = (turns : ℕ) × ReadsTurns value_of turns
    × ReadsEnd turns (value_of (codes "to")) w.to × ReadsTurn 0 (value_of (codes "from")) w.from
    × (w.from ≤ w.to)

-- the processors of the first steps, of a machine with as many processors as the first text says;
-- none if none are given
abbrev pub ReadsOrder : Option Text → Option Text → List ℕ → Type 0
ReadsOrder processors None first = first ≡ []
ReadsOrder processors (Some text) first = (profile : Profile) × ReadsProfile processors profile
    × (listed_steps profile text ≡ Some first)

-- a condition on the steps of a machine of this profile, or none
abbrev pub ReadsCondition : Profile → Option Text → Option Condition → Type 0
ReadsCondition profile None condition = condition ≡ None
ReadsCondition profile (Some text) None = ⊥
ReadsCondition profile (Some text) (Some condition) = condition_in profile text ≡ Some condition

-- how many steps have to meet a condition: one, if it is not said
abbrev pub ReadsTimes : Option Text → ℕ → Type 0
ReadsTimes None times = times ≡ 1
ReadsTimes (Some text) times =
    ReadsNumber (Some text) times × (1 ≤ times) × (times ≤ most_steps)

-- until when the run goes on, of a machine with as many processors as the first text says: until as
-- many steps as the third text says meet the condition of the second; nothing, if neither is given
abbrev pub ReadsUntil : Option Text → Option Text → Option Text → Option Until → Type 0
ReadsUntil processors None None until = until ≡ None
ReadsUntil processors None (Some times) until = ⊥
ReadsUntil processors (Some text) times None = ⊥
ReadsUntil processors (Some text) times (Some until) = (profile : Profile)
    × ReadsProfile processors profile × (condition_in profile text ≡ Some until.condition)
    × ReadsTimes times until.times

-- the channels of a list as `1,5,13`, by flags in the order of their places; none if none is given
abbrev pub ReadsChannels : Option Text → List Bool → Type 0
ReadsChannels None flags = flags ≡ replicate channel_count false
ReadsChannels (Some text) flags = AreListed text flags

-- the same, or none is given
abbrev pub ReadsChosen : Option Text → Option (List Bool) → Type 0
ReadsChosen None flags = flags ≡ None
ReadsChosen (Some text) None = ⊥
ReadsChosen (Some text) (Some flags) = AreListed text flags

-- whether an option without a value is given
abbrev pub ReadsFlag : Option Text → Bool → Type 0
ReadsFlag value true = value ≡ Some (codes "true")
ReadsFlag value false = value ≢ Some (codes "true")

-- the file to read; or none, and standard input is read, if no file or `-` is named
abbrev pub ReadsFile : Option Text → Option Text → Type 0
ReadsFile None file = file ≡ None
ReadsFile (Some text) None = text ≡ codes "-"
ReadsFile (Some text) (Some path) = (path ≡ text) × (text ≢ codes "-")

-- WHAT IT ASKS FOR

-- the steps chosen of a run of this many turns, of a machine of this profile
abbrev pub ReadsSteps : Profile → ℕ → (Text → Option Text) → ChosenSteps → Type 0
ReadsSteps profile turns value_of chosen =
    ReadsProcessors profile (value_of (codes "pp")) chosen.processors
    × ReadsChosen (value_of (codes "ch")) chosen.channels
    × ReadsTurn 0 (value_of (codes "from")) chosen.from
    × ReadsTurn turns (value_of (codes "to")) chosen.to
    × ReadsCondition profile (value_of (codes "where")) chosen.condition

-- how many turns a picture has at most
abbrev pub most_drawn : ℕ
most_drawn = 2000

-- a command of this kind, with these values of its options, asks for this view of a run of this
-- many turns of a deck of this profile
abbrev pub AsksForView : CommandKind → (Text → Option Text) → Profile → ℕ → View → Type 0
AsksForView kind _ _ _ View.Barrel = kind ≡ Kind.Barrel
AsksForView kind _ _ _ View.Dump = kind ≡ Kind.Dump
AsksForView kind _ _ _ View.State = kind ≡ Kind.State
AsksForView kind _ _ _ View.Ends = kind ≡ Kind.Ends
AsksForView kind _ _ _ View.Races = kind ≡ Kind.Races
AsksForView kind value _ _ (View.Sessions words) =
    (kind ≡ Kind.Sessions) × ReadsFlag (value (codes "words")) words
AsksForView kind value profile _ (View.Memory n bounds) = (kind ≡ Kind.Memory)
    × ReadsProcessor profile (value (codes "pp")) n × ReadsBounds place_count value bounds
AsksForView kind value _ _ (View.Central bounds) =
    (kind ≡ Kind.Central) × ReadsBounds 0o400000 value bounds
AsksForView kind value profile turns (View.Steps chosen) =
    (kind ≡ Kind.Steps) × ReadsSteps profile turns value chosen
AsksForView kind _ _ turns (View.Draw from) = (kind ≡ Kind.Draw) × (turns - from ≤ most_drawn)

-- the turns of its run: as many as are said; for a drawing those up to the end of its window
abbrev pub ReadsRun : (Text → Option Text) → ℕ → View → Type 0
ReadsRun value turns (View.Draw from) = ReadsWindow value (record { from = from; to = turns })
ReadsRun value turns view = ReadsTurns value turns

-- it asks for this text of a deck
abbrev pub AsksForText : CommandKind → (Text → Option Text) → Profile → TextOf → Type 0
AsksForText kind _ _ TextOf.List = kind ≡ Kind.List
AsksForText kind value _ (TextOf.Orders states) = (kind ≡ Kind.Orders) × ReadsStates value states
AsksForText kind value profile (TextOf.Run turns view) =
    ReadsRun value turns view × AsksForView kind value profile turns view

-- the two forms of `test`: of a run of some turns; or of every order of steps, as far as some
-- standings show, without the options of a run
pub record IsOfARun (value_of : Text → Option Text) : Type 0 where
  pub no_flag : ReadsFlag (value_of (codes "every-order")) false
  pub no_states : value_of (codes "states") ≡ None
  pub turns : value_of (codes "turns") ≢ None

pub record IsOfEveryOrder (value_of : Text → Option Text) : Type 0 where
  pub flag : ReadsFlag (value_of (codes "every-order")) true
  pub states : value_of (codes "states") ≢ None
  pub no_turns : value_of (codes "turns") ≡ None
  pub no_until : value_of (codes "until") ≡ None
  pub no_times : value_of (codes "times") ≡ None
  pub no_order : value_of (codes "order") ≡ None

-- what is tested
abbrev pub IsTestedBy : (Text → Option Text) → Tested → Type 0
IsTestedBy value_of (Tested.Run turns) = IsOfARun value_of × ReadsTurns value_of turns
IsTestedBy value_of (Tested.EveryOrder states) =
    IsOfEveryOrder value_of × ReadsStates value_of states

-- it asks for this work
abbrev pub IsWorkOf : CommandKind → (Text → Option Text) → Work → Type 0
IsWorkOf kind value_of (Work.Deck profile text) =
    ReadsProfile (value_of (codes "processors")) profile × AsksForText kind value_of profile text
IsWorkOf kind value_of (Work.Lint profile) =
    (kind ≡ Kind.Lint) × ReadsProfile (value_of (codes "processors")) profile
IsWorkOf kind value_of (Work.Test profile tested) = (kind ≡ Kind.Test)
    × ReadsProfile (value_of (codes "processors")) profile × IsTestedBy value_of tested
IsWorkOf kind value_of (Work.Threads profile limits) =
    (kind ≡ Kind.Threads) × ReadsProfile (value_of (codes "processors")) profile
    × ReadsNumber (value_of (codes "steps")) limits.steps
    × ReadsNumber (value_of (codes "patience")) limits.patience × AreLimits limits
IsWorkOf kind value_of (Work.Check opened) =
    (kind ≡ Kind.Check) × ReadsChannels (value_of (codes "opened")) opened

-- it asks for this work, in whose run these processors come first, and which goes on until then
pub record IsAskedOf (kind : CommandKind) (value_of : Text → Option Text) (work : Work)
    (first : List ℕ) (until : Option Until) : Type 0 where
  pub work_is : IsWorkOf kind value_of work
  pub order_is : ReadsOrder (value_of (codes "processors")) (value_of (codes "order")) first
  pub until_is : ReadsUntil (value_of (codes "processors")) (value_of (codes "until"))
      (value_of (codes "times")) until

-- it asks for more turns than a picture has
abbrev pub AsksForMore : CommandKind → (Text → Option Text) → Type 0
AsksForMore kind value_of =
    (kind ≡ Kind.Draw) × ((w : Window) × ReadsWindow value_of w × (most_drawn < w.to - w.from))

-- it is `test`, with options of none of its two forms
abbrev pub MixesForms : CommandKind → (Text → Option Text) → Type 0
MixesForms kind value_of =
    (kind ≡ Kind.Test) × (¬ IsOfARun value_of) × (¬ IsOfEveryOrder value_of)

-- so does the command that the words name, with the values that they give
abbrev pub SoDoes : (CommandKind → (Text → Option Text) → Type 0) → Option (Text × List Row)
    → Type 0
SoDoes Does None = ⊥
SoDoes Does (Some (name, rows)) =
    IsSomeAnd (command_named name) (λ command. Does command.kind (λ id. first_of id rows))

-- the words ask for this work, in whose run these processors come first, and which goes on until
-- then
abbrev pub AskFor : List Text → Work → List ℕ → Option Until → Type 0
AskFor words work first until =
    SoDoes (λ kind value_of. IsAskedOf kind value_of work first until) (subcommand_of ppsim words)

-- they ask for no work
abbrev pub AskForNone : List Text → Type 0
AskForNone words = (work : Work) (first : List ℕ) (until : Option Until)
    → ¬ AskFor words work first until

-- the words name this file, or none
abbrev pub Name : List Text → Option Text → Type 0
Name words file =
    IsSomeAnd (subcommand_of ppsim words) (λ s. ReadsFile (first_of (codes "file") s.1) file)

-- what each refusal says of the words: `Memory` nothing; `Refused` that its kind is among those
-- that clap may give to them, and not want of memory; the others that they are a command line and
-- ask for no work within the ranges: `Picture` if they ask for more turns than a picture has,
-- `Forms` if they mix the forms of `test`, else `Number`
abbrev pub IsRefused : List Text → LineFault → Type 0
IsRefused words LineFault.Memory = Unit {0}
IsRefused words (LineFault.Refused error) =
    IsAmong (kind_of error) (refusals words) × (kind_of error ≢ OutOfMemory)
IsRefused words LineFault.Number = (refusals words ≡ []) × AskForNone words
    × (¬ SoDoes AsksForMore (subcommand_of ppsim words))
    × (¬ SoDoes MixesForms (subcommand_of ppsim words))
IsRefused words LineFault.Picture =
    (refusals words ≡ []) × AskForNone words × SoDoes AsksForMore (subcommand_of ppsim words)
IsRefused words LineFault.Forms =
    (refusals words ≡ []) × AskForNone words × SoDoes MixesForms (subcommand_of ppsim words)

-- the fault that clap's error makes: want of memory is reported as such
abbrev pub IsFaultBy : Error → LineFault → Type 0
IsFaultBy error LineFault.Memory = kind_of error ≡ OutOfMemory
IsFaultBy error (LineFault.Refused told) = (told ≡ error) × (kind_of error ≢ OutOfMemory)
IsFaultBy error other = ⊥

-- ---- parts of a reading

-- the value of an option, by what clap's parse met
abbrev pub value_in : ArgMatches → Text → Option Text
value_in matches = λ id. first_of id (rows_of (found_of matches))

-- what this holds of was found, or it holds of nothing
abbrev pub Finds : {X : Type 0} → (X → Type 0) → Option X → Type 0
Finds {X} Holds None = (x : X) → ¬ Holds x
Finds {X} Holds (Some x) = Holds x

-- the rule of an option with such a value, or none
abbrev pub rule_by : ValueForm → Text → Rule
rule_by (ValueForm.Flag help) id = flag_option id
rule_by value id = optional_value id

-- the rule of an option of this form
abbrev pub rule_of_form : OptionForm → Rule
rule_of_form form = record (rule_by form.value form.name.now) { required = form.required }

-- a command of this form
abbrev pub command_of_form : CommandForm → Command
command_of_form form = command form.kind form.name.now (map rule_of_form form.options.now)

-- a parse makes the same of these words by this app and by `ppsim`
pub record ReadsAlike (words : List Text) (app : App) : Type 0 where
  pub simple : is_simple app ≡ true
  pub free : is_simple_and_free app ≡ true
  pub subcommand : subcommand_of app words ≡ subcommand_of ppsim words
  pub fault : fault_of app words ≡ fault_of ppsim words
