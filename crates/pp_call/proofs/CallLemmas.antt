-- What the words of a call come to, by what some of them do.
use Rattle.std.proofs.Common.{◌≡◌, ◌∙◌, ℕ, ◌+◌, ◌<◌, List, [], ◌∷◌, Option, Some, None, add-one, ap, drop, drop-cons, length, map, option_map, refl, slice_index_or, sym}
use Rattle.std.specs.Prelude.{Err, IfErr, IfOk, Ok, Result}
use Rattle.clap.specs.Words.{Rule, Text}
use Rattle.pp_call.specs.CallWords.{Given, IsRefusal, Reading, given_from, reading_of_call, reading_of_words, reading_without_command, whole, with_given, with_word}
use Rattle.pp_call.specs.CallWords.Reading.{given, help, refused}
use Rattle.std.specs.Borrow.{Bor}
use Rattle.pp_command.specs.CommandLine.{command_named, command_of_form, rule_of_form}
use Rattle.pp_command.specs.declared.{command.CommandHelp.CommandHelp}
use Rattle.pp_call.specs.declared.call_fault.CallFault.{CallFault}

-- what comes to a request or to nothing since something else does is refused for the same reason
pub refused_alike : {X Y : Type 0} (a : Reading X) (b : Reading Y) (fault : CallFault) → (a ≡ help → b ≡ help) → (a ≡ refused → b ≡ refused) → IsRefusal a fault → IsRefusal b fault
refused_alike a b CallFault.Memory asks then is = tt
refused_alike a b CallFault.Help asks then is = asks is
refused_alike a b CallFault.Refused asks then is = then is
refused_alike a b CallFault.Number asks then is = absurd is
refused_alike a b CallFault.Picture asks then is = absurd is
refused_alike a b CallFault.Forms asks then is = absurd is

-- after a request, and after a word that is refused, all stays so
asked_from : (options : List Rule) (words : List Text) → given_from options help words ≡ help
asked_from options [] = refl
asked_from options (word ∷ words) = asked_from options words

nothing_from : (options : List Rule) (words : List Text) → given_from options refused words ≡ refused
nothing_from options [] = refl
nothing_from options (word ∷ words) = nothing_from options words

-- what words come to of which one comes to a request or to nothing
ended_by : (options : List Rule) (words : List (Bor Text)) (i : ℕ) (d : Bor Text) (start so_far : Given) (end : Reading Given) → i < length words → with_word options (slice_index_or words i d).now so_far ≡ end
    → given_from options end (map (λ word. word.now) (drop (i + 1) words)) ≡ end
    → given_from options (given so_far) (map (λ word. word.now) (drop i words)) ≡ given_from options (given start) (map (λ word. word.now) words)
    → with_given (whole options) (given_from options (given start) (map (λ word. word.now) words)) ≡ with_given (whole options) end
ended_by options words i d start so_far end lt comes stays so =
    let here : map (λ word. word.now) (drop i words) ≡ (slice_index_or words i d).now ∷ map (λ word. word.now) (drop (i + 1) words) = rw (drop-cons words i d lt, add-one i) refl in
    let gone : given_from options (given so_far) (map (λ word. word.now) (drop i words)) ≡ end =
    ap (given_from options (given so_far)) here ∙ ap (λ next. given_from options next (map (λ word. word.now) (drop (i + 1) words))) comes ∙ stays in
    ap (with_given (whole options)) (sym so ∙ gone)

pub asking_word : (options : List Rule) (words : List (Bor Text)) (i : ℕ) (d : Bor Text) (start so_far : Given) → i < length words → with_word options (slice_index_or words i d).now so_far ≡ help
    → given_from options (given so_far) (map (λ word. word.now) (drop i words)) ≡ given_from options (given start) (map (λ word. word.now) words)
    → with_given (whole options) (given_from options (given start) (map (λ word. word.now) words)) ≡ help
asking_word options words i d start so_far lt comes so = ended_by options words i d start so_far help lt comes (asked_from options (map (λ word. word.now) (drop (i + 1) words))) so

pub refused_word : (options : List Rule) (words : List (Bor Text)) (i : ℕ) (d : Bor Text) (start so_far : Given) → i < length words → with_word options (slice_index_or words i d).now so_far ≡ refused
    → given_from options (given so_far) (map (λ word. word.now) (drop i words)) ≡ given_from options (given start) (map (λ word. word.now) words)
    → with_given (whole options) (given_from options (given start) (map (λ word. word.now) words)) ≡ refused
refused_word options words i d start so_far lt comes so = ended_by options words i d start so_far refused lt comes (nothing_from options (map (λ word. word.now) (drop (i + 1) words))) so

-- what the words of a call come to, by what its parts do
pub called : (words : List (Bor Text)) (name : Bor Text) (more : List (Bor Text)) (got : Option CommandHelp) (found : CommandHelp) (reading : Reading (List (Text × Text))) → words ≡ name ∷ more
    → option_map (λ found. command_of_form found.form.now) got ≡ command_named name.now → got ≡ Some found
    → reading_of_words (map rule_of_form found.form.now.options.now) (map (λ word. word.now) more) ≡ reading
    → reading_of_call (map (λ word. word.now) words) ≡ with_given (λ values. given (found.form.now.kind, values)) reading
called words name more got found reading at by is read =
    let named : command_named name.now ≡ Some (command_of_form found.form.now) = sym by ∙ ap (option_map (λ found. command_of_form found.form.now)) is in
    rw (at, named, read) refl

pub uncalled : (words : List (Bor Text)) (name : Bor Text) (more : List (Bor Text)) (got : Option CommandHelp) → words ≡ name ∷ more
    → option_map (λ found. command_of_form found.form.now) got ≡ command_named name.now → got ≡ None → reading_of_call (map (λ word. word.now) words) ≡ reading_without_command name.now (map (λ word. word.now) more)
uncalled words name more got at by is =
    let named : command_named name.now ≡ None = sym by ∙ ap (option_map (λ found. command_of_form found.form.now)) is in
    rw (at, named) refl

pub no_words : (words : List (Bor Text)) → length words ≡ 0 → reading_of_call (map (λ word. word.now) words) ≡ refused
no_words [] none = refl
no_words (word ∷ words) none = absurd cc

-- what holds of all that is asked for so, or of all that is refused so
pub where_asked : {X E : Type 0} (result : Result X E) (P Q Holds : X → Type 0) → ((x : X) → P x → Q x → Holds x) → IfOk result P → IfOk result Q → IfOk result Holds
where_asked (Ok x) P Q Holds so p q = so x p q
where_asked (Err e) P Q Holds so p q = tt

pub where_refused : {X E : Type 0} (result : Result X E) (P Holds : E → Type 0) → ((e : E) → P e → Holds e) → IfErr result P → IfErr result Holds
where_refused (Ok x) P Holds so p = tt
where_refused (Err e) P Holds so p = so e p
