-- Where the first word names a command, a parse by that command alone makes what it makes of all.
use mathlib.Core.List.{map-map}
use Rattle.std.proofs.Common.{◌≡◌, ◌∙◌, ap, ap₂, sym, refl, Bool, true, false, List, [], ◌∷◌, ◌++◌, map, fold, append_assoc, append-nil, Option, Some, option_map, codes, is_some, if◌then◌else◌}
use Rattle.std.specs.Prelude.{find, bytes_eq, slice_get, IfOk, Result, Ok, Err}
use Rattle.std.specs.List.{list_all}
use Rattle.std.specs.Option.{option_map_or}
use Rattle.std.specs.Borrow.{Bor}
use Rattle.std.proofs.lemmas.Slice.Eq.{bytes_eq-Decides}
use Rattle.clap.specs.Words.{App, Kinds, Row, Rule, Shape, Text, built, fault_of, is_simple, is_simple_and_free, subcommand_of, with_rule}
use Rattle.clap.specs.Simple.{built_leaf, entered, help_shape, inherited, label_of, marked_built, new_shape, rows_at, with_leaf_noted}
use Rattle.clap.specs.Faults.{built_fault, check_fault, defaults_fault, entered_fault, level_fault, other_fault, settle_fault, step_fault, turn_fault, walk_fault, word_fault}
use Rattle.clap.specs.Kinds.{or_else}
use Rattle.clap.specs.Walk.{Names, Walk, after_step, answers_to, finished, idle, nothing_held, settled, subcommand_met, subcommand_or_other, walk, walk_from, walked, walked_from, word_met}
use Rattle.clap.proofs.OnLiterals.{clap_on_literals}
use Rattle.clap.proofs.WalkLemmas.{both}
use Rattle.pp_command.specs.CommandLine.{Command, ReadsAlike, app_of_command, bare, command_named, command_of_form, commands, file_argument, ppsim, with_commands}
use Rattle.pp_command.specs.declared.command.CommandHelp.{CommandHelp}

-- ---- what a command's shape is

abbrev with_rules : Text → List Rule → App
with_rules name rules = record { top = record (new_shape name) { rules = rules }; subs = [] }

rules_added : (name : Text) (before rules : List Rule) → fold with_rule (with_rules name before) rules ≡ with_rules name (before ++ rules)
rules_added name before [] = ap (with_rules name) (sym (append-nil before))
rules_added name before (r ∷ rules) = rules_added name (before ++ r ∷ []) rules ∙ ap (with_rules name) (append_assoc before (r ∷ []) rules)

shape_is : (command : Command) → (app_of_command command).top ≡ record (new_shape command.name) { rules = command.options ++ file_argument ∷ [] }
shape_is command = ap (λ (app : App). (with_rule app file_argument).top) (rules_added command.name [] command.options)

-- ---- what building makes of the program with some commands

abbrev app_with : List Command → App
app_with cs = with_commands bare (map app_of_command cs)

abbrev above : Shape
above = with_leaf_noted (marked_built (record bare.top { is_leaf = false }))

abbrev built_command : Command → Shape
built_command command = built_leaf (inherited above (app_of_command command).top)

abbrev subs_of : List Command → List Shape
subs_of cs = map built_command cs ++ built_leaf help_shape ∷ []

abbrev built_with : List Command → App
built_with cs = record { top = (built ppsim).top; subs = subs_of cs }

abbrev plain_names : List Text → Names
plain_names = map (λ name. (name, []))

abbrev names_in : List Command → Names
names_in cs = plain_names (map (λ c. c.name) cs ++ codes "help" ∷ [])

-- each has its name, and no other
label_is : (command : Command) → label_of (built_command command) ≡ (command.name, [])
label_is command = ap (λ (s : Shape). label_of (built_leaf (inherited above s))) (shape_is command)

names_are : (cs : List Command) → map label_of (subs_of cs) ≡ names_in cs
names_are [] = refl
names_are (c ∷ cs) = ap₂ (λ (l : Text × List Text) (ls : Names). l ∷ ls) (label_is c) (names_are cs)

-- ---- a command that is found by its name among these is met, and entered

abbrev IsNamedIn : Text → List Command → Command → Type 0
IsNamedIn name cs c = find (λ command. bytes_eq command.name name) cs ≡ Some c

name_is : (name : Text) (cs : List Command) (c : Command) → IsNamedIn name cs c → c.name ≡ name
name_is name [] c is = absurd cc
name_is name (d ∷ cs) c is = by (bytes_eq d.name name) refl (name_is name cs c)
  where
    by : (b : Bool) → bytes_eq d.name name ≡ b → (IsNamedIn name cs c → c.name ≡ name) → c.name ≡ name
    by true at rest =
        let first : Some d ≡ Some c = sym (rw at refl) ∙ is in
        let same : d ≡ c = cc in
        rw (← same) ((bytes_eq-Decides d.name name).0 at)
    by false at rest = rest (sym (rw at refl) ∙ is)

met_by : (name : Text) (cs : List Command) (c : Command) → IsNamedIn name cs c → subcommand_met (names_in cs) idle name ≡ Some c.name
met_by name [] c is = absurd cc
met_by name (d ∷ cs) c is = by (bytes_eq d.name name) refl (met_by name cs c)
  where
    by : (b : Bool) → bytes_eq d.name name ≡ b → (IsNamedIn name cs c → subcommand_met (names_in cs) idle name ≡ Some c.name) → subcommand_met (names_in (d ∷ cs)) idle name ≡ Some c.name
    by true at rest =
        let first : Some d ≡ Some c = sym (rw at refl) ∙ is in
        let same : d ≡ c = cc in
        rw (at, ← same) refl
    by false at rest = rw at (rest (sym (rw at refl) ∙ is))

abbrev looked_up : Text → List Shape → Option Shape
looked_up name shapes = find (λ s. answers_to name (label_of s)) shapes

found_by : (name : Text) (cs : List Command) (c : Command) → IsNamedIn name cs c → looked_up name (subs_of cs) ≡ Some (built_command c)
found_by name [] c is = absurd cc
found_by name (d ∷ cs) c is = by (bytes_eq d.name name) refl (found_by name cs c)
  where
    answers : (b : Bool) → bytes_eq d.name name ≡ b → answers_to name (label_of (built_command d)) ≡ b
    answers true at = ap (answers_to name) (label_is d) ∙ rw at refl
    answers false at = ap (answers_to name) (label_is d) ∙ rw at refl

    by : (b : Bool) → bytes_eq d.name name ≡ b → (IsNamedIn name cs c → looked_up name (subs_of cs) ≡ Some (built_command c)) → looked_up name (subs_of (d ∷ cs)) ≡ Some (built_command c)
    by true at rest =
        let first : Some d ≡ Some c = sym (rw at refl) ∙ is in
        let same : d ≡ c = cc in
        rw (answers true at, ← same) refl
    by false at rest = rw (answers false at) (rest (sym (rw at refl) ∙ is))

-- ---- a walk that begins with the name of a command

module _ (rules : List Rule) (names : Names) where
  -- after it the words are those of the command
  stopped_on : (words : List Text) (w : Walk) (p : Text × List Text) → w.stopped ≡ Some p → (fold (walked rules names) w words) ≡ record w { stopped = Some (p.0, p.1 ++ words) }
  unfolding walked
  stopped_on [] w p at = ap (λ (o : Option (Text × List Text)). record w { stopped = o }) (at ∙ ap (λ k. Some (p.0, k)) (sym (append-nil p.1)))
  stopped_on (x ∷ words) w p at =
      ap (λ (v : Walk). fold (walked rules names) v words) (ap (λ (o : Option (Text × List Text)). walked_from rules names o w x) at)
      ∙ stopped_on words (record w { stopped = Some (p.0, p.1 ++ x ∷ []) }) (p.0, p.1 ++ x ∷ []) refl
      ∙ ap (λ k. record w { stopped = Some (p.0, k) }) (append_assoc p.1 (x ∷ []) words)

  walk_is : (name : Text) (words : List Text) (met : Text) → subcommand_met names idle name ≡ Some met
      → walk rules names nothing_held (name ∷ words) ≡ record (walk_from nothing_held) { stopped = Some (met, words) }
  unfolding walked
  walk_is name words met is =
      ap (λ (v : Walk). fold (walked rules names) v words) (ap (λ (o : Option Text). let step = subcommand_or_other rules o idle 1 name nothing_held in after_step rules name (walk_from nothing_held) step.0 step.1) is)
      ∙ stopped_on words (record (walk_from nothing_held) { stopped = Some (met, []) }) (met, []) refl

-- no fault is left to find at this level
none_now : (s : Shape) (names : Names) (w : Walk) (x : Text) (p : Text × List Text) → w.stopped ≡ Some p → turn_fault s names w x ≡ []
none_now s names w x p at =
    let step = word_met s.rules names w.is_trailing w.waiting w.position x w.held in
    ap (λ (o : Option (Text × List Text)). if is_some o then [] else or_else (word_fault s names w.is_trailing w.waiting x w.held) (step_fault s w.position step.0 step.1)) at

none_later : (s : Shape) (names : Names) (words : List Text) (w : Walk) (p : Text × List Text) → w.stopped ≡ Some p → walk_fault s names w words ≡ []
unfolding walk_fault walked
none_later s names [] w p at = refl
none_later s names (x ∷ words) w p at =
    ap₂ or_else (none_now s names w x p at) (ap (λ (v : Walk). walk_fault s names v words) (ap (λ (o : Option (Text × List Text)). walked_from s.rules names o w x) at))
    ∙ none_later s names words (record w { stopped = Some (p.0, p.1 ++ x ∷ []) }) (p.0, p.1 ++ x ∷ []) refl

abbrev first_fault : Shape → Text → Option Text → Kinds
first_fault s name met = let step = subcommand_or_other s.rules met idle 1 name nothing_held in
    or_else (other_fault s met name nothing_held) (step_fault s 1 step.0 step.1)

fault_is : (s : Shape) (names : Names) (name : Text) (words : List Text) (met : Text) → subcommand_met names idle name ≡ Some met
    → walk_fault s names (walk_from nothing_held) (name ∷ words) ≡ or_else (first_fault s name (Some met)) []
unfolding walk_fault walked
fault_is s names name words met is =
    ap₂ or_else (ap (first_fault s name) is)
    (ap (λ (o : Option Text). let step = subcommand_or_other s.rules o idle 1 name nothing_held in walk_fault s names (after_step s.rules name (walk_from nothing_held) step.0 step.1) words) is
    ∙ none_later s names words (record (walk_from nothing_held) { stopped = Some (met, []) }) (met, []) refl)

-- ---- so that command alone reads the words alike

-- what passes a test that all pass
passes : (test : Command → Bool) (name : Text) (cs : List Command) (c : Command) → list_all test cs ≡ true → IsNamedIn name cs c → test c ≡ true
passes test name [] c all is = absurd cc
passes test name (d ∷ cs) c all is = by (bytes_eq d.name name) refl (passes test name cs c (both _ _ all).1)
  where
    by : (b : Bool) → bytes_eq d.name name ≡ b → (IsNamedIn name cs c → test c ≡ true) → test c ≡ true
    by true at rest =
        let first : Some d ≡ Some c = sym (rw at refl) ∙ is in
        let same : d ≡ c = cc in
        rw (← same) (both _ _ all).0
    by false at rest = rest (sym (rw at refl) ∙ is)

all_simple : list_all (λ c. is_simple (app_with (c ∷ []))) commands ≡ true
unfolding clap_on_literals ppsim
all_simple = refl

all_free : list_all (λ c. is_simple_and_free (app_with (c ∷ []))) commands ≡ true
unfolding clap_on_literals ppsim
all_free = refl

-- of the program with some commands, by one that is among them
module _ (program name : Text) (rest : List Text) (cs : List Command) (c : Command) (is : IsNamedIn name cs c) where
  abbrev words : List Text
  words = program ∷ name ∷ rest

  abbrev top : Shape
  top = (built ppsim).top

  named : names_in cs ≡ map label_of (subs_of cs)
  named = sym (names_are cs)

  met : subcommand_met (map label_of (subs_of cs)) idle name ≡ Some c.name
  met = ap (λ names. subcommand_met names idle name) (names_are cs) ∙ met_by name cs c is

  walk_to : walk top.rules (map label_of (subs_of cs)) nothing_held (name ∷ rest) ≡ record (walk_from nothing_held) { stopped = Some (c.name, rest) }
  walk_to = walk_is top.rules (map label_of (subs_of cs)) name rest c.name met

  found : looked_up c.name (subs_of cs) ≡ Some (built_command c)
  found = ap (λ k. looked_up k (subs_of cs)) (name_is name cs c is) ∙ found_by name cs c is

  rows_are : entered (built_with cs) (walk top.rules (map label_of (subs_of cs)) nothing_held (name ∷ rest)).stopped ≡ Some (rows_at (built_command c) rest)
  rows_are = ap (λ (w : Walk). entered (built_with cs) w.stopped) walk_to ∙ ap (option_map (λ s. rows_at s rest)) found

  below_is : entered_fault (built_with cs) (walk top.rules (map label_of (subs_of cs)) nothing_held (name ∷ rest)).stopped ≡ level_fault (built_command c) [] nothing_held rest false []
  below_is = ap (λ (w : Walk). entered_fault (built_with cs) w.stopped) walk_to ∙ ap (λ (o : Option Shape). option_map_or (λ s. level_fault s [] nothing_held rest false []) o []) found

  abbrev kinds_by : Kinds → Walk → Option (Text × List Row) → Kinds → Kinds
  kinds_by walked w rows below = or_else walked
      (or_else below (or_else (settle_fault top.rules top.args_override_self w.held)
      (or_else (defaults_fault (settled top.rules w.held).rows top.rules)
      (check_fault top (finished top.rules w.held) (is_some rows)))))

  abbrev kinds_are : Kinds
  kinds_are = kinds_by (or_else (first_fault top name (Some c.name)) []) (record (walk_from nothing_held) { stopped = Some (c.name, rest) })
      (Some (rows_at (built_command c) rest)) (level_fault (built_command c) [] nothing_held rest false [])

  refused_as : built_fault (built_with cs) nothing_held (name ∷ rest) ≡ kinds_are
  refused_as =
      let names = map label_of (subs_of cs) in
      let end = walk top.rules names nothing_held (name ∷ rest) in
      let rows = entered (built_with cs) end.stopped in
      let below = entered_fault (built_with cs) end.stopped in
      let begun = or_else (first_fault top name (Some c.name)) [] in
      let there = record (walk_from nothing_held) { stopped = Some (c.name, rest) } in
      ap (λ k. kinds_by k end rows below) (fault_is top names name rest c.name met)
      ∙ ap (λ w. kinds_by begun w rows below) walk_to
      ∙ ap₂ (λ o k. kinds_by begun there o k) rows_are below_is

module _ (program name : Text) (rest : List Text) (c : Command) (is : IsNamedIn name commands c) where
  alone : IsNamedIn name (c ∷ []) c
  alone = rw ((bytes_eq-Decides c.name name).1 (name_is name commands c is)) refl

  subcommand_alike : subcommand_of (app_with (c ∷ [])) (program ∷ name ∷ rest) ≡ subcommand_of ppsim (program ∷ name ∷ rest)
  unfolding ppsim
  subcommand_alike = rows_are program name rest (c ∷ []) c alone ∙ sym (rows_are program name rest commands c is)

  refused_alike : fault_of (app_with (c ∷ [])) (program ∷ name ∷ rest) ≡ fault_of ppsim (program ∷ name ∷ rest)
  unfolding ppsim
  refused_alike = refused_as program name rest (c ∷ []) c alone ∙ sym (refused_as program name rest commands c is)

  reads_one : ReadsAlike (program ∷ name ∷ rest) (app_with (c ∷ []))
  reads_one = record {
    simple = passes (λ d. is_simple (app_with (d ∷ []))) name commands c all_simple is;
    free = passes (λ d. is_simple_and_free (app_with (d ∷ []))) name commands c all_free is;
    subcommand = subcommand_alike;
    fault = refused_alike;
  }

-- so does that of the command that the second of some words names
reads_by_one : (words : List Text) (name : Text) (c : Command) → Some name ≡ slice_get words 1 → IsNamedIn name commands c → ReadsAlike words (app_with (c ∷ []))
reads_by_one [] name c second is = absurd cc
reads_by_one (program ∷ []) name c second is = absurd cc
reads_by_one (program ∷ word ∷ rest) name c second is =
    let same : name ≡ word = cc in
    rw (← same) (reads_one program name rest c is)

-- and that of all
reads_by_all : (texts : List Text) → ReadsAlike texts (app_with commands)
unfolding clap_on_literals ppsim
reads_by_all texts = record { simple = refl; free = refl; subcommand = refl; fault = refl }

-- the second of some words
pub second_of : (words : List (Bor Text)) (word : Bor Text) → slice_get words 1 ≡ Some word → Some word.now ≡ slice_get (map (λ s. s.now) words) 1
second_of [] word is = absurd cc
second_of (program ∷ []) word is = absurd cc
second_of (program ∷ other ∷ rest) word is = let same : other ≡ word = cc in ap (λ (s : Bor Text). Some s.now) (sym same)

-- what is made so reads alike
pub made_one : {X E : Type 0} (of : X → App) (made : Result X E) (words : List Text) (name : Text) (c : Command)
    → IfOk made (λ x. of x ≡ with_commands bare (app_of_command c ∷ [])) → Some name ≡ slice_get words 1 → command_named name ≡ Some c
    → IfOk made (λ x. ReadsAlike words (of x))
unfolding command_named
made_one of (Ok x) words name c is second named = rw is (reads_by_one words name c second named)
made_one of (Err e) words name c is second named = tt

pub made_all : {X E : Type 0} (of : X → App) (made : Result X E) (helps : List CommandHelp) (words : List Text)
    → IfOk made (λ x. of x ≡ with_commands bare (map (λ help. app_of_command (command_of_form help.form.now)) helps))
    → map (λ help. command_of_form help.form.now) helps ≡ commands → IfOk made (λ x. ReadsAlike words (of x))
made_all of (Ok x) helps words is all = rw (is, ← map-map app_of_command (λ help. command_of_form help.form.now) helps, all) (reads_by_all words)
made_all of (Err e) helps words is all = tt
