-- How a lane stands in a turn.
use Rattle.std.proofs.Common.{◌≡◌, ℕ, ◌+◌, ◌-◌, ◌<◌, ◌≤◌, ◌^◌, ◌&&◌, Bool, true, false, cond, eqb, leb, List, [], ◌∷◌, ◌++◌, get_or, inl, inr, map, Option, None, Some, refl, sym, ap, ◌∙◌, arith}
use Rattle.std.specs.Prelude.{◌↔◌, IfSome, IsTrue, fold}
use Rattle.std.specs.List.{cons_option, filter, last_or}
use Rattle.std.specs.Option.{option_map, option_to_list}
use Rattle.std.proofs.lemmas.Bool.{and_parts, cases_lt, cond-false, le-leb, leb-false, leb-true, lt-leb}
use Rattle.std.proofs.lemmas.List.{get_or_past}
use Rattle.pp_machine.specs.MachineState.{MachineState}
use Rattle.pp_machine.specs.MachineStep.{counted, stepped}
use Rattle.pp_numbers.specs.PpNo.{names_processor, processor_count, processor_index, processor_number, processor_places}
use Rattle.pp_numbers.proofs.TableLemmas.{get_or-tabulate, length-tabulate}
use Rattle.pp_run.specs.RunSteps.{RunStep, is_of, run_steps, seen_of}
use Rattle.pp_draw.specs.Condition.{changes, continues, own_earlier, phases_from, processor_phases}
use Rattle.pp_draw.specs.SeenStep.{earlier, earlier_steps, earlier_with, is_shown, seen, seen_in_window}
use Rattle.pp_draw.specs.DrawingLaw.{last_step, look_at, look_in}
use Rattle.pp_draw.specs.declared.{condition.Look.Look, condition.Phase.Phase, seen_step.SeenStep.SeenStep}
use Rattle.pp_draw.specs.declared.condition.Look.TheVariants.{Processor}
use Rattle.pp_numbers.specs.declared.window.Window.{Window}
use Rattle.pp_draw.proofs.ConditionLemmas.{last_is_drawn}

-- ---- phases that have begun by a turn

abbrev begun : ℕ → List Phase → List Phase
begun turn phases = filter (λ (phase : Phase). leb phase.since turn) phases

-- where one has not begun, none after it has
abbrev BeginInOrder : ℕ → List Phase → Type 0
BeginInOrder turn [] = Unit {0}
BeginInOrder turn (phase ∷ more) = (leb phase.since turn ≡ false → begun turn more ≡ []) × BeginInOrder turn more

-- where none has begun, none that is drawn has
none_drawn : (turn : ℕ) (look : Look) (more : List Phase) → begun turn more ≡ [] → begun turn (changes look more) ≡ []
none_drawn turn look [] none = refl
none_drawn turn look (n ∷ more) none = by_test (leb n.since turn) (continues look n.look) refl none (none_drawn turn n.look more)
  where
    by_test : (early goes : Bool) → leb n.since turn ≡ early → cond early (n ∷ begun turn more) (begun turn more) ≡ [] → (begun turn more ≡ [] → begun turn (changes n.look more) ≡ [])
        → begun turn (cond goes (changes n.look more) (n ∷ changes n.look more)) ≡ []
    by_test true goes is none rest = absurd (cc)
    by_test false true is none rest = rest none
    by_test false false is none rest = ap (λ (b : Bool). cond b (n ∷ begun turn (changes n.look more)) (begun turn (changes n.look more))) is ∙ rest none

-- those drawn that have begun are those drawn of the ones that have
begun_drawn : (turn : ℕ) (look : Look) (more : List Phase) → BeginInOrder turn more → begun turn (changes look more) ≡ changes look (begun turn more)
begun_drawn turn look [] order = refl
begun_drawn turn look (n ∷ more) order = grind (arith, begun, none_drawn, begun_drawn turn n.look more order.1)

drawn_at : (turn : ℕ) (phases : List Phase) → BeginInOrder turn phases → look_at turn (phases_from None phases) ≡ look_at turn phases
drawn_at turn [] order = refl
drawn_at turn (first ∷ more) order = ap (λ (ps : List Phase). option_map look_in (last_or None ps)) (by_test (leb first.since turn) refl) ∙ last_is_drawn (begun turn (first ∷ more))
  where
    by_test : (early : Bool) → leb first.since turn ≡ early → begun turn (first ∷ changes first.look more) ≡ phases_from None (begun turn (first ∷ more))
    by_test true is =
        ap (λ (b : Bool). cond b (first ∷ begun turn (changes first.look more)) (begun turn (changes first.look more))) is
        ∙ ap (λ (ps : List Phase). first ∷ ps) (begun_drawn turn first.look more order.1)
        ∙ ap (λ (b : Bool). phases_from None (cond b (first ∷ begun turn more) (begun turn more))) (sym is)
    by_test false is =
        ap (λ (b : Bool). cond b (first ∷ begun turn (changes first.look more)) (begun turn (changes first.look more))) is
        ∙ none_drawn turn first.look more (order.0 is)
        ∙ ap (phases_from None) (sym (ap (λ (b : Bool). cond b (first ∷ begun turn more) (begun turn more)) is ∙ order.0 is))

-- ---- the phases of a processor in the steps of a run that are shown

-- the phase that a step of a run begins
abbrev phase_of : RunStep → Phase
phase_of step = record { since = step.before.turns; look = Processor (seen step).condition }

abbrev phases : Window → ℕ → List RunStep → List Phase
phases w n steps = processor_phases n (filter (is_shown w) (map seen steps))

-- one step more may begin one
one_more : (P : List Phase → Type 0) (w : Window) (n : ℕ) (s : RunStep) (more : List RunStep) → P (phase_of s ∷ phases w n more) → P (phases w n more) → P (phases w n (s ∷ more))
one_more P w n s more begins goes_by = grind (arith, phase_of, phases)

turns_counted : (n : ℕ) (m : MachineState) → (stepped n m).turns ≡ counted m.turns
unfolding stepped
turns_counted n m = refl

none_yet : (w : Window) (n turn : ℕ) (ks : List ℕ) (m : MachineState) → m.turns < 2 ^ 64 → turn < m.turns → begun turn (phases w n (run_steps ks m)) ≡ []
none_yet w n turn [] m low late = refl
none_yet w n turn (k ∷ ks) m low late =
    let counts = turns_counted k m in
    let step : RunStep = record { processor = k; before = m } in
    let more = run_steps ks (stepped k m) in
    let rest = none_yet w n turn ks (stepped k m) (omega (arith, low, counts)) (omega (arith, low, late, counts)) in
    one_more (λ ps. begun turn ps ≡ []) w n step more
    (cond-false (leb m.turns turn) (phase_of step ∷ begun turn (phases w n more)) (begun turn (phases w n more)) (lt-leb m.turns turn late) ∙ rest)
    rest

in_order : (w : Window) (n turn : ℕ) (ks : List ℕ) (m : MachineState) → m.turns < 2 ^ 64 → BeginInOrder turn (phases w n (run_steps ks m))
in_order w n turn [] m low = tt
in_order w n turn (k ∷ ks) m low =
    let counts = turns_counted k m in
    let below : (stepped k m).turns < 2 ^ 64 = omega (arith, low, counts) in
    let rest = in_order w n turn ks (stepped k m) below in
    one_more (BeginInOrder turn) w n (record { processor = k; before = m }) (run_steps ks (stepped k m))
    (λ late. none_yet w n turn ks (stepped k m) below (omega (arith, low, counts, leb-false m.turns turn late)), rest) rest

-- ---- the last step that is shown

pub shown_where : (w : Window) (step : SeenStep) → IsTrue (is_shown w step) ↔ (w.from ≤ step.turn + processor_count)
shown_where w step = (λ h. omega (arith, leb-true (w.from - processor_count) step.turn h), λ h. le-leb (w.from - processor_count) step.turn (omega (arith, h)))

-- whether a step is processor n's, and of a turn up to this one
abbrev is_early : ℕ → ℕ → RunStep → Bool
is_early n turn step = eqb step.processor n && leb step.before.turns turn

begun_more : (w : Window) (n turn : ℕ) (s : RunStep) (more : List RunStep) → begun turn (phases w n (s ∷ more))
    ≡ cond (is_shown w (seen s) && is_early n turn s) (phase_of s ∷ begun turn (phases w n more)) (begun turn (phases w n more))
begun_more w n turn s more = grind (arith, begun, phases, phase_of, is_early)

-- the last step up to the turn, if it is shown, begins the last phase that has begun
last_begun : (w : Window) (n turn : ℕ) (x : RunStep) → is_shown w (seen x) ≡ true → (o : Option RunStep) (q : Option Phase) → (o ≡ Some x → q ≡ Some (phase_of x)) → (steps : List RunStep)
    → last_or o (filter (is_early n turn) steps) ≡ Some x → last_or q (begun turn (phases w n steps)) ≡ Some (phase_of x)
last_begun w n turn x shows o q same [] last = same last
last_begun w n turn x shows o q same (s ∷ more) last = ap (last_or q) (begun_more w n turn s more) ∙
    by_test (is_shown w (seen s)) (is_early n turn s) refl last (λ a b is. last_begun w n turn x shows a b is more)
  where
    by_test : (shown early : Bool) → is_shown w (seen s) ≡ shown → last_or o (cond early (s ∷ filter (is_early n turn) more) (filter (is_early n turn) more)) ≡ Some x
        → ((a : Option RunStep) (b : Option Phase) → (a ≡ Some x → b ≡ Some (phase_of x)) → last_or a (filter (is_early n turn) more) ≡ Some x → last_or b (begun turn (phases w n more)) ≡ Some (phase_of x))
        → last_or q (cond (shown && early) (phase_of s ∷ begun turn (phases w n more)) (begun turn (phases w n more))) ≡ Some (phase_of x)
    by_test true true is last rest = rest (Some s) (Some (phase_of s)) (ap (option_map phase_of)) last
    by_test false true is last rest = rest (Some s) q (λ e. absurd (cc)) last
    by_test true false is last rest = rest o q same last
    by_test false false is last rest = rest o q same last

-- ---- with the last step before those that are shown

-- which comes before the turns of those
late_shown : (w : Window) (n turn : ℕ) (steps : List RunStep) → turn < w.from - processor_count → begun turn (phases w n steps) ≡ []
late_shown w n turn [] early = refl
late_shown w n turn (s ∷ more) early = grind (arith, begun_more w n turn s more, late_shown w n turn more early, leb-true)

abbrev all_phases : Window → ℕ → Option SeenStep → List RunStep → List Phase
all_phases w n last steps = processor_phases n (option_to_list last ++ filter (is_shown w) (map seen steps))

-- it begins a phase, if it is the processor's
one_earlier : (P : List Phase → Type 0) (w : Window) (n : ℕ) (last : Option SeenStep) (steps : List RunStep)
    → ((e : SeenStep) → last ≡ Some e → P (record { since = e.turn; look = Processor e.condition } ∷ phases w n steps)) → P (phases w n steps) → P (all_phases w n last steps)
one_earlier P w n None steps begins goes_by = goes_by
one_earlier P w n (Some e) steps begins goes_by = by_test (eqb e.pp n) (begins e refl)
  where
    by_test : (own : Bool) → P (record { since = e.turn; look = Processor e.condition } ∷ phases w n steps)
        → P (cons_option (cond own (Some (record { since = e.turn; look = Processor e.condition })) None) (phases w n steps))
    by_test true comes = comes
    by_test false comes = goes_by

-- none of the last steps is shown
not_shown : (w : Window) (steps : List SeenStep) (o : Option SeenStep) → ((e : SeenStep) → o ≡ Some e → is_shown w e ≡ false) → (e : SeenStep) → fold (earlier_with w) o steps ≡ Some e → is_shown w e ≡ false
not_shown w [] o so_far e is = so_far e is
not_shown w (s ∷ more) o so_far e is = not_shown w more (earlier_with w o s) (λ x. grind (arith, so_far x)) e is

none_shown : (w : Window) (n : ℕ) (ns : List ℕ) (m : MachineState) (e : SeenStep) → get_or (earlier_steps w ns m) (processor_index n) None ≡ Some e → is_shown w e ≡ false
none_shown w n ns m e is = elim (cases_lt (processor_index n) processor_count) [
  | inl below ↦ not_shown w (seen_of seen (processor_number (processor_index n)) (run_steps ns m)) None (λ x none. absurd (cc)) e
      (sym (get_or-tabulate processor_count (λ place. earlier w (seen_of seen (processor_number place) (run_steps ns m))) (processor_index n) None below) ∙ is)
  | inr past ↦ let none = get_or_past (earlier_steps w ns m) (processor_index n) None (omega (arith, past, length-tabulate processor_count (λ place. earlier w (seen_of seen (processor_number place) (run_steps ns m))))) in absurd (cc)
]

all_in_order : (w : Window) (n turn : ℕ) (last : Option SeenStep) (ns : List ℕ) (m : MachineState) → ((e : SeenStep) → last ≡ Some e → is_shown w e ≡ false) → m.turns < 2 ^ 64
    → BeginInOrder turn (all_phases w n last (run_steps ns m))
all_in_order w n turn last ns m before low =
    let rest = in_order w n turn ns m low in
    one_earlier (BeginInOrder turn) w n last (run_steps ns m)
    (λ e is. ((λ late. late_shown w n turn (run_steps ns m) (omega (arith, leb-false e.turn turn late, leb-false (w.from - processor_count) e.turn (before e is)))), rest)) rest

-- the last step up to the turn, if it is shown, begins the last of all phases that have begun
last_of_all : (w : Window) (n turn : ℕ) (x : RunStep) → is_shown w (seen x) ≡ true → (last : Option SeenStep) (steps : List RunStep)
    → last_step n turn steps ≡ Some x → last_or None (begun turn (all_phases w n last steps)) ≡ Some (phase_of x)
last_of_all w n turn x shows last steps is =
    let rest = last_begun w n turn x shows None None (λ e. absurd (cc)) steps is in
    let on = λ (q : Option Phase). last_begun w n turn x shows None q (λ e. absurd (cc)) steps is in
    one_earlier (λ ps. last_or None (begun turn ps) ≡ Some (phase_of x)) w n last steps (λ e earlier. grind (arith, on)) rest

pub last_at_turn : (w : Window) (n : ℕ) (ns : List ℕ) (m : MachineState) (turn : ℕ) → m.turns < 2 ^ 64
    → IfSome (last_step n turn (run_steps ns m)) (λ (step : RunStep). w.from ≤ step.before.turns + processor_count
    → look_at turn (phases_from None (processor_phases n (own_earlier n (earlier_steps w ns m) ++ seen_in_window w ns m))) ≡ Some (Processor (seen step).condition))
last_at_turn w n ns m turn low = by_last (last_step n turn steps) refl
  where
    steps : List RunStep
    steps = run_steps ns m

    last : Option SeenStep
    last = get_or (earlier_steps w ns m) (processor_index n) None

    by_last : (o : Option RunStep) → last_step n turn steps ≡ o
        → IfSome o (λ (step : RunStep). w.from ≤ step.before.turns + processor_count → look_at turn (phases_from None (all_phases w n last steps)) ≡ Some (Processor (seen step).condition))
    by_last None is = tt
    by_last (Some step) is = λ near.
        drawn_at turn (all_phases w n last steps) (all_in_order w n turn last ns m (none_shown w n ns m) low)
        ∙ ap (option_map look_in) (last_of_all w n turn step (le-leb (w.from - processor_count) step.before.turns (omega (arith, near))) last steps is)

-- ---- in the window, where the last step is long before it

-- once steps are shown, all that come after are
later_shown : (w : Window) (n turn : ℕ) (x : RunStep) → is_shown w (seen x) ≡ false → (o : Option RunStep) → (o ≡ Some x → ⊥) → (ks : List ℕ) (m : MachineState) → m.turns < 2 ^ 64
    → w.from - processor_count ≤ m.turns → last_or o (filter (is_early n turn) (run_steps ks m)) ≡ Some x → ⊥
later_shown w n turn x hidden o other [] m low after last = other last
later_shown w n turn x hidden o other (k ∷ ks) m low after last =
    let counts = turns_counted k m in
    let step : RunStep = record { processor = k; before = m } in
    let on : (p : Option RunStep) → (p ≡ Some x → ⊥) → last_or p (filter (is_early n turn) (run_steps ks (stepped k m))) ≡ Some x → ⊥ =
    λ p no is. later_shown w n turn x hidden p no ks (stepped k m) (omega (arith, low, counts)) (omega (arith, low, after, counts)) is in
    grind (arith, last, on (Some step) (λ e. let same : step ≡ x = cc in let bad : true ≡ false = sym (le-leb (w.from - processor_count) m.turns after) ∙ ap (λ s. is_shown w (seen s)) same ∙ hidden in cc), on o other)

-- so none is, before one that is not
none_begun : (w : Window) (n turn : ℕ) (x : RunStep) → is_shown w (seen x) ≡ false → (o : Option RunStep) (ks : List ℕ) (m : MachineState) → m.turns < 2 ^ 64
    → last_or o (filter (is_early n turn) (run_steps ks m)) ≡ Some x → begun turn (phases w n (run_steps ks m)) ≡ []
none_begun w n turn x hidden o [] m low last = refl
none_begun w n turn x hidden o (k ∷ ks) m low last =
    let step : RunStep = record { processor = k; before = m } in
    let more : List RunStep = run_steps ks (stepped k m) in
    let below : (stepped k m).turns < 2 ^ 64 = omega (arith, low, turns_counted k m) in
    let on : (p : Option RunStep) → last_or p (filter (is_early n turn) more) ≡ Some x → begun turn (phases w n more) ≡ [] = λ p is. none_begun w n turn x hidden p ks (stepped k m) below is in
    let later : last_or (Some step) (filter (is_early n turn) more) ≡ Some x → is_shown w (seen step) ≡ true → ⊥ = λ is shows. later_shown w n turn x hidden (Some step)
    (λ e. let same : step ≡ x = cc in let bad : true ≡ false = sym shows ∙ ap (λ s. is_shown w (seen s)) same ∙ hidden in cc) ks (stepped k m) below
    (omega (arith, low, turns_counted k m, leb-true (w.from - processor_count) m.turns shows)) is in
    begun_more w n turn step more ∙ grind (arith, last, on, later)

-- and the last step is that before the window
is_earlier : (w : Window) (n turn : ℕ) (x : RunStep) → w.from ≤ turn → is_shown w (seen x) ≡ false → (o : Option RunStep) (q : Option SeenStep) → (o ≡ Some x → q ≡ Some (seen x)) → (steps : List RunStep)
    → last_or o (filter (is_early n turn) steps) ≡ Some x → fold (earlier_with w) q (seen_of seen n steps) ≡ Some (seen x)
is_earlier w n turn x begun_by hidden o q same [] last = same last
is_earlier w n turn x begun_by hidden o q same (s ∷ more) last = by_test (eqb s.processor n) (leb s.before.turns turn) (leb w.from s.before.turns) (is_shown w (seen s)) (λ p r follows is. is_earlier w n turn x begun_by hidden p r follows more is) refl refl refl last
  where
    by_test : (own early after shown : Bool)
        → ((p : Option RunStep) (r : Option SeenStep) → (p ≡ Some x → r ≡ Some (seen x)) → last_or p (filter (is_early n turn) more) ≡ Some x → fold (earlier_with w) r (seen_of seen n more) ≡ Some (seen x))
        → leb s.before.turns turn ≡ early → leb w.from s.before.turns ≡ after → is_shown w (seen s) ≡ shown
        → last_or o (cond (own && early) (s ∷ filter (is_early n turn) more) (filter (is_early n turn) more)) ≡ Some x
        → fold (earlier_with w) q (map seen (cond own (s ∷ filter (is_of n) more) (filter (is_of n) more))) ≡ Some (seen x)
    by_test false early after shown on begins late shows is = on o q same is
    by_test true true true shown on begins late shows is = ap (λ (b : Bool). fold (earlier_with w) (cond b q (cond (is_shown w (seen s)) None (Some (seen s)))) (seen_of seen n more)) late
        ∙ on (Some s) q (λ e. let here : s ≡ x = cc in absurd (omega (arith, leb-true w.from s.before.turns late, leb-false (w.from - processor_count) x.before.turns hidden, ap (λ (y : RunStep). y.before.turns) here))) is
    by_test true false true shown on begins late shows is = ap (λ (b : Bool). fold (earlier_with w) (cond b q (cond (is_shown w (seen s)) None (Some (seen s)))) (seen_of seen n more)) late
        ∙ on o q same is
    by_test true false false shown on begins late shows is = absurd (omega (arith, begun_by, leb-false s.before.turns turn begins, leb-false w.from s.before.turns late))
    by_test true true false true on begins late shows is = ap (λ (b : Bool). fold (earlier_with w) (cond b q (cond (is_shown w (seen s)) None (Some (seen s)))) (seen_of seen n more)) late
        ∙ ap (λ (b : Bool). fold (earlier_with w) (cond b None (Some (seen s))) (seen_of seen n more)) shows
        ∙ on (Some s) None (λ e. let here : s ≡ x = cc in let bad : true ≡ false = sym shows ∙ ap (λ y. is_shown w (seen y)) here ∙ hidden in cc) is
    by_test true true false false on begins late shows is = ap (λ (b : Bool). fold (earlier_with w) (cond b q (cond (is_shown w (seen s)) None (Some (seen s)))) (seen_of seen n more)) late
        ∙ ap (λ (b : Bool). fold (earlier_with w) (cond b None (Some (seen s))) (seen_of seen n more)) shows
        ∙ on (Some s) (Some (seen s)) (λ e. let here : s ≡ x = cc in ap (λ (y : RunStep). Some (seen y)) here) is

-- a step that is the last of these is one of them
is_one : (n turn : ℕ) (x : RunStep) (o : Option RunStep) → (o ≡ Some x → is_early n turn x ≡ true) → (steps : List RunStep) → last_or o (filter (is_early n turn) steps) ≡ Some x → is_early n turn x ≡ true
is_one n turn x o so_far [] last = so_far last
is_one n turn x o so_far (s ∷ more) last =
    let on : (p : Option RunStep) → (p ≡ Some x → is_early n turn x ≡ true) → last_or p (filter (is_early n turn) more) ≡ Some x → is_early n turn x ≡ true = λ p holds is. is_one n turn x p holds more is in
    grind (arith, last, so_far, on)

pub last_in_window : (w : Window) (n : ℕ) (ns : List ℕ) (m : MachineState) (turn : ℕ) → m.turns < 2 ^ 64 → IsTrue (names_processor n) → w.from ≤ turn
    → IfSome (last_step n turn (run_steps ns m)) (λ (step : RunStep).
    look_at turn (phases_from None (processor_phases n (own_earlier n (earlier_steps w ns m) ++ seen_in_window w ns m))) ≡ Some (Processor (seen step).condition))
last_in_window w n ns m turn low names after = by_last (last_step n turn steps) refl
  where
    steps : List RunStep
    steps = run_steps ns m

    last : Option SeenStep
    last = get_or (earlier_steps w ns m) (processor_index n) None

    own : last ≡ earlier w (seen_of seen n steps)
    own = get_or-tabulate processor_count (λ place. earlier w (seen_of seen (processor_number place) steps)) (processor_index n) None (processor_places.place_below n names)
        ∙ ap (λ k. earlier w (seen_of seen k steps)) (processor_places.number_of_place n names)

    alone : (x : RunStep) → is_early n turn x ≡ true → begun turn (phases w n steps) ≡ [] → last_or None (begun turn (all_phases w n (Some (seen x)) steps)) ≡ Some (phase_of x)
    alone x early none = grind (arith, early, none, and_parts)

    hidden_one : (step : RunStep) → last_step n turn steps ≡ Some step → is_shown w (seen step) ≡ false → last_or None (begun turn (all_phases w n last steps)) ≡ Some (phase_of step)
    hidden_one step is hidden =
        ap (λ (o : Option SeenStep). last_or None (begun turn (all_phases w n o steps))) (own ∙ is_earlier w n turn step after hidden None None (λ e. absurd (cc)) steps is)
        ∙ alone step (is_one n turn step None (λ e. absurd (cc)) steps is) (none_begun w n turn step hidden None ns m low is)

    found : (step : RunStep) (shown : Bool) → last_step n turn steps ≡ Some step → is_shown w (seen step) ≡ shown → last_or None (begun turn (all_phases w n last steps)) ≡ Some (phase_of step)
    found step true is shows = last_of_all w n turn step shows last steps is
    found step false is hidden = hidden_one step is hidden

    by_last : (o : Option RunStep) → last_step n turn steps ≡ o
        → IfSome o (λ (step : RunStep). look_at turn (phases_from None (all_phases w n last steps)) ≡ Some (Processor (seen step).condition))
    by_last None is = tt
    by_last (Some step) is =
        drawn_at turn (all_phases w n last steps) (all_in_order w n turn last ns m (none_shown w n ns m) low)
        ∙ ap (option_map look_in) (found step (is_shown w (seen step)) is refl)
