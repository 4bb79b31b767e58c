-- Steps that wait, and lists of steps of a machine that is quiet.
use Rattle.std.proofs.Common.{◌≡◌, get_or, length, ℕ, zero, suc, ◌+◌, ◌-◌, ◌<◌, ◌≤◌, List, [], ◌∷◌, append-nil, slice_set, refl, sym, ap, ◌∙◌, subst, arith}
use Rattle.std.proofs.lemmas.List.{get_or_read, set-get_or}
use Rattle.pp_machine.specs.MachineState.{MachineState}
use Rattle.pp_machine.specs.MachineStep.{counted, stepped}
use Rattle.pp_numbers.specs.Profile.{processor_in_turn}
use Rattle.pp_machine.specs.Run.{barrel, run}
use Rattle.pp_machine.proofs.OrderLemmas.{turn_of_barrel}
use Rattle.pp_machine.proofs.RunLemmas.{barrel_more, length-barrel}
use Rattle.pp_numbers.specs.declared.profile.Profile.{Profile}
use Rattle.pp_run.specs.Determinacy.{IsQuiet, Waits}
use Rattle.pp_run.proofs.StepFacts.{central_by, event_by, event_by_need, histories_by, histories_none, own_step, processors_by, trace_by, trace_with}
use Rattle.pp_ends.specs.Ending.{AreSameButTurns, EndsQuietFrom, WaitsAt, after_turns}

pub waited : (n : ℕ) (m : MachineState) → Waits n m
    → stepped n m ≡ record m { turns = counted m.turns }
unfolding stepped
waited n m w = grind (arith, processors_by, slice_set, own_step, set-get_or, histories_none, event_by_need, histories_by, trace_with, append-nil, trace_by)

quiet_later : (turns : ℕ) (m : MachineState) → IsQuiet m → IsQuiet (record m { turns = turns })
quiet_later turns m q = grind (arith, own_step, event_by, central_by)

-- no list of steps changes a quiet machine
pub quiet_run : (ns : List ℕ) (m : MachineState) → IsQuiet m → AreSameButTurns m (run ns m)
quiet_run [] m q = refl
quiet_run (n ∷ ns) m q =
    let step = waited n m (q.waits n) in
    let later : MachineState = record m { turns = counted m.turns } in
    subst (λ (k : MachineState). AreSameButTurns m (run ns k)) (sym step)
    (quiet_run ns later (quiet_later (counted m.turns) m q))

-- a machine that is quiet stays quiet
quiet_on : (k t : ℕ) (m : MachineState) → IsQuiet (after_turns t m) → IsQuiet (after_turns (t + k) m)
quiet_on zero t m q = grind arith
quiet_on (suc k) t m q =
    let before = quiet_on k t m q in
    let now : MachineState = after_turns (t + k) m in
    let turn = processor_in_turn m.profile (t + k) in
    let next : (t + k) + 1 ≡ t + suc k = omega arith in
    let step : after_turns ((t + k) + 1) m ≡ record now { turns = counted now.turns } =
    barrel_more m.profile (t + k) m ∙ waited turn now (before.waits turn) in
    subst (λ (u : ℕ). IsQuiet (after_turns u m)) next
    (subst IsQuiet (sym step) (quiet_later (counted now.turns) now before))

pub quiet_from : (t u : ℕ) (m : MachineState) → t ≤ u → IsQuiet (after_turns t m) → IsQuiet (after_turns u m)
quiet_from t u m low q =
    let all : t + (u - t) ≡ u = omega (arith, low) in
    subst (λ (i : ℕ). IsQuiet (after_turns i m)) all (quiet_on (u - t) t m q)

-- over turns that wait the machine stays
still_on : (k t : ℕ) (m : MachineState)
    → ((u : ℕ) → t ≤ u → u < t + k → WaitsAt u m)
    → AreSameButTurns (after_turns t m) (after_turns (t + k) m)
still_on zero t m waits = grind arith
still_on (suc k) t m waits =
    let before = still_on k t m (λ u low high. waits u low (omega (arith, high))) in
    let next : t + suc k ≡ (t + k) + 1 = omega arith in
    let step : after_turns ((t + k) + 1) m ≡ record (after_turns (t + k) m) { turns = counted (after_turns (t + k) m).turns } =
    barrel_more m.profile (t + k) m
    ∙ waited (processor_in_turn m.profile (t + k)) (after_turns (t + k) m) (waits (t + k) (omega arith) (omega arith)) in
    let both : after_turns ((t + k) + 1) m ≡ record (after_turns t m) { turns = counted (after_turns (t + k) m).turns } =
    step ∙ ap (λ (j : MachineState). record j { turns = counted (after_turns (t + k) m).turns }) before in
    subst (λ (u : ℕ). AreSameButTurns (after_turns t m) (after_turns u m)) (sym next)
    (both ∙ ap (λ (u : ℕ). record (after_turns t m) { turns = u }) (sym (ap (λ (j : MachineState). j.turns) both)))

pub same_from : (t turns : ℕ) (m : MachineState) → EndsQuietFrom t turns m
    → AreSameButTurns (after_turns t m) (after_turns turns m)
same_from t turns m e =
    let all : t + (turns - t) ≡ turns = omega (arith, e.still.within) in
    subst (λ (u : ℕ). AreSameButTurns (after_turns t m) (after_turns u m)) all
    (still_on (turns - t) t m (λ u low high. e.still.waits u low (omega (arith, high, e.still.within))))

-- ---- one turn more

-- the processor read from a list of turns
pub turn_read : (order : List ℕ) (p : Profile) (turns turn n : ℕ) → order ≡ barrel p turns
    → turn < length order → n ≡ get_or order turn n → n ≡ processor_in_turn p turn
turn_read order p turns turn n are few read =
    get_or_read order turn n few read 0 ∙ ap (λ (ns : List ℕ). get_or ns turn 0) are
    ∙ turn_of_barrel p turns turn (omega (arith, few, ap length are, length-barrel p turns))
