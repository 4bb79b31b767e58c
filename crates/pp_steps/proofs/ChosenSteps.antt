-- The steps chosen of a run, step by step of its order.
use Rattle.std.proofs.Common.{◌≡◌, ℕ, ◌+◌, ◌<◌, ◌≤◌, length, drop, take, get_or, Bool, cond, List, [], ◌∷◌, ◌++◌, sym, ap, ◌∙◌, append-nil, arith}
use Rattle.std.specs.List.{filter}
use Rattle.std.proofs.lemmas.List.{drop_all, drop_more, length-take, take-append-drop}
use Rattle.std.proofs.lemmas.List.Elements.{filter-append}
use Rattle.std.proofs.lemmas.List.Sums.{count_by-le-length, length-filter}
use Rattle.pp_machine.specs.MachineState.{MachineState}
use Rattle.pp_machine.specs.Run.{run}
use Rattle.pp_machine.proofs.RunLemmas.{run_more}
use Rattle.pp_run.specs.RunSteps.{RunStep, run_steps}
use Rattle.pp_run.proofs.RunStepLemmas.{length-run_steps, run_steps-both, steps_more}
use Rattle.pp_steps.specs.Choice.{chosen_steps, is_chosen}
use Rattle.pp_steps.specs.declared.choice.Choice.{Choice}

-- the step of processor k after some steps of a list
abbrev pub step_in : List ℕ → ℕ → MachineState → ℕ → RunStep
step_in ns done m k = record { processor = k; before = run (take done ns) m }

-- with one step more
pub chosen_more : (choice : Choice) (ns : List ℕ) (done : ℕ) (m : MachineState) (k : ℕ) → done < length ns → k ≡ get_or ns done 0
    → cond (is_chosen choice (step_in ns done m k)) (chosen_steps choice (take done ns) m ++ step_in ns done m k ∷ []) (chosen_steps choice (take done ns) m)
    ≡ chosen_steps choice (take (done + 1) ns) m
chosen_more choice ns done m k few is =
    let past = filter (is_chosen choice) (run_steps (take done ns) m) in
    let step = step_in ns done m k in
    at_the_end (is_chosen choice step) past step
    ∙ sym (ap (filter (is_chosen choice)) (steps_more ns done k m few is) ∙ filter-append (is_chosen choice) (run_steps (take done ns) m) (step ∷ []))
  where
    at_the_end : (b : Bool) (past : List RunStep) (step : RunStep) → cond b (past ++ step ∷ []) past ≡ past ++ cond b (step ∷ []) []
    at_the_end b past step = grind (arith, append-nil)

-- no more than were made
pub few_chosen : (choice : Choice) (ns : List ℕ) (done : ℕ) (m : MachineState) → length (chosen_steps choice (take done ns) m) ≤ done
few_chosen choice ns done m = grind (arith, length-filter, count_by-le-length, length-run_steps, length-take)

-- ---- the steps to come

-- the steps chosen after some of a list
abbrev pub chosen_from : Choice → List ℕ → ℕ → MachineState → List RunStep
chosen_from choice ns done m = filter (is_chosen choice) (run_steps (drop done ns) (run (take done ns) m))

-- those so far and those to come
pub chosen_parts : (choice : Choice) (ns : List ℕ) (done : ℕ) (m : MachineState) → chosen_steps choice (take done ns) m ++ chosen_from choice ns done m ≡ chosen_steps choice ns m
chosen_parts choice ns done m =
    let rest = drop done ns in
    sym (filter-append (is_chosen choice) (run_steps (take done ns) m) (run_steps rest (run (take done ns) m)))
    ∙ ap (filter (is_chosen choice)) (sym (run_steps-both (take done ns) rest m))
    ∙ ap (λ ks. filter (is_chosen choice) (run_steps ks m)) (take-append-drop done ns)

pub none_left : (choice : Choice) (ns : List ℕ) (done : ℕ) (m : MachineState) → length ns ≤ done → chosen_from choice ns done m ≡ []
none_left choice ns done m all = ap (λ ks. filter (is_chosen choice) (run_steps ks (run (take done ns) m))) (drop_all done ns all)

pub next_chosen : (choice : Choice) (ns : List ℕ) (done : ℕ) (m : MachineState) (k : ℕ) → k ≡ get_or ns done 0 → done < length ns
    → chosen_from choice ns done m
    ≡ cond (is_chosen choice (step_in ns done m k)) (step_in ns done m k ∷ chosen_from choice ns (done + 1) m) (chosen_from choice ns (done + 1) m)
next_chosen choice ns done m k is few = grind (arith, run_more, drop_more)
