-- The steps of a run with one more step.
use Rattle.std.proofs.Common.{◌≡◌, ◌≢◌, ℕ, suc, ◌+◌, ◌<◌, ◌≤◌, ◌⊎◌, inl, inr, Bool, true, false, cond, List, [], ◌∷◌, ◌++◌, append-nil, length, map, set, take, get_or, eqb, refl, sym, ap, ◌∙◌, arith}
use Rattle.std.specs.Prelude.{count_by}
use Rattle.std.specs.List.{filter}
use Rattle.std.proofs.lemmas.Bool.{cases_eq, eq-eqb, ne_eqb, cond-true, cond-false}
use Rattle.std.proofs.lemmas.List.{length-map, map-append, length-set, get_or-set_same, get_or-set_other, take_more}
use Rattle.std.proofs.lemmas.List.Elements.{filter-append}
use Rattle.std.proofs.lemmas.List.Sums.{count_by-le-length, length-filter, sum_by-cons}
use Rattle.pp_numbers.proofs.TableLemmas.{get_or-tabulate, length-tabulate, tabulate_is}
use Rattle.pp_machine.specs.MachineState.{MachineState}
use Rattle.pp_machine.specs.MachineStep.{stepped}
use Rattle.pp_numbers.specs.PpNo.{processor_count, processor_index, processor_number, each_processor, processor_places}
use Rattle.pp_machine.specs.Run.{run}
use Rattle.pp_run.specs.RunSteps.{RunStep, is_of, run_steps, seen_of}

-- over two lists
pub run_steps-both : (ns ks : List ℕ) (m : MachineState)
    → run_steps (ns ++ ks) m ≡ run_steps ns m ++ run_steps ks (run ns m)
run_steps-both [] ks m = refl
run_steps-both (n ∷ ns) ks m = grind (arith, run_steps-both ns ks (stepped n m))

-- over one step at the end of a list
pub run_steps-append : (ns : List ℕ) (n : ℕ) (m : MachineState)
    → run_steps (ns ++ n ∷ []) m
    ≡ run_steps ns m ++ record { processor = n; before = run ns m } ∷ []
run_steps-append ns n m = run_steps-both ns (n ∷ []) m

pub length-run_steps : (ns : List ℕ) (m : MachineState) → length (run_steps ns m) ≡ length ns
length-run_steps [] m = refl
length-run_steps (n ∷ ns) m = ap (λ (k : ℕ). suc k) (length-run_steps ns (stepped n m))

-- over one more step of a list
pub steps_more : (ns : List ℕ) (done n : ℕ) (m : MachineState) → done < length ns → n ≡ get_or ns done 0
    → run_steps (take (done + 1) ns) m
    ≡ run_steps (take done ns) m ++ record { processor = n; before = run (take done ns) m } ∷ []
steps_more ns done n m few is =
    ap (λ ks. run_steps ks m) (take_more ns done 0 few)
    ∙ run_steps-append (take done ns) (get_or ns done 0) m
    ∙ ap (λ (k : ℕ). run_steps (take done ns) m ++ record { processor = k; before = run (take done ns) m } ∷ []) (sym is)

-- ---- the steps of one processor

-- no more than all
pub few_seen : {X : Type 0} (of : RunStep → X) (n : ℕ) (steps : List RunStep)
    → length (seen_of of n steps) ≤ length steps
few_seen of n steps = grind (arith, length-map, length-filter, count_by-le-length)

-- of a run: as many as its turns
pub length-seen : {X : Type 0} (of : RunStep → X) (n : ℕ) (ns : List ℕ) (m : MachineState)
    → length (seen_of of n (run_steps ns m)) ≡ count_by (λ k. eqb k n) ns
length-seen of n [] m = refl
length-seen {X} of n (k ∷ ns) m =
    let step : RunStep = record { processor = k; before = m } in
    by_test (eqb k n) (filter (is_of n) (run_steps ns (stepped k m))) step
    ∙ ap (λ (l : ℕ). cond (eqb k n) 1 0 + l) (length-seen of n ns (stepped k m))
    ∙ sym (sum_by-cons (λ j. cond (eqb j n) 1 0) k ns)
  where
    by_test : (b : Bool) (steps : List RunStep) (step : RunStep)
        → length (map of (cond b (step ∷ steps) steps)) ≡ cond b 1 0 + length (map of steps)
    by_test true steps step = omega arith
    by_test false steps step = omega arith

pub seen-append : {X : Type 0} (of : RunStep → X) (n : ℕ) (steps more : List RunStep)
    → seen_of of n (steps ++ more) ≡ seen_of of n steps ++ seen_of of n more
seen-append of n steps more = grind (arith, filter-append, map-append)

-- over a step of its own
pub seen_more : {X : Type 0} (of : RunStep → X) (n : ℕ) (steps : List RunStep) (step : RunStep)
    → step.processor ≡ n → seen_of of n (steps ++ step ∷ []) ≡ seen_of of n steps ++ of step ∷ []
seen_more {X} of n steps step own = grind (arith, seen-append, cond-true, eq-eqb)

-- over one of another
pub seen_other : {X : Type 0} (of : RunStep → X) (n : ℕ) (steps : List RunStep) (step : RunStep)
    → step.processor ≢ n → seen_of of n (steps ++ step ∷ []) ≡ seen_of of n steps
seen_other {X} of n steps step other = grind (arith, seen-append, cond-false, ne_eqb, append-nil)

-- ---- a list that counts something of the steps of each processor

number_at_place : (n i : ℕ) → i ≡ processor_index n → i < processor_count → processor_number i ≡ n
number_at_place n i is low = grind (arith, processor_places.number_of_place, processor_places.named_below)

-- at its place
pub counted_at : {X T : Type 0} (of : RunStep → X) (count : List X → T) (d : T) (counts : List T)
    (steps : List RunStep) (n i : ℕ) → counts ≡ each_processor (λ k. count (seen_of of k steps))
    → i ≡ processor_index n → i < processor_count → get_or counts i d ≡ count (seen_of of n steps)
counted_at {X} {T} of count d counts steps n i are is low = grind (arith, get_or-tabulate, number_at_place)

-- with one more step, of processor n
pub counted_more : {X T : Type 0} (of : RunStep → X) (count : List X → T) (d : T) (counts : List T)
    (steps : List RunStep) (step : RunStep) (n i : ℕ) (x : T)
    → counts ≡ each_processor (λ k. count (seen_of of k steps))
    → i ≡ processor_index n → i < processor_count → step.processor ≡ n
    → x ≡ count (seen_of of n steps ++ of step ∷ [])
    → set counts i x ≡ each_processor (λ k. count (seen_of of k (steps ++ step ∷ [])))
counted_more {X} {T} of count d counts steps step n i x are is within own right =
    tabulate_is d (set counts i x) processor_count (λ place. after (processor_number place))
    (length-set counts i x ∙ long) (λ place low. by_place place low (cases_eq place i))
  where
    before : ℕ → T
    before k = count (seen_of of k steps)

    after : ℕ → T
    after k = count (seen_of of k (steps ++ step ∷ []))

    long : length counts ≡ processor_count
    long =
        ap length are ∙ length-tabulate processor_count (λ place. before (processor_number place))

    by_place : (place : ℕ) → place < processor_count → (place ≡ i) ⊎ (place ≢ i)
        → get_or (set counts i x) place d ≡ after (processor_number place)
    by_place place low (inl same) =
        ap (λ (k : ℕ). get_or (set counts i x) k d) same
        ∙ get_or-set_same counts i x d (omega (arith, within, long))
        ∙ right ∙ ap count (sym (seen_more of n steps step own))
        ∙ ap after (sym (ap processor_number same ∙ number_at_place n i is within))
    by_place place low (inr other) =
        get_or-set_other counts i place x d other ∙ ap (λ (ts : List T). get_or ts place d) are
        ∙ get_or-tabulate processor_count (λ place. before (processor_number place)) place d low
        ∙ ap count (sym (seen_other of (processor_number place) steps step
        (λ e. other (sym (processor_places.place_of_number place low)
        ∙ ap processor_index (sym e ∙ own) ∙ sym is))))
