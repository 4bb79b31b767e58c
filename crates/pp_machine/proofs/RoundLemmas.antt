-- Processors at rest in the rounds of the barrel.
use Rattle.std.proofs.Common.{◌≡◌, ℕ, zero, suc, ◌+◌, ◌-◌, ◌*◌, ◌^◌, ◌<◌, ◌≤◌, List, slice_set, get_or, refl, sym, ap, subst, ◌∙◌, arith, get_or-set_same, get_or-set_other, length}
use Rattle.std.specs.Prelude.{min, IsSome}
use Rattle.std.proofs.Math.Nat.{mul-le-mul_left}
use Rattle.std.proofs.lemmas.Bool.Decides.{eqb_tells}
use Rattle.pp_machine.specs.MachineState.{MachineState, processor_of}
use Rattle.pp_machine.specs.MachineStep.{stepped, step_event}
use Rattle.pp_processor.specs.Processor.{Processor, no_processor, IsAtRest}
use Rattle.pp_numbers.specs.PpNo.{processor_count}
use Rattle.pp_numbers.specs.Profile.{processors_in, processor_in_turn}
use Rattle.pp_numbers.specs.declared.profile.Profile.{Profile}
use Rattle.pp_machine.specs.Rounds.{RestBetween, PassesOverRest, IsCut, whole_rounds}
use Rattle.pp_machine.specs.Run.{run, barrel}
use Rattle.pp_machine.proofs.MachineStepLemmas.{stepped_at_rest}
use Rattle.pp_numbers.proofs.ProfileLemmas.{most_processors, index_in_turn, in_round, more_rounds, fewer_rounds}
use Rattle.pp_machine.proofs.RunLemmas.{run-append, run_profile, barrel_more}

pub passes_over_stepped : (next : List ℕ) (n : ℕ) (m : MachineState) → PassesOverRest next m.processors → PassesOverRest next (stepped n m).processors
unfolding stepped
passes_over_stepped next n m passes = grind (arith, eqb_tells, stepped_at_rest, get_or-set_other)

-- so far all processors from place to running are at rest, and the list passes over them from each place on
pub record PassesFrom (next : List ℕ) (place running : ℕ) (processors : List Processor) : Type 0 where
  pub ahead : RestBetween place running processors
  pub further : (k : ℕ) → place ≤ k → k ≤ processor_count → RestBetween k (get_or next k 0) processors

pub passes_from_end : (next : List ℕ) (processors : List Processor) → get_or next processor_count 0 ≡ processor_count → PassesFrom next processor_count processor_count processors
passes_from_end next processors last = grind (arith)

pub passes_from_running : (next : List ℕ) (place running : ℕ) (processors : List Processor) → place < length next → place < processor_count → PassesFrom next (place + 1) running processors → PassesFrom (slice_set next place place) place place processors
passes_from_running next place running processors inside named so_far = grind (arith, eqb_tells, get_or-set_same, get_or-set_other)

pub passes_from_rest : (next : List ℕ) (place running : ℕ) (processors : List Processor) → place < length next → IsAtRest (get_or processors place no_processor) → PassesFrom next (place + 1) running processors → PassesFrom (slice_set next place running) place running processors
passes_from_rest next place running processors inside rests so_far = grind (arith, eqb_tells, get_or-set_same, get_or-set_other)

pub passes_from_start : (next : List ℕ) (running : ℕ) (processors : List Processor) → PassesFrom next 0 running processors → PassesOverRest next processors
passes_from_start next running processors all = λ place named. all.further place (omega arith) named

-- a machine that has counted some turns more; the greatest count stays
abbrev passed : ℕ → MachineState → MachineState
passed turns m = record m { turns = min (m.turns + turns) (2 ^ 64 - 1) }

-- turns of processors at rest alone
barrel_at_rest : (p : Profile) (turns done : ℕ) (m : MachineState) → ((k : ℕ) → done ≤ k → k < done + suc turns → IsAtRest (processor_of (processor_in_turn p k) (run (barrel p done) m))) → run (barrel p (done + suc turns)) m ≡ passed (suc turns) (run (barrel p done) m)
barrel_at_rest p zero done m rest = barrel_more p done m ∙ stepped_at_rest (processor_in_turn p done) (run (barrel p done) m) (rest done (omega arith) (omega arith))
barrel_at_rest p (suc turns) done m rest =
    let before = run (barrel p done) m in
    let further : done + suc (suc turns) ≡ done + suc turns + 1 = omega arith in
    let so_far = barrel_at_rest p turns done m (λ k after within. rest k after (omega arith)) in
    let count : min (min (before.turns + suc turns) (2 ^ 64 - 1) + 1) (2 ^ 64 - 1) ≡ min (before.turns + suc (suc turns)) (2 ^ 64 - 1) = omega arith in
    rw further (barrel_more p (done + suc turns) m
    ∙ ap (stepped (processor_in_turn p (done + suc turns))) so_far
    ∙ stepped_at_rest (processor_in_turn p (done + suc turns)) (passed (suc turns) before) (rest (done + suc turns) (omega arith) (omega arith))
    ∙ ap (λ turns'. record before { turns = turns' }) count)

-- the turns of processors at rest, from a place to a place
pub passed_to : (p : Profile) (place running : ℕ) (m n : MachineState) → place < running → RestBetween place running n.processors → running ≤ processors_in p → n ≡ run (barrel p place) m → record n { turns = min (n.turns + (running - place)) (2 ^ 64 - 1) } ≡ run (barrel p running) m
passed_to p place running m n forward rest within is =
    let turns = running - place - 1 in
    let here : place + suc turns ≡ running = omega arith in
    let so_many : suc turns ≡ running - place = omega arith in
    let at_rest : (k : ℕ) → place ≤ k → k < place + suc turns → IsAtRest (processor_of (processor_in_turn p k) (run (barrel p place) m)) = λ k after before.
    let R : ℕ → Type 0 = λ i. IsAtRest (get_or n.processors i no_processor) in
    let S : MachineState → Type 0 = λ o. IsAtRest (processor_of (processor_in_turn p k) o) in
    subst S is (subst R (sym (index_in_turn p k (omega arith))) (rest.at_rest k after (omega arith))) in
    ap (λ t. record n { turns = min (n.turns + t) (2 ^ 64 - 1) }) (sym so_many)
    ∙ ap (passed (suc turns)) is
    ∙ sym (barrel_at_rest p turns place m at_rest)
    ∙ ap (λ t. run (barrel p t) m) here

-- at rest as far as a place, and so to any place before it
pub rest_to : (place running turns : ℕ) (processors : List Processor) → place ≤ turns → turns ≤ running → RestBetween place running processors → RestBetween place turns processors
rest_to place running turns processors within before rest = grind arith

-- whole rounds, and then more turns
pub barrel_rounds : (p : Profile) (turns rounds : ℕ) (m : MachineState) → run (barrel p (rounds * processors_in p + turns)) m ≡ run (barrel p turns) (run (whole_rounds p rounds) m)
barrel_rounds p zero rounds m = let here : rounds * processors_in p + 0 ≡ rounds * processors_in p = omega arith in rw here refl
barrel_rounds p (suc turns) rounds m =
    let done = rounds * processors_in p in
    let further : done + suc turns ≡ done + turns + 1 = omega arith in
    let same : processor_in_turn p (done + turns) ≡ processor_in_turn p turns = in_round p rounds turns in
    rw further (barrel_more p (done + turns) m
    ∙ ap (λ n. stepped n (run (barrel p (done + turns)) m)) same
    ∙ ap (stepped (processor_in_turn p turns)) (barrel_rounds p turns rounds m)
    ∙ sym (run-append (barrel p turns) (processor_in_turn p turns) (run (whole_rounds p rounds) m)))

-- whole rounds, and then more of them
pub rounds_more : (p : Profile) (more rounds : ℕ) (m : MachineState) → run (whole_rounds p (rounds + more)) m ≡ run (whole_rounds p more) (run (whole_rounds p rounds) m)
rounds_more p more rounds m = ap (λ turns. run (barrel p turns) m) (more_rounds p rounds more) ∙ barrel_rounds p (more * processors_in p) rounds m

-- a machine keeps its profile
pub profile_after : (ns : List ℕ) (m n : MachineState) → n ≡ run ns m → n.profile ≡ m.profile
profile_after ns m n is = ap (λ (o : MachineState). o.profile) is ∙ run_profile ns m

-- a round of a machine is as long after whole rounds
pub round_later : (rounds round : ℕ) (m n : MachineState) → n ≡ run (whole_rounds m.profile rounds) m → round ≡ processors_in m.profile → round ≡ processors_in n.profile
round_later rounds round m n ran is = is ∙ ap (λ p. processors_in p) (sym (profile_after (whole_rounds m.profile rounds) m n ran))

-- rounds counted in turns
pub counted_rounds : (p : Profile) (a b rounds round : ℕ) → a ≡ rounds → b ≡ round → round ≡ processors_in p → a * b ≡ rounds * processors_in p
counted_rounds p a b rounds round first second is = ap (λ k. k * b) first ∙ ap (λ k. rounds * k) (second ∙ is)

-- rounds have at most twenty turns each
pub turns_at_most : (p : Profile) (rounds round : ℕ) → round ≡ processors_in p → rounds * round ≤ rounds * processor_count
turns_at_most p rounds round is = mul-le-mul_left rounds (omega (arith, is, most_processors p))

-- a machine that has made whole rounds of another, and then whole rounds more
pub rounds_after : (rounds more : ℕ) (m n o : MachineState) → n ≡ run (whole_rounds m.profile rounds) m → o ≡ run (whole_rounds n.profile more) n → o ≡ run (whole_rounds m.profile (rounds + more)) m
rounds_after rounds more m n o before after =
    let p = m.profile in
    after ∙ ap (λ q. run (whole_rounds q more) n) (profile_after (whole_rounds p rounds) m n before)
    ∙ ap (run (whole_rounds p more)) before ∙ sym (rounds_more p more rounds m)

-- further turns
pub turns_after : (rounds turns done : ℕ) (m n o : MachineState) → n ≡ run (whole_rounds m.profile rounds) m → done ≡ rounds * processors_in m.profile → o ≡ run (barrel n.profile turns) n
    → o ≡ run (barrel m.profile (done + turns)) m
turns_after rounds turns done m n o before counted after =
    let p = m.profile in
    after ∙ ap (λ q. run (barrel q turns) n) (profile_after (whole_rounds p rounds) m n before)
    ∙ ap (run (barrel p turns)) before ∙ sym (barrel_rounds p turns rounds m)
    ∙ ap (λ k. run (barrel p (k + turns)) m) (sym counted)

-- rounds that are whole, or one that is not
pub whole_so_far : (p : Profile) (done rounds turns : ℕ) → done < rounds → (1 < rounds → turns ≡ processors_in p)
    → done * turns ≡ done * processors_in p
whole_so_far p zero rounds turns within whole = omega arith
whole_so_far p (suc done) rounds turns within whole = ap (λ k. suc done * k) (whole (omega (arith, within)))

-- fewer turns than are asked for
within_after : (rounds more all turns done : ℕ) (m n : MachineState) → n ≡ run (whole_rounds m.profile rounds) m → done ≡ rounds * processors_in m.profile
    → turns < more * processors_in n.profile → rounds + more ≤ all → done + turns < all * processors_in m.profile
within_after rounds more all turns done m n before counted less within =
    let p = m.profile in
    let same : n.profile ≡ p = profile_after (whole_rounds p rounds) m n before in
    let few : turns < more * processors_in p = subst (λ q. turns < more * processors_in q) same less in
    omega (arith, few, counted, more_rounds p rounds more, fewer_rounds p (rounds + more) all within)

-- the event of a step behind whole rounds
pub event_after : (rounds turn done : ℕ) (m n : MachineState) → n ≡ run (whole_rounds m.profile rounds) m → done ≡ rounds * processors_in m.profile
    → IsSome (step_event (processor_in_turn n.profile turn) (run (barrel n.profile turn) n))
    → IsSome (step_event (processor_in_turn m.profile (done + turn)) (run (barrel m.profile (done + turn)) m))
event_after rounds turn done m n before counted made =
    let p = m.profile in
    let here : processor_in_turn n.profile turn ≡ processor_in_turn p (done + turn) =
    ap (λ q. processor_in_turn q turn) (profile_after (whole_rounds p rounds) m n before) ∙ sym (in_round p rounds turn) ∙ ap (λ k. processor_in_turn p (k + turn)) (sym counted) in
    subst (λ (o : MachineState). IsSome (step_event (processor_in_turn p (done + turn)) o))
    (turns_after rounds turn done m n (run (barrel n.profile turn) n) before counted refl)
    (subst (λ (k : ℕ). IsSome (step_event k (run (barrel n.profile turn) n))) here made)

-- a cut run behind whole rounds
pub cut_after : (rounds more all turns done : ℕ) (m n o : MachineState) → n ≡ run (whole_rounds m.profile rounds) m → done ≡ rounds * processors_in m.profile
    → IsCut (more * processors_in n.profile) turns n o → rounds + more ≤ all → IsCut (all * processors_in m.profile) (done + turns) m o
cut_after rounds more all turns done m n o before counted cut within = record {
  ran = turns_after rounds turns done m n o before counted cut.ran;
  at_event = grind (arith, within_after, event_after);
}

pub ruleset passes = (passes_from_end, passes_from_running, passes_from_rest, passes_from_start)
