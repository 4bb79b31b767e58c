-- Quiet steps of different processors: whole rounds of them are as many steps of each processor by itself.
use Rattle.std.proofs.Common.{◌≡◌, ℕ, zero, suc, ◌+◌, ◌*◌, ◌-◌, ◌^◌, ◌<◌, ◌≤◌, List, length, append-nil, slice_set, get_or, refl, sym, ap, subst, ◌∙◌, arith, inl, inr, get_or-set_same, get_or-set_other}
use Rattle.std.specs.Prelude.{min, IsTrue, false, None, is_none}
use Rattle.std.proofs.lemmas.Bool.{false≢true}
use Rattle.std.proofs.lemmas.Bool.Decides.{eqb_tells, leb_tells}
use Rattle.std.proofs.lemmas.List.{set-get_or, length-set, ext_get_or}
use Rattle.pp_channel.specs.Answer.{event_of, reply_to, flags_of}
use Rattle.pp_channel.specs.declared.{chan_op.ChanOp.ChanOp, flags.Flags.Flags, reply.Reply.Reply}
use Rattle.pp_channel.specs.declared.chan_op.ChanOp.TheVariants.{Probe}
use Rattle.pp_channel.specs.declared.reply.Reply.TheVariants as replies
use Rattle.pp_processor.specs.declared.{need.Need.Need}
use Rattle.pp_machine.specs.MachineState.{MachineState, processor_of, history_of}
use Rattle.pp_machine.specs.MachineStep.{answer_to, counted, served, taken, stepped}
use Rattle.pp_processor.specs.NeedAndEffect.{need, processor_after}
use Rattle.pp_processor.specs.Processor.{Processor, no_processor, IsAtRest}
use Rattle.pp_numbers.specs.PpNo.{processor_index, processor_number, processor_places}
use Rattle.pp_numbers.specs.Profile.{processors_in, processor_in_turn}
use Rattle.pp_machine.specs.Quiet.{is_quiet, step_beside, steps_beside, IsAhead, AreAhead}
use Rattle.pp_machine.specs.Rounds.{whole_rounds}
use Rattle.pp_machine.specs.Run.{run, barrel}
use Rattle.pp_processor.specs.declared.need.Need.TheVariants.{Nothing, Local, Channel, Read, Write}
use Rattle.pp_processor.specs.declared.answer.Answer.TheVariants as answers
use Rattle.pp_numbers.specs.declared.profile.Profile.{Profile}
use Rattle.pp_numbers.proofs.ProfileLemmas.{most_processors, in_turn_at, no_rounds, next_round}
use Rattle.pp_processor.proofs.StepLemmas.{nothing_at_rest, rest_changes_nothing}
use Rattle.pp_machine.proofs.RoundLemmas.{barrel_rounds}
use Rattle.pp_machine.proofs.RunLemmas.{barrel_more}

-- the same channels and the same central memory, with other processors and other turns
abbrev pub beside : List Processor → ℕ → MachineState → MachineState
beside processors turns m = record m { processors = processors; turns = turns }

-- a quiet step changes its processor, and counts a turn
quiet_need : (n : ℕ) (x : Need) (pp : Processor) (ps : List Processor) (t : ℕ) (m : MachineState) → IsTrue (is_quiet x m) → pp ≡ processor_of n (beside ps t m)
    → taken n (answer_to x (beside ps t m)) (served n x (beside ps t m)) ≡ beside (slice_set ps (processor_index n) (processor_after pp (answer_to x m))) (counted t) m
quiet_need n Nothing pp ps t m quiet here = rw here refl
quiet_need n Local pp ps t m quiet here = rw here refl
quiet_need n (Channel c operation) pp ps t m quiet here = grind (arith, slice_set, append-nil, set-get_or)
quiet_need n (Read a) pp ps t m quiet here = cc
quiet_need n (Write a w) pp ps t m quiet here = cc

stepped_quiet : (n : ℕ) (pp : Processor) (ps : List Processor) (t : ℕ) (m : MachineState) → pp ≡ processor_of n (beside ps t m) → IsTrue (is_quiet (need pp) m)
    → stepped n (beside ps t m) ≡ beside (slice_set ps (processor_index n) (step_beside m pp)) (counted t) m
unfolding stepped
stepped_quiet n pp ps t m here quiet = grind (arith, beside, quiet_need)

-- the first processors of a list, each a step ahead
abbrev stepping : ℕ → MachineState → List Processor → List Processor
stepping zero m ps = ps
stepping (suc place) m ps = slice_set (stepping place m ps) place (step_beside m (get_or ps place no_processor))

length-stepping : (place : ℕ) (m : MachineState) (ps : List Processor) → length (stepping place m ps) ≡ length ps
length-stepping zero m ps = refl
length-stepping (suc place) m ps = length-set (stepping place m ps) place (step_beside m (get_or ps place no_processor)) ∙ length-stepping place m ps

-- those from the place on are not
stepping_after : (place k : ℕ) (m : MachineState) (ps : List Processor) → place ≤ k → get_or (stepping place m ps) k no_processor ≡ get_or ps k no_processor
stepping_after zero k m ps after = refl
stepping_after (suc place) k m ps after = grind (arith, get_or-set_other, stepping, stepping_after place k m ps (omega arith))

-- those before it are
stepping_before : (place k : ℕ) (m : MachineState) (ps : List Processor) → place ≤ length ps → k < place → get_or (stepping place m ps) k no_processor ≡ step_beside m (get_or ps k no_processor)
stepping_before zero k m ps within before = absurd (omega arith)
stepping_before (suc place) k m ps within before =
    elim (eqb_tells k place) as (λ _. get_or (stepping (suc place) m ps) k no_processor ≡ step_beside m (get_or ps k no_processor)) [
      | inl same ↦ grind (arith, length-stepping, get_or-set_same)
      | inr apart ↦ grind (arith, get_or-set_other, stepping_before place k m ps (omega arith) (omega (arith, apart.1)))
    ]

-- the first turns of a round of quiet steps
round_to : (p : Profile) (place : ℕ) (m : MachineState) (ps : List Processor) (t : ℕ) → place ≤ processors_in p → t ≤ 2 ^ 64 - 1
    → ((k : ℕ) → k < processors_in p → IsTrue (is_quiet (need (get_or ps k no_processor)) m))
    → run (barrel p place) (beside ps t m) ≡ beside (stepping place m ps) (min (t + place) (2 ^ 64 - 1)) m
round_to p zero m ps t within bound quiet = grind (arith, beside)
round_to p (suc place) m ps t within bound quiet =
    let more : suc place ≡ place + 1 = omega arith in
    let n = processor_number place in
    let most = most_processors p in
    let turn : processor_in_turn p place ≡ n = in_turn_at p place (omega arith) in
    let here : processor_index n ≡ place = processor_places.place_of_number place (omega arith) in
    let u = min (t + place) (2 ^ 64 - 1) in
    let count : counted u ≡ min (t + suc place) (2 ^ 64 - 1) = omega arith in
    let pp = get_or ps place no_processor in
    ap (λ turns. run (barrel p turns) (beside ps t m)) more
    ∙ barrel_more p place (beside ps t m)
    ∙ ap (λ k. stepped k (run (barrel p place) (beside ps t m))) turn
    ∙ ap (stepped n) (round_to p place m ps t (omega arith) bound quiet)
    ∙ stepped_quiet n pp (stepping place m ps) u m (sym (ap (λ i. get_or (stepping place m ps) i no_processor) here ∙ stepping_after place place m ps (omega arith))) (quiet place (omega arith))
    ∙ ap (λ i. beside (slice_set (stepping place m ps) i (step_beside m pp)) (counted u) m) here
    ∙ ap (λ v. beside (stepping (suc place) m ps) v m) count

-- the processors after a number of quiet steps of each of the first
abbrev ran : ℕ → ℕ → MachineState → List Processor → List Processor
ran zero round m ps = ps
ran (suc steps) round m ps = stepping round m (ran steps round m ps)

length-ran : (steps round : ℕ) (m : MachineState) (ps : List Processor) → length (ran steps round m ps) ≡ length ps
length-ran zero round m ps = refl
length-ran (suc steps) round m ps = length-stepping round m (ran steps round m ps) ∙ length-ran steps round m ps

ran_behind : (steps round k : ℕ) (m : MachineState) (ps : List Processor) → round ≤ k → get_or (ran steps round m ps) k no_processor ≡ get_or ps k no_processor
ran_behind zero round k m ps past = refl
ran_behind (suc steps) round k m ps past = stepping_after round k m (ran steps round m ps) past ∙ ran_behind steps round k m ps past

ran_ahead : (steps round k : ℕ) (m : MachineState) (ps : List Processor) → round ≤ length ps → k < round → get_or (ran steps round m ps) k no_processor ≡ steps_beside steps m (get_or ps k no_processor)
unfolding steps_beside
ran_ahead zero round k m ps all within = refl
ran_ahead (suc steps) round k m ps all within = grind (arith, stepping_before, ran, length-ran, ran_ahead steps round k m ps all within)

-- whole rounds of quiet steps
rounds_ran : (p : Profile) (steps : ℕ) (m : MachineState) → processors_in p ≤ length m.processors → m.turns ≤ 2 ^ 64 - 1
    → ((j k : ℕ) → j < steps → k < processors_in p → IsTrue (is_quiet (need (steps_beside j m (get_or m.processors k no_processor))) m))
    → run (whole_rounds p steps) m ≡ beside (ran steps (processors_in p) m m.processors) (min (m.turns + steps * processors_in p) (2 ^ 64 - 1)) m
rounds_ran p zero m all bound quiet = grind (arith, no_rounds, beside)
rounds_ran p (suc steps) m all bound quiet =
    let round = processors_in p in
    let ps = ran steps round m m.processors in
    let t = min (m.turns + steps * round) (2 ^ 64 - 1) in
    let more : suc steps * round ≡ steps * round + round = next_round p steps in
    let count : min (t + round) (2 ^ 64 - 1) ≡ min (m.turns + suc steps * round) (2 ^ 64 - 1) = omega arith in
    let below : t ≤ 2 ^ 64 - 1 = omega arith in
    let quiet_now : (k : ℕ) → k < round → IsTrue (is_quiet (need (get_or ps k no_processor)) m) = λ k within.
    subst (λ (pp : Processor). IsTrue (is_quiet (need pp) m)) (sym (ran_ahead steps round k m m.processors all within)) (quiet steps k (omega arith) within) in
    ap (λ turns. run (barrel p turns) m) more
    ∙ barrel_rounds p round steps m
    ∙ ap (run (barrel p round)) (rounds_ran p steps m all bound (λ j k before within. quiet j k (omega arith) within))
    ∙ round_to p round m ps t (omega arith) below quiet_now
    ∙ ap (λ u. beside (ran (suc steps) round m m.processors) u m) count

-- where the processors of a round went some quiet steps ahead, and the turns are counted, the machine is as after whole rounds
pub rounds_ahead : (p : Profile) (steps : ℕ) (m : MachineState) (new : List Processor) → processors_in p ≤ length m.processors → m.turns ≤ 2 ^ 64 - 1 → AreAhead steps (processors_in p) 0 m m.processors new
    → beside new (min (m.turns + steps * processors_in p) (2 ^ 64 - 1)) m ≡ run (whole_rounds p steps) m
rounds_ahead p steps m new all bound ahead =
    let round = processors_in p in
    let same : new ≡ ran steps round m m.processors =
    ext_get_or no_processor new (ran steps round m m.processors)
    (ahead.as_many ∙ sym (length-ran steps round m m.processors))
    (λ i inside.
    elim (leb_tells round i) as (λ _. get_or new i no_processor ≡ get_or (ran steps round m m.processors) i no_processor) [
      | inl past ↦ ahead.behind i past.1 ∙ sym (ran_behind steps round i m m.processors past.1)
      | inr within ↦ (ahead.ahead i (omega arith) within.1).after ∙ sym (ran_ahead steps round i m m.processors all within.1)
    ]) in
    ap (λ ps. beside ps (min (m.turns + steps * round) (2 ^ 64 - 1)) m) same
    ∙ sym (rounds_ran p steps m all bound (λ j k before within. (ahead.ahead k (omega arith) within).quiet j before))

-- no step is ahead by none
pub none_ahead : (m : MachineState) (pp : Processor) → IsAhead 0 m pp pp
unfolding steps_beside
none_ahead m pp = record { quiet = λ j before. absurd (omega arith); after = refl }

pub none_are_ahead : (round place : ℕ) (m : MachineState) (ps : List Processor) → AreAhead 0 round place m ps ps
none_are_ahead round place m ps = record { as_many = refl; before = λ k before. refl; behind = λ k past. refl; ahead = λ k after within. none_ahead m (get_or ps k no_processor) }

-- some steps, and then more
steps_more : (more steps : ℕ) (m : MachineState) (pp : Processor) → steps_beside (steps + more) m pp ≡ steps_beside more m (steps_beside steps m pp)
unfolding steps_beside
steps_more zero steps m pp = let same : steps + 0 ≡ steps = omega arith in rw same refl
steps_more (suc more) steps m pp =
    let further : steps + suc more ≡ suc (steps + more) = omega arith in
    rw further (ap (step_beside m) (steps_more more steps m pp))

pub ahead_more : (steps more : ℕ) (m : MachineState) (old between new : Processor) → IsAhead steps m old between → IsAhead more m between new → IsAhead (steps + more) m old new
ahead_more steps more m old between new first then = record {
  quiet = λ j before.
      elim (leb_tells steps j) as (λ _. IsTrue (is_quiet (need (steps_beside j m old)) m)) [
        | inl further ↦
            let after = further.1 in
            let here : j ≡ steps + (j - steps) = omega arith in
            let there : steps_beside j m old ≡ steps_beside (j - steps) m between = ap (λ i. steps_beside i m old) here ∙ steps_more (j - steps) steps m old ∙ ap (steps_beside (j - steps) m) (sym first.after) in
            subst (λ (pp : Processor). IsTrue (is_quiet (need pp) m)) (sym there) (then.quiet (j - steps) (omega arith))
        | inr sooner ↦ first.quiet j sooner.1
      ];
  after = then.after ∙ ap (steps_beside more m) first.after ∙ sym (steps_more more steps m old);
}

-- one quiet step more
pub one_more_ahead : (steps : ℕ) (m : MachineState) (old between new : Processor) → IsAhead steps m old between → IsTrue (is_quiet (need between) m) → new ≡ step_beside m between → IsAhead (steps + 1) m old new
unfolding steps_beside
one_more_ahead steps m old between new first quiet then = grind (arith, ahead_more)

-- that needs nothing
pub local_ahead : (steps : ℕ) (m : MachineState) (old between new : Processor) → IsAhead steps m old between → need between ≡ Local → new ≡ processor_after between answers.Local → IsAhead (steps + 1) m old new
local_ahead steps m old between new first local then =
    one_more_ahead steps m old between new first (ap (λ x. is_quiet x m) local)
    (then ∙ ap (λ x. processor_after between (answer_to x m)) (sym local))

-- that is an operation on a channel without an event
pub shown_ahead : (steps c : ℕ) (operation : ChanOp) (reply : Reply) (m : MachineState) (old between new : Processor) → IsAhead steps m old between → need between ≡ Channel c operation
    → event_of operation (history_of c m) ≡ None → reply ≡ reply_to operation (history_of c m)
    → new ≡ processor_after between (answers.Channel reply) → IsAhead (steps + 1) m old new
shown_ahead steps c operation reply m old between new first asks none shown then =
    one_more_ahead steps m old between new first (ap (λ x. is_quiet x m) asks ∙ ap is_none none)
    (then ∙ ap (λ r. processor_after between (answers.Channel r)) shown ∙ ap (λ x. processor_after between (answer_to x m)) (sym asks))

-- that tests the flags of a channel
pub probe_ahead : (steps c : ℕ) (flags : Flags) (m : MachineState) (old between new : Processor) → IsAhead steps m old between → need between ≡ Channel c Probe → flags ≡ flags_of (history_of c m)
    → new ≡ processor_after between (answers.Channel (replies.Flags flags)) → IsAhead (steps + 1) m old new
probe_ahead steps c flags m old between new first asks shown then =
    shown_ahead steps c Probe (replies.Flags flags) m old between new first asks refl (ap (λ f. replies.Flags f) shown) then

-- a processor whose quiet step leaves it as it is, is as far ahead as you like
still_beside : (steps : ℕ) (m : MachineState) (pp : Processor) → step_beside m pp ≡ pp → steps_beside steps m pp ≡ pp
unfolding steps_beside
still_beside zero m pp still = refl
still_beside (suc steps) m pp still = ap (step_beside m) (still_beside steps m pp still) ∙ still

still_ahead : (steps : ℕ) (m : MachineState) (pp : Processor) → IsTrue (is_quiet (need pp) m) → step_beside m pp ≡ pp → IsAhead steps m pp pp
still_ahead steps m pp quiet still = grind (arith, still_beside)

ahead_and_still : (steps most : ℕ) (m : MachineState) (old new : Processor) → IsAhead steps m old new → IsTrue (is_quiet (need new) m) → step_beside m new ≡ new → steps ≤ most → IsAhead most m old new
ahead_and_still steps most m old new first quiet still within =
    let all : steps + (most - steps) ≡ most = omega arith in
    subst (λ k. IsAhead k m old new) all (ahead_more steps (most - steps) m old new new first (still_ahead (most - steps) m new quiet still))

rest_still : (m : MachineState) (pp : Processor) → need pp ≡ Nothing → step_beside m pp ≡ pp
rest_still m pp rests = rest_changes_nothing pp (answer_to (need pp) m) ((nothing_at_rest pp).0 rests)

-- as one at rest
pub ahead_at_rest : (steps most : ℕ) (m : MachineState) (old new : Processor) → IsAhead steps m old new → need new ≡ Nothing → steps ≤ most → IsAhead most m old new
ahead_at_rest steps most m old new first rests within = ahead_and_still steps most m old new first (ap (λ x. is_quiet x m) rests) (rest_still m new rests) within

-- and one that is held
pub ahead_held : (steps most c : ℕ) (operation : ChanOp) (reply : Reply) (m : MachineState) (old between new : Processor) → IsAhead steps m old between → need between ≡ Channel c operation
    → event_of operation (history_of c m) ≡ None → reply ≡ reply_to operation (history_of c m)
    → new ≡ processor_after between (answers.Channel reply) → new ≡ between → steps ≤ most → IsAhead most m old new
ahead_held steps most c operation reply m old between new first asks none shown then held within =
    let step : step_beside m between ≡ new = ap (λ x. processor_after between (answer_to x m)) asks ∙ ap (λ r. processor_after between (answers.Channel r)) (sym shown) ∙ sym then in
    let all : IsAhead most m old between = ahead_and_still steps most m old between first (ap (λ x. is_quiet x m) asks ∙ ap is_none none) (step ∙ held) within in
    subst (λ (pp : Processor). IsAhead most m old pp) (sym held) all

-- a processor at rest is as far ahead as those behind its place
pub ahead_with_rest : (steps round place : ℕ) (m : MachineState) (ps qs : List Processor) → IsAtRest (get_or ps place no_processor) → AreAhead steps round (place + 1) m ps qs → AreAhead steps round place m ps qs
ahead_with_rest steps round place m ps qs rests further = grind (arith, eqb_tells, nothing_at_rest, still_ahead, rest_still)

-- a processor that went ahead, and then those behind its place, as far as it did
pub ahead_together : (steps round place : ℕ) (m : MachineState) (ps qs : List Processor) (new : Processor) → place < length ps → place < round → IsAhead steps m (get_or ps place no_processor) new
    → AreAhead steps round (place + 1) m (slice_set ps place new) qs → AreAhead steps round place m ps qs
ahead_together steps round place m ps qs new inside turn first further = grind (arith, length-set, get_or-set_other, eqb_tells, get_or-set_same)

-- where it was put back, and went as far as the others
pub ahead_again : (again steps most round place : ℕ) (m : MachineState) (ps qs : List Processor) (old between new : Processor) → place < length ps → place < round → old ≡ get_or ps place no_processor
    → IsAhead most m old between → steps < most → AreAhead steps round (place + 1) m (slice_set ps place between) qs
    → IsAhead again m old new → again ≤ steps → (again < steps → is_quiet (need new) m ≡ false)
    → AreAhead steps round place m ps (slice_set (slice_set qs place old) place new)
ahead_again again steps most round place m ps qs old between new inside turn here first within further then less exact = grind (arith, length-set, eqb_tells, get_or-set_same, get_or-set_other, ahead_together, leb_tells, false≢true)
