use Rattle.std.proofs.Common.{refl, ℕ, ◌≡◌, ◌<◌, ◌/◌, ◌%◌, ◌*◌, ◌+◌, sym, ap, subst, ◌∙◌, arith}
use Rattle.pp_numbers.specs.Profile.{processors_in}
use Rattle.pp_numbers.specs.declared.profile.Profile.{Profile}
use Rattle.pp_machine.specs.Rounds.{IsEventAt, whole_rounds}
use Rattle.pp_machine.specs.Run.{run, barrel}
use Rattle.pp_numbers.proofs.ProfileLemmas.{rest_within, rounds_and_rest}
use Rattle.pp_machine.proofs.OrderLemmas.{barrel_cut, barrel_made}
use Rattle.pp_machine.proofs.RoundLemmas.{profile_after, counted_rounds, turns_after, event_after}
use Rattle.pp_machine.proofs.machine.Machine.run_barrel.Goals as goal
use Rattle.pp_machine.proofs.machine.Machine.run_barrel.Goals.{In-Err}

pub run_passing-requires-clause-round : goal.run_passing-requires-clause-round
run_passing-requires-clause-round g c =
    let m = c.args.self.now in
    let same = profile_after (whole_rounds m.profile (c.args.turns / c.round-round.result)) m c.run_rounds.new.self c.in_default.ensures.ok in
    let round : c.round-round.result ≡ processors_in m.profile = c.round-round.ensures in
    let rest : c.args.turns % c.round-round.result < processors_in m.profile = subst (λ k. c.args.turns % k < processors_in m.profile) (sym round) (rest_within m.profile c.args.turns) in
    let within : c.args.turns % c.round-round.result < processors_in c.run_rounds.new.self.profile = subst (λ p. c.args.turns % c.round-round.result < processors_in p) (sym same) rest in
    omega (arith, within)

-- whole rounds, and the turns of the last
whole_and_rest : (p : Profile) (round turns : ℕ) → round ≡ processors_in p → turns / round * processors_in p + turns % round ≡ turns
whole_and_rest p round turns is = subst (λ k. turns / k * processors_in p + turns % k ≡ turns) (sym is) (rounds_and_rest p turns)

pub returns-in-Ok-clause-run : goal.returns-in-Ok-clause-run
returns-in-Ok-clause-run g c =
    let m = c.args.self.now in
    let whole = c.args.turns / c.round-round.result in
    let rest = c.args.turns % c.round-round.result in
    let one : 1 * rest ≡ rest = omega arith in
    let all : whole * processors_in m.profile + rest ≡ c.args.turns = whole_and_rest m.profile c.round-round.result c.args.turns c.round-round.ensures in
    record {
      ran = turns_after whole rest (whole * processors_in m.profile) m c.run_rounds.new.self c.run_passing.new.self c.in_default.ensures.ok refl (c.in-Ok.ensures.ok ∙ ap (λ k. run (barrel c.run_rounds.new.self.profile k) c.run_rounds.new.self) one) ∙ ap (λ k. run (barrel m.profile k) m) all;
      cut = tt;
      headline = c.run_passing.ensures.headline;
    }

pub returns-in-Err-run_passing-clause-run : goal.returns-in-Err-run_passing-clause-run
returns-in-Err-run_passing-clause-run g c =
    let m = c.args.self.now in
    let done = c.from.result * c.from-in-Err-run_passing.result + c.in-Err-run_passing.before in
    let at_event : IsEventAt c.args.turns m done = grind (arith, counted_rounds, whole_and_rest, event_after) in
    let made : c.run_passing.new.self ≡ run (barrel m.profile done) m = turns_after (c.args.turns / c.round-round.result) c.in-Err-run_passing.before (c.from.result * c.from-in-Err-run_passing.result) m c.run_rounds.new.self c.run_passing.new.self c.in_default.ensures.ok (counted_rounds m.profile c.from.result c.from-in-Err-run_passing.result (c.args.turns / c.round-round.result) c.round-round.result c.from.ensures c.from-in-Err-run_passing.ensures c.round-round.ensures) c.in-Err-run_passing.ensures.cut.ran in
    record { ran = tt; cut = barrel_made c.args.turns done m c.run_passing.new.self at_event made; headline = c.run_passing.ensures.headline }

pub returns-in-Err-run_passing-clause-cut_at_event : goal.returns-in-Err-run_passing-clause-cut_at_event
returns-in-Err-run_passing-clause-cut_at_event g c =
    let done = c.from.result * c.from-in-Err-run_passing.result + c.in-Err-run_passing.before in
    let at_event : IsEventAt c.args.turns c.args.self.now done = grind (arith, counted_rounds, whole_and_rest, event_after) in
    barrel_cut c.args.turns done c.args.self.now at_event

at_event_of_round : (g : _) (c : In-Err g) → IsEventAt c.args.turns c.args.self.now c.in-Err.done
at_event_of_round g c = grind (arith, whole_and_rest)

pub returns-in-Err-clause-run : goal.returns-in-Err-clause-run
returns-in-Err-clause-run g c = grind (arith, barrel_made, at_event_of_round, goal.at.returns-in-Err-clause-run)

pub returns-in-Err-clause-cut_at_event : goal.returns-in-Err-clause-cut_at_event
returns-in-Err-clause-cut_at_event g c = barrel_cut c.args.turns _ c.args.self.now (at_event_of_round g (goal.at.returns-in-Err-clause-cut_at_event g c).In-Err)
