use Rattle.std.proofs.Common.{◌≡◌, ℕ, ap, ◌∙◌, subst, arith}
use Rattle.pp_run.specs.BareMachine.{StandsFor}
use Rattle.pp_machine.specs.MachineState.{MachineState}
use Rattle.pp_numbers.specs.Profile.{processors_in}
use Rattle.pp_machine.specs.Run.{barrel, run}
use Rattle.pp_machine.proofs.RunLemmas.{barrel_more}
use Rattle.pp_ends.specs.Rounds.{after_rounds}
use Rattle.pp_numbers.proofs.ProfileLemmas.{in_turn_at}
use Rattle.pp_ends.proofs.FoundLemmas.{after_one}
use Rattle.pp_ends.proofs.rounds.run_round.Goals as goal

pub loop-place-preserved : goal.loop-place-preserved
loop-place-preserved g c = grind (arith, in_turn_at, barrel_more)

pub returns : goal.returns
returns g c = λ rounds m round stands.
    let all : c.loop-place.place ≡ processors_in m.profile = omega (arith, c.loop-place-test.false, c.loop-place.auto.place-end, round) in
    subst (λ (k : MachineState). StandsFor c.loop-place.bare k)
    (ap (λ (t : ℕ). run (barrel m.profile t) (after_rounds rounds m)) all ∙ after_one rounds m)
    (c.loop-place.invariant rounds m round stands)
