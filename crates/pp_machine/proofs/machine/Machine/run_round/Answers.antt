use Rattle.std.proofs.Common.{arith, ◌≡◌, ap, sym, subst, ◌∙◌, get_or}
use Rattle.pp_machine.specs.MachineState.{MachineState}
use Rattle.pp_machine.specs.MachineStep.{stepped}
use Rattle.pp_numbers.specs.Profile.{processor_in_turn}
use Rattle.pp_machine.specs.Rounds.{PassesOverRest}
use Rattle.pp_machine.specs.Run.{run, barrel}
use Rattle.pp_machine.proofs.RoundLemmas.{passes_over_stepped}
use Rattle.pp_machine.proofs.RunLemmas.{some_event, barrel_more}
use Rattle.pp_numbers.proofs.ProfileLemmas.{in_turn_at}
use Rattle.pp_machine.proofs.machine.Machine.run_round.Goals as goal

pub loop-self-preserved : goal.loop-self-preserved
loop-self-preserved g c =
    let running = get_or c.args.next.now c.loop-self.place 0 in
    let p = c.args.self.now.profile in
    let turn : processor_in_turn p running ≡ c.at.result = in_turn_at p running (omega arith) ∙ sym c.at.ensures.number in
    let ok : c.step_in_barrel.new.self ≡ stepped (processor_in_turn p running) c.pass_to-in-loop-self.new.self = c.in-Ok.ensures.step.ok ∙ ap (λ n. stepped n c.pass_to-in-loop-self.new.self) (sym turn) in
    let passed : c.pass_to-in-loop-self.new.self ≡ run (barrel p running) c.args.self.now = c.pass_to-in-loop-self.ensures.ran p c.args.self.now (omega arith) c.loop-self.invariant.ran in
    let P : MachineState → Type 0 = λ m. PassesOverRest c.args.next.now m.processors in
    record {
      ran = ok ∙ ap (stepped (processor_in_turn p running)) passed ∙ sym (barrel_more p running c.args.self.now);
      within = omega arith;
      passes = subst P (sym ok) (passes_over_stepped c.args.next.now (processor_in_turn p running) c.pass_to-in-loop-self.new.self (subst (λ pps. PassesOverRest c.args.next.now pps) (sym c.pass_to-in-loop-self.ensures.processors) c.loop-self.invariant.passes));
      headline = c.step_in_barrel.ensures.headline;
    }

pub returns-in_default-clause-cut : goal.returns-in_default-clause-cut
returns-in_default-clause-cut g c = grind (arith, in_turn_at, some_event)
