use Rattle.std.proofs.Common.{◌≡◌, ◌+◌, ◌-◌, ap, ◌∙◌, ◌^◌}
use Rattle.std.specs.Prelude.{min}
use Rattle.pp_machine.specs.MachineState.{MachineState}
use Rattle.pp_machine.proofs.RoundLemmas.{passed_to}
use Rattle.pp_machine.proofs.machine.Machine.pass_to.Goals as goal

pub returns-then-place-running-clause-ran : goal.returns-then-place-running-clause-ran
returns-then-place-running-clause-ran g c = λ p m within is.
    let now = c.args.self.now in
    let turns = c.saturating_add-self-inside.result in
    let counted : turns ≡ min (now.turns + (c.args.running - c.args.place)) (2 ^ 64 - 1) = c.saturating_add-self-inside.ensures ∙ ap (λ (n : MachineState). min (n.turns + (c.args.running - c.args.place)) (2 ^ 64 - 1)) c.self.view_is in
    ap (λ (n : MachineState). record n { turns = turns }) c.self.view_is
    ∙ ap (λ t. record now { turns = t }) counted
    ∙ passed_to p c.args.place c.args.running m now c.if-place-running.true c.requires within is
