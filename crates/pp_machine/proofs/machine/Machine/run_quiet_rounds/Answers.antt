use Rattle.std.proofs.Common.{arith, ◌≡◌, ◌≤◌, ◌+◌, ◌-◌, ◌*◌, ◌^◌, ap, sym, subst, ◌∙◌, length, List}
use Rattle.std.specs.Prelude.{min}
use Rattle.pp_machine.specs.MachineState.{MachineState}
use Rattle.pp_processor.specs.Processor.{Processor}
use Rattle.pp_numbers.specs.PpNo.{processor_count}
use Rattle.pp_numbers.specs.Profile.{processors_in}
use Rattle.pp_machine.specs.Quiet.{AreAhead}
use Rattle.pp_numbers.proofs.ProfileLemmas.{most_processors}
use Rattle.pp_machine.proofs.QuietLemmas.{rounds_ahead}
use Rattle.pp_machine.proofs.machine.Machine.run_quiet_rounds.Goals as goal

pub invariant_of-self : goal.invariant_of-self
invariant_of-self g c = grind arith

pub returns-clause-ran : goal.returns-clause-ran
returns-clause-ran g c =
    let now = c.args.self.now in
    let p = now.profile in
    let new = c.run_ahead-rounds.new.processors.items in
    let rounds = c.run_ahead-rounds.result in
    let turns = c.saturating_add-self-inside.result in
    let was : c.self.inside.turns ≡ now.turns = ap (λ (n : MachineState). n.turns) c.self.view_is in
    let old : c.self.inside.processors.items ≡ now.processors = ap (λ (n : MachineState). n.processors) c.self.view_is in
    let histories : now.histories ≡ c.self.inside.channels.items = sym (ap (λ (n : MachineState). n.histories) c.self.view_is) in
    let all : length now.processors ≡ processor_count = ap (λ (ps : List Processor). length ps) (sym old) ∙ c.self.invariant.processors in
    let most = most_processors p in
    let bound : now.turns ≤ 2 ^ 64 - 1 = omega (arith, was) in
    let round : c.round-round.result ≡ processors_in p = c.round-round.ensures in
    let product : c.from.result * c.from-2.result ≡ rounds * processors_in p = ap (λ k. k * c.from-2.result) c.from.ensures ∙ ap (λ k. rounds * k) (c.from-2.ensures ∙ round) in
    let counted : turns ≡ min (now.turns + rounds * processors_in p) (2 ^ 64 - 1) = omega (arith, was, product, c.saturating_add-self-inside.ensures) in
    let ahead : AreAhead rounds c.round-round.result 0 now now.processors new = subst (λ (ps : List Processor). AreAhead rounds c.round-round.result 0 now ps new) old (c.run_ahead-rounds.ensures.ahead now histories) in
    let by_rounds : AreAhead rounds (processors_in p) 0 now now.processors new = subst (λ round. AreAhead rounds round 0 now now.processors new) round ahead in
    ap (λ (n : MachineState). record n { processors = new; turns = turns }) c.self.view_is
    ∙ ap (λ t. record now { processors = new; turns = t }) counted
    ∙ rounds_ahead p rounds now new (omega arith) bound by_rounds
