use Rattle.std.proofs.Common.{ap, sym, ◌∙◌, Option}
use Rattle.pp_channel.specs.History.{active}
use Rattle.pp_channel.specs.declared.flags.Flags.{Flags}
use Rattle.pp_processor.specs.Processor.{Processor}
use Rattle.pp_processor.specs.declared.block.Block.{Block}
use Rattle.pp_text.proofs.HeldLemmas.{test_looked, test_made, test_none, goes_on}
use Rattle.pp_text.proofs.standing.is_held.Goals as goal
use Rattle.pp_text.proofs.standing.is_held.Goals.{then-only_looks-via-then-only_looks, then-only_looks-via-else-only_looks+then-is_some}

pub returns-then-only_looks : goal.returns-then-only_looks
returns-then-only_looks g c = elim c.then-only_looks.branch [
  | then-only_looks-via-then-only_looks w ↦ test_looked c.args.n c.args.c c.args.operation c.args.machine.now c.requires (sym c.only_looks.ensures.value ∙ w.if-only_looks.true)
  | then-only_looks-via-else-only_looks+then-is_some w ↦
      test_made c.args.n c.args.c c.args.operation c.args.machine.now w.next_event.result c.channel-channel.result.now
      c.requires c.channel-channel.ensures.value w.next_event.ensures.event (sym w.is_some.ensures ∙ w.if-is_some.true)
]

pub returns-in-None : goal.returns-in-None
unfolding goes_on
returns-in-None g c =
    test_none c.args.n c.args.c c.args.operation c.args.machine.now c.next_event.result c.channel-channel.result.now c.block.result _
    c.requires (sym c.only_looks.ensures.value ∙ c.if-only_looks.false) c.channel-channel.ensures.value c.next_event.ensures.event (sym c.is_some.ensures ∙ c.if-is_some.false)
    (c.block.ensures.value ∙ ap (λ (pp : Processor). pp.block) c.pp.ensures)
    (ap (λ (block : Option Block). goes_on block (active c.channel-channel.result.now)) c.in-None.is)

pub returns-in-Some : goal.returns-in-Some
unfolding goes_on
returns-in-Some g c =
    test_none c.args.n c.args.c c.args.operation c.args.machine.now c.next_event.result c.channel-channel.result.now c.block.result _
    c.requires (sym c.only_looks.ensures.value ∙ c.if-only_looks.false) c.channel-channel.ensures.value c.next_event.ensures.event (sym c.is_some.ensures ∙ c.if-is_some.false)
    (c.block.ensures.value ∙ ap (λ (pp : Processor). pp.block) c.pp.ensures)
    (ap (λ (block : Option Block). goes_on block (active c.channel-channel.result.now)) c.in-Some.is ∙ sym (ap (λ (flags : Flags). flags.active) c.flags.ensures))
