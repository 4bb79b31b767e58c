use Rattle.std.proofs.Common.{◌≡◌, ap, ◌∙◌, subst}
use Rattle.pp_machine.specs.MachineState.{processor_of}
use Rattle.pp_machine.specs.MachineStep.{answer_to}
use Rattle.pp_processor.specs.NeedAndEffect.{need, processor_after}
use Rattle.pp_processor.specs.PpMemory.{IsMemory}
use Rattle.pp_processor.specs.Processor.{Processor}
use Rattle.pp_ends.specs.ProgressMark.{mark_of}
use Rattle.pp_ends.proofs.QuietLemmas.{by_same}
use Rattle.pp_ends.proofs.quiet.would_move.Goals as goal

pub returns : goal.returns
returns g c = λ m stands.
    let n = c.args.n in
    let is : c.pp-pp.result.now ≡ processor_of n m = c.pp-pp.ensures.value m stands in
    let answer : c.peek_answer-answer.result ≡ answer_to (need (processor_of n m)) m =
    c.peek_answer-answer.ensures.answer m stands
    ∙ ap (λ x. answer_to x m) (c.wants.ensures.need ∙ ap need is) in
    by_same n m c.of-2.result c.of.result c.is_same.result
    (subst (λ (pp : Processor). IsMemory pp.memory) is c.of-2.ensures.widths.memory)
    (c.of-2.ensures.mark ∙ ap mark_of is)
    (c.of.ensures.mark
    ∙ ap mark_of (c.give-outcome.ensures.after ∙ ap (λ pp. processor_after pp c.peek_answer-answer.result) (c.copy-after.ensures ∙ is)
    ∙ ap (processor_after (processor_of n m)) answer))
    c.is_same.ensures
