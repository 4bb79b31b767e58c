use Rattle.std.proofs.Common.{sym, subst, ◌∙◌}
use Rattle.pp_text.proofs.PrintingLemmas.{◌▹◌, prints_nothing, prints_on}
use Rattle.pp_text.specs.TextWriter.{Prints}
use Rattle.pp_steps.proofs.PlaceLemmas.{central_changed, centrals_go, centrals_stay, same_central}
use Rattle.pp_steps.proofs.step_line.print_central.Goals as goal

pub returns-in_default : goal.returns-in_default
returns-in_default g c = λ m old new. subst (Prints _ _ _) (sym (centrals_stay c.args.need.now m c.args.before.now c.args.after.now c.in_default.not-Write old new)) (prints_nothing _ _)

pub returns-then-word-central_word : goal.returns-then-word-central_word
returns-then-word-central_word g c = λ m old new.
    subst (Prints _ _ _)
    (sym (centrals_go c.args.need.now m c.args.before.now c.args.after.now c.in-Write.address c.in-Write.field-1 c.in-Write.is old new
    ∙ same_central c.args.before.now c.args.after.now c.in-Write.address (sym c.central_word-word.ensures ∙ c.if-word-central_word.true ∙ c.central_word.ensures)))
    (prints_nothing _ _)

pub returns : goal.returns
returns g c = λ m old new.
    prints_on _ _ _ _ _ _ _ (c.print.ensures ▹ c.print-2.ensures ▹ c.print-3.ensures) c.print_octal.ensures
    (rw (c.octal6.ensures, c.get.ensures.value) (central_changed c.args.before.now c.args.after.now c.in-Write.address c.central_word-word.result c.central_word.result c.central_word-word.ensures c.central_word.ensures c.if-word-central_word.false)
    ∙ sym (centrals_go c.args.need.now m c.args.before.now c.args.after.now c.in-Write.address c.in-Write.field-1 c.in-Write.is old new))
