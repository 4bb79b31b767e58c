use Rattle.std.proofs.Common.{refl}
use Rattle.pp_text.proofs.PrintingLemmas.{◌▹◌, prints_on}
use Rattle.pp_steps.proofs.LineLemmas.{heading_in_pieces}
use Rattle.pp_steps.proofs.step_line.print_heading.Goals as goal

pub returns : goal.returns
returns g c =
    let place = c.p-place.ensures in
    let word = c.get-word.ensures.value in
    let m = c.get-m.ensures.value in
    prints_on _ _ _ _ _ _ _ (c.print_upper_digits-lower.ensures.text ▹ c.print.ensures ▹ c.print-2.ensures ▹ c.print-3.ensures) (c.print-4.ensures ▹ c.print-5.ensures)
    (heading_in_pieces _ _ _ _ _ c.args.turn c.args.n c.args.pp.now c.args.a refl
    (rw (c.print_upper_digits-lower.ensures.rest, place) at c.turn_and_place.ensures)
    (rw (c.block.ensures.value, word, m, c.next.ensures, place) at c.words_field.ensures)
    (rw (c.block-2.ensures.value, word, m, c.next.ensures, place) at c.running_field.ensures)
    (rw (c.octal6.ensures, c.get.ensures.value)))
