use Rattle.pp_text.proofs.PrintingLemmas.{◌▹◌, prints_on}
use Rattle.std.proofs.Common.{◌∙◌}
use Rattle.pp_listing.proofs.TextLemmas.{one_word_pieces, two_words_pieces}
use Rattle.pp_listing.proofs.instruction_lines.print_instruction.Goals.{then-i, else-i}
use Rattle.pp_listing.proofs.instruction_lines.print_instruction.Goals as goal

pub returns : goal.returns
returns g c =
    let i = c.args.i.now in
    prints_on _ _ _ _ _ _ _ (c.print.ensures ▹ c.print-2.ensures ▹ c.print-3.ensures ▹ c.print-4.ensures ▹ c.print-5.ensures ▹ c.print-6.ensures ▹ c.print_running.ensures) c.print-7.ensures (elim c.if-i.branch [
      | then-i w ↦ rw w.if-i.true (two_words_pieces i.place i.word i.next _ _ _ _ _ _ c.octal4.ensures c.octal4-2.ensures (w.second-is ∙ w.octal4-second.ensures) c.get-2.ensures.value c.get-3.ensures.value w.get.ensures.value)
      | else-i w ↦ rw w.if-i.false (one_word_pieces i.place i.word i.next _ _ _ _ _ c.octal4.ensures c.octal4-2.ensures w.second-is c.get-2.ensures.value c.get-3.ensures.value)
    ])
