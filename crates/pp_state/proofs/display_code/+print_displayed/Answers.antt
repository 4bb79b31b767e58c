use Rattle.pp_text.proofs.PrintingLemmas.{prints_on}
use Rattle.pp_state.proofs.MemoryTextLemmas.{displayed_more}
use Rattle.pp_state.proofs.display_code.+print_displayed.Goals as goal

pub returns : goal.returns
returns g t c =
    prints_on _ _ _ _ _ _ _ c.print_displayed.ensures (rw c.display_character.ensures at c.print.ensures)
    (displayed_more c.args.width c.args.word c.if-width-eq0.false)
