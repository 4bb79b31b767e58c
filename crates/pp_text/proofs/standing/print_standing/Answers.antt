use Rattle.std.proofs.Common.{◌++◌, ap, codes, sym, subst, ◌∙◌, ℕ}
use Rattle.pp_word.specs.Numeral.{octal}
use Rattle.pp_text.specs.Standing.{block_place_text}
use Rattle.pp_text.specs.TextWriter.{Prints}
use Rattle.pp_text.proofs.PrintingLemmas.{◌▹◌, prints_nothing, prints_on}
use Rattle.pp_text.proofs.standing.print_standing.Goals as goal
use Rattle.pp_text.proofs.standing.print_standing.Goals.{in-Some, in_default}

pub returns : goal.returns
returns g c =
    let block : Prints g.W.Write.contents c.print_running.new.text c.match-block.text (block_place_text c.block-2.result) =
    elim c.match-block.branch [
      | in-Some w ↦ rw w.text-is (prints_on _ _ _ _ (codes " BLOCK ") _ _ w.print-in-Some.ensures w.print-in-Some-2.ensures
          (ap (λ t. codes " BLOCK " ++ t) w.octal4.ensures ∙ ap (λ (n : ℕ). codes " BLOCK " ++ octal 4 n) w.get-in-Some.ensures.value ∙ ap block_place_text (sym w.in-Some.is)))
      | in_default w ↦ rw w.text-is (subst (Prints _ _ _) (ap block_place_text (sym w.in_default.is)) (prints_nothing _ _))
    ] in
    (rw (c.state.ensures.value, c.pp-pp.ensures) at c.print_state_text.ensures) ▹ c.print.ensures
    ▹ (rw (c.block.ensures.value, c.get-2.ensures.value, c.get.ensures.value, c.next.ensures, c.p-place.ensures, c.pp-pp.ensures) at c.print_running.ensures)
    ▹ (rw (c.block-2.ensures.value, c.pp-pp.ensures) at block) ▹ c.print_held.ensures
