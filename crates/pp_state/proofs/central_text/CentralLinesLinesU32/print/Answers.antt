use Rattle.std.proofs.Common.{◌∙◌}
use Rattle.std.proofs.lemmas.Bool.{ne_eqb}
use Rattle.std.proofs.lemmas.List.{get_or_default}
use Rattle.pp_text.proofs.PrintingLemmas.{◌▹◌, prints_nothing}
use Rattle.pp_state.specs.CentralText.{central_line, shown_word}
use Rattle.pp_state.proofs.central_text.CentralLinesLinesU32.print.Goals as goal
use Rattle.pp_state.proofs.central_text.CentralLinesLinesU32.print.Goals.{else-meets-via-then-meets+else-word-ne0, else-meets-via-else-meets}

pub returns-then-word-ne0-clause-text : goal.returns-then-word-ne0-clause-text
unfolding shown_word central_line
returns-then-word-ne0-clause-text g c =
    let word = c.get-word.ensures.value ∙ (rw c.words.ensures.value at c.index-words-address.is) ∙ get_or_default _ _ _ 0 c.requires in
    rw (← word, ← c.meets.ensures, c.if-meets.true, ne_eqb c.get-word.result 0 c.if-word-ne0.true)
    ((rw c.from.ensures at c.print_octal.ensures) ▹ c.print.ensures ▹ c.print_octal-then-word-ne0.ensures ▹ c.print-then-word-ne0.ensures ▹ c.print_displayed.ensures ▹ c.print-then-word-ne0-2.ensures)

pub returns-else-meets-clause-text : goal.returns-else-meets-clause-text
unfolding shown_word
returns-else-meets-clause-text g c = elim c.else-meets.branch [
  | else-meets-via-then-meets+else-word-ne0 v ↦
      let word = c.get-word.ensures.value ∙ (rw c.words.ensures.value at c.index-words-address.is) ∙ get_or_default _ _ _ 0 c.requires in
      rw (← word, ← c.meets.ensures, v.if-meets.true, v.if-word-ne0.false) (prints_nothing _ _)
  | else-meets-via-else-meets v ↦ rw (← c.meets.ensures, v.if-meets.false) (prints_nothing _ _)
]
