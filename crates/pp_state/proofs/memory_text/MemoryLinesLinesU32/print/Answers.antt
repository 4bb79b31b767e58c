use Rattle.std.proofs.Common.{◌*◌, ◌∙◌, ap, sym}
use Rattle.std.proofs.lemmas.Str.Ascii.{trim_ascii_end_is}
use Rattle.pp_text.proofs.PrintingLemmas.{◌▹◌, prints_nothing, prints_on}
use Rattle.pp_state.specs.MemoryText.{octal_words, shown_line, trimmed}
use Rattle.pp_state.proofs.MemoryTextLemmas.{line_shown, line_trimmed}
use Rattle.pp_state.proofs.memory_text.MemoryLinesLinesU32.print.Goals as goal
use Rattle.pp_state.proofs.memory_text.MemoryLinesLinesU32.print.Goals.{else-meets-via-then-meets+else-has_words, else-meets-via-else-meets}

pub returns-then-has_words-clause-text : goal.returns-then-has_words-clause-text
unfolding octal_words shown_line trimmed
returns-then-has_words-clause-text g c =
    let pp = c.args.self.now.pp.now in
    let place = c.args.number.now * 8 in
    prints_on _ _ _ _ _ _ _
    (prints_on _ _ _ _ _ _ _ ((rw c.from.ensures at c.print_octal.ensures) ▹ c.print.ensures ▹ c.print_each_below.ensures) c.print-then-has_words.ensures
    (line_trimmed pp place _ (trim_ascii_end_is _ _ c.trim_ascii_end.ensures.value ∙ ap trimmed c.displayed_field.ensures)))
    c.print-then-has_words-2.ensures
    (line_shown c.args.self.now.bounds pp place (sym c.meets.ensures ∙ c.if-meets.true) (sym c.has_words.ensures ∙ c.if-has_words.true))

pub returns-else-meets-clause-text : goal.returns-else-meets-clause-text
unfolding shown_line
returns-else-meets-clause-text g c = elim c.else-meets.branch [
  | else-meets-via-then-meets+else-has_words v ↦ rw (← c.meets.ensures, v.if-meets.true, ← v.has_words.ensures, v.if-has_words.false) (prints_nothing _ _)
  | else-meets-via-else-meets v ↦ rw (← c.meets.ensures, v.if-meets.false) (prints_nothing _ _)
]
