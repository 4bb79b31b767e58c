use Rattle.std.proofs.Common.{subst}
use Rattle.pp_lint.specs.FirstLines.{Shows}
use Rattle.pp_lint.proofs.FirstLinesLemmas.{notes_more}
use Rattle.pp_lint.proofs.first_lines.FirstLines.note.Goals as goal

pub loop-i-preserved : goal.loop-i-preserved
loop-i-preserved g c = λ notes shows.
    subst (Shows c.note_one.new.self) (notes_more c.args.number c.args.row.now notes c.loop-i.i) (c.note_one.ensures _ (c.loop-i.invariant notes shows))
