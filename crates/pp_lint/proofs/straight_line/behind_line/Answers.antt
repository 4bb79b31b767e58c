use Rattle.std.proofs.Common.{refl, ap, ◌∙◌}
use Rattle.pp_lint.specs.StraightLine.{behind_all}
use Rattle.pp_lint.proofs.RunLemmas.{behind_name, behind_other, behind_words}
use Rattle.pp_lint.proofs.straight_line.behind_line.Goals as goal

pub returns-in-Name : goal.returns-in-Name
returns-in-Name g c = λ notes before shows gives. behind_name c.args.profile notes _ c.args.reached.now c.args.kind.now _ c.in-Name.is

pub returns-in-Word : goal.returns-in-Word
returns-in-Word g c = λ notes before shows gives.
    c.behind_all.ensures notes shows ∙ ap (behind_all c.args.profile notes c.in-Word.n c.args.reached.now) (c.instructions_of.ensures before (gives.clean (rw c.in-Word.is refl)))
    ∙ behind_words c.args.profile notes _ c.args.reached.now c.args.kind.now c.in-Word.n c.in-Word.is

pub returns-in_default : goal.returns-in_default
returns-in_default g c = λ notes before shows gives. behind_other c.args.profile notes _ c.args.reached.now c.args.kind.now c.in_default.not-Word c.in_default.not-Name
