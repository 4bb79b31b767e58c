use Rattle.std.proofs.Common.{refl, ap, ◌∙◌, ◌++◌, subst, sym}
use Rattle.std.specs.List.{flat_map}
use Rattle.pp_lint.specs.FirstLines.{Shows}
use Rattle.pp_lint.specs.Given.{notes_of_instruction}
use Rattle.pp_lint.proofs.RunLemmas.{same_within, start_within, words_within}
use Rattle.pp_lint.proofs.first_lines.FirstLines.note_within.Goals as goal

pub returns-in-Start : goal.returns-in-Start
returns-in-Start g c = λ notes before shows gives.
    subst (Shows c.note_target.new.self) (ap (λ ns. notes ++ ns) (start_within c.args.profile _ c.args.number c.args.kind.now c.in-Start.n _ c.in-Start.is (gives.start c.in-Start.n c.in-Start.is ∙ sym c.place_of_start.ensures)))
    (c.note_target.ensures notes shows)

pub returns-in-Word : goal.returns-in-Word
returns-in-Word g c = λ notes before shows gives.
    subst (Shows c.note_instructions.new.self) (ap (λ ns. notes ++ ns)
    (ap (flat_map (notes_of_instruction c.args.number c.args.profile c.in-Word.n)) (c.instructions_of.ensures before (gives.clean (rw c.in-Word.is refl))) ∙ sym (words_within c.args.profile _ c.args.number c.args.kind.now c.in-Word.n c.in-Word.is)))
    (c.note_instructions.ensures notes shows)

pub returns-in_default : goal.returns-in_default
returns-in_default g c = λ notes before shows gives. subst (Shows c.args.self.now) (same_within c.args.profile _ c.args.number c.args.kind.now notes c.in_default.not-Word c.in_default.not-Start) shows
