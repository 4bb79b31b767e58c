use Rattle.std.proofs.Common.{refl, ap, append_assoc, subst, sym, ◌∙◌, ◌++◌}
use Rattle.std.specs.List.{flat_map}
use Rattle.std.proofs.lemmas.List.{append-nil}
use Rattle.pp_lint.specs.FirstLines.{Shows}
use Rattle.pp_lint.specs.Given.{notes_of_instruction}
use Rattle.pp_lint.proofs.first_lines.FirstLines.note_instructions.Goals as goal

pub loop-i-init : goal.loop-i-init
loop-i-init g c = λ notes shows. (notes, (shows, refl))

pub loop-i-preserved : goal.loop-i-preserved
loop-i-preserved g c = λ notes shows.
    let each = notes_of_instruction c.args.number c.args.profile c.args.n in
    let so_far = c.loop-i.invariant notes shows in (
      so_far.0 ++ each c.in-Some.i,
      (
        c.note_instruction.ensures _ so_far.1.0,
        append_assoc so_far.0 (each c.in-Some.i) _ ∙ ap (λ is. so_far.0 ++ flat_map each is) (sym c.in-Some.ensures.taken) ∙ so_far.1.1,
      ),
    )

pub returns : goal.returns
returns g c = λ notes shows.
    let each = notes_of_instruction c.args.number c.args.profile c.args.n in
    let all = c.loop-i.invariant notes shows in
    subst (Shows c.loop-i.self) (sym (append-nil all.0) ∙ ap (λ is. all.0 ++ flat_map each is) (sym c.in_default.ensures.none.0) ∙ all.1.1) all.1.0
