use Rattle.std.proofs.Common.{append_assoc, subst}
use Rattle.pp_lint.specs.FirstLines.{Shows}
use Rattle.pp_lint.specs.Given.{note_if}
use Rattle.pp_lint.specs.declared.row.Kind.TheVariants.{Channel, Target}
use Rattle.pp_lint.proofs.first_lines.FirstLines.note_instruction.Goals as goal

pub returns : goal.returns
returns g c = λ notes shows.
    let both = c.note_channel.ensures _ (c.note_target.ensures notes shows) in
    let target = note_if c.args.number (Target c.args.n) c.leads_to.result in
    let channel = note_if c.args.number (Channel c.args.n) c.channel_named.result in
    rw (← c.leads_to.ensures, ← c.channel_named.ensures) (subst (Shows c.note_channel.new.self) (append_assoc notes target channel) both)
