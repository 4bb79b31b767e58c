use Rattle.std.proofs.Common.{refl, sym, ◌∙◌, arith}
use Rattle.std.proofs.lemmas.Bool.{le-leb, lt-ltb}
use Rattle.pp_text.proofs.PrintingLemmas.{◌▹◌}
use Rattle.pp_draw.proofs.lane.print_part.Goals as goal

pub returns : goal.returns
returns g c =
    let part = c.args.part.now in
    let seen = lt-ltb part.start part.end (omega (arith, c.if-part.false)) in
    let near = le-leb c.args.free part.start (omega (arith, c.if-free-part.false)) in
    let label = sym c.face.ensures.label ∙ c.in-Some.is in record {
      text = rw (seen, near, label) (c.print_band.ensures ▹ (rw c.class.ensures at c.print_text_tag.ensures ▹ c.print.ensures ▹ c.print-2.ensures));
      free = rw (seen, near, label) refl;
    }
