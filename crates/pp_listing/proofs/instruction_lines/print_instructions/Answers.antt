use Rattle.std.proofs.Common.{[], ◌++◌, ap, append_assoc, subst, sym, ◌∙◌}
use Rattle.std.specs.List.{flat_map}
use Rattle.std.proofs.lemmas.List.{append-nil}
use Rattle.pp_listing.specs.ListedLine.{listed_line, text_line}
use Rattle.pp_text.proofs.PrintingLemmas.{prints_nothing, prints_then}
use Rattle.pp_text.specs.TextWriter.{Prints}
use Rattle.pp_listing.proofs.instruction_lines.print_instructions.Goals as goal

pub loop-i-init : goal.loop-i-init
loop-i-init g c = ([], prints_nothing _ _, ap (flat_map text_line) c.of-instructions.ensures)

pub loop-i-preserved : goal.loop-i-preserved
loop-i-preserved g c = let (printed, prints, rest) = c.loop-i.invariant in (
  _,
  prints_then _ _ _ _ printed _ prints c.print_instruction.ensures,
  append_assoc printed (text_line (listed_line c.in-Some.i)) _ ∙ ap (λ is. printed ++ flat_map text_line is) (sym c.in-Some.ensures.taken) ∙ rest,
)

pub returns : goal.returns
returns g c = let (printed, prints, rest) = c.loop-i.invariant in
    subst (Prints g.W.Write.contents c.args.text.now c.loop-i.text) (sym (append-nil printed) ∙ ap (λ is. printed ++ flat_map text_line is) (sym c.in_default.ensures.none) ∙ rest) prints
