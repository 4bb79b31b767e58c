use Rattle.std.proofs.Common.{All, take}
use Rattle.std.specs.List.{flat_map}
use Rattle.pp_text.specs.TextWriter.{Prints}
use Rattle.pp_text.proofs.lines.print_each.Given as goal

abbrev pub invariant-loop-item : goal.invariant-loop-item
invariant-loop-item g l = record {
  text : Prints g.W.Write.contents l.fn.text l.text (flat_map (g.L.Lines.text_of l.lines) (take l.item-index l.items));
  fits : All (g.L.Lines.Fits l.lines) (take l.item-index l.items);
}
