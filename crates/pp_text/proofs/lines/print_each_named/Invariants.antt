use Rattle.std.proofs.Common.{ℕ, ◌<◌, []}
use Rattle.std.specs.Prelude.{IsTrue, if◌then◌else◌}
use Rattle.std.specs.List.{flat_map}
use Rattle.pp_numbers.specs.Tables.{tabulate}
use Rattle.pp_numbers.specs.PpNo.{is_named, processor_number}
use Rattle.pp_text.specs.TextWriter.{Prints}
use Rattle.pp_text.proofs.lines.print_each_named.Given as goal

abbrev pub invariant-loop-place : goal.invariant-loop-place
invariant-loop-place g l = record {
  text : Prints g.W.Write.contents l.fn.text l.text
      (flat_map (λ n. if is_named l.named n then g.L.Lines.text_of l.lines n else []) (tabulate l.place processor_number));
  fits : (k : ℕ) → k < l.place → IsTrue (is_named l.named (processor_number k)) → g.L.Lines.Fits l.lines (processor_number k);
}
