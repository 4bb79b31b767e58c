use Rattle.std.proofs.Common.{ℕ, ◌<◌}
use Rattle.std.specs.List.{flat_map}
use Rattle.pp_numbers.specs.Tables.{tabulate}
use Rattle.pp_numbers.specs.ChannelNo.{channel_number}
use Rattle.pp_text.specs.TextWriter.{Prints}
use Rattle.pp_text.proofs.lines.print_each_channel.Given as goal

abbrev pub invariant-loop-place : goal.invariant-loop-place
invariant-loop-place g l = record {
  text : Prints g.W.Write.contents l.fn.text l.text (flat_map (g.L.Lines.text_of l.lines) (tabulate l.place channel_number));
  fits : (k : ℕ) → k < l.place → g.L.Lines.Fits l.lines (channel_number k);
}
