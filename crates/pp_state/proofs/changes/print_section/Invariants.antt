use Rattle.std.proofs.Common.{◌≡◌, ◌<◌}
use Rattle.std.specs.List.{flat_map, range_with_len}
use Rattle.pp_text.specs.TextWriter.{Prints}
use Rattle.pp_listing.specs.ListedLine.{deck_line}
use Rattle.pp_state.specs.Changes.{line_from, position_on_line}
use Rattle.pp_state.proofs.changes.print_section.Given as goal

abbrev pub invariant-loop-place : goal.invariant-loop-place
invariant-loop-place g l = record {
  text : Prints g.W.Write.contents l.initial.text l.text (flat_map deck_line (flat_map (line_from l.before.memory l.after.memory) (range_with_len 0 l.place)));
  in_front : l.in_front ≡ position_on_line l.before.memory l.after.memory l.place;
  few : l.in_front < 8;
}
