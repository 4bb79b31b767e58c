use Rattle.pp_word.specs.Numeral.{octal}
use Rattle.std.proofs.Common.{◌++◌, codes, drop, None}
use Rattle.std.specs.List.{filter_map}
use Rattle.pp_draw.specs.Condition.{channel_phases, phase_on, phases_from}
use Rattle.pp_draw.specs.DrawingText.{used_among}
use Rattle.pp_draw.specs.Lane.{drawn_from, lane_head}
use Rattle.pp_numbers.specs.ChannelNo.{channel_index}
use Rattle.pp_draw.proofs.LaneLemmas.{LeadsTo}
use Rattle.pp_draw.proofs.drawing.print_channel_lane.Given as goal

abbrev pub invariant-loop-entry : goal.invariant-loop-entry
invariant-loop-entry g l =
    let w = l.fn.window in
    let name = codes "CH" ++ octal 2 l.c in
    LeadsTo g.W.Write.contents l.fn.text l.text (lane_head w (used_among (channel_index l.c) l.machine) name ++ drawn_from w name 0 (phases_from None (channel_phases l.c l.machine))) l.lane (filter_map (phase_on l.c) (drop l.entry-index l.entry-items))
