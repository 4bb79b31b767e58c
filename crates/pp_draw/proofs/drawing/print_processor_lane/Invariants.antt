use Rattle.pp_word.specs.Numeral.{octal}
use Rattle.std.proofs.Common.{◌++◌, codes, drop, None}
use Rattle.pp_numbers.specs.PpNo.{processor_index}
use Rattle.pp_draw.specs.Condition.{own_earlier, phases_from, processor_phases}
use Rattle.pp_draw.specs.DrawingText.{lanes_above}
use Rattle.pp_draw.specs.Lane.{drawn_from, lane_head}
use Rattle.pp_draw.proofs.LaneLemmas.{LeadsTo}
use Rattle.pp_draw.proofs.drawing.print_processor_lane.Given as goal

abbrev pub invariant-loop-step : goal.invariant-loop-step
invariant-loop-step g l =
    let w = l.fn.window in
    let name = codes "PP" ++ octal 2 l.n in
    LeadsTo g.W.Write.contents l.fn.text l.text (lane_head w (lanes_above (processor_index l.n) l.shown l.machine) name ++ drawn_from w name 0 (phases_from None (processor_phases l.n (own_earlier l.n l.steps.earlier ++ l.steps.shown.items)))) l.lane (processor_phases l.n (drop l.step-index l.steps.shown.items))
