use Rattle.pp_numbers.specs.ChannelNo.{channel_number}
use Rattle.pp_numbers.specs.PpNo.{processor_number}
use Rattle.pp_text.specs.PrintedText.{each_below}
use Rattle.pp_text.specs.TextWriter.{Prints}
use Rattle.pp_draw.specs.DrawingText.{channel_lane, processor_lane}
use Rattle.pp_draw.proofs.drawing.write_drawing.Given as goal

abbrev pub invariant-loop-place : goal.invariant-loop-place
invariant-loop-place g l = Prints g.W.Write.contents l.initial.text l.text (each_below l.place (λ place. channel_lane l.window l.machine (channel_number place)))

abbrev pub invariant-loop-place-2 : goal.invariant-loop-place-2
invariant-loop-place-2 g l = Prints g.W.Write.contents l.initial.text l.text (each_below l.place (λ place. processor_lane l.window l.shown l.machine l.steps.earlier l.steps.shown.items (processor_number place)))
