use Rattle.std.proofs.Common.{below_more, arith}
use Rattle.std.proofs.lemmas.List.{get_or_append_left, length-append}
use Rattle.std.proofs.Math.Seq.{get_or-append_seam}
use Rattle.pp_line.proofs.recorded_history.unrecorded_histories.Goals as goal

pub loop-count-preserved : goal.loop-count-preserved
loop-count-preserved g c = grind (arith, length-append, below_more, get_or_append_left, get_or-append_seam)

pub returns-clause-each_event : goal.returns-clause-each_event
returns-clause-each_event g c = λ place below. c.loop-count.invariant.events place (omega (arith, below, c.loop-count-test.false))
