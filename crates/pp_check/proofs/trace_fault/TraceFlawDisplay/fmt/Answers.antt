use Rattle.std.proofs.Common.{rules, refl, append_assoc}
use Rattle.std.proofs.lemmas.Grind.{put_two}
use Rattle.pp_check.proofs.trace_fault.TraceFlawDisplay.fmt.Goals as goal

pub returns-in_ok-write_count-in-TurnNotRising-clause-writes :
    goal.returns-in_ok-write_count-in-TurnNotRising-clause-writes
returns-in_ok-write_count-in-TurnNotRising-clause-writes g c plain ok =
    rw c.in-TurnNotRising.is (put_two _ _ _ _ _ _ _ (c.in_ok-write_count-in-TurnNotRising.ensures plain refl) (c.write_count-in-TurnNotRising.ensures (search rules) ok) (simp append_assoc))
