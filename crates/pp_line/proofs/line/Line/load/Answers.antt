use Rattle.std.specs.Prelude.{slice_set}
use Rattle.pp_line.proofs.LineKeeping.{log_of_load, fields_of_load}
use Rattle.pp_line.proofs.line.Line.load.Goals as goal

pub returns-clause-log_after : goal.returns-clause-log_after
returns-clause-log_after g c = log_of_load c.load-word.ensures.load c.self.invariant.3

pub invariant_of-self : goal.invariant_of-self
invariant_of-self g c = fields_of_load c.load-word.ensures.load c.self.invariant (λ j. slice_set c.self.inside.seen (c.index.ensures.place j) (c.number_in.ensures.value j))
