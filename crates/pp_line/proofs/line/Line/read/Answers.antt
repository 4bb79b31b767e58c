use Rattle.pp_line.proofs.LineKeeping.{fields_of_read}
use Rattle.pp_line.proofs.line.Line.read.Goals as goal

pub invariant_of-self : goal.invariant_of-self
invariant_of-self g c = fields_of_read c.args.address c.read.result c.read.ensures.read c.read.ensures.unchanged_outside c.self.invariant
