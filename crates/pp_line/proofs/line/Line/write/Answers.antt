use Rattle.std.proofs.Common.{arith}
use Rattle.pp_line.proofs.LineKeeping.{fields_of_write, line_written}
use Rattle.pp_line.proofs.line.Line.write.Goals as goal

pub invariant_of-self : goal.invariant_of-self
invariant_of-self g c = fields_of_write c.args.address c.args.word c.write.result c.write.ensures.written c.self.invariant

pub returns-clause-written : goal.returns-clause-written
returns-clause-written g c = grind (arith, line_written)
