use Rattle.std.proofs.Common.{rules, arith}
use Rattle.pp_laws.proofs.WellFormedLemmas.{drawing_read}
use Rattle.pp_laws.proofs.drawings.well_formed_law.Goals as goal

pub returns : goal.returns
returns c = grind (arith, drawing_read, rules)
