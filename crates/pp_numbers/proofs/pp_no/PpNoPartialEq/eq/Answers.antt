use Rattle.std.proofs.Common.{nat_eq, arith}
use Rattle.pp_numbers.specs.PpNo.{processor_places}
use Rattle.pp_numbers.proofs.pp_no.PpNoPartialEq.eq.Goals as goal

pub returns : goal.returns
returns c = grind (arith, processor_places.place_again, nat_eq)
