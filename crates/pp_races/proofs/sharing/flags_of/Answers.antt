use Rattle.std.proofs.Common.{false, arith}
use Rattle.pp_numbers.proofs.TableLemmas.{tabulate_is}
use Rattle.pp_numbers.specs.PpNo.{processor_count, processor_number}
use Rattle.pp_races.specs.Tables.{has_bit}
use Rattle.pp_races.proofs.sharing.flags_of.Goals as goal

pub returns : goal.returns
returns c = tabulate_is false c.loop-place.flags processor_count (λ place. has_bit c.args.mask (processor_number place)) c.loop-place.invariant.long
    (λ k low. c.loop-place.invariant.each k (omega arith))
