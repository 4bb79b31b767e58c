use Rattle.std.proofs.Common.{◌≡◌, vec_len, vec_capacity}
use Rattle.pp_runner.proofs.locked_central.LockedCentral.new.Given as goal

abbrev pub invariant-loop-bank : goal.invariant-loop-bank
invariant-loop-bank g l = (vec_len l.banks ≡ l.bank) × (vec_capacity l.banks ≡ 32)
