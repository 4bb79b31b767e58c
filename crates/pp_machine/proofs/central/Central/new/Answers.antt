use Rattle.std.proofs.Common.{◌≡◌, ℕ, zero, suc, replicate, get_or, refl, arith}
use Rattle.std.proofs.lemmas.List.{length-replicate}
use Rattle.pp_machine.proofs.central.Central.new.Goals as goal

zero_at_each : (n i : ℕ) → get_or {A = ℕ} (replicate n 0) i 0 ≡ 0
zero_at_each zero i = refl
zero_at_each (suc n) zero = refl
zero_at_each (suc n) (suc i) = zero_at_each n i

pub invariant_of-result : goal.invariant_of-result
invariant_of-result g c = grind (arith, length-replicate, zero_at_each)

pub returns-clause-sound : goal.returns-clause-sound
returns-clause-sound g c = grind (arith, length-replicate, zero_at_each)
