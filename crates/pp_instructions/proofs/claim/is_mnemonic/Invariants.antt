use Rattle.std.proofs.Common.{◌≡◌, false, take}
use Rattle.std.specs.List.{list_any}
use Rattle.pp_word.specs.Opcode.{operations}
use Rattle.pp_instructions.proofs.ClaimLemmas.{has_mnemonic}
use Rattle.pp_instructions.proofs.claim.is_mnemonic.Given as goal

abbrev pub invariant-loop-code : goal.invariant-loop-code
invariant-loop-code l = list_any (has_mnemonic l.field) (take l.code operations) ≡ false
