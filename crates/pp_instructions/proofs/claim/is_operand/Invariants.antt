use Rattle.std.proofs.Common.{◌≡◌, true, take}
use Rattle.std.specs.Prelude.{◌==◌, ◌||◌}
use Rattle.std.specs.List.{list_all}
use Rattle.pp_word.specs.Numeral.{is_digit}
use Rattle.pp_instructions.proofs.claim.is_operand.Given as goal

abbrev pub invariant-loop-character : goal.invariant-loop-character
invariant-loop-character l = list_all (λ character. is_digit 8 character || character == 44) (take l.character-index l.field) ≡ true
