use Rattle.std.proofs.Common.{◌≡◌, ℕ, ◌+◌, ◌/◌, ◌%◌, ◌^◌, Bool, List, Some, None, drop, ap, refl, take, ◌∙◌}
use Rattle.std.specs.Prelude.{position}
use Rattle.std.proofs.lemmas.List.{take_rest}
use Rattle.pp_word.specs.Opcode.{row_of}
use Rattle.pp_word.specs.declared.{opcode.Opcode.Opcode, operands.Operands.Operands}
use Rattle.pp_text.specs.InstructionText.{operands_of}
use Rattle.pp_instructions.specs.Instruction.{is_comma, is_number_of, is_operand_of, is_pair_of}
use Rattle.pp_instructions.proofs.instruction.is_operand_of.Goals as goal

pair_is : (kind : Operands) (place word m d comma : ℕ) (operand first second : List ℕ) (result : Bool) → Some comma ≡ position is_comma operand → kind ≡ operands_of (word / 2 ^ 6) → d ≡ word % 2 ^ 6
    → first ≡ take comma operand → second ≡ drop (comma + 1) operand → result ≡ is_pair_of kind d m first second → result ≡ is_operand_of place word m operand
unfolding is_operand_of
pair_is kind place word m d comma operand first second result at is_kind is_d is_first is_second is = is ∙ rw (is_kind, is_d, is_first, is_second, ← at) refl

number_is : (kind : Operands) (place word m d : ℕ) (operand : List ℕ) (result : Bool) → None ≡ position is_comma operand → kind ≡ operands_of (word / 2 ^ 6) → d ≡ word % 2 ^ 6
    → result ≡ is_number_of kind place d m operand → result ≡ is_operand_of place word m operand
unfolding is_operand_of
number_is kind place word m d operand result at is_kind is_d is = is ∙ rw (is_kind, is_d, ← at) refl

pub returns-in-Some : goal.returns-in-Some
returns-in-Some c = pair_is _ c.args.place c.args.word c.args.m _ c.in-Some.comma c.args.operand.now _ _ c.is_pair_of.result c.in-Some.ensures.value (c.operands-operands.ensures ∙ ap (λ (op : Opcode). (row_of op).operands) c.decode-operation.ensures.operation) c.decode-operation.ensures.lower_half
    refl (take_rest c.args.operand.now (c.in-Some.comma + 1)) c.is_pair_of.ensures

pub returns-in-None : goal.returns-in-None
returns-in-None c = number_is _ c.args.place c.args.word c.args.m _ c.args.operand.now c.is_number_of.result c.in-None.ensures.value (c.operands-operands.ensures ∙ ap (λ (op : Opcode). (row_of op).operands) c.decode-operation.ensures.operation) c.decode-operation.ensures.lower_half c.is_number_of.ensures
