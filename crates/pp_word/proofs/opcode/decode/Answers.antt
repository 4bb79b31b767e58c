use Rattle.std.proofs.Common.{◌≡◌, ◌/◌, ◌%◌, ap, sym, ◌∙◌, arith}
use Rattle.pp_word.specs.Opcode.{code_of, opcode_at}
use Rattle.pp_word.specs.declared.opcode.Opcode.{Opcode}
use Rattle.pp_word.proofs.opcode.decode.Goals as goal

-- the operations stand in the order of their codes
at_code : (op : Opcode) → opcode_at (code_of op) ≡ op
at_code op = grind arith

pub returns-clause-code : goal.returns-clause-code
returns-clause-code c =
    let upper_half : c.get-bits.result / 64 % 64 ≡ c.args.word / 64 = omega arith in
    c.opcode_at.ensures ∙ upper_half

pub returns-clause-operation : goal.returns-clause-operation
returns-clause-operation c =
    sym (at_code c.opcode_at.result) ∙ ap opcode_at (returns-clause-code c)
