use Rattle.std.proofs.Common.{◌≡◌, true, false, ap, refl, sym, ◌∙◌}
use Rattle.pp_word.specs.Opcode.{is_long as is_long_of}
use Rattle.pp_text.specs.InstructionText.{is_long}
use Rattle.pp_instructions.specs.Instruction.{instructions}
use Rattle.pp_instructions.specs.WordsInFields.{words_in_fields}
use Rattle.pp_instructions.proofs.InstructionLemmas.{left_is, long_step, no_instruction, short_step}
use Rattle.pp_instructions.proofs.instruction.Instructions.next_instruction.Goals as goal

pub returns-in_default-clause-none : goal.returns-in_default-clause-none
returns-in_default-clause-none c = (
  left_is _ _ _ c.self.view_is c.if-self.false ∙ ap (λ fields. instructions c.self.inside.place (words_in_fields fields)) c.in_default.ensures.none ∙ no_instruction c.self.inside.place,
  refl,
)

pub returns-then-not-is_long-clause-taken : goal.returns-then-not-is_long-clause-taken
returns-then-not-is_long-clause-taken c =
    let short : is_long c.in-Some.word ≡ false = ap is_long_of (sym c.decode.ensures.operation) ∙ sym c.is_long.ensures ∙ c.if-not-is_long.true in
    left_is _ _ _ c.self.view_is c.if-self.false
    ∙ short_step c.self.inside.place c.next-self-inside.result c.in-Some.word c.self.inside.is_ended c.self.inside.words c.next_word.new.words short c.next-self-inside.ensures c.if-self.false c.in-Some.ensures.taken

pub returns-clause-taken : goal.returns-clause-taken
returns-clause-taken c =
    let long : is_long c.in-Some.word ≡ true = ap is_long_of (sym c.decode.ensures.operation) ∙ sym c.is_long.ensures ∙ c.if-not-is_long.false in
    left_is _ _ _ c.self.view_is c.if-self.false
    ∙ long_step c.self.inside.place c.next-self-inside.result c.next-self-inside-2.result c.in-Some.word c.is_none-self-inside.result c.self.inside.words c.next_word.new.words c.next_word-second.new.words c.next_word-second.result
    long c.next-self-inside.ensures c.next-self-inside-2.ensures c.is_none-self-inside.ensures c.in-Some.ensures.taken c.next_word-second.ensures.taken c.next_word-second.ensures.none
