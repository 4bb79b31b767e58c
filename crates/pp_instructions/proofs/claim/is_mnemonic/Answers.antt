use Rattle.std.proofs.Common.{◌≡◌, ◌/◌, ◌^◌, ap, arith, sym, ◌∙◌}
use Rattle.std.specs.Prelude.{bytes_eq}
use Rattle.pp_word.specs.Opcode.{opcode_at, row_of}
use Rattle.pp_instructions.proofs.ClaimLemmas.{mnemonic_here, no_mnemonic, other_mnemonic}
use Rattle.pp_instructions.proofs.claim.is_mnemonic.Goals as goal

pub returns-then-eq : goal.returns-then-eq
returns-then-eq c =
    let code : c.truncated.result / 2 ^ 6 ≡ c.loop-code.code = omega (arith, c.truncated.ensures, c.loop-code-test.true) in
    let name : c.as_bytes.result.now ≡ (row_of (opcode_at c.loop-code.code)).mnemonic =
    c.as_bytes.ensures.value ∙ c.mnemonic.ensures ∙ ap (λ op. (row_of op).mnemonic) (c.decode.ensures.operation ∙ ap opcode_at code) in
    mnemonic_here c.args.field.now c.loop-code.code c.loop-code-test.true (ap (λ word. bytes_eq word c.args.field.now) (sym name) ∙ sym c.eq.ensures ∙ c.if-eq.true)

pub loop-code-preserved : goal.loop-code-preserved
loop-code-preserved c =
    let code : c.truncated.result / 2 ^ 6 ≡ c.loop-code.code = omega (arith, c.truncated.ensures, c.loop-code-test.true) in
    let name : c.as_bytes.result.now ≡ (row_of (opcode_at c.loop-code.code)).mnemonic =
    c.as_bytes.ensures.value ∙ c.mnemonic.ensures ∙ ap (λ op. (row_of op).mnemonic) (c.decode.ensures.operation ∙ ap opcode_at code) in
    other_mnemonic c.args.field.now c.loop-code.code c.loop-code-test.true c.loop-code.invariant (ap (λ word. bytes_eq word c.args.field.now) (sym name) ∙ sym c.eq.ensures ∙ c.if-eq.false)

pub returns : goal.returns
returns c =
    let all : c.loop-code.code ≡ 64 = omega (arith, c.loop-code-test.false, c.loop-code.auto.code-end) in
    no_mnemonic c.args.field.now (rw all at c.loop-code.invariant)
