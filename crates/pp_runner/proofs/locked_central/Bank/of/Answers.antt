use Rattle.std.proofs.Common.{◌≡◌, ◌+◌, ◌*◌, ℕ, slice_index, Option, sym, ap, ◌∙◌, inl, inr, arith}
use Rattle.std.specs.Prelude.{unwrap_or}
use Rattle.std.proofs.lemmas.Bool.{cases_lt}
use Rattle.std.proofs.lemmas.Grind.{get_or-set_at}
use Rattle.std.proofs.lemmas.List.{get_or-set_other, length-set}
use Rattle.std.proofs.lemmas.Option.{unwrap_or-slice_get}
use Rattle.pp_runner.proofs.locked_central.Bank.of.Goals as goal

pub loop-place-preserved : goal.loop-place-preserved
loop-place-preserved g c =
    let central = c.args.central.now in
    let place : ℕ = c.loop-place.place in
    let words = c.loop-place.words.items in
    let address : c.truncated-address.result ≡ 32 * place + c.args.bank = omega (arith, c.truncated-address.ensures, c.requires, c.loop-place-test.true) in
    let word : c.unwrap_or.result ≡ slice_index central (32 * place + c.args.bank) =
    c.unwrap_or.ensures ∙ (ap (λ (o : Option ℕ). unwrap_or o 0) c.read.ensures ∙ (unwrap_or-slice_get central c.truncated-address.result 0 ∙ ap (λ a. slice_index central a) address)) in record {
      count = length-set words place c.unwrap_or.result ∙ c.loop-place.invariant.count;
      filled = λ p below. elim (cases_lt p place) [
        | inl before ↦ get_or-set_other words place p c.unwrap_or.result 0 (λ same. omega (arith, same, before)) ∙ c.loop-place.invariant.filled p before
        | inr after ↦
            let same : p ≡ place = omega (arith, below, after) in
            get_or-set_at words place p c.unwrap_or.result 0 same (omega (arith, c.loop-place.invariant.count, c.loop-place-test.true)) ∙ (word ∙ ap (λ k. slice_index central (32 * k + c.args.bank)) (sym same))
      ];
    }
