use Rattle.std.proofs.Common.{ℕ, ◌/◌, ap, arith, refl, sym, subst}
use Rattle.std.proofs.Math.Nat.{div-mul-le_self, mul-le-mul_right}
use Rattle.std.specs.Prelude.{IsNone}
use Rattle.pp_ends.proofs.FoundLemmas.{goes_on_without_period, goes_on_without_start, repeats_first}
use Rattle.pp_ends.proofs.run.find_ending.Goals as goal

pub overflow_mul-result : goal.overflow_mul-result
overflow_mul-result g c = grind (arith, mul-le-mul_right, div-mul-le_self)

pub overflow_mul-result-2 : goal.overflow_mul-result-2
overflow_mul-result-2 g c = grind (arith, mul-le-mul_right, div-mul-le_self)

pub returns-in_default-2 : goal.returns-in_default-2
returns-in_default-2 g c =
    let sound = c.is_sound.ensures in
    record {
      moves = c.in_ok-ending.ensures.moves (subst (λ o. IsNone o) (sym c.in_default.is) refl);
      goes_on = grind (arith, goes_on_without_period);
    }

pub returns-in_default-3 : goal.returns-in_default-3
returns-in_default-3 g c =
    let sound = c.is_sound.ensures in
    record {
      moves = c.in_ok-ending.ensures.moves (subst (λ o. IsNone o) (sym c.in_default.is) refl);
      goes_on = grind (arith, goes_on_without_start);
    }

pub returns : goal.returns
returns g c =
    let sound = c.is_sound.ensures in (
      c.in_ok-ending.ensures.moves (subst (λ o. IsNone o) (sym c.in_default.is) refl),
      repeats_first c.args.machine.now (record { channels = sound.channels; headline = sound.headline })
          c.args.turns (c.args.turns / c.round_of-round.result) c.in-Some-2.period c.in-Some-3.start c.round_of-round.result
          c.in_ok-period.field-0 c.in_ok-start.field-0 c.in-Some-2.is c.in-Some-3.is
          (ap (λ (r : ℕ). c.args.turns / r) c.round_of-round.ensures.turns) c.round_of-round.ensures.turns
          c.in_ok-period.ensures c.in_ok-start.ensures,
    )
