-- The first line of the text of an ending tells it.
use Rattle.std.proofs.Common.{◌≡◌, ℕ, ◌^◌, ◌<◌, Bool, List, ◌++◌, Option, codes, drop, refl, ap, arith, append_assoc}
use Rattle.pp_machine.specs.MachineState.{MachineState}
use Rattle.pp_text.specs.PrintedText.{line_end}
use Rattle.pp_text.proofs.Format.{Format, decimals, field, short_decimals, whole, ◌▷◌, ◌▸◌}
use Rattle.pp_ends.specs.EndsText.{FitsItsEnding, ending_text, ends_text, ends_turn}
use Rattle.pp_ends.specs.declared.{ending.Ending.Ending, loops.Loop.Loop}
use Rattle.pp_ends.specs.declared.ending.Ending.TheVariants.{AtRest, GoingOn, Repeats, Stuck}

abbrev repeats : Format (λ (x : ℕ × ℕ). (x.0 < 2 ^ 64) × (x.1 < 2 ^ 64))
repeats = whole (field decimals (λ x. x.0) (λ x fits. fits.0) ▸ codes " EVERY " ▷ field short_decimals (λ x. x.1) (λ x fits. fits.1)) (λ x y (turn, period) j. (turn j, period j))

ending_tells : (one other : Ending) (turns more : ℕ) (r s : List ℕ) → FitsItsEnding one turns → FitsItsEnding other more → ending_text one turns ++ (line_end ++ r) ≡ ending_text other more ++ (line_end ++ s)
    → (one ≡ other) × (ends_turn one turns ≡ ends_turn other more)
ending_tells (AtRest m) (AtRest n) turns more r s fits also e = let turn = decimals.tells m n _ _ fits.turn also.turn refl refl (ap (drop 13) e) in (ap AtRest turn.0, turn.0)
ending_tells (Stuck m) (Stuck n) turns more r s fits also e = let turn = decimals.tells m n _ _ fits.turn also.turn refl refl (ap (drop 11) e) in (ap Stuck turn.0, turn.0)
ending_tells GoingOn GoingOn turns more r s fits also e = (refl, (decimals.tells turns more _ _ fits.turn also.turn refl refl (ap (drop 12) e)).0)
ending_tells (Repeats m i) (Repeats n j) turns more r s fits also e =
    let told = (repeats.tells (m, i) (n, j) _ _ (fits.turn, fits.period) (also.turn, also.period) refl refl (ap (drop 13) e)).0 in ((λ k. Repeats (told k).0 (told k).1), λ k. (told k).0)
ending_tells one other turns more r s fits also e = grind arith

pub text_tells_ending : (shown others : List Bool) (one other : Ending) (turns more : ℕ) (m k : MachineState) (loops also : List (Option Loop)) → FitsItsEnding one turns → FitsItsEnding other more
    → ends_text shown one turns m loops ≡ ends_text others other more k also → (one ≡ other) × (ends_turn one turns ≡ ends_turn other more)
unfolding ends_text
text_tells_ending shown others one other turns more m k loops also fits too e = grind (arith, ending_tells, append_assoc)
