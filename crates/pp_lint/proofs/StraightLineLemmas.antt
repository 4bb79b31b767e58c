-- Straight lines and what is found in them, instruction by instruction.
use Rattle.std.proofs.Common.{◌≡◌, ℕ, Bool, true, false, List, [], ◌∷◌, Option, Some, None, refl, sym, ap, ◌∙◌}
use Rattle.std.specs.Prelude.{◌&&◌, if◌then◌else◌}
use Rattle.pp_numbers.specs.declared.profile.Profile.{Profile}
use Rattle.pp_lint.specs.Given.{Note}
use Rattle.pp_instructions.specs.InstructionEffect.{goes_on, place_behind}
use Rattle.pp_lint.specs.StraightLine.{behind, behind_all, is_reached}
use Rattle.pp_instructions.specs.declared.instruction.Instruction.{Instruction}

-- ---- where a straight line comes to

pub behind_none : (profile : Profile) (notes : List Note) (n : ℕ) (reached : Option ℕ) → behind_all profile notes n reached [] ≡ reached
unfolding behind_all
behind_none profile notes n reached = refl

behind_first : (profile : Profile) (notes : List Note) (n : ℕ) (reached : Option ℕ) (i : Instruction) (is : List Instruction) → behind_all profile notes n reached (i ∷ is) ≡ behind_all profile notes n (behind profile notes n reached i) is
unfolding behind_all
behind_first profile notes n reached i is = refl

pub behind_step : (profile : Profile) (notes : List Note) (n : ℕ) (reached now : Option ℕ) (all more : List Instruction) (i : Instruction) → all ≡ i ∷ more → now ≡ behind profile notes n reached i
    → behind_all profile notes n now more ≡ behind_all profile notes n reached all
behind_step profile notes n reached now all more i taken is =
    ap (λ r. behind_all profile notes n r more) is ∙ sym (ap (behind_all profile notes n reached) taken ∙ behind_first profile notes n reached i more)

pub behind_nowhere : (profile : Profile) (notes : List Note) (n : ℕ) (reached : Option ℕ) (i : Instruction) → is_reached notes n reached i.place ≡ false → None ≡ behind profile notes n reached i
unfolding behind
behind_nowhere profile notes n reached i is = rw is refl

if_both : (a b : Bool) (place : ℕ) → b ≡ false → None ≡ (if a && b then Some place else None)
if_both true b place is = rw is refl
if_both false b place is = refl

pub behind_end : (profile : Profile) (notes : List Note) (n : ℕ) (reached : Option ℕ) (i : Instruction) → goes_on profile i.word ≡ false → None ≡ behind profile notes n reached i
unfolding behind
behind_end profile notes n reached i ends = if_both (is_reached notes n reached i.place) (goes_on profile i.word) (place_behind i) ends

pub behind_here : (profile : Profile) (notes : List Note) (n : ℕ) (reached : Option ℕ) (i : Instruction) (place : ℕ) → is_reached notes n reached i.place ≡ true → goes_on profile i.word ≡ true → place ≡ place_behind i
    → Some place ≡ behind profile notes n reached i
unfolding behind
behind_here profile notes n reached i place is on at = rw (is, on, at) refl
