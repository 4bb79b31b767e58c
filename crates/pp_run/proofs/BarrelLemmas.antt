-- After whole rounds the barrel begins anew.
use Rattle.std.proofs.Common.{◌≡◌, ℕ, zero, suc, ◌+◌, ◌%◌, List, [], ◌∷◌, ◌++◌, append_assoc, append-nil, sym, ap, ◌∙◌, arith}
use Rattle.pp_numbers.specs.PpNo.{processor_number}
use Rattle.pp_numbers.specs.Profile.{processor_in_turn, processors_in}
use Rattle.pp_numbers.specs.declared.profile.Profile.{Profile}
use Rattle.pp_numbers.specs.declared.profile.Profile.TheVariants.{Ten, Twenty}
use Rattle.pp_machine.specs.Run.{barrel}

in_turn_again : (p : Profile) (t u : ℕ) → t % processors_in p ≡ 0 → processor_in_turn p (t + u) ≡ processor_in_turn p u
in_turn_again Ten t u whole = ap processor_number (omega (arith, whole))
in_turn_again Twenty t u whole = ap processor_number (omega (arith, whole))

pub barrel_again : (p : Profile) (t n : ℕ) → t % processors_in p ≡ 0 → barrel p (t + n) ≡ barrel p t ++ barrel p n
barrel_again p t zero whole =
    let same : t + zero ≡ t = omega arith in
    ap (barrel p) same ∙ sym (append-nil (barrel p t))
barrel_again p t (suc n) whole =
    let next : t + suc n ≡ suc (t + n) = omega arith in
    ap (barrel p) next
    ∙ ap (λ (ns : List ℕ). ns ++ processor_in_turn p (t + n) ∷ []) (barrel_again p t n whole)
    ∙ ap (λ (k : ℕ). (barrel p t ++ barrel p n) ++ k ∷ []) (in_turn_again p t n whole)
    ∙ append_assoc (barrel p t) (barrel p n) (processor_in_turn p n ∷ [])
