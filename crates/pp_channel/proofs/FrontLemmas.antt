-- The front of a lawful history is lawful.
use Rattle.std.proofs.Common.{◌≡◌, ℕ, List, [], ◌∷◌, ◌++◌, take, drop, Some, refl, sym, ap, ◌∙◌, subst}
use Rattle.std.proofs.lemmas.List.{take-append-drop}
use Rattle.std.proofs.lemmas.List.Elements.{All-take}
use Rattle.pp_channel.specs.declared.event.Event.{Event}
use Rattle.pp_channel.specs.History.{IsLawful, HasTwelveBitWord, HasTwelveBitWords}
use Rattle.pp_channel.proofs.HistoryWalk.{State, Inactive, step, walk, walk-append, along}
use Rattle.pp_channel.proofs.HistoryLemmas.{lawful_empty, state_at, lawful_next}
use Rattle.pp_channel.proofs.LawLemmas.{cut_state}

abbrev Reaches : List Event → State → Type 0
Reaches h s = IsLawful h × (walk (Some Inactive) h ≡ Some s)

reaches_more : (h : List Event) (s : State) (e : Event) (t : State) → Reaches h s → step s e ≡ Some t → Reaches (h ++ e ∷ []) t
reaches_more h s e t r on =
    let at = state_at h r.0 in
    let same : at.0 ≡ s = let both : Some at.0 ≡ Some s = sym at.1 ∙ r.1 in cc in
    (lawful_next h r.0 e t (ap (λ u. step u e) same ∙ on), walk-append (Some Inactive) h (e ∷ []) ∙ (ap (λ o. walk o (e ∷ [])) r.1 ∙ on))

-- a history along which each step is allowed is lawful
lawful_by_walk : (h : List Event) (s : State) → walk (Some Inactive) h ≡ Some s → IsLawful h
lawful_by_walk h s is = (along Reaches reaches_more [] Inactive (lawful_empty, refl) h s is).0

pub lawful_front : (h later : List Event) → IsLawful (h ++ later) → IsLawful h
lawful_front h later l =
    let s = state_at (h ++ later) l in
    let cut = cut_state Inactive h later s.0 s.1 in
    lawful_by_walk h cut.0 cut.1

pub lawful_take : (k : ℕ) (h : List Event) → IsLawful h → IsLawful (take k h)
lawful_take k h l =
    let P : List Event → Type 0 = λ g. IsLawful g in
    lawful_front (take k h) (drop k h) (subst P (sym (take-append-drop k h)) l)

pub twelve_bits_take : (k : ℕ) (h : List Event) → HasTwelveBitWords h → HasTwelveBitWords (take k h)
twelve_bits_take k h bits = All-take HasTwelveBitWord k h bits
