-- What a channel keeps beside a history, by its last event.
use Rattle.std.proofs.Common.{◌≡◌, ℕ, ◌+◌, ◌-◌, ◌<◌, false, List, [], ◌∷◌, ◌++◌, length, take, get_or, Some, None, refl, sym, ap, ◌∙◌, subst, arith}
use Rattle.std.specs.Prelude.{slice_get}
use Rattle.std.proofs.lemmas.List.{take_all, take_more}
use Rattle.std.proofs.lemmas.Option.{slice_get-get_or, slice_get_within, get_or_from_slice_get}
use Rattle.pp_channel.specs.declared.event.Event.{Event}
use Rattle.pp_channel.specs.History.{IsLawful, HasTwelveBitWords}
use Rattle.pp_channel.specs.Answer.{flags_after}
use Rattle.pp_channel.specs.Session.{word_put}
use Rattle.pp_channel.proofs.AnswerLemmas.{IsKept, flags_by_table, word_by_table}
use Rattle.pp_channel.proofs.FrontLemmas.{lawful_front}

last_split : {A : Type 0} (xs : List A) (x : A) → slice_get xs (length xs - 1) ≡ Some x → xs ≡ take (length xs - 1) xs ++ x ∷ []
last_split xs x is =
    let n : ℕ = length xs - 1 in
    let within : n < length xs = slice_get_within xs n x is in
    sym (take_all (n + 1) xs (omega arith)) ∙ (take_more xs n x within ∙ ap (λ y. take n xs ++ y ∷ []) (get_or_from_slice_get xs n x x is))

pub kept_by_last : (h : List Event) (e : Event) → slice_get h (length h - 1) ≡ Some e → IsLawful h → HasTwelveBitWords h → IsKept (flags_after e) (word_put e) h
kept_by_last h e is lawful bits =
    let front : List Event = take (length h - 1) h in
    let whole : h ≡ front ++ e ∷ [] = last_split h e is in
    let P : List Event → Type 0 = λ g. IsLawful g in
    let more : IsLawful (front ++ e ∷ []) = subst P whole lawful in
    let less : IsLawful front = lawful_front front (e ∷ []) more in
    let Q : List Event → Type 0 = λ g. IsKept (flags_after e) (word_put e) g in
    let R : List Event → Type 0 = λ g. HasTwelveBitWords g in
    subst Q (sym whole) (more, subst R whole bits, sym (flags_by_table front e less more), sym (word_by_table front e less more))

pub kept_by_none : (h : List Event) → slice_get h (length h - 1) ≡ None → IsLawful h → HasTwelveBitWords h → IsKept (record { active = false; full = false }) None h
kept_by_none [] is lawful bits = (lawful, bits, refl, refl)
kept_by_none (e ∷ h) is lawful bits =
    let some : slice_get (e ∷ h) (length h) ≡ Some (get_or (e ∷ h) (length h) e) = slice_get-get_or (e ∷ h) (length h) e (omega arith) in
    let none : slice_get (e ∷ h) (length h) ≡ None = ap (slice_get (e ∷ h)) (omega arith) ∙ is in
    absurd cc
