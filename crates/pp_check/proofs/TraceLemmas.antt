-- Lawful traces, one line more and one line less.
use Rattle.std.proofs.Common.{◌≡◌, ℕ, ◌<◌, Bool, List, [], ◌∷◌, ◌++◌, length, take, drop, get_or, Option, Some, None, sym, ap, ◌∙◌, subst, arith, inl, inr, append_assoc}
use Rattle.std.specs.Prelude.{option_to_list}
use Rattle.std.specs.List.{filter_map, last_or}
use Rattle.std.proofs.Math.Seq.{take-append_seam, take-take}
use Rattle.std.proofs.lemmas.Bool.{cases_lt}
use Rattle.std.proofs.lemmas.List.{append-nil, get_or-take, get_or_append_left, get_or_push, length_push, length-take, take-append-drop, take-append-le}
use Rattle.std.proofs.lemmas.List.Elements.{filter_map-append}
use Rattle.pp_channel.proofs.FrontLemmas.{lawful_front}
use Rattle.pp_numbers.proofs.LastElements.{last_or-push}
use Rattle.pp_channel.specs.History.{IsLawful}
use Rattle.pp_channel.specs.declared.event.Event.{Event}
use Rattle.pp_numbers.proofs.GrowingLists.{filter_map_more}
use Rattle.pp_check.specs.LawfulTrace.{Fits, IsLawfulTrace, event_on, events_on, history, last_turn, opening, turn_of, turns}
use Rattle.pp_check.specs.declared.trace_line.TraceLine.{TraceLine}
use Rattle.pp_check.specs.declared.trace_line.TraceLine.TheVariants.{Other}

-- ---- events and turns of one line more

pub events_push : (c : ℕ) (lines : List TraceLine) (line : TraceLine) → events_on c (lines ++ line ∷ []) ≡ events_on c lines ++ option_to_list (event_on c line)
unfolding events_on
events_push c lines line = filter_map_more (event_on c) lines line

pub events_more : (c : ℕ) (lines : List TraceLine) (line : TraceLine) (e : Event) → event_on c line ≡ Some e → events_on c (lines ++ line ∷ []) ≡ events_on c lines ++ e ∷ []
events_more c lines line e is = events_push c lines line ∙ ap (λ (o : Option Event). events_on c lines ++ option_to_list o) is

pub events_same : (c : ℕ) (lines : List TraceLine) (line : TraceLine) → event_on c line ≡ None → events_on c (lines ++ line ∷ []) ≡ events_on c lines
events_same c lines line is = events_push c lines line ∙ ap (λ (o : Option Event). events_on c lines ++ option_to_list o) is ∙ append-nil (events_on c lines)

pub history_more : (opened : List Bool) (lines : List TraceLine) (line : TraceLine) (c : ℕ) (e : Event) → event_on c line ≡ Some e → history opened (lines ++ line ∷ []) c ≡ history opened lines c ++ e ∷ []
history_more opened lines line c e is = grind (arith, events_more, append_assoc)

pub history_same : (opened : List Bool) (lines : List TraceLine) (line : TraceLine) (c : ℕ) → event_on c line ≡ None → history opened (lines ++ line ∷ []) c ≡ history opened lines c
history_same opened lines line c is = ap (λ (es : List Event). opening opened c ++ es) (events_same c lines line is)

pub turns_more : (lines : List TraceLine) (line : TraceLine) (turn : ℕ) → turn_of line ≡ Some turn → turns (lines ++ line ∷ []) ≡ turns lines ++ turn ∷ []
unfolding turns
turns_more lines line turn is = grind (arith, filter_map_more)

pub turns_same : (lines : List TraceLine) (line : TraceLine) → turn_of line ≡ None → turns (lines ++ line ∷ []) ≡ turns lines
unfolding turns
turns_same lines line is = grind (arith, filter_map_more, append-nil)

pub last_turn_more : (lines : List TraceLine) (line : TraceLine) (turn : ℕ) → turn_of line ≡ Some turn → last_turn (lines ++ line ∷ []) ≡ Some turn
unfolding last_turn
last_turn_more lines line turn is = ap (last_or None) (turns_more lines line turn is) ∙ last_or-push None (turns lines) turn

pub last_turn_same : (lines : List TraceLine) (line : TraceLine) → turn_of line ≡ None → last_turn (lines ++ line ∷ []) ≡ last_turn lines
unfolding last_turn
last_turn_same lines line is = ap (last_or None) (turns_same lines line is)

-- ---- one line more

abbrev FitsAt : List Bool → List TraceLine → ℕ → Type 0
FitsAt opened lines k = Fits opened (take k lines) (get_or lines k Other)

fits_before : (opened : List Bool) (lines : List TraceLine) (line : TraceLine) (k : ℕ) → k < length lines → FitsAt opened lines k → FitsAt opened (lines ++ line ∷ []) k
fits_before opened lines line k less fits = grind (arith, take-append-le, get_or_append_left)

fits_last : (opened : List Bool) (lines : List TraceLine) (line : TraceLine) (k : ℕ) → k ≡ length lines → Fits opened lines line → FitsAt opened (lines ++ line ∷ []) k
fits_last opened lines line k last fits = grind (arith, take-append_seam, get_or_push)

pub lawful_push : (opened : List Bool) (lines : List TraceLine) (line : TraceLine) → IsLawfulTrace opened lines → Fits opened lines line → ((c : ℕ) → IsLawful (history opened (lines ++ line ∷ []) c)) → IsLawfulTrace opened (lines ++ line ∷ [])
lawful_push opened lines line lawful fits histories = record {
  histories = histories;
  each_fits = λ k less. elim (cases_lt k (length lines)) [
    | inl early ↦ fits_before opened lines line k early (lawful.each_fits k early)
    | inr late ↦ fits_last opened lines line k (omega (arith, less, late, length_push lines line)) fits
  ];
}

-- what a lawful trace of one line more says of the last line
pub last_fits : (opened : List Bool) (lines : List TraceLine) (line : TraceLine) → IsLawfulTrace opened (lines ++ line ∷ []) → Fits opened lines line
last_fits opened lines line lawful = grind (arith, length_push, get_or_push, take-append_seam)

-- ---- the first lines of a lawful trace

events_split : (c : ℕ) (lines : List TraceLine) (n : ℕ) → events_on c lines ≡ events_on c (take n lines) ++ events_on c (drop n lines)
unfolding events_on
events_split c lines n =
    ap (filter_map (event_on c)) (sym (take-append-drop n lines)) ∙ filter_map-append (event_on c) (take n lines) (drop n lines)

history_split : (opened : List Bool) (lines : List TraceLine) (n c : ℕ) → history opened lines c ≡ history opened (take n lines) c ++ events_on c (drop n lines)
history_split opened lines n c = grind (arith, events_split, append_assoc)

pub lawful_prefix : (opened : List Bool) (lines : List TraceLine) (n : ℕ) → IsLawfulTrace opened lines → IsLawfulTrace opened (take n lines)
lawful_prefix opened lines n lawful = record {
  histories = λ c.
      let P : List Event → Type 0 = λ h. IsLawful h in
      lawful_front (history opened (take n lines) c) (events_on c (drop n lines)) (subst P (history_split opened lines n c) (lawful.histories c));
  each_fits = λ k less.
      let inside : k < n = omega (arith, less, length-take n lines) in
      let within : k < length lines = omega (arith, less, length-take n lines) in
      subst (λ (x : TraceLine). Fits opened (take k (take n lines)) x) (sym (get_or-take n lines k Other inside))
      (subst (λ (before : List TraceLine). Fits opened before (get_or lines k Other)) (sym (take-take k n lines (omega (arith, inside)))) (lawful.each_fits k within));
}
