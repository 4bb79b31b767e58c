-- Texts whose lines are a lawful trace, as far as they are read, and where they stop; a text has one fault, and the turns of a lawful trace rise.
use Rattle.std.proofs.Common.{◌≡◌, ℕ, ◌+◌, ◌-◌, ◌<◌, ◌≤◌, Bool, List, [], ◌∷◌, ◌++◌, length, take, drop, get_or, Option, Some, None, refl, sym, ap, ◌∙◌, subst, arith, inl, inr, zero, suc, add-one, Ok, Err}
use Rattle.std.specs.Prelude.{◌↔◌, All, IfSome, IsSome, option_to_list, if◌then◌else◌, nat_le, slice_get, ◌==◌}
use Rattle.std.specs.List.{filter_map, last_or, slice_split}
use Rattle.std.proofs.Math.Seq.{take-append_seam, take-take}
use Rattle.std.proofs.lemmas.Bool.{cases_lt, cond-false, cond-true, eq-eqb, le-leb, lt-leb, ne_eqb}
use Rattle.std.proofs.lemmas.List.{get_or_push, length_push, take-append-drop, take_more, get_or_append_left, take_all, get_or-map, length-map}
use Rattle.std.proofs.lemmas.List.Elements.{All-take, filter_map-append, All-more, All-nil}
use Rattle.pp_channel.specs.Answer.{channel_state}
use Rattle.pp_channel.specs.History.{IsLawful}
use Rattle.pp_channel.specs.declared.event.Event.{Event}
use Rattle.pp_numbers.proofs.GrowingLists.{filter_map_more}
use Rattle.pp_check.specs.LawfulTrace.{AreLawful, Fits, IsLawfulTrace, history, last_turn, parsed_lines, turn_of, event_on, turns}
use Rattle.pp_check.specs.TraceFault.{IsFault, IsFlaw, IsFlawOf}
use Rattle.pp_check.specs.TraceLine.{parsed_line}
use Rattle.pp_check.specs.declared.{trace_fault.TraceFault.TraceFault, trace_fault.TraceFlaw.TraceFlaw, trace_line.TraceLine.TraceLine, judge.Judge.Judge}
use Rattle.pp_check.specs.declared.trace_fault.TraceFlaw.TheVariants.{Malformed, TurnNotRising, WrongNumber, UnlawfulEvent, WrongState}
use Rattle.pp_check.specs.declared.trace_line.TraceLine.TheVariants.{AtTurn, Numbered, Standing, Other}
use Rattle.pp_check.proofs.TraceLemmas.{history_more, last_fits, lawful_prefix, turns_more, turns_same}
use Rattle.std.specs.List.Sorted.{IsStrictlyIncreasing}
use Rattle.std.proofs.lemmas.Option.{slice_get-get_or}
use Rattle.pp_numbers.proofs.LastElements.{last_or_at}
use Rattle.pp_check.specs.declared.trace_line.TraceLine.TheVariants as says
use Rattle.pp_check.proofs.KeepsLemmas.{here_by}
use Rattle.pp_deck.specs.DeckText.{fields_of, is_line_feed, lines_of}
use Rattle.pp_check.specs.Judge.{IsRead, Keeps}

-- the fields of each line
abbrev pub Text : Type 0
Text = List (List (List ℕ))

abbrev pub Says : List (List ℕ) → Type 0
Says line = IsSome (parsed_line line)

-- ---- one line more

pub said_more : (text : Text) (k : ℕ) (line : TraceLine) → k < length text → parsed_line (get_or text k []) ≡ Some line → parsed_lines (take (k + 1) text) ≡ parsed_lines (take k text) ++ line ∷ []
unfolding parsed_lines
said_more text k line within is =
    ap (filter_map parsed_line) (take_more text k [] within) ∙ filter_map_more parsed_line (take k text) (get_or text k [])
    ∙ ap (λ (o : Option TraceLine). filter_map parsed_line (take k text) ++ option_to_list o) is

-- ---- fewer lines

said_split : (text : Text) (n : ℕ) → parsed_lines text ≡ parsed_lines (take n text) ++ parsed_lines (drop n text)
unfolding parsed_lines
said_split text n =
    ap (filter_map parsed_line) (sym (take-append-drop n text)) ∙ filter_map-append parsed_line (take n text) (drop n text)

said_prefix : (text : Text) (n : ℕ) → take (length (parsed_lines (take n text))) (parsed_lines text) ≡ parsed_lines (take n text)
said_prefix text n =
    ap (take (length (parsed_lines (take n text)))) (said_split text n) ∙ take-append_seam (parsed_lines (take n text)) (parsed_lines (drop n text))

pub are_lawful_prefix : (opened : List Bool) (text : Text) (n : ℕ) → AreLawful opened text → AreLawful opened (take n text)
are_lawful_prefix opened text n lawful = record {
  said = All-take Says n text lawful.said;
  lawful = subst (IsLawfulTrace opened) (said_prefix text n) (lawful_prefix opened (parsed_lines text) (length (parsed_lines (take n text))) lawful.lawful);
}

-- ---- a flaw

-- a turn that is not greater than the last does not fit
pub late_turn : (opened : List Bool) (before : List TraceLine) (line : TraceLine) (turn last : ℕ) → turn_of line ≡ Some turn → last_turn before ≡ Some last → turn ≤ last → Fits opened before line → ⊥
late_turn opened before (AtTurn t c e) turn last is was late fits = grind arith
late_turn opened before line turn last is was late fits = absurd cc

-- lines with a flaw at their end are not lawful
flawed : (opened : List Bool) (before : List TraceLine) (line : TraceLine) (flaw : TraceFlaw) → IsFlawOf opened before line flaw → IsLawfulTrace opened (before ++ line ∷ []) → ⊥
flawed opened before line Malformed flaw lawful = flaw
flawed opened before line (TurnNotRising turn last) flaw lawful = late_turn opened before line turn last flaw.0 flaw.1 flaw.2 (last_fits opened before line lawful)
flawed opened before line (WrongNumber c number next) flaw lawful =
    let fits : number ≡ length (history opened before c) = subst (Fits opened before) flaw.0.1 (last_fits opened before line lawful) in
    flaw.2 (fits ∙ sym flaw.1)
flawed opened before line (UnlawfulEvent c e state) flaw lawful =
    let P : List Event → Type 0 = λ h. IsLawful h in
    flaw.3 (subst P (history_more opened before line c e flaw.1) (lawful.histories c))
flawed opened before line (WrongState c told state) flaw lawful =
    let fits : told ≡ channel_state (history opened before c) = subst (Fits opened before) flaw.0 (last_fits opened before line lawful) in
    flaw.2 (fits ∙ sym flaw.1)

last_says : (text : Text) (line : List (List ℕ)) → All Says (text ++ line ∷ []) → Says line
last_says text line all = grind (arith, get_or_push, length_push)

flaw_stops_by : (opened : List Bool) (text : Text) (k : ℕ) (flaw : TraceFlaw) (o : Option TraceLine) → parsed_line (get_or text k []) ≡ o → k < length text
    → IsFlaw opened (parsed_lines (take k text)) o flaw → AreLawful opened (take (k + 1) text) → ⊥
flaw_stops_by opened text k flaw None is within flawed_so lawful =
    let all = subst (All Says) (take_more text k [] within) lawful.said in
    let here : Says (get_or text k []) = last_says (take k text) (get_or text k []) all in
    let none : IsSome {T = TraceLine} None = subst IsSome is here in
    cc
flaw_stops_by opened text k flaw (Some line) is within flawed_so lawful = grind (arith, flawed, said_more)

pub flaw_stops : (opened : List Bool) (text : Text) (k : ℕ) (flaw : TraceFlaw) → k < length text → IsFlaw opened (parsed_lines (take k text)) (parsed_line (get_or text k [])) flaw → AreLawful opened (take (k + 1) text) → ⊥
flaw_stops opened text k flaw within flawed_so lawful = grind (arith, flaw_stops_by)

-- ---- the first fault

pub before_fault : (opened : List Bool) (text : Text) (fault : TraceFault) → IsFault opened text fault → (k : ℕ) → k < fault.line → AreLawful opened (take k text)
before_fault opened text fault is k early =
    subst (AreLawful opened) (take-take k (fault.line - 1) text (omega (arith, early))) (are_lawful_prefix opened (take (fault.line - 1) text) k is.before)

pub from_fault : (opened : List Bool) (text : Text) (fault : TraceFault) → IsFault opened text fault → (k : ℕ) → fault.line ≤ k → AreLawful opened (take k text) → ⊥
from_fault opened text fault is k late lawful =
    let counted = is.counted in
    let within = is.within in
    let line : (fault.line - 1) + 1 ≡ fault.line = omega (arith, counted) in
    let front : AreLawful opened (take fault.line text) = subst (AreLawful opened) (take-take fault.line k text late) (are_lawful_prefix opened (take k text) fault.line lawful) in
    flaw_stops opened text (fault.line - 1) fault.flaw (omega (arith, counted, within)) is.flaw
    (subst (λ (n : ℕ). AreLawful opened (take n text)) (sym line) front)

pub first_fault : (opened : List Bool) (text : Text) (fault : TraceFault) → IsFault opened text fault → (k : ℕ) → AreLawful opened (take k text) ↔ (k < fault.line)
first_fault opened text fault is k = (
  λ lawful. elim (cases_lt k fault.line) [ inl early ↦ early | inr late ↦ absurd (from_fault opened text fault is k late lawful) ],
  before_fault opened text fault is k,
)

-- ---- one flaw

module _ (opened : List Bool) (before : List TraceLine) where
  abbrev unlawful : ℕ → Event → TraceFlaw
  unlawful c e = UnlawfulEvent c e (channel_state (history opened before c))

  abbrev late : ℕ → TraceFlaw → Option ℕ → TraceFlaw
  late turn other None = other
  late turn other (Some last) = if nat_le turn last then TurnNotRising turn last else other

  -- the only flaw that a line may have
  abbrev flaw_for : TraceLine → TraceFlaw
  flaw_for (says.AtTurn turn c e) = late turn (unlawful c e) (last_turn before)
  flaw_for (says.Numbered number c e) = if number == length (history opened before c) then unlawful c e else WrongNumber c number (length (history opened before c))
  flaw_for (says.Standing c told) = WrongState c told (channel_state (history opened before c))
  flaw_for says.Other = Malformed

  in_time : (turn : ℕ) (other : TraceFlaw) (o : Option ℕ) → IfSome o (λ last. last < turn) → late turn other o ≡ other
  in_time turn other None h = refl
  in_time turn other (Some last) h = cond-false (nat_le turn last) _ _ (lt-leb turn last h)

  event_flaw : (line : TraceLine) (c : ℕ) (e : Event) → Fits opened before line → event_on c line ≡ Some e → flaw_for line ≡ unlawful c e
  event_flaw (says.AtTurn turn d k) c e fits is =
      let here = here_by c d e k (d == c) refl is in
      in_time turn (unlawful d k) (last_turn before) fits ∙ ap (λ (n : ℕ). unlawful n k) here.channel_is ∙ ap (unlawful c) here.event_is
  event_flaw (says.Numbered number d k) c e fits is =
      let here = here_by c d e k (d == c) refl is in
      cond-true (number == length (history opened before d)) _ _ (eq-eqb number (length (history opened before d)) fits) ∙ ap (λ (n : ℕ). unlawful n k) here.channel_is ∙ ap (unlawful c) here.event_is
  event_flaw line c e fits is = absurd cc

  turn_flaw : (line : TraceLine) (turn last : ℕ) → turn_of line ≡ Some turn → last_turn before ≡ Some last → turn ≤ last → flaw_for line ≡ TurnNotRising turn last
  turn_flaw (says.AtTurn t c e) turn last is was passed = grind (arith, late, unlawful, cond-true, le-leb)
  turn_flaw line turn last is was passed = absurd cc

  flaw_is : (line : TraceLine) (flaw : TraceFlaw) → IsFlawOf opened before line flaw → flaw_for line ≡ flaw
  flaw_is line Malformed f = absurd f
  flaw_is line (TurnNotRising turn last) f = turn_flaw line turn last f.0 f.1 f.2
  flaw_is line (WrongNumber c number next) f = grind (arith, flaw_for, cond-false, ne_eqb)
  flaw_is line (UnlawfulEvent c e state) f = event_flaw line c e f.0 f.1 ∙ ap (UnlawfulEvent c e) (sym f.2)
  flaw_is line (WrongState c told state) f = ap flaw_for f.0 ∙ ap (WrongState c told) (sym f.1)

one_flaw : (opened : List Bool) (before : List TraceLine) (o : Option TraceLine) (f g : TraceFlaw) → IsFlaw opened before o f → IsFlaw opened before o g → f ≡ g
one_flaw opened before None f g is also = is ∙ sym also
one_flaw opened before (Some line) f g is also = sym (flaw_is opened before line f is) ∙ flaw_is opened before line g also

-- ---- one fault

not_before : (opened : List Bool) (text : Text) (fault other : TraceFault) → IsFault opened text fault → IsFault opened text other → fault.line < other.line → ⊥
not_before opened text fault other is also early = grind (arith, from_fault, before_fault)

same_line : (opened : List Bool) (text : Text) (fault other : TraceFault) → IsFault opened text fault → IsFault opened text other → fault.line ≡ other.line
same_line opened text fault other is also = grind (arith, cases_lt, not_before, late)

pub one_fault : (opened : List Bool) (text : Text) (fault other : TraceFault) → IsFault opened text fault → IsFault opened text other → fault ≡ other
one_fault opened text fault other is also = grind (arith, same_line, one_flaw)

pub no_fault : (opened : List Bool) (text : Text) (fault : TraceFault) → IsFault opened text fault → AreLawful opened text → ⊥
no_fault opened text fault is lawful =
    from_fault opened text fault is (length text) is.within (subst (AreLawful opened) (sym (take_all (length text) text (omega arith))) lawful)

-- ---- turns

pub increasing_push : (xs : List ℕ) (t : ℕ) → IsStrictlyIncreasing xs → ((k : ℕ) → length xs ≡ k + 1 → get_or xs k 0 < t) → IsStrictlyIncreasing (xs ++ t ∷ [])
increasing_push xs t rise less = grind (arith, cases_lt, get_or_append_left, late, length_push, get_or_push)

last_below : (xs : List ℕ) (t k : ℕ) → IfSome (last_or None xs) (λ last. last < t) → length xs ≡ k + 1 → get_or xs k 0 < t
last_below xs t k less last =
    let at : last_or None xs ≡ Some (get_or xs k 0) = sym (last_or_at xs) ∙ ap (slice_get xs) (omega (arith, last)) ∙ slice_get-get_or xs k 0 (omega (arith, last)) in
    subst (λ (o : Option ℕ). IfSome o (λ l. l < t)) at less

turns_step : (opened : List Bool) (lines : List TraceLine) (line : TraceLine) → IsStrictlyIncreasing (turns lines) → Fits opened lines line → IsStrictlyIncreasing (turns (lines ++ line ∷ []))
unfolding last_turn
turns_step opened lines (says.AtTurn turn c e) rise fits =
    subst IsStrictlyIncreasing (sym (turns_more lines (says.AtTurn turn c e) turn refl)) (increasing_push (turns lines) turn rise (λ k last. last_below (turns lines) turn k fits last))
turns_step opened lines line rise fits = subst IsStrictlyIncreasing (sym (turns_same lines line refl)) rise

rise_to : (opened : List Bool) (lines : List TraceLine) → IsLawfulTrace opened lines → (n : ℕ) → n ≤ length lines → IsStrictlyIncreasing (turns (take n lines))
unfolding turns
rise_to opened lines lawful zero within = (λ k within. absurd (omega (arith, within)))
rise_to opened lines lawful (suc n) within =
    let less : n < length lines = omega (arith, within) in
    let more : take (suc n) lines ≡ take n lines ++ get_or lines n says.Other ∷ [] = ap (λ k. take k lines) (sym (add-one n)) ∙ take_more lines n says.Other less in
    subst (λ (some : List TraceLine). IsStrictlyIncreasing (turns some)) (sym more)
    (turns_step opened (take n lines) (get_or lines n says.Other) (rise_to opened lines lawful n (omega (arith, less))) (lawful.each_fits n less))

pub turns_rise : (opened : List Bool) (lines : List TraceLine) → IsLawfulTrace opened lines → IsStrictlyIncreasing (turns lines)
turns_rise opened lines lawful =
    subst (λ (some : List TraceLine). IsStrictlyIncreasing (turns some)) (take_all (length lines) lines (omega arith)) (rise_to opened lines lawful (length lines) (omega arith))

-- the first k lines say something each, and the judge keeps what they say
pub record HasRead (opened : List Bool) (all : Text) (k : ℕ) (judge : Judge) : Type 0 where
  pub said : All Says (take k all)
  pub keeps : Keeps opened (parsed_lines (take k all)) judge

pub none_read : (opened : List Bool) (all : Text) (judge : Judge) → Keeps opened [] judge → HasRead opened all 0 judge
unfolding parsed_lines
none_read opened all judge keeps = record { said = All-nil Says; keeps = keeps }

module _ (opened : List Bool) (all : Text) (k : ℕ) (line : List (List ℕ)) (judge : Judge) (within : k < length all) (here : get_or all k [] ≡ line) where
  read_by : (o : Option TraceLine) → parsed_line line ≡ o → All Says (take k all) → IsRead opened (parsed_lines (take k all)) o judge (Ok tt) → HasRead opened all (k + 1) judge
  read_by None is said read = absurd read
  read_by (Some l) is said read =
      let says : parsed_line (get_or all k []) ≡ Some l = ap parsed_line here ∙ is in
      record {
        said = All-more Says all k [] within said (subst IsSome (sym says) refl);
        keeps = subst (λ (lines : List TraceLine). Keeps opened lines judge) (sym (said_more all k l within says)) read;
      }

  pub read_more : All Says (take k all) → IsRead opened (parsed_lines (take k all)) (parsed_line line) judge (Ok tt) → HasRead opened all (k + 1) judge
  read_more said read = read_by (parsed_line line) refl said read

  flaw_by : (o : Option TraceLine) (flaw : TraceFlaw) → IsRead opened (parsed_lines (take k all)) o judge (Err flaw) → IsFlaw opened (parsed_lines (take k all)) o flaw
  flaw_by None flaw read = read
  flaw_by (Some l) flaw read = read

  pub read_fault : (old : Judge) (flaw : TraceFlaw) → HasRead opened all k old → IsRead opened (parsed_lines (take k all)) (parsed_line line) judge (Err flaw) → IsFault opened all (record { line = k + 1; flaw = flaw })
  read_fault old flaw has read =
      let at : (k + 1) - 1 ≡ k = omega arith in
      let lawful : AreLawful opened (take k all) = record { said = has.said; lawful = has.keeps.kept.lawful } in
      let flawed : IsFlaw opened (parsed_lines (take k all)) (parsed_line (get_or all k [])) flaw = subst (λ (l : List (List ℕ)). IsFlaw opened (parsed_lines (take k all)) (parsed_line l) flaw) (sym here) (flaw_by (parsed_line line) flaw read) in
      record {
        counted = omega arith;
        within = omega (arith, within);
        before = subst (λ (n : ℕ). AreLawful opened (take n all)) (sym at) lawful;
        flaw = subst (λ (n : ℕ). IsFlaw opened (parsed_lines (take n all)) (parsed_line (get_or all n [])) flaw) (sym at) flawed;
      }

-- all lines are read
pub keeps_text : (opened : List Bool) (all : Text) (k : ℕ) (judge : Judge) → length all ≤ k → HasRead opened all k judge → Keeps opened (parsed_lines all) judge
keeps_text opened all k judge past has = subst (λ (text : Text). Keeps opened (parsed_lines text) judge) (take_all k all past) has.keeps

pub lawful_text : (opened : List Bool) (all : Text) (k : ℕ) (judge : Judge) → length all ≤ k → HasRead opened all k judge → AreLawful opened all
lawful_text opened all k judge past has = grind (arith, take_all)

-- ---- the lines of a text, between its line feeds

pub line_at : (text line : List ℕ) (k : ℕ) → k < length (slice_split is_line_feed text) → line ≡ get_or (slice_split is_line_feed text) k line → (k < length (lines_of text)) × (get_or (lines_of text) k [] ≡ fields_of line)
unfolding lines_of
line_at text line k within here = grind (arith, length-map, get_or-map)

pub length-lines_of : (text : List ℕ) → length (lines_of text) ≡ length (slice_split is_line_feed text)
unfolding lines_of
length-lines_of text = length-map (slice_split is_line_feed text) fields_of
