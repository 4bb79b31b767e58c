-- A lane, phase by phase.
use Rattle.std.proofs.Common.{◌≡◌, ℕ, ◌+◌, ◌<◌, ◌≤◌, Bool, true, false, cond, List, [], ◌∷◌, ◌++◌, length, drop, get_or, Option, None, Some, sym, ap, ◌∙◌, append_assoc, arith}
use Rattle.std.specs.List.{cons_option, filter_map}
use Rattle.std.proofs.lemmas.List.{at_drop_all, at_drop_more}
use Rattle.pp_text.proofs.PrintingLemmas.{prints_on, prints_then}
use Rattle.pp_text.specs.TextWriter.{Prints}
use Rattle.pp_text.specs.declared.text_writer.TextWriter.{TextWriter}
use Rattle.pp_draw.specs.Condition.{changes, continues, phases_from}
use Rattle.pp_draw.specs.Lane.{drawn_from, free_after, part_elements, part_of, still_drawn}
use Rattle.pp_numbers.specs.declared.window.Window.{Window}
use Rattle.pp_draw.specs.declared.{condition.Phase.Phase, lane.Lane.Lane, lane.Part.Part}
use Rattle.pp_draw.proofs.ConditionLemmas.{same_on}

-- ---- a phase comes

-- it goes on under the look before
pub goes_by : (lane : Lane) (current next : Phase) (rest : List Phase) → lane.current ≡ Some current → continues current.look next.look ≡ true → still_drawn lane (next ∷ rest) ≡ still_drawn lane rest
goes_by lane current next rest is on = grind (arith, same_on)

-- the phase before is over
pub comes_next : (lane : Lane) (current next : Phase) (part : Part) (free : ℕ) (rest : List Phase)
    → lane.current ≡ Some current → continues current.look next.look ≡ false → part ≡ part_of lane.window current (Some next) → free ≡ free_after lane.free part
    → still_drawn lane (next ∷ rest) ≡ part_elements lane.name lane.free part ++ still_drawn (record lane { current = Some next; free = free }) rest
comes_next lane current next part free rest is over part_is free_is =
    let w = lane.window in
    let name = lane.name in
    let more = next ∷ changes next.look rest in
    ap (λ (o : Option Phase). drawn_from w name lane.free (phases_from o (next ∷ rest))) is
    ∙ ap (λ (b : Bool). drawn_from w name lane.free (current ∷ cond b (changes next.look rest) more)) over
    ∙ ap (λ (p : Part). part_elements name lane.free p ++ drawn_from w name (free_after lane.free p) more) (sym part_is)
    ∙ ap (λ (n : ℕ). part_elements name lane.free part ++ drawn_from w name n more) (sym free_is)

-- ---- phases come

-- so far the front of a whole text is printed: its rest is what is still written of a lane as these
-- phases come
pub record LeadsTo {W : Type 0} (contents : W → Option (List ℕ)) (start now : TextWriter W) (whole : List ℕ) (lane : Lane) (phases : List Phase) : Type 0 where
  pub printed : List ℕ
  pub prints : Prints contents start now printed
  pub rest : printed ++ still_drawn lane phases ≡ whole

-- the first of them comes, or none does
pub takes_if : {W : Type 0} (contents : W → Option (List ℕ)) (start old new : TextWriter W) (whole : List ℕ) (lane after : Lane) (next : Option Phase) (rest : List Phase)
    → ((printed : List ℕ) × Prints contents old new printed × ((others : List Phase) → still_drawn lane (cons_option next others) ≡ printed ++ still_drawn after others))
    → LeadsTo contents start old whole lane (cons_option next rest) → LeadsTo contents start new whole after rest
takes_if contents start old new whole lane after next rest (more, prints, same) so_far = record {
  printed = so_far.printed ++ more;
  prints = prints_then contents start old new so_far.printed more so_far.prints prints;
  rest = append_assoc so_far.printed more (still_drawn after rest) ∙ ap (λ (t : List ℕ). so_far.printed ++ t) (sym (same rest)) ∙ so_far.rest;
}

-- after its head no phase of a lane has come yet
pub comes_first : {W : Type 0} (contents : W → Option (List ℕ)) (start now : TextWriter W) (w : Window) (name said front : List ℕ) (lane : Lane) (phases left : List Phase)
    → lane ≡ record { window = w; name = said; current = None; free = 0 } → said ≡ name → left ≡ phases → Prints contents start now front
    → LeadsTo contents start now (front ++ drawn_from w name 0 (phases_from None phases)) lane left
comes_first contents start now w name said front lane phases left is named same prints = grind arith

-- the next of a list comes
pub next_left : {T : Type 0} (phase : T → Option Phase) (xs : List T) (i : ℕ) (x : T) → i < length xs → x ≡ get_or xs i x
    → filter_map phase (drop i xs) ≡ cons_option (phase x) (filter_map phase (drop (i + 1) xs))
next_left {T} phase xs i x within is = at_drop_more (filter_map phase) xs i x within ∙ ap (λ (y : T). filter_map phase (y ∷ drop (i + 1) xs)) (sym is)

-- none is left, and the last phase is printed
pub comes_to_end : {W T : Type 0} (contents : W → Option (List ℕ)) (start old new : TextWriter W) (whole : List ℕ) (lane : Lane) (phase : T → Option Phase) (xs : List T) (i : ℕ) → length xs ≤ i
    → LeadsTo contents start old whole lane (filter_map phase (drop i xs)) → Prints contents old new (still_drawn lane []) → Prints contents start new whole
comes_to_end contents start old new whole lane phase xs i past h last =
    prints_on contents start old new h.printed (still_drawn lane []) whole h.prints last
    (ap (λ (ps : List Phase). h.printed ++ still_drawn lane ps) (sym (at_drop_all (filter_map phase) xs i past)) ∙ h.rest)
