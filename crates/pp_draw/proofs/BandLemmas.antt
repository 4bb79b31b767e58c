-- The bands of a lane, and the lanes of a drawing.
use Rattle.std.proofs.Common.{◌≡◌, ℕ, ◌-◌, ◌*◌, ◌<◌, ◌≤◌, max, min, Bool, true, false, cond, leb, List, [], ◌∷◌, ◌++◌, Option, None, Some, sym, ap, ◌∙◌, append_assoc, arith, zero, suc, subst, ⊎_elim}
use Rattle.std.specs.Prelude.{◌↔◌, IsFalse, IsTrue}
use Rattle.std.specs.Int.{from_bool}
use Rattle.std.proofs.lemmas.Bool.{cases_lt, lt-ltb, ltb-true}
use Rattle.std.proofs.lemmas.List.{append-nil}
use Rattle.pp_numbers.specs.GappedNumbers.{is_number, index_of}
use Rattle.pp_numbers.specs.ChannelNo.{channel_count, channel_index, channel_number, names_channel, channel_places}
use Rattle.pp_machine.specs.MachineState.{MachineState}
use Rattle.pp_numbers.specs.PpNo.{names_processor, processor_count, processor_index, processor_number, processor_places}
use Rattle.pp_machine.specs.MachineStep.{counted}
use Rattle.pp_text.specs.PrintedText.{each_below}
use Rattle.pp_draw.specs.Condition.{is_sent}
use Rattle.pp_draw.specs.DrawingLaw.{EndsAt, IsTurnOf, StandsWithin}
use Rattle.pp_draw.specs.DrawingText.{channel_lane, count_below, drawing, is_flagged, is_used, lanes_above, processor_lane, used_among}
use Rattle.std.specs.List.{slice_get}
use Rattle.std.specs.Option.{option_map, unwrap_or}
use Rattle.pp_draw.specs.Frame.{band_width, foot_text, place, text_element}
use Rattle.pp_draw.specs.Lane.{band_element, drawn_from, free_after, is_visible, label_from, part_class, part_elements, part_of, until}
use Rattle.pp_draw.specs.declared.{condition.Phase.Phase, seen_step.SeenStep.SeenStep}
use Rattle.pp_numbers.specs.declared.window.Window.{Window}

-- ---- where they begin and end

pub next_adjoins : (w : Window) (phase next : Phase) (after : Option Phase) → IsFalse (is_sent phase.look) → EndsAt (part_of w phase (Some next)) (part_of w next after).since (part_of w next after).start
next_adjoins w phase next after lasts = grind arith

pub last_to_end : (w : Window) (phase : Phase) → IsFalse (is_sent phase.look) → EndsAt (part_of w phase None) w.to (band_width w)
last_to_end w phase lasts = grind arith

pub code_in_turn : (w : Window) (phase : Phase) (next : Option Phase) → IsTrue (is_sent phase.look) → (part_of w phase next).until ≡ counted phase.since
code_in_turn w phase (Some next) code = ap (λ (b : Bool). cond b (counted phase.since) next.since) code
code_in_turn w phase None code = ap (λ (b : Bool). cond b (counted phase.since) w.to) code

-- ---- which there are

narrower : (b : Bool) (x y : ℕ) → cond b 10 4 * x < cond b 10 4 * y → x < y
narrower true x y less = omega (arith, less)
narrower false x y less = omega (arith, less)

wider : (b : Bool) (x y : ℕ) → x < y → cond b 10 4 * x < cond b 10 4 * y
wider true x y less = omega (arith, less)
wider false x y less = omega (arith, less)

-- how many turns of the window come before a turn
abbrev turns_before : Window → ℕ → ℕ
turns_before w turn = min (max turn w.from) w.to - w.from

turn_shown : (w : Window) (since end : ℕ) → turns_before w since < turns_before w end → ((w.from ≤ max since w.from) × (max since w.from < w.to)) × ((since ≤ max since w.from) × (max since w.from < end))
turn_shown w since end less = ((omega arith, omega (arith, less)), (omega arith, omega (arith, less)))

shown_turn : (w : Window) (since end turn : ℕ) → w.from ≤ turn → turn < w.to → since ≤ turn → turn < end → turns_before w since < turns_before w end
shown_turn w since end turn from to first last = omega (arith, from, to, first, last)

pub visible_where : (w : Window) (phase : Phase) (next : Option Phase) → IsTrue (is_visible (part_of w phase next)) ↔ ((turn : ℕ) × IsTurnOf w (part_of w phase next) turn)
visible_where w phase next =
    let since = phase.since in
    let end = until w phase next in
    let narrow = leb (w.to - w.from) 100 in (
      λ h.
          let (in_window, in_part) = turn_shown w since end (narrower narrow (turns_before w since) (turns_before w end) (ltb-true (place w since) (place w end) h)) in
          (max since w.from, record { in_window = in_window; in_part = in_part }),
      λ h.
          let (turn, is) = h in
          lt-ltb (place w since) (place w end) (wider narrow (turns_before w since) (turns_before w end) (shown_turn w since end turn is.in_window.0 is.in_window.1 is.in_part.0 is.in_part.1)),
    )

stands_front : (text whole more : List ℕ) → StandsWithin text whole → StandsWithin text (whole ++ more)
stands_front text whole more h =
    let (front, back, is) = h in
    (front, back ++ more, ap (λ (t : List ℕ). t ++ more) is ∙ append_assoc (front ++ text) back more)

stands_back : (text before whole : List ℕ) → StandsWithin text whole → StandsWithin text (before ++ whole)
stands_back text before whole h =
    let (front, back, is) = h in (
      before ++ front,
      back,
      ap (λ (t : List ℕ). before ++ t) is
          ∙ sym (append_assoc before (front ++ text) back)
          ∙ ap (λ (t : List ℕ). t ++ back) (sym (append_assoc before front text)),
    )

pub band_stands : (w : Window) (name : List ℕ) (free : ℕ) (before : List Phase) (phase : Phase) (more : List Phase) → IsTrue (is_visible (part_of w phase (slice_get more 0)))
    → StandsWithin (band_element name (part_of w phase (slice_get more 0))) (drawn_from w name free (before ++ phase ∷ more))
band_stands w name free [] phase more seen =
    let part = part_of w phase (slice_get more 0) in
    let label = unwrap_or (option_map (text_element (part_class part) part.start 10) (label_from free part)) [] in
    let rest = drawn_from w name (free_after free part) more in (
      [],
      label ++ rest,
      ap (λ (b : Bool). (cond b (band_element name part) [] ++ label) ++ rest) seen
          ∙ append_assoc (band_element name part) label rest,
    )
band_stands w name free (first ∷ before) phase more seen =
    let part = part_of w first (slice_get (before ++ phase ∷ more) 0) in
    stands_back (band_element name (part_of w phase (slice_get more 0))) (part_elements name free part) _ (band_stands w name (free_after free part) before phase more seen)

-- ---- and lanes

one_of_each : (count : ℕ) (said : ℕ → List ℕ) (k : ℕ) → k < count → StandsWithin (said k) (each_below count said)
unfolding each_below
one_of_each zero said k less = absurd (omega (arith, less))
one_of_each (suc n) said k less =
    ⊎_elim
    (λ (l : k < n). stands_front (said k) (each_below n said) (said n) (one_of_each n said k l))
    (λ (l : n ≤ k).
    let is : k ≡ n = omega (arith, less, l) in
    stands_back (said k) (each_below n said) (said n) (subst (λ (j : ℕ). StandsWithin (said k) (said j)) is ([], [], sym (append-nil (said k)))))
    (cases_lt k n)

-- what is printed of one number stands in what is printed of all
each_stands : (front back : List ℕ) (count : ℕ) (said : ℕ → List ℕ) (k : ℕ) (text : List ℕ) → k < count → said k ≡ text → StandsWithin text (front ++ each_below count said ++ back)
each_stands front back count said k text less is =
    subst (λ (t : List ℕ). StandsWithin t (front ++ each_below count said ++ back)) is
    (stands_front (said k) (front ++ each_below count said) back (stands_back (said k) front (each_below count said) (one_of_each count said k less)))

pub channel_stands : (w : Window) (shown : List Bool) (m : MachineState) (earlier : List (Option SeenStep)) (steps : List SeenStep) (c : ℕ) → IsTrue (names_channel c) → StandsWithin (channel_lane w m c) (drawing w shown m earlier steps)
unfolding drawing
channel_stands w shown m earlier steps c names =
    stands_front (channel_lane w m c) _ (foot_text (lanes_above processor_count shown m))
    (each_stands _ _ channel_count (λ (p : ℕ). channel_lane w m (channel_number p)) (channel_index c) (channel_lane w m c) (channel_places.place_below c names) (ap (channel_lane w m) (channel_places.number_of_place c names)))

pub processor_stands : (w : Window) (shown : List Bool) (m : MachineState) (earlier : List (Option SeenStep)) (steps : List SeenStep) (n : ℕ) → IsTrue (names_processor n) → StandsWithin (processor_lane w shown m earlier steps n) (drawing w shown m earlier steps)
unfolding drawing
processor_stands w shown m earlier steps n names =
    each_stands _ (foot_text (lanes_above processor_count shown m)) processor_count (λ (p : ℕ). processor_lane w shown m earlier steps (processor_number p)) (processor_index n) (processor_lane w shown m earlier steps n) (processor_places.place_below n names)
    (ap (processor_lane w shown m earlier steps) (processor_places.number_of_place n names))

-- ---- and below one another

lower_row : (test : ℕ → Bool) (a b : ℕ) → IsTrue (test a) → a < b → count_below a test < count_below b test
unfolding count_below
lower_row test a zero has less = absurd (omega (arith, less))
lower_row test a (suc k) has less =
    ⊎_elim
    (λ (l : a < k). omega (arith, lower_row test a k has l))
    (λ (l : k ≤ a).
    let is : a ≡ k = omega (arith, less, l) in
    let one : from_bool (test k) ≡ 1 = ap (λ (j : ℕ). from_bool (test j)) (sym is) ∙ ap from_bool has in
    omega (arith, one, ap (λ (j : ℕ). count_below j test) is))
    (cases_lt a k)

later_channel : (c d : ℕ) → IsTrue (names_channel c) → IsTrue (names_channel d) → c < d → channel_index c < channel_index d
unfolding names_channel channel_index is_number index_of
later_channel c d first second less = grind arith

later_processor : (n k : ℕ) → IsTrue (names_processor n) → IsTrue (names_processor k) → n < k → processor_index n < processor_index k
unfolding names_processor processor_index is_number index_of
later_processor n k first second less = grind arith

pub lower_channel : (m : MachineState) (c d : ℕ) → IsTrue (names_channel c) → IsTrue (names_channel d) → IsTrue (is_used m c) → c < d → used_among (channel_index c) m < used_among (channel_index d) m
lower_channel m c d first second used less =
    lower_row (λ (p : ℕ). is_used m (channel_number p)) (channel_index c) (channel_index d)
    (ap (is_used m) (channel_places.number_of_place c first) ∙ used) (later_channel c d first second less)

pub lower_processor : (shown : List Bool) (m : MachineState) (n k : ℕ) → IsTrue (names_processor n) → IsTrue (names_processor k) → IsTrue (is_flagged shown (processor_index n)) → n < k
    → lanes_above (processor_index n) shown m < lanes_above (processor_index k) shown m
lower_processor shown m n k first second flagged less =
    omega (arith, lower_row (is_flagged shown) (processor_index n) (processor_index k) flagged (later_processor n k first second less))
