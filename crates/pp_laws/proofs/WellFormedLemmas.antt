-- A drawing is well-formed: what a run decides is plain, a reader passes over it, and each part of the
-- picture is balanced.
use Rattle.std.proofs.Common.{◌≡◌, ℕ, zero, suc, ◌%◌, ◌/◌, ◌&&◌, Bool, true, false, cond, eqb, leb, fold, List, [], ◌∷◌, ◌++◌, Option, None, Some, refl, ap, ◌∙◌, codes, arith}
use Rattle.std.specs.List.{list_all, slice_get}
use Rattle.std.specs.Option.{option_map, unwrap_or}
use Rattle.std.proofs.lemmas.Bool.{and_parts}
use Rattle.std.proofs.lemmas.List.Folds.{list_all-append}
use Rattle.std.proofs.lemmas.List.Sums.{fold-append}
use Rattle.pp_word.specs.Numeral.{octal, short_decimal}
use Rattle.pp_word.proofs.NumeralLemmas.{Pass, digits_pass}
use Rattle.pp_numbers.specs.ChannelNo.{channel_index}
use Rattle.pp_channel.specs.History.{active, waiting}
use Rattle.pp_channel.specs.declared.event.Event.TheVariants.{Put, Function}
use Rattle.pp_machine.specs.MachineState.{MachineState, history_of, processor_of}
use Rattle.pp_numbers.specs.PpNo.{processor_index}
use Rattle.pp_processor.specs.declared.pp_state.PpState.{PpState}
use Rattle.pp_channel.specs.ChannelText.{channel_text}
use Rattle.pp_text.specs.PrintedText.{each_below, state_text}
use Rattle.pp_numbers.specs.declared.window.Window.{Window}
use Rattle.pp_draw.specs.Condition.{channel_phases, face_of, own_earlier, processor_phases}
use Rattle.pp_draw.specs.DrawingText.{channel_lane, drawing, is_flagged, is_used, lane_text, lanes_above, processor_lane, used_among}
use Rattle.pp_draw.specs.Frame.{are_few, foot_text, head_text, legend_text, rectangle_tag, style_text, text_element, text_tag, tick_text}
use Rattle.pp_draw.specs.Lane.{band_element, drawn_from, free_after, is_visible, label_from, lane_head, part_class, part_of}
use Rattle.pp_laws.specs.WellFormed.{IsWellFormed, Reader, Sign, before, between, letter, other, quoted, read_at, read_on, sign_of, space}
use Rattle.pp_draw.specs.declared.condition.Condition.TheVariants.{HeldBy}
use Rattle.pp_draw.specs.declared.{condition.Look.Look, condition.Phase.Phase, lane.Part.Part, seen_step.SeenStep.SeenStep}
use Rattle.pp_draw.specs.declared.condition.Look.TheVariants.{Channel, Processor}
use Rattle.pp_text.proofs.Telling.{short_decimal_pass}

-- ---- plain texts: of letters, digits and spaces

abbrev is_plain_sign : Sign → Bool
is_plain_sign letter = true
is_plain_sign other = true
is_plain_sign space = true
is_plain_sign sign = false

abbrev is_plain_character : ℕ → Bool
is_plain_character character = is_plain_sign (sign_of character)

abbrev is_plain : List ℕ → Bool
is_plain text = list_all is_plain_character text

plain-append : (a b : List ℕ) → is_plain a ≡ true → is_plain b ≡ true → is_plain (a ++ b) ≡ true
plain-append a b first more = rw (list_all-append is_plain_character a b, first) more

plain_digits : Pass 10 is_plain_character
plain_digits n low = grind arith

plain_octal : (width n : ℕ) → is_plain (octal width n) ≡ true
plain_octal width n = digits_pass 8 is_plain_character (λ d low. plain_digits d (omega (arith, low))) (omega arith) width n

plain_decimal : (n : ℕ) → is_plain (short_decimal n) ≡ true
plain_decimal n = short_decimal_pass is_plain_character plain_digits n

plain_name : (letters : List ℕ) (n : ℕ) → is_plain letters ≡ true → is_plain (letters ++ octal 2 n) ≡ true
plain_name letters n plain = plain-append letters (octal 2 n) plain (plain_octal 2 n)

plain_face : (look : Look) → (is_plain (face_of look).class ≡ true) × (is_plain (face_of look).words ≡ true) × (is_plain (unwrap_or (face_of look).label []) ≡ true)
plain_face (Channel (Put word)) = (refl, refl, plain_octal 4 word)
plain_face (Channel (Function code)) = (refl, refl, plain_octal 4 code)
plain_face (Processor (HeldBy c)) = (refl, refl, plain_name (codes "CH") c refl)
plain_face look = (refl, refl, refl)

plain_class : (is_lost : Bool) (look : Look) → is_plain (cond is_lost (codes "l") (face_of look).class) ≡ true
plain_class is_lost look = grind (arith, plain_face)

plain_lost : (is_lost : Bool) → is_plain (cond is_lost (codes " lost") []) ≡ true
plain_lost is_lost = grind arith

plain_standing : (is_active : Bool) (word : Option ℕ) → is_plain (channel_text is_active word) ≡ true
plain_standing is_active (Some word) = plain-append (codes "ACTIVE FULL ") (octal 4 word) refl (plain_octal 4 word)
plain_standing true None = refl
plain_standing false None = refl

plain_state : (state : PpState) → is_plain (state_text state) ≡ true
plain_state state = grind (arith, plain-append, plain_octal)

abbrev read : Reader → List ℕ → Reader
read reader text = fold read_on reader text

-- a text that may stand within an element
abbrev IsBalanced : List ℕ → Type 0
IsBalanced text = (outer : List ℕ) (others : List (List ℕ)) → read (between (outer ∷ others)) text ≡ between (outer ∷ others)

-- ---- a reader stays where it is while it reads plain text

text_sign : (outer : List ℕ) (others : List (List ℕ)) (s : Sign) (c : ℕ) → is_plain_sign s ≡ true → read_at (between (outer ∷ others)) s c ≡ between (outer ∷ others)
text_sign outer others s c h = grind arith

quoted_sign : (attributes within : List (List ℕ)) (s : Sign) (c : ℕ) → is_plain_sign s ≡ true → read_at (quoted attributes within) s c ≡ quoted attributes within
quoted_sign attributes within s c h = grind arith

stays : (reader : Reader) → ((s : Sign) (c : ℕ) → is_plain_sign s ≡ true → read_at reader s c ≡ reader) → (text : List ℕ) → is_plain text ≡ true → read reader text ≡ reader
stays reader same [] h = refl
stays reader same (c ∷ text) h =
    let (here, more) = and_parts (is_plain_character c) (is_plain text) h in
    ap (λ (r : Reader). read r text) (same (sign_of c) c here) ∙ stays reader same text more

in_text : (text : List ℕ) → is_plain text ≡ true → IsBalanced text
in_text text h outer others = stays (between (outer ∷ others)) (text_sign outer others) text h

in_quotes : (text : List ℕ) → is_plain text ≡ true → (attributes within : List (List ℕ)) → read (quoted attributes within) text ≡ quoted attributes within
in_quotes text h attributes within = stays (quoted attributes within) (quoted_sign attributes within) text h

decimal_in_quotes : (n : ℕ) (attributes within : List (List ℕ)) → read (quoted attributes within) (short_decimal n) ≡ quoted attributes within
decimal_in_quotes n = in_quotes (short_decimal n) (plain_decimal n)

decimal_in_text : (n : ℕ) → IsBalanced (short_decimal n)
decimal_in_text n = in_text (short_decimal n) (plain_decimal n)

-- ---- more texts that may stand within an element

balanced-append : (a b : List ℕ) → IsBalanced a → IsBalanced b → IsBalanced (a ++ b)
balanced-append a b first more outer others = fold-append read_on (between (outer ∷ others)) a b ∙ ap (λ (r : Reader). read r b) (first outer others) ∙ more outer others

balanced-if : (b : Bool) (text : List ℕ) → IsBalanced text → IsBalanced (cond b text [])
balanced-if b text h = grind arith

balanced_each : (count : ℕ) (said : ℕ → List ℕ) → ((k : ℕ) → IsBalanced (said k)) → IsBalanced (each_below count said)
unfolding each_below
balanced_each zero said each = λ outer others. refl
balanced_each (suc k) said each = balanced-append (each_below k said) (said k) (balanced_each k said each) (each k)

-- ---- lanes

balanced_band : (name : List ℕ) (part : Part) → is_plain name ≡ true → IsBalanced (band_element name part)
unfolding band_element rectangle_tag
balanced_band name part plain outer others =
    let face = plain_face part.look in
    simp (
      fold-append,
      in_quotes (part_class part) (plain_class part.is_lost part.look),
      decimal_in_quotes,
      decimal_in_text,
      in_text name plain,
      in_text (face_of part.look).words face.1,
      in_text (unwrap_or (face_of part.look).label []) face.2,
      in_text (cond part.is_lost (codes " lost") []) (plain_lost part.is_lost),
    )

abbrev label_element : Part → Option (List ℕ) → List ℕ
label_element part label = unwrap_or (option_map (text_element (part_class part) part.start 10) label) []

balanced_label : (free : ℕ) (part : Part) → IsBalanced (label_element part (label_from free part))
unfolding text_tag
balanced_label free part = by_test (is_visible part && leb free part.start)
  where
    of_look : (o : Option (List ℕ)) → is_plain (unwrap_or o []) ≡ true → IsBalanced (label_element part o)
    of_look None plain = λ outer others. refl
    of_look (Some text) plain = λ outer others. simp (fold-append, in_quotes (part_class part) (plain_class part.is_lost part.look), decimal_in_quotes, in_text text plain)

    by_test : (b : Bool) → IsBalanced (label_element part (cond b (face_of part.look).label None))
    by_test true = of_look (face_of part.look).label (plain_face part.look).2
    by_test false = of_look None refl

balanced_phases : (w : Window) (name : List ℕ) (free : ℕ) (phases : List Phase) → is_plain name ≡ true → IsBalanced (drawn_from w name free phases)
balanced_phases w name free [] plain = λ outer others. refl
balanced_phases w name free (phase ∷ more) plain =
    let part = part_of w phase (slice_get more 0) in
    let band = cond (is_visible part) (band_element name part) [] in
    balanced-append (band ++ label_element part (label_from free part)) (drawn_from w name (free_after free part) more)
    (balanced-append band (label_element part (label_from free part)) (balanced-if (is_visible part) (band_element name part) (balanced_band name part plain)) (balanced_label free part))
    (balanced_phases w name (free_after free part) more plain)

balanced_lane : (w : Window) (row : ℕ) (name : List ℕ) (phases : List Phase) (standing : List ℕ) → is_plain name ≡ true → is_plain standing ≡ true → IsBalanced (lane_text w row name phases standing)
unfolding lane_text lane_head text_tag
balanced_lane w row name phases standing plain stands outer others = grind (arith, fold-append, decimal_in_quotes, in_text, balanced_phases, codes)

balanced_channel : (w : Window) (m : MachineState) (c : ℕ) → IsBalanced (channel_lane w m c)
unfolding channel_lane
balanced_channel w m c =
    let is_active = active (history_of c m) in
    let word = waiting (history_of c m) in
    balanced-if (is_used m c) _ (balanced_lane w (used_among (channel_index c) m) (codes "CH" ++ octal 2 c) (channel_phases c m) (channel_text is_active word) (plain_name (codes "CH") c refl) (plain_standing is_active word))

balanced_processor : (w : Window) (shown : List Bool) (m : MachineState) (earlier : List (Option SeenStep)) (steps : List SeenStep) (n : ℕ) → IsBalanced (processor_lane w shown m earlier steps n)
unfolding processor_lane
balanced_processor w shown m earlier steps n =
    let state = (processor_of n m).state in
    balanced-if (is_flagged shown (processor_index n)) _
    (balanced_lane w (lanes_above (processor_index n) shown m) (codes "PP" ++ octal 2 n) (processor_phases n (own_earlier n earlier ++ steps)) (state_text state) (plain_name (codes "PP") n refl) (plain_state state))

-- ---- the picture

-- the name of the outermost element, the last character first
abbrev svg : List ℕ
svg = codes "gvs"

-- its head, which leaves it open
head_read : (w : Window) (rows : ℕ) → read before (head_text w rows) ≡ between (svg ∷ [])
unfolding head_text
head_read w rows = simp (fold-append, decimal_in_quotes, decimal_in_text)

balanced_style : IsBalanced style_text
unfolding style_text
balanced_style outer others = refl

balanced_legend : IsBalanced legend_text
unfolding legend_text
balanced_legend outer others = refl

balanced_tick : (w : Window) (rows turn : ℕ) → IsBalanced (tick_text w rows turn)
unfolding rectangle_tag text_tag
balanced_tick w rows turn = balanced-if (eqb (turn % cond (are_few w) 10 20) 0) _ (λ outer others. simp (fold-append, decimal_in_quotes, decimal_in_text))

-- its end
foot_read : (rows : ℕ) → read (between (svg ∷ [])) (foot_text rows) ≡ between []
unfolding text_tag
foot_read rows = simp (fold-append, decimal_in_quotes)

-- a picture, part by part
parts_read : (head style legend ticks channels processors foot : List ℕ) → read before head ≡ between (svg ∷ []) → IsBalanced style → IsBalanced legend → IsBalanced ticks → IsBalanced channels → IsBalanced processors
    → read (between (svg ∷ [])) foot ≡ between [] → IsWellFormed (head ++ style ++ legend ++ ticks ++ channels ++ processors ++ foot)
parts_read head style legend ticks channels processors foot begins s l t c p ends = simp (fold-append, begins, s svg [], l svg [], t svg [], c svg [], p svg [], ends)

pub drawing_read : (w : Window) (shown : List Bool) (m : MachineState) (earlier : List (Option SeenStep)) (steps : List SeenStep) → IsWellFormed (drawing w shown m earlier steps)
unfolding drawing
drawing_read w shown m earlier steps = grind (arith, parts_read, head_read, balanced_style, balanced_legend, balanced_each, balanced_tick, balanced_channel, balanced_processor, foot_read)
