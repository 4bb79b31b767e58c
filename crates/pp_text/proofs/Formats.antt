-- The formats of what several texts show.
use Rattle.std.proofs.Common.{All, ◌≡◌, ◌∙◌, ℕ, ◌^◌, ◌<◌, ◌≤◌, Bool, true, false, List, [], ◌∷◌, ◌++◌, Option, Some, None, drop, refl, sym, ap, arith, codes, inl, inr}
use Rattle.std.specs.Prelude.{◌==◌, ◌&&◌, IfSome, IsTrue, get_or, not, slice_index_or, if◌then◌else◌}
use Rattle.std.specs.List.{flat_map}
use Rattle.std.proofs.lemmas.Bool.{and_parts, cases_lt, eqb-true, false_from_ne_true}
use Rattle.pp_numbers.specs.ChannelNo.{all_channels, names_channel}
use Rattle.pp_numbers.proofs.ChannelNoLemmas.{channel_fits}
use Rattle.pp_numbers.specs.PpNo.{all_processors, is_named, names_processor, processor_index}
use Rattle.pp_numbers.proofs.PpNoLemmas.{numbers_of_processors, processor_fits}
use Rattle.pp_channel.specs.History.{HasTwelveBitWord, active, waiting, history_on}
use Rattle.pp_channel.specs.declared.{event.Event.Event, flags.Flags.Flags}
use Rattle.pp_processor.specs.Processor.{HasFaultNumber}
use Rattle.pp_word.specs.Numeral.{unpadded}
use Rattle.pp_channel.specs.ChannelText.{channel_text}
use Rattle.pp_text.specs.PrintedText.{channel_line, event_text, line_end, state_text, used_channel_line}
use Rattle.pp_text.specs.Standing.{count_text, flags_text}
use Rattle.pp_text.specs.TextLaw.{HistoryFits, ShowSameChannel}
use Rattle.pp_text.proofs.Format.{Format, always, Piece, field, many, mark, maybe_rows, maybe_rows_are, maybe_rows_fit, maybe_rows_tell, maybe_text, no_digit, octals, unpaddeds, whole, within, ◌▷◌, ◌▸◌}
use Rattle.pp_text.proofs.PrintingLemmas.{channels_by_number, numbered_channel_line}
use Rattle.pp_text.proofs.Telling.{Tells}

-- ---- events, states, flags

pub event_tells : Tells HasTwelveBitWord event_text
event_tells x y r s fits also e = grind arith

pub state_tells : Tells HasFaultNumber state_text
state_tells x y r s fits also e = grind arith

-- no register of an inactive channel is full
abbrev pub AreFlags : Flags → Type 0
AreFlags flags = flags.active ≡ false → flags.full ≡ false

abbrev pub events : Format HasTwelveBitWord
events = always event_text event_tells

abbrev pub states : Format HasFaultNumber
states = always state_text state_tells

pub flags_told : Tells AreFlags flags_text
flags_told f g r s is also e = grind arith

abbrev pub flags : Format AreFlags
flags = always flags_text flags_told

-- ---- what holds a processor

-- a blank would go on with a count
abbrev pub no_count : List ℕ → Bool
no_count r = no_digit r && not (get_or r 0 0 == 32)

pub count_tells : (b c : Bool) (m n : ℕ) (r s : List ℕ) → (b ≡ true → m ≡ 0) → (c ≡ true → n ≡ 0) → m < 10 ^ 10 → n < 10 ^ 10 → no_count r ≡ true → no_count s ≡ true
    → (if b then [] else codes " x" ++ unpadded 10 m) ++ r ≡ (if c then [] else codes " x" ++ unpadded 10 n) ++ s → (m ≡ n) × (r ≡ s)
count_tells true true m n r s none also low small _ _ e = (none refl ∙ sym (also refl), e)
count_tells false false m n r s none also low small ends other e = (unpaddeds 10).tells m n r s low small (and_parts _ _ ends).0 (and_parts _ _ other).0 (ap (drop 2) e)
count_tells b c m n r s none also low small ends other e = grind arith

abbrev pub counts : Format (λ n. n < 10 ^ 10)
counts = record { text = count_text; clear = λ n r. no_count r; tells = λ m n r s. count_tells (m == 0) (n == 0) m n r s (eqb-true m 0) (eqb-true n 0) }

-- a channel, its flags, and how many steps were held
abbrev pub IsHold : ℕ × (Flags × ℕ) → Type 0
IsHold (c, (flags, count)) = IsTrue (names_channel c) × (AreFlags flags × (count < 10 ^ 10))

abbrev pub holds : Format IsHold
holds =
    whole
    (mark (codes " HELD CH") ▷ field (octals 2) (λ h. h.0) (λ h is. channel_fits h.0 is.0) ▸ codes " " ▷ field flags (λ h. h.1.0) (λ h is. is.1.0) ▷ field counts (λ h. h.1.1) (λ h is. is.1.1))
    (λ x y (((_, c), flags), count) j. (c j, (flags j, count j)))

-- ---- the lines of processors

-- those of numbers, each with a processor's P and A and what else is said of it
abbrev pub processors : {X : Type 0} {Shows : X → Type 0} (p a : X → ℕ) → ((x : X) → Shows x → p x < 2 ^ 12) → ((x : X) → Shows x → a x < 2 ^ 18) → Piece Shows → Piece (λ (row : ℕ × X). (row.0 < 0o100) × Shows row.1)
processors p a p_fits a_fits said =
    mark (codes "PP") ▷ field (octals 2) (λ row. row.0) (λ row fits. fits.0) ▸ codes " P=" ▷ field (octals 4) (λ row. p row.1) (λ row fits. p_fits row.1 fits.1)
    ▸ codes " A=" ▷ field (octals 6) (λ row. a row.1) (λ row fits. a_fits row.1 fits.1) ▸ codes " " ▷ within said (λ row. row.1) (λ row fits. fits.1) ▸ line_end

-- what there may be of each processor named, by the number of its line
abbrev pub named_rows : {X : Type 0} → List Bool → (ℕ → Option X) → List (ℕ × X)
named_rows named f = maybe_rows (λ n. if is_named named n then f n else None)

pub named_digits : (named : List Bool) (n : ℕ) → IsTrue (is_named named n) → n < 0o100
named_digits named n is = processor_fits n (and_parts (names_processor n) (slice_index_or named (processor_index n) false) is).0

pub named_rows_are : {X : Type 0} (named : List Bool) (line : ℕ → List ℕ) (text : ℕ × X → List ℕ) (f : ℕ → Option X) → ((n : ℕ) → line n ≡ maybe_text (λ x. text (n, x)) [] (f n))
    → flat_map (λ n. if is_named named n then line n else []) all_processors ≡ flat_map text (named_rows named f)
named_rows_are {X} named line text f each =
    numbers_of_processors (λ n. if is_named named n then line n else []) (λ n none. rw (false_from_ne_true (names_processor n) none) refl)
    ∙ maybe_rows_are (λ n. if is_named named n then line n else []) text (λ n. if is_named named n then f n else None) (λ n. by_name n (is_named named n))
  where
    by_name : (n : ℕ) (b : Bool) → (if b then line n else []) ≡ maybe_text (λ x. text (n, x)) [] (if b then f n else None)
    by_name n b = grind (arith, each n)

pub named_rows_fit : {X : Type 0} (Fits : ℕ × X → Type 0) (named : List Bool) (f : ℕ → Option X) → ((n : ℕ) → n < 0o100 → IsTrue (is_named named n) → IfSome (f n) (λ x. Fits (n, x))) → All Fits (named_rows named f)
named_rows_fit Fits named f fits = maybe_rows_fit Fits (λ n. if is_named named n then f n else None) (λ n low. by_name n (is_named named n) (fits n low))
  where
    by_name : (n : ℕ) (b : Bool) → (IsTrue b → IfSome (f n) (λ x. Fits (n, x))) → IfSome (if b then f n else None) (λ x. Fits (n, x))
    by_name n b fit = grind arith

pub named_rows_tell : {X : Type 0} (named others : List Bool) (f g : ℕ → Option X) → named_rows named f ≡ named_rows others g → (n : ℕ) → (if is_named named n then f n else None) ≡ (if is_named others n then g n else None)
named_rows_tell named others f g e n =
    elim (cases_lt n 0o100) [
      | inl low ↦ maybe_rows_tell (λ n. if is_named named n then f n else None) (λ n. if is_named others n then g n else None) e n low
      | inr past ↦ rw (unnamed named past, unnamed others past) refl
    ]
  where
    unnamed : (named : List Bool) → 0o100 ≤ n → is_named named n ≡ false
    unnamed named past = false_from_ne_true (is_named named n) (λ is. let low = named_digits named n is in absurd (omega (arith, low, past)))

-- ---- the lines of channels

-- whether a channel is active, and the word that waits
abbrev FitsChannel : Bool × Option ℕ → Type 0
FitsChannel (is_active, word) = (is_active ≡ false → word ≡ None) × IfSome word (λ n. n < 2 ^ 12)

pub channel_state_tells : Tells FitsChannel (λ (is_active, word). channel_text is_active word)
channel_state_tells x y r s fits also e = grind arith

abbrev channel_states : Format FitsChannel
channel_states = always (λ (is_active, word). channel_text is_active word) channel_state_tells

abbrev pub IsChannelLine : ℕ × (Bool × Option ℕ) → Type 0
IsChannelLine (c, state) = (c < 0o100) × FitsChannel state

abbrev pub channel_row : Format IsChannelLine
channel_row =
    whole (mark (codes "CH") ▷ field (octals 2) (λ row. row.0) (λ row fits. fits.0) ▸ codes " " ▷ field channel_states (λ row. row.1) (λ row fits. fits.1) ▸ line_end)
    (λ x y ((_, c), state) j. (c j, state j))

abbrev pub channel_lines : Format (All IsChannelLine)
channel_lines = many channel_row (λ t. get_or t 0 0 == 67 && get_or t 1 0 == 72) (λ _. true) (λ x r _. refl) (λ x r _. refl)

abbrev channel_shown : List Event → Option (Bool × Option ℕ)
channel_shown [] = None
channel_shown (e ∷ h) = Some (active (e ∷ h), waiting (e ∷ h))

abbrev named_channel : List (List Event) → ℕ → Option (Bool × Option ℕ)
named_channel histories c = if names_channel c then channel_shown (history_on c histories) else None

-- what is shown of all channels, and its lines
abbrev pub channels_shown : List (List Event) → List (ℕ × (Bool × Option ℕ))
channels_shown histories = maybe_rows (named_channel histories)

pub channels_are : (histories : List (List Event)) → flat_map (used_channel_line histories) all_channels ≡ channel_lines.text (channels_shown histories)
channels_are histories = channels_by_number (used_channel_line histories) ∙ maybe_rows_are (numbered_channel_line histories) channel_row.text (named_channel histories) (λ c. each c (names_channel c) (history_on c histories))
  where
    each : (c : ℕ) (b : Bool) (h : List Event) → (if b then channel_line c h else []) ≡ maybe_text (λ x. channel_row.text (c, x)) [] (if b then channel_shown h else None)
    each c b h = grind arith

pub channels_fit : (histories : List (List Event)) → ((c : ℕ) → IsTrue (names_channel c) → HistoryFits (history_on c histories)) → All IsChannelLine (channels_shown histories)
channels_fit histories fits = maybe_rows_fit IsChannelLine (named_channel histories) (λ c low. each c low (names_channel c) (history_on c histories) (fits c))
  where
    each : (c : ℕ) → c < 0o100 → (b : Bool) (h : List Event) → (IsTrue b → HistoryFits h) → IfSome (if b then channel_shown h else None) (λ x. IsChannelLine (c, x))
    each c low b h fits = grind arith

pub channels_same : (histories others : List (List Event)) → channels_shown histories ≡ channels_shown others → (c : ℕ) → IsTrue (names_channel c) → ShowSameChannel (history_on c histories) (history_on c others)
channels_same histories others e c names = alike (names_channel c) (history_on c histories) (history_on c others) names (maybe_rows_tell (named_channel histories) (named_channel others) e c (channel_fits c names))
  where
    alike : (b : Bool) (h k : List Event) → IsTrue b → (if b then channel_shown h else None) ≡ (if b then channel_shown k else None) → ShowSameChannel h k
    alike b h k names e = grind arith
