-- What a line knows of the histories, from what its steps tell.
use Rattle.std.proofs.Common.{◌≡◌, ℕ, ◌-◌, ◌<◌, ◌≤◌, true, false, not, List, [], ◌∷◌, ◌++◌, length, take, get_or, set, Option, Some, None, refl, sym, ap, ◌∙◌, arith}
use Rattle.std.specs.Prelude.{All}
use Rattle.std.specs.List.{last_or}
use Rattle.std.proofs.lemmas.List.{length-take-le}
use Rattle.std.proofs.lemmas.List.Elements.{All-push, All-set, All-weaker, All-contains}
use Rattle.std.proofs.lemmas.List.Sums.{sum_by-set}
use Rattle.std.proofs.lemmas.Option.{get_or_from_slice_get, slice_get_within}
use Rattle.std.proofs.lemmas.Bool.{and_parts}
use Rattle.pp_line.specs.Types.{Did, Entry, Event, LineView, Saw, Seen}
use Rattle.pp_channel.specs.Answer.{flags_of}
use Rattle.pp_line.specs.ChannelWord.{number_in, flags_in}
use Rattle.pp_channel.specs.History.{HasTwelveBitWords, history_on}
use Rattle.pp_line.specs.LineLog.{LogState, event_entry, looked, is_event, is_look_at, ends_in_look_at, seen_on}
use Rattle.pp_line.specs.LineSteps.{IsBackedAt, IsBacked, IsLogOf, Tells}
use Rattle.pp_line.specs.LineView.{Knows}
use Rattle.pp_line.specs.Merge.{IsTrueAt, IsTrueOf, times_logged, Merges, no_opening}
use Rattle.pp_line.specs.SharedWords.{IsFound}
use Rattle.pp_line.proofs.ChannelWordLemmas.{number_of_word, flags_of_word}
use Rattle.pp_channel.proofs.FrontLemmas.{twelve_bits_take}
use Rattle.pp_line.proofs.MergeLemmas.{told_by, times_told_push}
use Rattle.pp_channel.proofs.EachHistory.{bits_on}
use Rattle.pp_numbers.proofs.LastElements.{last_or_at}

-- a step found a word on channel c
module _ {v : LineView} {c word : ℕ} (t : Tells v c word) where
  abbrev history : List Event
  history = history_on c t.histories

  pub number_told : number_in word ≡ length history
  number_told = ap number_in (sym t.word_is) ∙ number_of_word history (bits_on t.histories c t.known.sound.twelve_bits)

  pub flags_told : flags_in word ≡ flags_of history
  flags_told = ap flags_in (sym t.word_is) ∙ flags_of_word history (bits_on t.histories c t.known.sound.twelve_bits)

  pub not_older_told : seen_on c v.seen ≤ number_in word
  not_older_told = let n = number_told in let s = t.known.seen_happened c in omega arith

count_look : (entry : Entry) (c number : ℕ) → is_event entry.what ≡ false → told_by c number entry ≡ 0
count_look entry c number is = rw is refl

last_look : (c : ℕ) (o : Option Entry) → is_look_at c o ≡ true → (entry : Entry) × (o ≡ Some entry) × (is_event entry.what ≡ false)
last_look c o is = grind (arith, and_parts)

pub last_replaced : (log : LogState) (c : ℕ) → ends_in_look_at c log ≡ true
    → (entry : Entry) × (length log.entries - 1 < length log.entries) × ((d : Entry) → get_or log.entries (length log.entries - 1) d ≡ entry) × (is_event entry.what ≡ false)
last_replaced log c ends =
    let last = last_look c (last_or None log.entries) (and_parts (not log.kept) (is_look_at c (last_or None log.entries)) ends).1 in
    let at = last_or_at log.entries ∙ last.1 in
    (last.0, slice_get_within log.entries (length log.entries - 1) last.0 at, λ d. get_or_from_slice_get log.entries (length log.entries - 1) last.0 d at, last.2)

pub looked_either : (P : List Entry → Type 0) (log : LogState) (entry : Entry)
    → (ends_in_look_at entry.channel log ≡ true → P (set log.entries (length log.entries - 1) entry))
    → P (log.entries ++ entry ∷ [])
    → P (looked log entry).entries
looked_either P log entry replaced added = grind arith

pub told_looked : (log : LogState) (entry : Entry) → is_event entry.what ≡ false → (c number : ℕ) → times_logged c number (looked log entry).entries ≡ times_logged c number log.entries
told_looked log entry look c number = looked_either (λ entries. times_logged c number entries ≡ times_logged c number log.entries) log entry
    (λ ends.
    let last = last_replaced log entry.channel ends in
    let sum = sum_by-set (told_by c number) log.entries (length log.entries - 1) entry last.0 last.1 in
    let old : told_by c number (get_or log.entries (length log.entries - 1) last.0) ≡ 0 = ap (told_by c number) (last.2 last.0) ∙ count_look last.0 c number last.3 in
    let new = count_look entry c number look in
    omega arith)
    (let sum = times_told_push c number log.entries entry in let new = count_look entry c number look in omega arith)

pub all_looked : (P : Entry → Type 0) (log : LogState) (entry : Entry) → P entry → All P log.entries → All P (looked log entry).entries
all_looked P log entry new old = looked_either (λ entries. All P entries) log entry (λ ends. All-set P log.entries (length log.entries - 1) entry new old) (All-push P log.entries entry old new)

-- a log that tells the same events merges to the same histories
pub merges_same : {histories : List (List Event)} {log : List Entry} → (other : List Entry) → Merges no_opening histories log → ((c number : ℕ) → times_logged c number other ≡ times_logged c number log) → All (IsTrueOf histories) other → Merges no_opening histories other
merges_same other m same true_of = record {
  once = λ c number low high. same c number ∙ m.once c number low high;
  no_other = λ c number past. same c number ∙ m.no_other c number past;
  begins = m.begins;
  entries_true = true_of;
}

-- a log that a view backs is true of the histories that the view knows
backed_true : (v : LineView) (histories : List (List Event)) → Knows v v.events histories → (c number : ℕ) (what : Seen) → IsBackedAt v c number what → IsTrueAt (history_on c histories) number what
backed_true v histories known c number (Did e) backed = All-contains (IsTrueOf histories) v.events (event_entry c number e) known.log_true backed
backed_true v histories known c number (Saw f) backed =
    let h = history_on c histories in
    let found : IsFound histories (record { channel = c; word = backed.0 }) = All-contains (IsFound histories) v.found (record { channel = c; word = backed.0 }) known.words_found backed.1 in
    let k : ℕ = found.0 in
    let within : k ≤ length h = found.1 in
    let bits : HasTwelveBitWords (take k h) = twelve_bits_take k h (bits_on histories c known.sound.twelve_bits) in
    let counted : number_in backed.0 ≡ k = ap number_in (sym found.2) ∙ (number_of_word (take k h) bits ∙ length-take-le k h within) in
    let at : number ≡ k = sym backed.2 ∙ counted in
    let flags : flags_of (take k h) ≡ flags_in backed.0 = sym (flags_of_word (take k h) bits) ∙ ap flags_in found.2 in
    (omega arith, ap (λ n. flags_of (take n h)) at ∙ (flags ∙ backed.3))

-- a line knows by its log what it knows by its view
pub knows_by_log : {v : LineView} {log : List Entry} {histories : List (List Event)} → IsLogOf v log → Knows v v.events histories → Knows v log histories
knows_by_log {v} {log} {histories} is known =
    let log_true = All-weaker (IsBacked v) (IsTrueOf histories) (λ x. backed_true v histories known x.channel x.number x.what) log is.backed in
    record {
      sound = known.sound;
      log_true = log_true;
      seen_happened = known.seen_happened;
      words_found = known.words_found;
      all_known = λ all. record { sound = known.sound; merged = merges_same log (known.all_known all).merged is.told log_true; counted = (known.all_known all).counted };
    }
