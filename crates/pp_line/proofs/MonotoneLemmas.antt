-- A log goes on monotone where the next entry is not older than what was seen.
use Rattle.std.proofs.Common.{ℕ, ◌-◌, ◌<◌, ◌≤◌, List, length, get_or, set, arith}
use Rattle.std.specs.Prelude.{AllPairs, Option, Some, None}
use Rattle.std.proofs.lemmas.Bool.{cases_eq}
use Rattle.std.proofs.lemmas.List.{length-set, get_or-set_same, get_or-set_other}
use Rattle.std.proofs.lemmas.List.Quantifiers.{all_pairs_push}
use Rattle.pp_line.specs.Types.{ChanOp, Did, Entry, Reply, Saw, Seen}
use Rattle.pp_line.specs.LineLog.{LogState, event_entry, look_entry, appended, looked, with_seen, IsFollowedBy, IsMonotone, seen_on, IsWithin}
use Rattle.pp_channel.specs.Answer.{seen_answered}
use Rattle.pp_line.proofs.LineKnowledge.{looked_either, last_replaced}

-- an entry in the place of the last one, which all before it may precede
pairs_set_last : {A : Type 0} (R : A → A → Type 0) (xs : List A) (y : A) → length xs - 1 < length xs → AllPairs R xs → ((k : ℕ) (d : A) → k < length xs → R (get_or xs k d) y) → AllPairs R (set xs (length xs - 1) y)
pairs_set_last R xs y some all before = grind (arith, length-set, get_or-set_other, get_or-set_same, cases_eq)

module _ (seen : List ℕ) (log : LogState) (entry : Entry) (within : IsWithin seen log.entries) (later : seen_on entry.channel seen ≤ entry.number) (monotone : IsMonotone log.entries) where
  followed : (k : ℕ) (d : Entry) → k < length log.entries → IsFollowedBy (get_or log.entries k d) entry
  followed k d inside same = grind arith

  pub rising_appended : IsMonotone (appended log entry).entries
  rising_appended = all_pairs_push IsFollowedBy log.entries entry monotone followed

  pub rising_looked : IsMonotone (looked log entry).entries
  rising_looked = looked_either IsMonotone log entry
      (λ ends. pairs_set_last IsFollowedBy log.entries entry (last_replaced log entry.channel ends).1 monotone followed)
      rising_appended

-- so does the log after an answer
module _ (seen : List ℕ) (log : LogState) (c number : ℕ) (within : IsWithin seen log.entries) (later : seen_on c seen ≤ number) (monotone : IsMonotone log.entries) where
  rising_seen : (what : Option Seen) → IsMonotone (with_seen log c number what).entries
  rising_seen None = monotone
  rising_seen (Some (Did e)) = rising_appended seen log (event_entry c number e) within later monotone
  rising_seen (Some (Saw f)) = rising_looked seen log (look_entry c number f) within later monotone

  pub rising_answer : (op : ChanOp) (reply : Reply) → IsMonotone (with_seen log c number (seen_answered op reply)).entries
  rising_answer op reply = rising_seen (seen_answered op reply)
