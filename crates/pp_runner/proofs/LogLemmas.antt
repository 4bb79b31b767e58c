-- Logs with one entry more, and the lists that stand in them.
use Rattle.std.proofs.Common.{◌≡◌, ℕ, ◌+◌, ◌-◌, ◌≤◌, true, false, List, [], ◌∷◌, ◌++◌, length, Option, None, Some, refl, ap, ◌∙◌, arith}
use Rattle.std.specs.Prelude.{◌==◌, not, IsTrue, slice_set}
use Rattle.std.specs.List.{last_or}
use Rattle.std.proofs.lemmas.List.{map-append, append-nil, length-append}
use Rattle.std.proofs.lemmas.List.Elements.{filter_map-append}
use Rattle.std.proofs.lemmas.Bool.{and_parts}
use Rattle.std.proofs.Math.Seq.{set-append_seam}
use Rattle.pp_numbers.proofs.LastElements.{last_or-push}
use Rattle.pp_line.specs.LineLog.{LogState, appended, looked, is_event, is_look_at}
use Rattle.pp_runner.specs.Types.{Did, Entry, Saw, Seen}
use Rattle.pp_processor.specs.Replay.{OfChannel}
use Rattle.pp_runner.specs.WorkerState.{HasEntries}
use Rattle.pp_runner.specs.WorkerReport.{event_in, events_in, sights_in}
use Rattle.pp_numbers.specs.Subsequence.{IsSubsequence}
use Rattle.pp_numbers.proofs.Subsequences.{stands_more}

set_last : {X : Type 0} (front : List X) (x y : X) → slice_set (front ++ x ∷ []) (length (front ++ x ∷ []) - 1) y ≡ front ++ y ∷ []
set_last front x y =
    let n : length (front ++ x ∷ []) - 1 ≡ length front = omega (arith, length-append front (x ∷ [])) in
    ap (λ k. slice_set (front ++ x ∷ []) k y) n ∙ set-append_seam front x [] y

-- The log begins with these entries, and has one more at most, which is no event.
pub record BeginsWith (done : List Entry) (log : LogState) : Type 0 where
  pub rest : List Entry
  pub is : log.entries ≡ done ++ rest
  pub few : length log.entries ≤ length done + 1
  pub no_event : events_in rest ≡ []

no_event_in : (c : ℕ) (entry : Entry) (what : Seen) → entry.what ≡ what → IsTrue (is_look_at c (Some entry)) → events_in (entry ∷ []) ≡ []
no_event_in c entry (Did e) is look = let l = (and_parts (not (is_event entry.what)) (entry.channel == c) look).0 ∙ ap (λ w. true) is in absurd cc
no_event_in c entry (Saw f) is look = rw is refl

pub begins_with : (done : List Entry) (look : Option Entry) (log : LogState) → HasEntries done look log
    → (log.kept ≡ false → (c : ℕ) × IsTrue (is_look_at c (last_or None log.entries))) → BeginsWith done log
begins_with done None log has held = grind (arith, length-append)
begins_with done (Some look) log has held = grind (arith, last_or-push, length-append, no_event_in)

-- what a log that begins with these entries is after a look
pub record IsLooked (done : List Entry) (log : LogState) (entry : Entry) : Type 0 where
  pub entries : (looked log entry).entries ≡ done ++ entry ∷ []
  pub kept : (looked log entry).kept ≡ false
  pub room : 1 ≤ log.room → (looked log entry).room + length (looked log entry).entries ≡ log.room + length log.entries

looked_kept : (log : LogState) (entry : Entry) → log.kept ≡ true → looked log entry ≡ appended log entry
looked_kept log entry k = rw k refl

looked_over : (log : LogState) (entry : Entry) → log.kept ≡ false → is_look_at entry.channel (last_or None log.entries) ≡ true →
    looked log entry ≡ record { entries = slice_set log.entries (length log.entries - 1) entry; room = log.room; kept = false }
looked_over log entry k l = rw (k, l) refl

room_pushed : (log : LogState) (entry : Entry) → 1 ≤ log.room → (log.room - 1) + length (log.entries ++ entry ∷ []) ≡ log.room + length log.entries
room_pushed log entry some = omega (arith, length-append log.entries (entry ∷ []))

-- a look, where the log ends with a look at the same channel unless its last entry is to stay
pub looked_at : (done : List Entry) (look : Option Entry) (log : LogState) (entry : Entry) → HasEntries done look log
    → (log.kept ≡ false → IsTrue (is_look_at entry.channel (last_or None log.entries))) → IsLooked done log entry
looked_at done None log entry has held = grind (arith, looked_kept, append-nil, room_pushed)
looked_at done (Some look) log entry has held = grind (arith, looked_over, set_last, length-append)

pub events_done : (done : List Entry) (log : LogState) → BeginsWith done log → events_in done ≡ events_in log.entries
events_done done log s = grind (arith, filter_map-append, append-nil)

pub events_in-push : (xs ys : List Entry) → events_in (xs ++ ys) ≡ events_in xs ++ events_in ys
events_in-push xs ys = filter_map-append (λ entry. event_in entry.channel entry.what) xs ys

pub sights_in-push : (xs ys : List Entry) → sights_in (xs ++ ys) ≡ sights_in xs ++ sights_in ys
sights_in-push xs ys = map-append (λ entry. record { channel = entry.channel; what = entry.what }) xs ys

-- what stands in the entries with which a log begins stands in the log
pub stands_done : (done : List Entry) (log : LogState) (xs : List (OfChannel Seen)) → BeginsWith done log → IsSubsequence xs (sights_in done) → IsSubsequence xs (sights_in log.entries)
stands_done done log xs s h = grind (arith, sights_in-push, stands_more)
