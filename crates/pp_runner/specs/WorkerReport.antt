-- What a worker leaves: its answers, its log, and the whole.
use Rattle.std.specs.Prelude.{◌≡◌, ◌≤◌, ◌+◌, ◌*◌, ℕ, List, length, ◌↔◌, ◌<◌, IsNone, IsTrue, Some, slice_get, take, map, Option, None, filter_map}
use Rattle.std.specs.List.{AllZip, flat_map}
use Rattle.pp_numbers.specs.Subsequence.{IsSubsequence}
use Rattle.pp_line.specs.LineLog.{IsMonotone}
use Rattle.pp_runner.specs.Types.{Answer, Entry, Event, Moved, Need, Seen, Worker}
use Rattle.pp_processor.specs.Processor.{Processor}
use Rattle.pp_processor.specs.Replay.{replayed, given_count, events_given, looks_and_events, OfChannel}
use Rattle.pp_processor.specs.NeedAndEffect.{need, outcome}
use Rattle.pp_runner.specs.End.{IsEnd}

-- a statement holds of each answer and of the processor that the answers before it leave
abbrev pub OfEachAnswer : (Processor → Answer → Type 0) → Processor → List Answer → Type 0
OfEachAnswer P load xs =
    (i : ℕ) (x : Answer) → slice_get xs i ≡ Some x → P (replayed load (take i xs)) x

-- each answer moved its processor: none held it, and none was given to a processor at rest
abbrev pub AllMoved : Processor → List Answer → Type 0
AllMoved load xs = OfEachAnswer (λ pp x. outcome pp x ≡ Moved) load xs

-- central memory of this size has a word, and takes one, exactly if the address is below the size
abbrev pub IsBySize : ℕ → Need → Answer → Type 0
IsBySize size (Need.Read address) (Answer.Read word) = IsNone word ↔ (size ≤ address)
IsBySize size (Need.Write address word) (Answer.Wrote written) = IsTrue written ↔ (address < size)
IsBySize size needed answer = Unit {0}

abbrev pub AllBySize : ℕ → Processor → List Answer → Type 0
AllBySize size load xs = OfEachAnswer (λ pp x. IsBySize size (need pp) x) load xs

-- the event of an entry, with its channel, and none if it is a look
abbrev pub event_in : ℕ → Seen → Option (OfChannel Event)
event_in channel (Seen.Did e) = Some (record { channel = channel; what = e })
event_in channel (Seen.Saw f) = None

abbrev pub events_in : List Entry → List (OfChannel Event)
events_in log = filter_map (λ entry. event_in entry.channel entry.what) log

-- the events and the looks of a log, in order
abbrev pub sights_in : List Entry → List (OfChannel Seen)
sights_in log = map (λ entry. record { channel = entry.channel; what = entry.what }) log

-- A worker that began with this processor, beside central memory of this size, and was to make at
-- most `steps` steps: it leaves the replay of its answers; its log records what that did and saw.
pub record IsWorker {A : Type 0} (load : Processor) (size steps : ℕ) (w : Worker A) : Type 0 where
  pub pp : w.pp ≡ replayed load w.answers.items
  pub all_given : given_count load w.answers.items ≡ length w.answers.items
  pub all_moved : AllMoved load w.answers.items
  pub by_size : AllBySize size load w.answers.items
  -- its events are those of the replay, and each look that moved its processor stands in its log
  pub events : events_in w.log.items ≡ events_given load w.answers.items
  pub sights : IsSubsequence (looks_and_events load w.answers.items) (sights_in w.log.items)
  pub monotone : IsMonotone w.log.items
  pub few_answers : length w.answers.items ≤ steps
  pub few_entries : length w.log.items ≤ 2 * length (looks_and_events load w.answers.items) + 1
  pub finish : IsEnd steps w.finish w.pp w.answers.items w.log.items

-- a worker for each of these processors, in their order
abbrev pub AreWorkers : {A : Type 0} → List Processor → ℕ → ℕ → List (Worker A) → Type 0
AreWorkers loads size steps ws = AllZip (λ load w. IsWorker load size steps w) loads ws

abbrev pub logs_of : {A : Type 0} → List (Worker A) → List Entry
logs_of ws = flat_map (λ w. w.log.items) ws
