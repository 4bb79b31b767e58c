-- What holds of a worker between any two tries of a step. (Only private contracts cite this.)
use Rattle.std.specs.Prelude.{◌≡◌, ◌<◌, ◌≤◌, ◌+◌, ◌*◌, ℕ, true, false, not, List, [], ◌∷◌, ◌++◌, length, All, Option, Some, is_some, option_to_list, flat_map}
use Rattle.pp_channel.specs.Answer.{seen_answered}
use Rattle.pp_line.specs.ChannelWord.{greatest_number, number_in}
use Rattle.pp_line.specs.LineLog.{LogState, empty_log, with_seen, IsMonotone, seen_on}
use Rattle.pp_line.specs.LineState.{LineState, IsActed}
use Rattle.pp_line.specs.LineView.{reads, writes}
use Rattle.pp_line.specs.Order.{entries_among, extended, writes_among}
use Rattle.pp_runner.specs.Types.{Access, Answer, Entry, FoundWord, LineView, Need, Numbered, Seen}
use Rattle.pp_processor.specs.Processor.{Processor}
use Rattle.pp_processor.specs.Replay.{OfChannel, fits, contribution, replayed, given_count, events_given, looks_and_events}
use Rattle.pp_runner.specs.Accesses.{accesses_by, AreAccessesOf}
use Rattle.pp_runner.specs.WorkerReport.{AllMoved, AllBySize, IsBySize, events_in, sights_in}
use Rattle.pp_numbers.specs.Subsequence.{IsSubsequence}
use Rattle.pp_runner.specs.End.{WasHeld}

-- The log has the entries of the steps that are done, and then the look, if there is one, that has
-- held the processor since. Such a look need not stay: the next one takes its place.
pub record HasEntries (done : List Entry) (look : Option Entry) (log : LogState) : Type 0 where
  pub all : log.entries ≡ done ++ option_to_list look
  pub kept : log.kept ≡ not (is_some look)

-- The line made these accesses by answers to this processor, in its one program order; those to
-- channels stand among these entries.
pub record HasMade (load : Processor) (answers : List Answer) (done : List Entry) (v : LineView)
    : Type 0 where
  pub accesses : List Access
  pub given : AreAccessesOf load answers accesses
  pub program_order : List Access
  pub only : v.program_orders ≡ program_order ∷ []
  pub accessed : IsSubsequence accesses program_order
  pub logged : IsSubsequence (entries_among accesses) done
  pub written : v.written ≡ writes_among accesses

-- Beside central memory of this size, the line has room for `steps` steps, and made no access.
pub record IsUnused (size steps : ℕ) (line : LineState) : Type 0 where
  pub log : line.log ≡ empty_log (2 * steps + 1)
  pub central : length line.view.central ≡ size
  pub written : line.view.written ≡ []
  pub program_orders : line.view.program_orders ≡ [] ∷ []

-- The processor is the replay of its answers; the line's log and accesses record that replay.
pub record IsAtWork (load : Processor) (size steps : ℕ) (pp : Processor) (answers : List Answer)
    (line : LineState) : Type 0 where
  pub pp_is : pp ≡ replayed load answers
  pub all_given : given_count load answers ≡ length answers
  pub all_moved : AllMoved load answers
  pub by_size : AllBySize size load answers
  pub done : List Entry
  pub look : Option Entry
  pub has : HasEntries done look line.log
  pub made : HasMade load answers done line.view
  pub events : events_in line.log.entries ≡ events_given load answers
  pub sights : IsSubsequence (looks_and_events load answers) (sights_in done)
  pub monotone : IsMonotone line.log.entries
  pub few_entries : length done ≤ 2 * length (looks_and_events load answers)
  pub few_sights : length (looks_and_events load answers) ≤ length answers
  pub held : line.log.kept ≡ false → WasHeld pp line.log.entries
  pub room : line.log.room + length line.log.entries ≡ 2 * steps + 1

-- the log after an answer records what the answer did or saw, by its number, and nothing else
abbrev pub IsNoted : ℕ → List (OfChannel Seen) → LogState → LogState → Type 0
IsNoted number [] before after = after ≡ before
IsNoted number (sight ∷ []) before after =
    after ≡ with_seen before sight.channel number (Some sight.what)
IsNoted number (sight ∷ other ∷ more) before after = ⊥

-- The program orders of the line have grown by these accesses, and it has written no more.
pub record HasLooked (before after : LineState) : Type 0 where
  pub more : List Access
  pub program_orders : after.view.program_orders ≡ extended before.view.program_orders more
  pub written : after.view.written ≡ before.view.written

-- An answer to a need, and the line before and after it: the log records what the answer did or
-- saw, and the program orders have grown by some accesses, those of the answer among them.
pub record IsAnswered (size : ℕ) (needed : Need) (answer : Answer) (before after : LineState)
    : Type 0 where
  pub fits : fits needed answer ≡ true
  pub by_size : IsBySize size needed answer
  pub number : ℕ
  pub noted : IsNoted number (contribution seen_answered needed answer) before.log after.log
  pub more : List Access
  pub program_orders : after.view.program_orders ≡ extended before.view.program_orders more
  pub accessed : IsSubsequence (accesses_by number needed answer) more
  pub written : after.view.written
      ≡ before.view.written ++ writes_among (accesses_by number needed answer)
  pub monotone : IsMonotone before.log.entries → IsMonotone after.log.entries

-- What a step's operation on a channel, read or write did to the line: it gave this answer. Without
-- one the line stays, and so it does if central memory has no word at the address.
abbrev pub HasActed : Need → LineState → Answer → LineState → Type 0
HasActed (Need.Channel channel operation) before answer after = (numbered : Numbered)
    × (answer ≡ Answer.Channel numbered.reply) × IsActed before channel operation numbered after
HasActed (Need.Read address) before (Answer.Read (Some word)) after =
    after ≡ record before { view = reads before.view address word }
HasActed (Need.Write address word) before (Answer.Wrote true) after =
    (number : ℕ) × (after ≡ record before { view = writes before.view address word number })
HasActed needed before answer after = after ≡ before

-- the number of operations on channels that one try of a step makes
abbrev pub operations : Need → ℕ
operations (Need.Channel channel operation) = 1
operations needed = 0

-- What one operation finds: a word and, if its exchange was lost, a later one of the same channel.
abbrev pub AreFoundByOne : List FoundWord → Type 0
AreFoundByOne (word ∷ []) = Unit {0}
AreFoundByOne (word ∷ other ∷ []) =
    (other.channel ≡ word.channel) × (number_in word.word < number_in other.word)
AreFoundByOne words = ⊥

-- The line has made `count` operations, and has found what each of them finds, one after another.
pub record HasOperated (count : ℕ) (before after : LineState) : Type 0 where
  pub finds : List (List FoundWord)
  pub each : All AreFoundByOne finds
  pub number : length finds ≡ count
  pub found : after.view.found ≡ before.view.found ++ flat_map (λ words. words) finds

-- Of each channel the line has seen at least `happened` events, and its word can count these.
pub record HasSeen (happened : ℕ → ℕ) (line : LineState) : Type 0 where
  pub countable : (c : ℕ) → happened c ≤ greatest_number
  pub seen : (c : ℕ) → happened c ≤ seen_on c line.view.seen

-- No entry of a log is older than `happened` events of its channel.
abbrev pub NoneOlder : (ℕ → ℕ) → List Entry → Type 0
NoneOlder happened log = All (λ entry. happened entry.channel ≤ entry.number) log

-- The same line, later, at the same channels and central memory, with the same shares and number of
-- program orders. It has forgotten nothing, and no entry that came is older than what it had seen.
pub record IsSameLine (before after : LineState) : Type 0 where
  pub shares : after.view.shares ≡ before.view.shares
  pub whole : after.view.whole ≡ before.view.whole
  pub table : after.table ≡ before.table
  pub central : after.view.central ≡ before.view.central
  pub program_orders : length after.view.program_orders ≡ length before.view.program_orders
  pub seen : (happened : ℕ → ℕ) → HasSeen happened before → HasSeen happened after
  pub none_older : (happened : ℕ → ℕ) → HasSeen happened before
      → NoneOlder happened before.log.entries → NoneOlder happened after.log.entries
