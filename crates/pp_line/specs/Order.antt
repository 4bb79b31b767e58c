-- One total order of the accesses of all lines, to channels and to central memory: each channel's
-- events in it are its history, each look shows its channel as the events before it left it, each
-- read of central memory finds the word written last, and each line's accesses keep their order.
use Rattle.std.specs.Prelude.{◌≡◌, ℕ, ◌==◌, List, [], ◌∷◌, ◌++◌, length, All, Option, Some, None, if◌then◌else◌, filter_map, map, slice_index, slice_set, fold}
use Rattle.std.specs.List.{flat_map, count_by, range_with_len}
use Rattle.pp_numbers.specs.Subsequence.{IsSubsequence}
use Rattle.pp_line.specs.Types.{Access, Entry, Event, Seen}
use Rattle.pp_channel.specs.Answer.{flags_of}
use Rattle.pp_channel.specs.History.{history_on}

-- the event of an entry of this channel, if it is one on channel c
abbrev pub made_at : ℕ → ℕ → Seen → Option Event
made_at c channel (Seen.Did e) = if channel == c then Some e else None
made_at c channel (Seen.Saw f) = None

-- the events on channel c among entries, in order
abbrev pub made_on : ℕ → List Entry → List Event
made_on c entries = filter_map (λ entry. made_at c entry.channel entry.what) entries

-- An entry comes right after these events of its channel: it has their number, and a look shows the
-- flags after them.
abbrev pub ComesAfter : List Event → ℕ → Seen → Type 0
ComesAfter before number (Seen.Did e) = number ≡ length before
ComesAfter before number (Seen.Saw f) = (number ≡ length before) × (f ≡ flags_of before)

-- Entries are legal after these events, `before c` on channel c: each comes right after the events
-- of its channel that are before it.
abbrev pub IsLegal : (ℕ → List Event) → List Entry → Type 0
IsLegal before [] = Unit {0}
IsLegal before (entry ∷ entries) = ComesAfter (before entry.channel) entry.number entry.what
    × IsLegal (λ c. before c ++ made_on c (entry ∷ [])) entries

-- A total order of all channels' events and of looks, after the opening histories: it is legal, and
-- each channel's history is its opening history and then its events in the order.
pub record IsTotalOrderOf (opening : ℕ → List Event) (histories : List (List Event))
    (order : List Entry) : Type 0 where
  pub each_history : (c : ℕ) → opening c ++ made_on c order ≡ history_on c histories
  pub legal : IsLegal opening order

abbrev pub entry_of : Access → Option Entry
entry_of (Access.OnChannel entry) = Some entry
entry_of access = None

abbrev pub entries_among : List Access → List Entry
entries_among accesses = filter_map entry_of accesses

abbrev pub on_channels : List Entry → List Access
on_channels entries = map Access.OnChannel entries

-- the words of central memory after an access to these
abbrev pub words_after : List ℕ → Access → List ℕ
words_after words (Access.OnChannel entry) = words
words_after words (Access.Read address word) = words
words_after words (Access.Write address word number) = slice_set words address word

abbrev pub left_by : List ℕ → List Access → List ℕ
left_by words accesses = fold words_after words accesses

abbrev pub write_number : Access → Option ℕ
write_number (Access.Write address word number) = Some number
write_number access = None

-- the numbers of the writes among accesses, in order
abbrev pub writes_among : List Access → List ℕ
writes_among accesses = filter_map write_number accesses

abbrev pub times : ℕ → List ℕ → ℕ
times number numbers = count_by (λ n. n == number) numbers

-- The writes of an order are numbered from 0 on, and each is among those that were made.
pub record AreMade (made : List ℕ) (order : List Access) : Type 0 where
  pub numbered : writes_among order ≡ range_with_len 0 (length (writes_among order))
  pub each : (number : ℕ) → times number made ≡ times number (writes_among order)

-- a read finds the word that stands at its address
abbrev pub FindsWord : List ℕ → Access → Type 0
FindsWord words (Access.OnChannel entry) = Unit {0}
FindsWord words (Access.Read address word) = slice_index words address ≡ word
FindsWord words (Access.Write address word number) = Unit {0}

-- each read finds what the accesses before it left
abbrev pub FindsWords : List ℕ → List Access → Type 0
FindsWords words [] = Unit {0}
FindsWords words (access ∷ accesses) =
    FindsWord words access × FindsWords (words_after words access) accesses

-- A program order is the accesses of one line, in the order in which they happened: a look for each
-- word that it found on a channel, its events, its reads and its writes. A line has one; a joined
-- line has those of both, and each of them then continues with the accesses of the joined line.
abbrev pub extended : List (List Access) → List Access → List (List Access)
extended program_orders more = map (λ accesses. accesses ++ more) program_orders

-- an order extends each program order: each is a subsequence of it
abbrev pub ExtendsEach : List Access → List (List Access) → Type 0
ExtendsEach order program_orders = All (λ accesses. IsSubsequence accesses order) program_orders

-- a log is drawn from program orders: it is a subsequence of their entries, one after another
abbrev pub IsDrawnFrom : List (List Access) → List Entry → Type 0
IsDrawnFrom program_orders log = IsSubsequence log (flat_map entries_among program_orders)
