-- What a line of a trace says, by its fields: an event of the barrel, an event of threads, the
-- state of a channel, or nothing that concerns channels. Turns and numbers of events are decimal,
-- of at most 19 digits; processors, channels and words are octal.
use Rattle.std.specs.Prelude.{ℕ, Bool, true, false, List, [], ◌∷◌, take, drop, codes, Option, None, Some, is_some, if◌then◌else◌}
use Rattle.std.specs.Option.{option_map}
use Rattle.std.specs.Str.{bytes_eq}
use Rattle.pp_numbers.specs.ChannelNo.{names_channel}
use Rattle.pp_channel.specs.declared.{channel_state.ChannelState.ChannelState, event.Event.Event}
use Rattle.pp_channel.specs.declared.event.Event.TheVariants.{Activate, Disconnect, Put, Take, Function}
use Rattle.pp_deck.specs.DeckText.{Field, Fields}
use Rattle.pp_numbers.specs.PpNo.{names_processor}
use Rattle.pp_word.specs.Numeral.{numeral}
use Rattle.pp_check.specs.declared.trace_line.TraceLine.{TraceLine}
use Rattle.pp_check.specs.declared.trace_line.TraceLine.TheVariants.{AtTurn, Numbered, Standing, Other}

infixl 10 ◌>>=◌
-- one thing after another, from left to right
abbrev pub ◌>>=◌ : {A B : Type 0} → Option A → (A → Option B) → Option B
None >>= next = None
(Some x) >>= next = next x

-- ---- fields

-- the number after two letters, in at most two octal digits
unfoldable pub number_after : List ℕ → Field → Option ℕ
number_after letters field =
    if bytes_eq (take 2 field) letters then numeral 8 2 (drop 2 field) else None

-- whether a field is `PP00` or another processor's
unfoldable pub is_processor : Field → Bool
is_processor field = is_some (number_after (codes "PP") field >>= λ n.
    if names_processor n then Some n else None)

-- the channel of a field like `CH05`
unfoldable pub channel_in : Field → Option ℕ
channel_in field = number_after (codes "CH") field >>= λ c. if names_channel c then Some c else None

-- ---- the fields of a line, from left to right

abbrev pub are_over : Fields → Bool
are_over [] = true
are_over (field ∷ fields) = false

-- something that no further field may follow
abbrev pub alone : {A : Type 0} → A → Fields → Option A
alone x fields = if are_over fields then Some x else None

-- one word, and no further field
abbrev pub last_word : Fields → Option ℕ
last_word [] = None
last_word (field ∷ fields) = if are_over fields then numeral 8 4 field else None

-- what follows a processor
abbrev pub after_processor : Fields → Option Fields
after_processor [] = None
after_processor (field ∷ fields) = if is_processor field then Some fields else None

-- a channel, and what follows it
abbrev pub after_channel : Fields → Option (ℕ × Fields)
after_channel [] = None
after_channel (field ∷ fields) = channel_in field >>= λ c. Some (c, fields)

-- `ACN`, `DCN`, `PUT 0007`, `TAK 0007`, `FNC 0007`
unfoldable pub parsed_event : Fields → Option Event
parsed_event [] = None
parsed_event (name ∷ fields) =
    if bytes_eq name (codes "ACN") then alone Activate fields
    else if bytes_eq name (codes "DCN") then alone Disconnect fields
    else if bytes_eq name (codes "PUT") then option_map (λ w. Put w) (last_word fields)
    else if bytes_eq name (codes "TAK") then option_map (λ w. Take w) (last_word fields)
    else if bytes_eq name (codes "FNC") then option_map (λ w. Function w) (last_word fields)
    else None

-- ---- the state of a channel

abbrev pub inactive : ChannelState
inactive = record { flags = record { active = false; full = false }; register = None }

abbrev pub empty : ChannelState
empty = record { flags = record { active = true; full = false }; register = None }

abbrev pub full_with : ℕ → ChannelState
full_with w = record { flags = record { active = true; full = true }; register = Some w }

-- `EMPTY`, `FULL 0007`
abbrev pub active_said : Fields → Option ChannelState
active_said [] = None
active_said (field ∷ fields) =
    if bytes_eq field (codes "EMPTY") then alone empty fields
    else if bytes_eq field (codes "FULL") then option_map full_with (last_word fields)
    else None

-- `INACTIVE`, `ACTIVE EMPTY`, `ACTIVE FULL 0007`
unfoldable pub parsed_state : Field → Fields → Option ChannelState
parsed_state field fields =
    if bytes_eq field (codes "INACTIVE") then alone inactive fields
    else if bytes_eq field (codes "ACTIVE") then active_said fields
    else None

-- ---- lines

-- `000020 PP00 CH05 PUT 0007`: turn 20, processor 0, channel 5
unfoldable pub turn_line : Field → Fields → Option TraceLine
turn_line field fields = do
  turn ← numeral 10 19 field
  rest ← after_processor fields
  there ← after_channel rest
  event ← parsed_event there.1
  Some (AtTurn turn there.0 event)

-- `000001 PP00 PUT 0007` after `CH05`: event number 1 of channel 5
unfoldable pub numbered_line : ℕ → ℕ → Fields → Option TraceLine
numbered_line c number fields = do
  rest ← after_processor fields
  event ← parsed_event rest
  Some (Numbered number c event)

-- what follows `CH05`: an event with its number, or the state of the channel
abbrev pub channel_line_by : ℕ → Option ℕ → Field → Fields → Option TraceLine
channel_line_by c (Some number) field fields = numbered_line c number fields
channel_line_by c None field fields = option_map (λ s. Standing c s) (parsed_state field fields)

unfoldable pub channel_line : ℕ → Fields → Option TraceLine
channel_line c [] = None
channel_line c (field ∷ fields) = channel_line_by c (numeral 10 19 field) field fields

abbrev pub line_by : Bool → Option ℕ → Field → Fields → Option TraceLine
line_by true channel field fields = Some Other
line_by false (Some c) field fields = channel_line c fields
line_by false None field fields = turn_line field fields

-- What a line says, if it is one of a trace. A line without fields says nothing, and one that
-- begins with a processor speaks of that processor alone.
unfoldable pub parsed_line : Fields → Option TraceLine
parsed_line [] = Some Other
parsed_line (field ∷ fields) = line_by (is_processor field) (channel_in field) field fields
