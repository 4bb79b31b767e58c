-- Which traces are lawful, stated on all their lines.
use Rattle.std.specs.Prelude.{◌≡◌, ℕ, ◌<◌, ◌==◌, Bool, false, List, [], ◌∷◌, ◌++◌, length, take, All, IsSome, IfSome, Option, None, Some, slice_index_or, if◌then◌else◌}
use Rattle.std.specs.List.{filter_map, last_or}
use Rattle.pp_channel.specs.Answer.{channel_state}
use Rattle.pp_numbers.specs.ChannelNo.{channel_index}
use Rattle.pp_channel.specs.History.{IsLawful}
use Rattle.pp_channel.specs.declared.event.Event.{Event}
use Rattle.pp_channel.specs.declared.event.Event.TheVariants.{Activate}
use Rattle.pp_deck.specs.DeckText.{Fields}
use Rattle.pp_check.specs.TraceLine.{parsed_line}
use Rattle.pp_check.specs.declared.trace_line.TraceLine.{TraceLine}
use Rattle.pp_check.specs.declared.trace_line.TraceLine.TheVariants.{AtTurn, Numbered, Standing, Other}

-- the event on channel c that a line reports, if it reports one
abbrev pub event_on : ℕ → TraceLine → Option Event
event_on c (AtTurn turn channel e) = if channel == c then Some e else None
event_on c (Numbered number channel e) = if channel == c then Some e else None
event_on c line = None

-- the events on channel c that lines report, in order
unfoldable pub events_on : ℕ → List TraceLine → List Event
events_on c lines = filter_map (event_on c) lines

-- whether channel c was opened before the trace, by flags in the order of the channels' places
abbrev pub is_opened : List Bool → ℕ → Bool
is_opened opened c = slice_index_or opened (channel_index c) false

-- what had happened on channel c before the first line: an Activate if it was opened, else nothing
abbrev pub opening : List Bool → ℕ → List Event
opening opened c = if is_opened opened c then Activate ∷ [] else []

-- the history of channel c after lines
abbrev pub history : List Bool → List TraceLine → ℕ → List Event
history opened lines c = opening opened c ++ events_on c lines

abbrev pub turn_of : TraceLine → Option ℕ
turn_of (AtTurn turn channel e) = Some turn
turn_of line = None

-- the turns of lines, in order
unfoldable pub turns : List TraceLine → List ℕ
turns lines = filter_map turn_of lines

-- the turn of the last line that has one
unfoldable pub last_turn : List TraceLine → Option ℕ
last_turn lines = last_or None (turns lines)

-- A line fits those before it: its turn is greater than the last; its number counts the events of
-- its channel before it; its channel's state is the one that the events before it leave.
abbrev pub Fits : List Bool → List TraceLine → TraceLine → Type 0
Fits opened before (AtTurn turn c e) = IfSome (last_turn before) (λ last. last < turn)
Fits opened before (Numbered number c e) = number ≡ length (history opened before c)
Fits opened before (Standing c state) = state ≡ channel_state (history opened before c)
Fits opened before Other = Unit {0}

-- A trace is lawful if on each channel its events, in order, are a lawful history over the opening
-- of the channel, and each line fits those before it.
pub record IsLawfulTrace (opened : List Bool) (lines : List TraceLine) : Type 0 where
  pub histories : (c : ℕ) → IsLawful (history opened lines c)
  pub each_fits : (k : ℕ) → k < length lines
      → Fits opened (take k lines) (slice_index_or lines k Other)

-- what lines of a text say, each by its fields
unfoldable pub parsed_lines : List Fields → List TraceLine
parsed_lines text = filter_map parsed_line text

-- Lines of a text are a lawful trace: each says something, and what they say is lawful.
pub record AreLawful (opened : List Bool) (text : List Fields) : Type 0 where
  pub said : All (λ line. IsSome (parsed_line line)) text
  pub lawful : IsLawfulTrace opened (parsed_lines text)
