-- Where a trace stops being lawful, and why.
use Rattle.std.specs.Prelude.{◌≡◌, ◌≢◌, ◌-◌, ◌<◌, ◌≤◌, Bool, List, [], ◌∷◌, ◌++◌, length, take, Option, None, Some, slice_index_or}
use Rattle.pp_channel.specs.Answer.{channel_state}
use Rattle.pp_channel.specs.History.{IsLawful}
use Rattle.pp_channel.specs.declared.event.Event.{Event}
use Rattle.pp_deck.specs.DeckText.{Fields}
use Rattle.pp_check.specs.LawfulTrace.{AreLawful, Fits, event_on, history, last_turn, parsed_lines, turn_of}
use Rattle.pp_check.specs.TraceLine.{parsed_line}
use Rattle.pp_check.specs.declared.{trace_fault.TraceFault.TraceFault, trace_fault.TraceFlaw.TraceFlaw, trace_line.TraceLine.TraceLine}
use Rattle.pp_check.specs.declared.trace_fault.TraceFlaw.TheVariants.{Malformed, TurnNotRising, WrongNumber, UnlawfulEvent, WrongState}
use Rattle.pp_check.specs.declared.trace_line.TraceLine.TheVariants.{Numbered, Standing}

-- why a line may not come after lawful lines
abbrev pub IsFlawOf : List Bool → List TraceLine → TraceLine → TraceFlaw → Type 0
IsFlawOf opened before line Malformed = ⊥
IsFlawOf opened before line (TurnNotRising turn last) =
    (turn_of line ≡ Some turn) × (last_turn before ≡ Some last) × (turn ≤ last)
IsFlawOf opened before line (WrongNumber c number next) =
    ((e : Event) × (line ≡ Numbered number c e))
    × (next ≡ length (history opened before c)) × (number ≢ next)
IsFlawOf opened before line (UnlawfulEvent c e state) = Fits opened before line
    × (event_on c line ≡ Some e) × (state ≡ channel_state (history opened before c))
    × ¬ IsLawful (history opened before c ++ e ∷ [])
IsFlawOf opened before line (WrongState c shown state) =
    (line ≡ Standing c shown) × (state ≡ channel_state (history opened before c)) × (shown ≢ state)

-- the same of a line by what it says; if it says nothing it is no line of a trace
abbrev pub IsFlaw : List Bool → List TraceLine → Option TraceLine → TraceFlaw → Type 0
IsFlaw opened before None flaw = flaw ≡ Malformed
IsFlaw opened before (Some line) flaw = IsFlawOf opened before line flaw

-- the fault of a text: its line, counted from 1, has this flaw after lines that are lawful
pub record IsFault (opened : List Bool) (text : List Fields) (fault : TraceFault) : Type 0 where
  pub counted : 0 < fault.line
  pub within : fault.line ≤ length text
  pub before : AreLawful opened (take (fault.line - 1) text)
  pub flaw : IsFlaw opened (parsed_lines (take (fault.line - 1) text))
      (parsed_line (slice_index_or text (fault.line - 1) [])) fault.flaw
