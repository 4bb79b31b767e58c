-- What the judge keeps of the lines so far. (Only private contracts cite this.)
use Rattle.std.specs.Prelude.{◌≡◌, ℕ, Bool, List, [], ◌∷◌, ◌++◌, length, false, IsTrue, count_by, slice_index_or, Result, Ok, Err, Option, None, Some}
use Rattle.pp_channel.specs.Answer.{channel_state}
use Rattle.pp_numbers.specs.ChannelNo.{channel_count, channel_index, names_channel}
use Rattle.pp_check.specs.LawfulTrace.{IsLawfulTrace, events_on, history, is_opened, last_turn}
use Rattle.pp_check.specs.TraceFault.{IsFlaw, IsFlawOf}
use Rattle.pp_check.specs.TraceLine.{inactive}
use Rattle.pp_check.specs.Verdict.{begins_session, tells_event}
use Rattle.pp_check.specs.declared.{judge.Judge.Judge, channel_tally.ChannelTally.ChannelTally, trace_fault.TraceFlaw.TraceFlaw, trace_line.TraceLine.TraceLine}

-- what is kept of channel c
unfoldable pub tally : List Bool → List TraceLine → ℕ → ChannelTally
tally opened lines c = record {
  state = channel_state (history opened lines c);
  events = length (events_on c lines);
  is_opened = is_opened opened c;
}

-- of a channel that no line has named and that was not opened
abbrev pub new_tally : ChannelTally
new_tally = record { state = inactive; events = 0; is_opened = false }

-- what is kept of channel c among all channels
abbrev pub tally_of : List ChannelTally → ℕ → ChannelTally
tally_of channels c = slice_index_or channels (channel_index c) new_tally

-- the lines so far are lawful; the state of each channel is kept; events and sessions are counted
pub record KeepsEvents (opened : List Bool) (lines : List TraceLine)
    (tallies : List ChannelTally) (event_count session_count : ℕ) : Type 0 where
  pub lawful : IsLawfulTrace opened lines
  pub each_channel : length tallies ≡ channel_count
  pub channels : (c : ℕ) → IsTrue (names_channel c)
      → tally_of tallies c ≡ tally opened lines c
  pub events : event_count ≡ count_by tells_event lines
  pub sessions : session_count ≡ count_by begins_session lines

-- all that the judge keeps of the lines so far
pub record Keeps (opened : List Bool) (lines : List TraceLine) (judge : Judge) : Type 0 where
  pub kept : KeepsEvents opened lines judge.channels judge.events judge.sessions
  pub last_turn : judge.last_turn ≡ last_turn lines

-- it keeps the events of some lines
abbrev pub KeepsSome : Judge → Type 0
KeepsSome judge = (opened : List Bool) × ((lines : List TraceLine)
    × KeepsEvents opened lines judge.channels judge.events judge.sessions)

-- what the event of a line that fits comes to: it is kept, or may not come
abbrev pub Happens : List Bool → List TraceLine → TraceLine → Judge
    → Result (Unit {0}) TraceFlaw → Type 0
Happens opened before line after (Ok done) =
    KeepsEvents opened (before ++ line ∷ []) after.channels after.events after.sessions
Happens opened before line after (Err flaw) = IsFlawOf opened before line flaw

-- what reading a line after others comes to, by what it says, if it says anything: the judge keeps
-- it too, or it has this flaw
abbrev pub IsRead : List Bool → List TraceLine → Option TraceLine → Judge
    → Result (Unit {0}) TraceFlaw → Type 0
IsRead opened before None after (Ok done) = ⊥
IsRead opened before (Some line) after (Ok done) = Keeps opened (before ++ line ∷ []) after
IsRead opened before said after (Err flaw) = IsFlaw opened before said flaw
