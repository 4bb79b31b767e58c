-- What is counted in a lawful trace.
use Rattle.std.specs.Prelude.{ℕ, ◌+◌, ◌++◌, ◌&&◌, Bool, true, false, List, codes, length, nat_lt, count_by}
use Rattle.pp_numbers.specs.ChannelNo.{all_channels}
use Rattle.pp_channel.specs.declared.event.Event.{Event}
use Rattle.pp_channel.specs.declared.event.Event.TheVariants.{Activate}
use Rattle.pp_word.specs.Numeral.{short_decimal}
use Rattle.pp_text.specs.PrintedText.{line_end}
use Rattle.pp_check.specs.LawfulTrace.{events_on, is_opened}
use Rattle.pp_check.specs.declared.{trace_line.TraceLine.TraceLine, verdict.Verdict.Verdict}
use Rattle.pp_check.specs.declared.trace_line.TraceLine.TheVariants.{AtTurn, Numbered}

abbrev pub tells_event : TraceLine → Bool
tells_event (AtTurn turn c e) = true
tells_event (Numbered number c e) = true
tells_event line = false

abbrev pub is_activate : Event → Bool
is_activate Activate = true
is_activate e = false

-- whether a line reports that a session begins
abbrev pub begins_session : TraceLine → Bool
begins_session (AtTurn turn c e) = is_activate e
begins_session (Numbered number c e) = is_activate e
begins_session line = false

-- whether lines report events on channel c
abbrev pub is_used : List TraceLine → ℕ → Bool
is_used lines c = nat_lt 0 (length (events_on c lines))

-- how many channels have events
abbrev pub used_count : List TraceLine → ℕ
used_count lines = count_by (is_used lines) all_channels

-- how many of these had been opened before the trace
abbrev pub opened_count : List Bool → List TraceLine → ℕ
opened_count opened lines = count_by (λ c. is_used lines c && is_opened opened c) all_channels

-- sessions are those that an event begins, and on channels used those opened before the trace
abbrev pub verdict_of : List Bool → List TraceLine → Verdict
verdict_of opened lines = record {
  events = count_by tells_event lines;
  channels = used_count lines;
  sessions = count_by begins_session lines + opened_count opened lines;
}

-- `lawful: 12 events on 3 channels, 4 sessions`, in decimal
unfoldable pub verdict_line : Verdict → List ℕ
verdict_line verdict = codes "lawful: " ++ short_decimal verdict.events
    ++ codes " events on " ++ short_decimal verdict.channels
    ++ codes " channels, " ++ short_decimal verdict.sessions ++ codes " sessions" ++ line_end
