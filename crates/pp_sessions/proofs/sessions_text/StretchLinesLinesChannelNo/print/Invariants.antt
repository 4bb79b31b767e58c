use Rattle.std.proofs.Common.{ℕ, ◌+◌, ◌≤◌, ◌++◌, List, take}
use Rattle.pp_text.specs.TextWriter.{Prints}
use Rattle.pp_sessions.specs.OpenStretch.{HasAtMost, TakesIn, open_at}
use Rattle.pp_sessions.specs.TimedEvents.{opening_events, timed_on}
use Rattle.pp_sessions.proofs.TakeInLemmas.{nothing_open}
use Rattle.pp_sessions.proofs.sessions_text.StretchLinesLinesChannelNo.print.Given as goal

abbrev pub invariant-loop-index : goal.invariant-loop-index
invariant-loop-index g l =
    let past = take l.index l.entries in
    record {
      lines : (printed : List ℕ) × Prints g.W.Write.contents l.fn.text l.text printed
          × TakesIn l.self.with_words l.c nothing_open (opening_events l.c l.self.machine.now ++ timed_on l.c past) printed (open_at l.c past l.current);
      few : HasAtMost (l.index + 1) l.current;
      start : l.current.start ≤ l.index;
    }
