use Rattle.std.proofs.Common.{◌≡◌, ◌<◌, ◌++◌, ℕ, List, take}
use Rattle.pp_text.specs.TextWriter.{Prints}
use Rattle.pp_sessions.specs.SessionsText.{words_from}
use Rattle.pp_sessions.specs.Stretches.{words_in}
use Rattle.pp_sessions.specs.TimedEvents.{timed_on}
use Rattle.pp_sessions.proofs.words.print_words.Given as goal

abbrev pub invariant-loop-entry : goal.invariant-loop-entry
invariant-loop-entry g l = record {
  words : (printed : List ℕ) × Prints g.W.Write.contents l.fn.text l.text printed
      × ((rest : List ℕ) → words_from 0 (words_in (timed_on l.c (take l.entry-index l.entries)) ++ rest) ≡ printed ++ words_from l.count rest);
  few : l.count < 8;
}
