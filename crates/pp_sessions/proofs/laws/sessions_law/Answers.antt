use Rattle.pp_sessions.specs.Stretches.{are_parted}
use Rattle.pp_sessions.proofs.CutLemmas.{cut_together}
use Rattle.pp_sessions.proofs.HistoryLemmas.{timed_is_history}
use Rattle.pp_sessions.proofs.StretchLawLemmas.{idle_told, idle_words, numbered, session_told, session_words, stretches_are}
use Rattle.pp_sessions.proofs.TallyLemmas.{moments_told}
use Rattle.pp_sessions.proofs.laws.sessions_law.Goals as goal

pub returns : goal.returns
returns c = record {
  history = timed_is_history;
  together = cut_together are_parted;
  stretches = stretches_are;
  numbers = numbered;
  session = session_told;
  moments = moments_told;
  idle = idle_told;
  words = session_words;
  codes = idle_words;
}
