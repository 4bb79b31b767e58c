use Rattle.pp_sessions.proofs.ShownLemmas.{text_tells_sessions}
use Rattle.pp_sessions.proofs.laws.sessions_text_law.Goals as goal

pub returns : goal.returns
returns c = text_tells_sessions
