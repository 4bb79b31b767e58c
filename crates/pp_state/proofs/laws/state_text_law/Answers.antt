use Rattle.pp_state.proofs.StateTextLemmas.{text_tells_state}
use Rattle.pp_state.proofs.laws.state_text_law.Goals as goal

pub returns : goal.returns
returns c = text_tells_state
