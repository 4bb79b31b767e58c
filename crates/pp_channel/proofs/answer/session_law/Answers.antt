use Rattle.pp_channel.proofs.LawLemmas.{law_of_lawful}
use Rattle.pp_channel.proofs.answer.session_law.Goals as goal

pub returns : goal.returns
returns c = law_of_lawful
