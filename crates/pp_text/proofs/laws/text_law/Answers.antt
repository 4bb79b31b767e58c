use Rattle.pp_text.proofs.HistoryLawLemmas.{text_tells_histories}
use Rattle.pp_text.proofs.TextLawLemmas.{text_tells}
use Rattle.pp_text.proofs.laws.text_law.Goals as goal

pub returns-clause-text : goal.returns-clause-text
returns-clause-text c = text_tells

pub returns-clause-histories : goal.returns-clause-histories
returns-clause-histories c = text_tells_histories
