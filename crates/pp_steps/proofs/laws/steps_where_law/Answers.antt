use Rattle.pp_steps.proofs.ShownLemmas.{where_tells_steps}
use Rattle.pp_steps.proofs.laws.steps_where_law.Goals as goal

pub returns : goal.returns
returns c = where_tells_steps
