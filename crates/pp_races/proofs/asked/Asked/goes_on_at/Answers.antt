use Rattle.std.proofs.Common.{rules}
use Rattle.pp_races.proofs.asked.Asked.goes_on_at.Goals as goal

pub returns : goal.returns
returns g c = λ f. (let post = c.of.ensures f in search (rules, post))
