use Rattle.std.proofs.Common.{rules}
use Rattle.pp_races.proofs.watch.with_look.Goals as goal

pub returns : goal.returns
returns c = λ f. (let post = c.of.ensures f in search (rules, post))
