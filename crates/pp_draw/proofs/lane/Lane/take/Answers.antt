use Rattle.std.proofs.Common.{[], ◌∷◌, Option, ap, sym, ◌∙◌, arith}
use Rattle.pp_text.proofs.PrintingLemmas.{prints_nothing}
use Rattle.pp_draw.specs.Lane.{still_drawn}
use Rattle.pp_draw.specs.declared.condition.Phase.{Phase}
use Rattle.pp_draw.proofs.LaneLemmas.{comes_next, goes_by}
use Rattle.pp_draw.proofs.lane.Lane.take.Goals as goal

pub returns-in_default : goal.returns-in_default
returns-in_default g c = ([], prints_nothing _ _, λ rest. ap (λ (o : Option Phase). still_drawn (record c.args.self.now { current = o }) (record { since = c.args.since; look = c.args.look } ∷ rest)) c.in_default.is)

pub returns-then-continues : goal.returns-then-continues
returns-then-continues g c = ([], prints_nothing _ _, λ rest. goes_by c.args.self.now c.in-Some.current (record { since = c.args.since; look = c.args.look }) rest c.in-Some.is (sym c.continues.ensures ∙ c.if-continues.true))

pub returns : goal.returns
returns g c = grind (arith, comes_next)
