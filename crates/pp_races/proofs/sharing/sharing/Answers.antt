use Rattle.std.proofs.Common.{sym, ◌∙◌}
use Rattle.pp_races.proofs.EndLemmas.{sharing_is, sharing_not}
use Rattle.pp_races.proofs.sharing.sharing.Goals as goal

pub returns-then-is_shared : goal.returns-then-is_shared
returns-then-is_shared c = λ w is.
    sharing_is w c.args.address c.args.use_of c.flags_of-writers.result c.flags_of-users.result is c.flags_of-writers.ensures c.flags_of-users.ensures (sym c.is_shared.ensures ∙ c.if-is_shared.true)

pub returns : goal.returns
returns c = λ w is.
    sharing_not w c.args.address c.args.use_of c.flags_of-writers.result c.flags_of-users.result is c.flags_of-writers.ensures c.flags_of-users.ensures (sym c.is_shared.ensures ∙ c.if-is_shared.false)
