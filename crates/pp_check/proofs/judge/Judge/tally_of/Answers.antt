use Rattle.std.proofs.Common.{arith, rules}
use Rattle.pp_numbers.specs.ChannelNo.{channel_places}
use Rattle.pp_check.proofs.KeepsLemmas.{read_tally}
use Rattle.pp_check.proofs.judge.Judge.tally_of.Goals as goal

pub returns-clause-kept : goal.returns-clause-kept
returns-clause-kept c = grind (arith, rules, read_tally)

pub returns-clause-names : goal.returns-clause-names
returns-clause-names c = channel_places.named_below c.args.channel (omega (arith, c.index.ensures.place, c.index.ensures.below))
