use Rattle.std.proofs.Common.{rules}
use Rattle.pp_line.proofs.StepLemmas.{load_allowed}
use Rattle.pp_line.proofs.shared_words.SharedWords.load.Goals as goal

pub load-requires : goal.load-requires
load-requires g c = (search rules, search rules, rw c.place.ensures.place (load_allowed _ _ _ _ _ c.args.channel (search rules)))

pub returns-clause-load : goal.returns-clause-load
returns-clause-load g c = c.load.ensures.2.1 c.args.channel (search rules) c.place.ensures.place c.args.self.now.unspent
