use Rattle.std.proofs.Common.{rules}
use Rattle.pp_line.proofs.StepLemmas.{share_check_allowed}
use Rattle.pp_line.proofs.shared_words.SharedWords.check_shares.Goals as goal

pub load-requires : goal.load-requires
load-requires g c = (search rules, search rules, rw c.place.ensures.place (share_check_allowed _ _ _ _ _ c.args.channel (search rules)))
