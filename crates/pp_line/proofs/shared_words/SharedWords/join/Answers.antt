use Rattle.std.proofs.Common.{rules, arith}
use Rattle.pp_line.proofs.ShareLemmas.{join_allowed}
use Rattle.pp_line.proofs.shared_words.SharedWords.join.Goals as goal

pub join_seat-requires : goal.join_seat-requires
join_seat-requires g c = grind (arith, rules, join_allowed)
