use Rattle.std.proofs.Common.{rules}
use Rattle.pp_line.proofs.ShareLemmas.{split_allowed}
use Rattle.pp_line.proofs.shared_words.SharedWords.split.Goals as goal

pub split_seat-seat-requires : goal.split_seat-seat-requires
split_seat-seat-requires g c = (search rules, search rules, split_allowed _ _ _ _ c.requires)
