use Rattle.pp_line.proofs.ShareLemmas.{opening_kept}
use Rattle.pp_line.proofs.shared_words.SharedWords.open.Goals as goal

pub of_words-requires : goal.of_words-requires
of_words-requires g c = opening_kept c.args.whole c.args.central.now c.in_ok-words.words.items c.as_slice.result.now c.as_slice.ensures.value c.in_ok-words.ensures c.requires.small
