use Rattle.std.proofs.Common.{rules}
use Rattle.pp_line.proofs.StepLemmas.{exchange_allowed}
use Rattle.pp_line.proofs.shared_words.SharedWords.exchange.Goals as goal

pub compare_exchange_with-requires : goal.compare_exchange_with-requires
compare_exchange_with-requires g c =
    let loaded = c.requires.loaded in (
      search rules,
      search rules,
      rw c.place.ensures.place (exchange_allowed _ _ _ _ _ c.args.channel _ _ c.args.event.now loaded.0 (search rules) c.args.self.now.unspent loaded.1 c.requires.next),
    )
