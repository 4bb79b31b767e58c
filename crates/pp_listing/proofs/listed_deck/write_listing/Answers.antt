use Rattle.std.proofs.Common.{refl, rules, arith}
use Rattle.pp_listing.proofs.ListingLemmas.{reads_back}
use Rattle.pp_listing.proofs.TextLemmas.{listing_in_parts}
use Rattle.pp_listing.proofs.listed_deck.write_listing.Goals as goal

pub returns-clause-written : goal.returns-clause-written
returns-clause-written g c = grind (arith, listing_in_parts, rules)

pub returns-clause-reads_back : goal.returns-clause-reads_back
returns-clause-reads_back g c = reads_back _ (record { machine = c.args.deck.now.machine; named = c.args.deck.now.named }) refl
