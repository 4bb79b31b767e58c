use Rattle.std.proofs.Common.{arith}
use Rattle.pp_listing.proofs.TextLemmas.{central_word_some}
use Rattle.pp_listing.proofs.listed_deck.CentralWordsLinesU32.print.Goals as goal

pub returns-then-word-ne0-clause-text : goal.returns-then-word-ne0-clause-text
returns-then-word-ne0-clause-text g c = grind (arith, central_word_some)
