use Rattle.std.proofs.Common.{arith}
use Rattle.pp_deck.specs.DeckMeaning.{deck_meaning}
use Rattle.pp_deck.proofs.deck.read_deck.Goals as goal

pub returns-clause-ok : goal.returns-clause-ok
unfolding deck_meaning
returns-clause-ok g c = grind arith

pub returns-clause-fault : goal.returns-clause-fault
unfolding deck_meaning
returns-clause-fault g c = grind arith
