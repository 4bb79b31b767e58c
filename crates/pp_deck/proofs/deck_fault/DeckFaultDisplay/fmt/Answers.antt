use Rattle.std.proofs.Common.{arith, append_assoc}
use Rattle.std.proofs.Output.{has_written_of_eq}
use Rattle.pp_word.proofs.DisplayLemmas.{decimal_shown}
use Rattle.pp_deck.proofs.deck_fault.DeckFaultDisplay.fmt.Goals as goal

pub returns-clause-writes : goal.returns-clause-writes
returns-clause-writes g c plain ok = grind (arith, decimal_shown, has_written_of_eq, append_assoc)
