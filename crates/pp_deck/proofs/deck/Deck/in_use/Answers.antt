use Rattle.std.proofs.Common.{ℕ, false, arith}
use Rattle.pp_numbers.proofs.TableLemmas.{tabulate_is}
use Rattle.pp_numbers.specs.PpNo.{processor_count, processor_number}
use Rattle.pp_deck.specs.DeckMeaning.{LoadedDeck}
use Rattle.pp_deck.specs.InUse.{is_in_use}
use Rattle.pp_deck.proofs.deck.Deck.in_use.Goals as goal

pub returns : goal.returns
returns g c =
    let deck : LoadedDeck = record { machine = c.args.self.now.machine; named = c.args.self.now.named } in
    tabulate_is false c.loop-place.used processor_count (λ (place : ℕ). is_in_use deck (processor_number place)) c.loop-place.invariant.each
    (λ place below. c.loop-place.invariant.below place (omega (arith, below, c.loop-place-test.false)))
