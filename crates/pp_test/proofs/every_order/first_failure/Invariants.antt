use Rattle.std.proofs.Common.{◌≡◌, Ok, map, take}
use Rattle.std.specs.Prelude.{All}
use Rattle.pp_deck.specs.DeckMeaning.{LoadedDeck, deck_meaning}
use Rattle.pp_test.specs.EveryOrder.{IsHeldAfter}
use Rattle.pp_test.proofs.every_order.first_failure.Given as goal

abbrev pub invariant-loop-ending : goal.invariant-loop-ending
invariant-loop-ending g l = (deck : LoadedDeck) → deck_meaning l.profile l.bytes ≡ Ok deck
    → All (IsHeldAfter l.bytes deck) (take l.ending-index (map (λ ending. ending.order.items) l.endings))
