use Rattle.std.proofs.Common.{ap}
use Rattle.std.specs.Prelude.{find}
use Rattle.pp_deck.specs.DeckMeaning.{has_fields}
use Rattle.pp_deck.proofs.deck.stated_size.Goals as goal

pub loop-fields-init : goal.loop-fields-init
loop-fields-init c = ap (λ lines. find has_fields lines) c.of-lines.ensures
