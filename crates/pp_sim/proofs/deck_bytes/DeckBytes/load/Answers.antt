use Rattle.std.proofs.Common.{sym, subst}
use Rattle.pp_deck.specs.DeckLaw.{NamesWithin}
use Rattle.pp_sim.proofs.deck_bytes.DeckBytes.load.Goals as goal

pub returns-in-Ok-clause-fresh : goal.returns-in-Ok-clause-fresh
returns-in-Ok-clause-fresh g c = (c.deck_law.ensures.law c.args.self.now.profile c.args.self.now.bytes.now _ c.in-Ok.ensures.ok).no_event

pub returns-in-Ok-clause-profile : goal.returns-in-Ok-clause-profile
returns-in-Ok-clause-profile g c = c.deck_law.ensures.profile c.args.self.now.profile c.args.self.now.bytes.now _ c.in-Ok.ensures.ok

pub returns-in-Ok-clause-names : goal.returns-in-Ok-clause-names
returns-in-Ok-clause-names g c =
    let p = c.args.self.now.profile in
    let bytes = c.args.self.now.bytes.now in
    let is = c.in-Ok.ensures.ok in
    subst (λ q. NamesWithin q c.in-Ok.deck.named) (sym (c.deck_law.ensures.profile p bytes _ is)) (c.deck_law.ensures.names p bytes _ is)
