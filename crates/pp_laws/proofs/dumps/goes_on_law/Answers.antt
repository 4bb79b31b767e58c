use Rattle.std.proofs.Common.{◌≡◌, ℕ, ◌+◌, List, None, Ok, Result, sym, subst}
use Rattle.pp_numbers.specs.declared.profile.Profile.{Profile}
use Rattle.pp_machine.specs.Headline.{IsMachine}
use Rattle.pp_machine.specs.Run.{run, run_order}
use Rattle.pp_machine.proofs.RunLemmas.{run_profile}
use Rattle.pp_orders.proofs.AlikeLemmas.{lawful}
use Rattle.pp_listing.specs.RestOfOrder.{order_left}
use Rattle.pp_deck.specs.DeckMeaning.{LoadedDeck, deck_meaning}
use Rattle.pp_listing.specs.Dump.{deck_to_go_on, first_busy}
use Rattle.pp_sim.specs.TextOf.{after_turns, run_of}
use Rattle.pp_laws.specs.GoingOn.{GoesOnAs, GoesOnExactly}
use Rattle.pp_laws.proofs.GoingOnLemmas.{goes_on_in_order, meant_fits}
use Rattle.pp_laws.proofs.dumps.goes_on_law.Goals as goal

one_deck : {E : Type 0} (meaning : Result LoadedDeck E) (one other : LoadedDeck) → meaning ≡ Ok one → meaning ≡ Ok other → one ≡ other
one_deck meaning one other e h = cc

-- the deck to go on from has the profile of the deck
exactly : (first : List ℕ) (turns : ℕ) (deck : LoadedDeck) → IsMachine deck.machine → deck.machine.turns ≡ 0 → first_busy (after_turns first turns deck).machine ≡ None → GoesOnExactly first turns deck (deck_to_go_on (after_turns first turns deck))
exactly first turns deck whole none between = λ more few.
    let profile = deck.machine.profile in
    let dumped = after_turns first turns deck in
    let loaded = deck_to_go_on dumped in
    subst (λ (p : Profile). GoesOnAs turns dumped.machine (run (run_of first (turns + more) deck) deck.machine) (run (run_order (order_left first profile turns) p more) loaded.machine))
    (sym (run_profile (run_of first turns deck) deck.machine))
    (goes_on_in_order deck first profile turns more (record { processors = whole.processors; lawful = lawful deck.machine whole }) none few between)

pub returns-clause-run : goal.returns-clause-run
returns-clause-run c = λ profile bytes deck first turns is between.
    exactly first turns deck (c.deck_law.ensures.machine profile bytes deck is) (c.deck_law.ensures.law profile bytes deck is).no_turn between

pub returns-clause-text : goal.returns-clause-text
returns-clause-text c = λ profile bytes text deck loaded first turns is dump meant.
    let again : deck_meaning profile text ≡ Ok (deck_to_go_on (after_turns first turns deck)) =
    subst (λ (p : Profile). deck_meaning p text ≡ Ok (deck_to_go_on (after_turns first turns deck))) (c.deck_law.ensures.profile profile bytes deck is)
    (dump.goes_on (meant_fits profile text loaded meant)) in
    subst (GoesOnExactly first turns deck) (one_deck (deck_meaning profile text) (deck_to_go_on (after_turns first turns deck)) loaded again meant)
    (exactly first turns deck (c.deck_law.ensures.machine profile bytes deck is) (c.deck_law.ensures.law profile bytes deck is).no_turn dump.between)
