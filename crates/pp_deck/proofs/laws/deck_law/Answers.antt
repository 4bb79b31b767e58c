use Rattle.pp_deck.proofs.DeckLawLemmas.{deck_law_of, deck_size_of, deck_profile_of, deck_names_within, whole_machine}
use Rattle.pp_deck.proofs.laws.deck_law.Goals as goal

pub returns-clause-size : goal.returns-clause-size
returns-clause-size c = deck_size_of

pub returns-clause-law : goal.returns-clause-law
returns-clause-law c = deck_law_of

pub returns-clause-profile : goal.returns-clause-profile
returns-clause-profile c = deck_profile_of

pub returns-clause-names : goal.returns-clause-names
returns-clause-names c = deck_names_within

pub returns-clause-machine : goal.returns-clause-machine
returns-clause-machine c = whole_machine c.session_law.ensures
