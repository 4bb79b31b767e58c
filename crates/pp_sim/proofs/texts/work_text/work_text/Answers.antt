use Rattle.pp_sim.proofs.texts.work_text.work_text.Goals as goal

pub returns-in-Deck : goal.returns-in-Deck
returns-in-Deck g c = rw c.in-Deck.is (rw c.as_slice.ensures.value at c.deck_text.ensures)

pub returns-in-Lint : goal.returns-in-Lint
returns-in-Lint g c = rw c.in-Lint.is c.lint_text.ensures

pub returns-in-Test : goal.returns-in-Test
returns-in-Test g c = rw c.in-Test.is (rw c.as_slice.ensures.value at c.test_text.ensures)

pub returns-in-Check : goal.returns-in-Check
returns-in-Check g c = rw c.in-Check.is c.check_text.ensures
