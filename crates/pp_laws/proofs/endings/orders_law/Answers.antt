use Rattle.std.proofs.Common.{◌≡◌, ℕ, List, Some, sym, ap, ◌∙◌, subst}
use Rattle.std.proofs.lemmas.Option.{same_Some}
use Rattle.pp_deck.specs.DeckMeaning.{LoadedDeck}
use Rattle.pp_orders.specs.Endings.{AreAllEndings, AreEndings}
use Rattle.pp_endings.specs.EndingsText.{IsEndingsText}
use Rattle.pp_laws.specs.OrdersRead.{SaysMore, orders_read}
use Rattle.pp_laws.proofs.EndingsReadLemmas.{orders_listed, says_all}
use Rattle.pp_orders.proofs.LawLemmas.{quiet_end}
use Rattle.pp_laws.proofs.OneEndingLemmas.{at_most_one, one_ending}
use Rattle.pp_sim.specs.TextOf.{run_of}
use Rattle.pp_laws.proofs.endings.orders_law.Goals as goal

-- the orders read are those of the text
own_orders : (deck : LoadedDeck) (text : List ℕ) (is : IsEndingsText deck text) → orders_read deck.machine.profile text ≡ Some is.orders
own_orders deck text is = ap (orders_read deck.machine.profile) is.text_is ∙ orders_listed deck.machine.profile deck is.orders is.going is.more is.listed

same_orders : (deck : LoadedDeck) (text : List ℕ) (orders : List (List ℕ)) (is : IsEndingsText deck text) → orders_read deck.machine.profile text ≡ Some orders → is.orders ≡ orders
same_orders deck text orders is read = sym (same_Some orders is.orders (sym read ∙ own_orders deck text is))

endings_are : (deck : LoadedDeck) (text : List ℕ) (orders : List (List ℕ)) → IsEndingsText deck text → orders_read deck.machine.profile text ≡ Some orders → AreEndings deck.machine orders
endings_are deck text orders is read = subst (AreEndings deck.machine) (same_orders deck text orders is read) is.endings

all_orders : (deck : LoadedDeck) (text : List ℕ) (orders : List (List ℕ)) → IsEndingsText deck text → orders_read deck.machine.profile text ≡ Some orders → ¬ SaysMore text → AreAllEndings deck.machine orders
all_orders deck text orders is read no_more =
    subst (AreAllEndings deck.machine) (same_orders deck text orders is read) (is.all (says_all deck text is.orders is.going is.more is.text_is no_more))

pub returns-clause-read : goal.returns-clause-read
returns-clause-read c = λ deck text is. own_orders deck text is

pub returns-clause-endings : goal.returns-clause-endings
returns-clause-endings c = λ deck text orders is read. endings_are deck text orders is read

pub returns-clause-all : goal.returns-clause-all
returns-clause-all c = λ deck text orders is read no_more. all_orders deck text orders is read no_more

pub returns-clause-quiet_end : goal.returns-clause-quiet_end
returns-clause-quiet_end c = λ deck text orders ns is read no_more quiet.
    quiet_end deck.machine orders (all_orders deck text orders is read no_more) ns quiet

pub returns-clause-no_other : goal.returns-clause-no_other
returns-clause-no_other c = λ deck text orders ns is read no_more ending.
    c.endings_law.ensures.no_other deck.machine orders is.machine (all_orders deck text orders is read no_more) ns ending

pub returns-clause-at_most_one : goal.returns-clause-at_most_one
returns-clause-at_most_one c = λ deck text races before orders first turns is read told same_races.
    at_most_one deck.machine told.machine (run_of first turns deck)
    (c.races_text_law.ensures.ending first turns deck races before told same_races)
    (c.races_text_law.ensures.quiet first turns deck races before told same_races) orders
    (endings_are deck text orders is read)

pub returns-clause-one : goal.returns-clause-one
returns-clause-one c = λ deck text races before orders first turns is read no_more told same_races.
    one_ending deck.machine told.machine (run_of first turns deck)
    (c.races_text_law.ensures.ending first turns deck races before told same_races)
    (c.races_text_law.ensures.quiet first turns deck races before told same_races) orders
    (all_orders deck text orders is read no_more)
