-- What is said of endings, and what that means.
use Rattle.std.proofs.Common.{◌≡◌, ◌≢◌, ℕ, ◌<◌, Bool, true, false, not, IsTrue, List, [], length, inl, inr, refl, ap, ◌∙◌}
use Rattle.std.specs.Prelude.{All, slice_index_or}
use Rattle.pp_deck.specs.DeckMeaning.{LoadedDeck}
use Rattle.pp_machine.specs.Headline.{IsMachine}
use Rattle.pp_machine.specs.Run.{run}
use Rattle.pp_orders.specs.Endings.{AreAllEndings, AreEndings, CanBeListed, IsEnding}
use Rattle.pp_orders.proofs.LawLemmas.{one_of_them, quiet_end}
use Rattle.pp_run.specs.Determinacy.{IsQuiet}
use Rattle.pp_test.specs.EveryOrder.{EndsAsExpected, IsEveryOrderText, IsHeldAfter, IsSaid, JudgesEndings, LeadsAsExpected, MeetsExpectations}
use Rattle.pp_test.specs.Expectations.{expectations}
use Rattle.pp_test.proofs.VerdictLemmas.{held_all}

-- ---- what is said

all_by : (are_all : Bool) → not are_all ≡ false → are_all ≡ true
all_by true is = refl
all_by false is = absurd (cc)

pub not_more : (are_all : Bool) → are_all ≡ not (not are_all)
not_more true = refl
not_more false = refl

-- what is said of endings that were found, if something is expected
pub judged : (bytes text : List ℕ) (deck : LoadedDeck) (orders : List (List ℕ)) (are_all held : Bool) (count : ℕ) → count ≡ length (expectations bytes) → count ≢ 0
    → All (CanBeListed deck.machine.profile) orders → AreEndings deck.machine orders → (IsTrue are_all → AreAllEndings deck.machine orders)
    → IsSaid bytes deck orders (not are_all) held text → IsEveryOrderText bytes deck held text
judged bytes text deck orders are_all held count counted some listed endings all said = inl (record {
  expects = λ none. some (counted ∙ ap length none);
  orders = orders;
  more = not are_all;
  listed = listed;
  endings = endings;
  all = λ is. all (all_by are_all is);
  said = said;
})

-- ---- what that means

meets : (bytes : List ℕ) (deck : LoadedDeck) (order : List ℕ) → IsHeldAfter bytes deck order → MeetsExpectations bytes deck order
meets bytes deck order held = record { lines = held.0; lines_are = held.1; holds = held_all bytes held.0 held.2 }

-- what is held over every order
record AllMeet (bytes : List ℕ) (deck : LoadedDeck) : Type 0 where
  orders : List (List ℕ)
  all : AreAllEndings deck.machine orders
  each : (i : ℕ) → i < length orders → MeetsExpectations bytes deck (slice_index_or orders i [])

no_more : (more : Bool) → true ≡ not more → more ≡ false
no_more true is = absurd (cc)
no_more false is = refl

all_meet_by : (bytes text : List ℕ) (deck : LoadedDeck) (judged : JudgesEndings bytes deck true text) → IsSaid bytes deck judged.orders judged.more true text → AllMeet bytes deck
all_meet_by bytes text deck judged (inl (each, held)) = record {
  orders = judged.orders;
  all = judged.all (no_more judged.more held);
  each = λ i within. meets bytes deck _ (each.each i [] within);
}
all_meet_by bytes text deck judged (inr (fails, held)) = absurd (cc)

all_meet : (bytes text : List ℕ) (deck : LoadedDeck) → IsEveryOrderText bytes deck true text → AllMeet bytes deck
all_meet bytes text deck (inl judged) = all_meet_by bytes text deck judged judged.said
all_meet bytes text deck (inr nothing) = let e = nothing.held_is in absurd (cc)

pub quiet_law : (bytes text : List ℕ) (deck : LoadedDeck) → IsEveryOrderText bytes deck true text → (ns : List ℕ) → IsQuiet (run ns deck.machine) → EndsAsExpected bytes deck ns
quiet_law bytes text deck held ns quiet =
    let met = all_meet bytes text deck held in
    let found = quiet_end deck.machine met.orders met.all ns quiet in
    (slice_index_or met.orders found.0 [], found.2, met.each found.0 found.1)

pub ending_law : (bytes text : List ℕ) (deck : LoadedDeck) → IsMachine deck.machine → IsEveryOrderText bytes deck true text → (ns : List ℕ) → IsEnding (run ns deck.machine) → LeadsAsExpected bytes deck ns
ending_law bytes text deck is held ns ending =
    let met = all_meet bytes text deck held in
    let found = one_of_them deck.machine met.orders is met.all ns ending in
    (slice_index_or met.orders found.0 [], found.2, found.3, met.each found.0 found.1)
