use Rattle.std.proofs.Common.{ℕ, length, not, inl, inr, refl, sym, ap, ◌∙◌}
use Rattle.std.specs.Prelude.{All}
use Rattle.std.proofs.lemmas.List.{length-map}
use Rattle.pp_deck.specs.DeckMeaning.{LoadedDeck}
use Rattle.pp_orders.specs.Found.{orders_of}
use Rattle.pp_test.specs.EveryOrder.{FirstFails, IsHeldAfter, held_line}
use Rattle.pp_test.specs.Expectations.{expectations}
use Rattle.pp_test.proofs.EveryOrderLemmas.{judged, not_more}
use Rattle.pp_test.proofs.every_order.text_of_every_order.Goals as goal

pub first_failure-requires-clause-few : goal.first_failure-requires-clause-few
first_failure-requires-clause-few g c = rw c.as_slice-endings.ensures.value (λ k d within. (c.in_ok-found.ensures.listed k d within).few)

pub returns-in-Some : goal.returns-in-Some
returns-in-Some g c =
    let deck : LoadedDeck = record { machine = c.args.load.now.machine; named = c.args.load.now.named } in
    let found = c.in_ok-found.found in
    let fails : FirstFails c.args.bytes.now deck (orders_of found) c.in-Some.text.items =
    rw c.as_slice-endings.ensures.value at ((rw c.in-Some.is at c.in_ok-text-2.ensures.some) deck c.requires.meant) in
    judged c.args.bytes.now c.in-Some.text.items deck (orders_of found) found.are_all _ c.expectation_count-count.result c.expectation_count-count.ensures c.if-count-eq0.false
    c.in_ok-found.ensures.listed c.in_ok-found.ensures.endings c.in_ok-found.ensures.all (inr (fails, refl))

pub returns : goal.returns
returns g c =
    let deck : LoadedDeck = record { machine = c.args.load.now.machine; named = c.args.load.now.named } in
    let found = c.in_ok-found.found in
    let bytes = c.args.bytes.now in
    let each : All (IsHeldAfter bytes deck) (orders_of found) =
    rw c.as_slice-endings.ensures.value at ((rw c.in_default.is at c.in_ok-text-2.ensures.none) deck c.requires.meant) in
    let told = c.in_ok-text-3.ensures ∙ ap (λ (n : ℕ). held_line n (length c.as_slice-endings.result.now) (not found.are_all)) c.expectation_count-count.ensures
    ∙ ap (λ (n : ℕ). held_line (length (expectations bytes)) n (not found.are_all)) (ap length c.as_slice-endings.ensures.value ∙ sym (length-map found.endings.items (λ ending. ending.order.items))) in
    judged bytes c.in_ok-text-3.text.items deck (orders_of found) found.are_all _ c.expectation_count-count.result c.expectation_count-count.ensures c.if-count-eq0.false
    c.in_ok-found.ensures.listed c.in_ok-found.ensures.endings c.in_ok-found.ensures.all (inl (record { each = each; text_is = told }, not_more found.are_all))
