use Rattle.std.proofs.Common.{◌≡◌, ℕ, ◌≤◌, List, length, None, Ok, ap, ◌∙◌, arith}
use Rattle.pp_machine.specs.Run.{run}
use Rattle.pp_numbers.specs.declared.profile.Profile.{Profile}
use Rattle.pp_machine.proofs.RunLemmas.{run_profile}
use Rattle.pp_deck.specs.DeckMeaning.{LoadedDeck, deck_meaning}
use Rattle.pp_machine.specs.MachineState.{MachineState}
use Rattle.pp_listing.specs.Dump.{GoesOnFrom, deck_to_go_on, dump, first_busy}
use Rattle.pp_listing.specs.RestOfOrder.{order_left}
use Rattle.pp_sim.specs.TextAnswer.{IsOfDeck}
use Rattle.pp_sim.specs.TextOf.{IsDumpText, after_turns, run_of}
use Rattle.pp_sim.proofs.texts.write_dump_after.Goals as goal

-- what the dump of a deck that has run means
goes_on_after : (first : List ℕ) (turns : ℕ) (deck : LoadedDeck) (profile : Profile) (source text : List ℕ) → deck.machine.profile ≡ profile → deck_meaning profile source ≡ Ok deck → GoesOnFrom text (after_turns first turns deck)
    → length text ≤ 1048576 → deck_meaning deck.machine.profile text ≡ Ok (deck_to_go_on (after_turns first turns deck))
goes_on_after first turns deck profile source text is meant goes_on short = grind (arith, run_profile)

-- the text of a deck that has run and is between programs
dumped_of : (first left : List ℕ) (turns : ℕ) (deck : LoadedDeck) (profile : Profile) (source : List ℕ) (m : MachineState) → deck.machine.profile ≡ profile → deck_meaning profile source ≡ Ok deck → left ≡ order_left first deck.machine.profile turns
    → m ≡ run (run_of first turns deck) deck.machine
    → first_busy m ≡ None → (first_busy m ≡ None → GoesOnFrom (dump left (record { machine = m; named = deck.named })) (record { machine = m; named = deck.named }))
    → IsOfDeck profile (IsDumpText first turns) source (dump left (record { machine = m; named = deck.named }))
dumped_of first left turns deck profile source m is meant names ran between goes_on = grind (arith, goes_on_after)

pub returns-in-Ok : goal.returns-in-Ok
returns-in-Ok g c = λ profile bytes meant same.
    let left : c.deref.result.now ≡ order_left c.args.first.now c.args.loaded.now.machine.profile c.args.turns =
    c.deref.ensures.value ∙ (c.in_ok-left.ensures ∙ ap (λ (p : Profile). order_left c.args.first.now p c.args.turns) c.profile.ensures) in
    let (between, whole) = c.in-Ok.ensures.dumped in (
      _,
      dumped_of c.args.first.now _ c.args.turns _ profile bytes c.run_in_order.new.self same meant left c.in_ok-run_in_order.ensures.run.ran
          between c.in-Ok.ensures.goes_on,
      whole,
    )

pub returns : goal.returns
returns g c = λ profile bytes meant same.
    let left : c.deref.result.now ≡ order_left c.args.first.now c.args.loaded.now.machine.profile c.args.turns =
    c.deref.ensures.value ∙ (c.in_ok-left.ensures ∙ ap (λ (p : Profile). order_left c.args.first.now p c.args.turns) c.profile.ensures) in
    let dumped = rw c.in-Err-Write.field-0-is at c.in-Err-Write.ensures.dumped in (
      _,
      dumped_of c.args.first.now _ c.args.turns _ profile bytes c.run_in_order.new.self same meant left c.in_ok-run_in_order.ensures.run.ran
          dumped.0 c.in-Err-Write.ensures.goes_on,
      dumped.1,
    )

pub returns-in-Err-NotBetweenPrograms : goal.returns-in-Err-NotBetweenPrograms
returns-in-Err-NotBetweenPrograms g c = grind arith
