use Rattle.std.proofs.Common.{refl, sym, ◌∙◌}
use Rattle.std.proofs.lemmas.Result.{err_from_is_err_and}
use Rattle.pp_deck.specs.DeckMeaning.{LoadedDeck}
use Rattle.pp_sim.proofs.TestAnswerLemmas.{comes_to}
use Rattle.pp_sim.proofs.texts.test_text.write_test_of_run.Goals as goal

pub returns-in-true : goal.returns-in-true
returns-in-true g c =
    let deck : LoadedDeck = record { machine = c.args.loaded.now.machine; named = c.args.loaded.now.named } in
    let lines = c.in_ok-lines.lines.items in
    let held = sym c.in-true.is ∙ c.in_ok-write_verdict.ensures.held in (
      _,
      comes_to _ c.args.schedule.now.first.now c.args.schedule.now.until c.args.turns c.in_ok-turns.turns _ lines _ deck c.requires.meant c.in_ok-turns.ensures.ok c.in_ok-lines.ensures
          (rw c.as_slice.ensures.value at held),
      rw c.as_slice.ensures.value at c.in_ok-write_verdict.ensures.written,
    )

pub returns : goal.returns
returns g c =
    let deck : LoadedDeck = record { machine = c.args.loaded.now.machine; named = c.args.loaded.now.named } in
    let lines = c.in_ok-lines.lines.items in
    let held = sym c.in-false.is ∙ c.in_ok-write_verdict.ensures.held in (
      _,
      comes_to _ c.args.schedule.now.first.now c.args.schedule.now.until c.args.turns c.in_ok-turns.turns _ lines _ deck c.requires.meant c.in_ok-turns.ensures.ok c.in_ok-lines.ensures
          (rw c.as_slice.ensures.value at held),
      rw c.as_slice.ensures.value at c.in_ok-write_verdict.ensures.written,
    )

pub returns-in_err-write_verdict : goal.returns-in_err-write_verdict
returns-in_err-write_verdict g c =
    let p = err_from_is_err_and c.from_residual-in_err-write_verdict.result c.from_residual-in_err-write_verdict.ensures.1 in
    let deck : LoadedDeck = record { machine = c.args.loaded.now.machine; named = c.args.loaded.now.named } in
    let lines = c.in_ok-lines.lines.items in
    rw (p.1, p.2) (
      _,
      _,
      comes_to _ c.args.schedule.now.first.now c.args.schedule.now.until c.args.turns c.in_ok-turns.turns _ lines _ deck c.requires.meant c.in_ok-turns.ensures.ok c.in_ok-lines.ensures refl,
      rw c.as_slice.ensures.value at c.in_err-write_verdict.ensures.fault,
    )
