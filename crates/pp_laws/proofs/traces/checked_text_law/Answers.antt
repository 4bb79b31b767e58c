use Rattle.std.proofs.Common.{ℕ, List, arith, refl, subst, sym}
use Rattle.pp_check.specs.LawfulTrace.{AreLawful}
use Rattle.pp_deck.specs.DeckText.{lines_of}
use Rattle.pp_machine.specs.Run.{run}
use Rattle.pp_sim.specs.TextOf.{run_of}
use Rattle.pp_machine.proofs.OrderLemmas.{length-run_order}
use Rattle.pp_laws.proofs.traces.checked_text_law.Goals as goal

pub returns-clause-barrel : goal.returns-clause-barrel
returns-clause-barrel g c = λ profile bytes text first deck turns is few printed.
    let turns_of = run_of first turns deck in
    let opened = (run turns_of deck.machine).opened in
    subst (λ (t : List ℕ). AreLawful opened (lines_of t)) (sym printed.text_is)
    (c.barrel_law.ensures profile bytes deck turns_of opened is (omega (arith, few, length-run_order first deck.machine.profile turns)) printed.fits (λ k names. refl))

pub returns-clause-threads : goal.returns-clause-threads
returns-clause-threads g c = λ deck limits text is few.
    subst (λ (t : List ℕ). AreLawful deck.machine.opened (lines_of t)) (sym is.text_is)
    (c.printed_report_law.ensures.lawful deck.named limits deck.machine is.report deck.machine.opened (record { run = is.run; fits = is.fits; few_events = few }) (λ k names. refl))
