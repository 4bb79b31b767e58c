use Rattle.pp_machine.specs.Run.{run}
use Rattle.pp_laws.proofs.PrintedLawLemmas.{printed_read}
use Rattle.pp_laws.proofs.RisingTurnLemmas.{run_printable}
use Rattle.pp_laws.proofs.traces.barrel_law.Goals as goal

pub returns : goal.returns
returns c = λ profile text deck steps opened is few fits opens.
    let law = c.deck_law.ensures.law profile text deck is in
    let headline = c.run_law.ensures steps deck.machine law.each_channel (c.deck_law.ensures.machine profile text deck is).headline in
    (printed_read deck.named (run steps deck.machine) opened (run_printable deck.named steps deck.machine law.no_turn law.no_event few headline fits) opens).lawful
