use Rattle.std.proofs.Common.{◌∙◌, sym}
use Rattle.pp_machine.specs.Run.{run}
use Rattle.pp_sim.specs.TextOf.{run_of}
use Rattle.pp_laws.proofs.texts.barrel_text_law.Goals as goal

pub returns : goal.returns
returns c deck other first second turns others text one also =
    let m = run (run_of first turns deck) deck.machine in
    let k = run (run_of second others other) other.machine in
    let agree = c.text_law.ensures.text deck.named other.named m k one.fits also.fits (sym one.text_is ∙ also.text_is) in
    (agree, c.text_law.ensures.histories deck.named other.named m k one.headline also.headline agree)
