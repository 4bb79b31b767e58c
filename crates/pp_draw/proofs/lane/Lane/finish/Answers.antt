use Rattle.pp_text.proofs.PrintingLemmas.{◌▹◌, prints_nothing}
use Rattle.pp_draw.proofs.lane.Lane.finish.Goals as goal

pub returns-in-Some : goal.returns-in-Some
returns-in-Some g c = rw c.in-Some.is ((rw c.of-part.ensures.part at c.print_part-free.ensures.text) ▹ prints_nothing _ _)
