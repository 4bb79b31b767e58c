use Rattle.pp_text.proofs.PrintingLemmas.{◌▹◌}
use Rattle.pp_races.specs.RacesText.{finding_line}
use Rattle.pp_races.proofs.lines.print_finding_line.Goals as goal

pub returns-in-Before : goal.returns-in-Before
unfolding finding_line
returns-in-Before g c = rw c.in-Before.is c.print_step_line.ensures

pub returns-in-After : goal.returns-in-After
unfolding finding_line
returns-in-After g c = rw c.in-After.is c.print_step_line-in-After.ensures

pub returns-in-GoingOn : goal.returns-in-GoingOn
unfolding finding_line
returns-in-GoingOn g c = rw c.in-GoingOn.is ((rw c.processor_name.ensures at c.print.ensures) ▹ c.print-in-GoingOn.ensures)

pub returns-in-HeldBefore : goal.returns-in-HeldBefore
unfolding finding_line
returns-in-HeldBefore g c = rw c.in-HeldBefore.is c.print_held_line.ensures

pub returns-in-Shared : goal.returns-in-Shared
unfolding finding_line
returns-in-Shared g c = rw c.in-Shared.is c.print_shared_line.ensures
