use Rattle.std.proofs.Common.{rules}
use Rattle.pp_command.proofs.option_values.turn_of.Goals as goal

pub returns-in-Some : goal.returns-in-Some
returns-in-Some g c =
    let is = rw c.in-Some.is at c.value_of.ensures in
    let found = rw (← is) at c.number_in.ensures in
    rw (← is) (search (rules, found))
