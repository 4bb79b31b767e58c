use Rattle.std.proofs.Common.{arith}
use Rattle.pp_machine.proofs.DeadStartLemmas.{none_started, one_more, still_unused}
use Rattle.pp_machine.proofs.machine.Machine.+open_below.Goals as goal

pub returns-then-count-eq0-clause-ok : goal.returns-then-count-eq0-clause-ok
returns-then-count-eq0-clause-ok g t c = grind (arith, none_started)

pub let_wait-requires-clause-unused : goal.let_wait-requires-clause-unused
let_wait-requires-clause-unused g t c = grind (arith, still_unused)

pub returns-clause-ok : goal.returns-clause-ok
returns-clause-ok g t c = grind (arith, one_more)
