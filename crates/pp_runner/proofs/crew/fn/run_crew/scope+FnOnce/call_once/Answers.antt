use Rattle.std.proofs.Common.{rules}
use Rattle.pp_runner.proofs.crew.fn.run_crew.scope+FnOnce.call_once.Goals as goal

pub scope-requires : goal.scope-requires
scope-requires g c = search rules
