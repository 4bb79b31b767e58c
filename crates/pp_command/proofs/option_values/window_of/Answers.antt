use Rattle.pp_command.proofs.CommandLemmas.{no_end}
use Rattle.pp_command.proofs.option_values.window_of.Goals as goal

pub returns-in_err-to : goal.returns-in_err-to
returns-in_err-to g c = rw c.from_residual-in_err-to.ensures (no_end (g.V.Values.value c.args.values.now) c.in_ok-turns.turns c.in_ok-turns.ensures c.in_err-to.ensures)
