use Rattle.std.proofs.Common.{ap}
use Rattle.std.specs.Prelude.{bytes_eq, find}
use Rattle.pp_command.specs.CommandLine.{command_named}
use Rattle.pp_command.proofs.command_table.command_named.Goals as goal

pub loop-help-init : goal.loop-help-init
unfolding command_named
loop-help-init c = ap (find (λ command. bytes_eq command.name c.args.name.now)) c.commands.ensures
