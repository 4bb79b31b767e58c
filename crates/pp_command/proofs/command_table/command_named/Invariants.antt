use Rattle.std.proofs.Common.{◌≡◌, drop, map}
use Rattle.std.specs.Prelude.{bytes_eq, find}
use Rattle.pp_command.specs.CommandLine.{command_named, command_of_form}
use Rattle.pp_command.proofs.command_table.command_named.Given as goal

abbrev pub invariant-loop-help : goal.invariant-loop-help
invariant-loop-help l = find (λ command. bytes_eq command.name l.name) (map (λ help. command_of_form help.form.now) (drop l.help-index l.help-items)) ≡ command_named l.name
