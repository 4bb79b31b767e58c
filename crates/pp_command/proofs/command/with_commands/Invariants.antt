use Rattle.std.proofs.Common.{◌≡◌, drop, map}
use Rattle.clap.specs.Words.{app_of}
use Rattle.pp_command.specs.CommandLine.{app_of_command, bare, command_of_form, with_commands}
use Rattle.pp_command.proofs.command.with_commands.Given as goal

abbrev pub invariant-loop-help : goal.invariant-loop-help
invariant-loop-help l =
    with_commands bare (map (λ help. app_of_command (command_of_form help.form.now)) l.helps)
    ≡ with_commands (app_of l.app) (map (λ help. app_of_command (command_of_form help.form.now)) (drop l.help-index l.helps))
