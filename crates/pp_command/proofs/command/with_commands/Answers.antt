use Rattle.std.proofs.Common.{◌∙◌, ap}
use Rattle.clap.specs.Words.{app_of, with_subcommand}
use Rattle.pp_command.specs.CommandLine.{app_of_command, command_of_form}
use Rattle.pp_command.proofs.CommandLemmas.{add_next}
use Rattle.pp_command.proofs.command.with_commands.Goals as goal

pub loop-help-preserved : goal.loop-help-preserved
loop-help-preserved c = c.loop-help.invariant
    ∙ add_next (λ app command. with_subcommand app command.top) (λ help. app_of_command (command_of_form help.form.now)) (app_of c.loop-help.app) (app_of c.in_ok-app.app) c.args.helps.now c.loop-help.help-index _ c.loop-help-test.true
    (c.in_ok-app.ensures.shape c.in_ok-command_of.ensures.local ∙ ap (λ command. with_subcommand (app_of c.loop-help.app) command.top) c.in_ok-command_of.ensures.app)
