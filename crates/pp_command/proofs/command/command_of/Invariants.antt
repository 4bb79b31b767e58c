use Rattle.std.proofs.Common.{◌≡◌, false, drop, fold, map}
use Rattle.clap.specs.Words.{app_of, new_app, with_rule}
use Rattle.clap.specs.declared.builder.command.Command.TheViews.{out-Command as fields_of}
use Rattle.pp_command.specs.CommandLine.{rule_of_form}
use Rattle.pp_command.proofs.command.command_of.Given as goal

abbrev pub invariant-loop-option : goal.invariant-loop-option
invariant-loop-option l =
    ((fields_of l.command).has_globals ≡ false)
    × (fold with_rule (new_app l.help.form.now.name.now) (map rule_of_form l.help.form.now.options.now)
    ≡ fold with_rule (app_of l.command) (map rule_of_form (drop l.option-index l.help.form.now.options.now)))
