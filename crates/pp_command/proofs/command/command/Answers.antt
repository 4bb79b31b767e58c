use Rattle.std.proofs.Common.{◌∙◌, Some, option_map, ap, sym}
use Rattle.std.proofs.lemmas.Option.{slice_get-get_or}
use Rattle.clap.specs.Words.{app_of}
use Rattle.pp_command.specs.CommandLine.{command_of_form}
use Rattle.pp_command.proofs.NamedCommands.{made_all, made_one, second_of}
use Rattle.pp_command.proofs.command.command.Goals as goal

pub returns : goal.returns
returns c = made_all app_of c.with_commands-2.result _ _ c.with_commands-2.ensures c.commands.ensures

pub returns-in-Some-command_named : goal.returns-in-Some-command_named
returns-in-Some-command_named c =
    made_one app_of c.with_commands.result _ c.in-Some.name.now.now (command_of_form c.in-Some-command_named.help.form.now) c.with_commands.ensures
    (second_of c.args.words.now c.in-Some.name.now (slice_get-get_or c.args.words.now 1 c.in-Some.name.now c.in-Some.ensures.lookup.3.0 ∙ ap Some (sym c.in-Some.ensures.lookup.1)))
    (sym c.command_named.ensures ∙ ap (option_map (λ help. command_of_form help.form.now)) c.in-Some-command_named.is)
