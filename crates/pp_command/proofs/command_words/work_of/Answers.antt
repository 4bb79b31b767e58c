use Rattle.pp_command.proofs.CommandLemmas.{no_check}
use Rattle.pp_command.proofs.command_words.work_of.Goals as goal

pub returns-in_err-channels_of : goal.returns-in_err-channels_of
returns-in_err-channels_of g c = rw (c.from_residual.ensures, c.in-Check.is) (no_check (g.V.Values.value c.args.values.now) c.in_err-channels_of.ensures)
