use Rattle.pp_command.proofs.CommandLemmas.{picture}
use Rattle.pp_command.proofs.text_of.text_of.Goals as goal

pub returns-in_ok-window-in-Draw : goal.returns-in_ok-window-in-Draw
returns-in_ok-window-in-Draw g c = rw (c.then_some.ensures, c.in-Draw.is) (picture c.fits_a_picture.result (g.V.Values.value c.args.values.now) c.args.profile c.in_ok-window-in-Draw.window c.in_ok-window-in-Draw.ensures c.fits_a_picture.ensures)
