use Rattle.std.proofs.Common.{inr}
use Rattle.std.proofs.KnownBytes.{Keeps-refl}
use Rattle.pp_sim.proofs.program.work_on_file.Goals as goal

pub returns-in_default : goal.returns-in_default
returns-in_default g c = inr (c.tell_unread.ensures, Keeps-refl _)
