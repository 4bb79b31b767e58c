use Rattle.std.proofs.Output.{has_written_of_eq}
use Rattle.pp_word.proofs.DisplayLemmas.{two_digits}
use Rattle.pp_word.proofs.word6.Word6Display.fmt.Goals as goal

pub returns-clause-writes : goal.returns-clause-writes
returns-clause-writes g c plain ok =
    has_written_of_eq _ _ _ _ _ (rw c.get-n.ensures.value (two_digits c.args.self.now)) (c.write.ensures.writes plain ok)
