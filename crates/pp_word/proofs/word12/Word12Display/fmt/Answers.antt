use Rattle.std.proofs.Output.{has_written_of_eq}
use Rattle.pp_word.proofs.DisplayLemmas.{four_digits}
use Rattle.pp_word.proofs.word12.Word12Display.fmt.Goals as goal

pub returns-clause-writes : goal.returns-clause-writes
returns-clause-writes g c plain ok =
    has_written_of_eq _ _ _ _ _ (rw c.get-n.ensures.value (four_digits c.args.self.now)) (c.write.ensures.writes plain ok)
