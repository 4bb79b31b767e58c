use Rattle.std.proofs.Common.{arith}
use Rattle.pp_state.proofs.ChangeLemmas.{central_line_printed}
use Rattle.pp_state.proofs.changes.ChangedWordsLinesU32.print.Goals as goal

pub returns-then-word-central_word-clause-text : goal.returns-then-word-central_word-clause-text
returns-then-word-central_word-clause-text g c = grind (arith, central_line_printed)
