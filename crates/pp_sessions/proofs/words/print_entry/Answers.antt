use Rattle.std.proofs.Common.{arith}
use Rattle.pp_sessions.proofs.WordLemmas.{one_entry, word_either}
use Rattle.pp_sessions.proofs.words.print_entry.Goals as goal
use Rattle.pp_sessions.proofs.words.print_entry.Goals.{in-Put, in-Put-2}

pub returns-clause-words : goal.returns-clause-words
returns-clause-words g c = grind (arith, in-Put, word_either, in-Put-2, one_entry)
