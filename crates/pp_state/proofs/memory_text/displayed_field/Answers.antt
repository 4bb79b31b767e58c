use Rattle.std.proofs.Common.{arith}
use Rattle.pp_state.proofs.MemoryTextLemmas.{eight_words}
use Rattle.pp_state.proofs.memory_text.displayed_field.Goals as goal

pub returns : goal.returns
returns c = grind (arith, eight_words)
