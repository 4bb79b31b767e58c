use Rattle.pp_processor.proofs.MemoryLemmas.{zero_memory}
use Rattle.pp_processor.proofs.pp_memory.PpMemory.new.Goals as goal

pub invariant_of-result-2 : goal.invariant_of-result-2
invariant_of-result-2 c = zero_memory
