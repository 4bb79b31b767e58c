use Rattle.std.proofs.Common.{◌≡◌, replicate, vec_capacity}
use Rattle.pp_processor.specs.Processor.{new_processor}
use Rattle.pp_numbers.specs.PpNo.{processor_count}
use Rattle.pp_machine.proofs.machine.new_processors.Given as goal

abbrev pub invariant-loop : goal.invariant-loop
invariant-loop g l = record {
  made : l.processors.items ≡ replicate l.counter (new_processor l.fn.profile);
  room : vec_capacity l.processors ≡ processor_count;
}
