use Rattle.std.specs.Prelude.{option_map}
use Rattle.pp_numbers.specs.PpNo.{is_named, processor_count}
use Rattle.pp_numbers.specs.Profile.{has_processor}
use Rattle.pp_command.specs.NumberList.{numbers_in, numbers_of}
use Rattle.pp_command.proofs.NumberListLemmas.{HasFlagged, bytes_in}
use Rattle.pp_command.proofs.processor_list.listed_processors.Given as goal

abbrev pub invariant-loop-rest : goal.invariant-loop-rest
invariant-loop-rest l = HasFlagged (has_processor l.profile) processor_count is_named (numbers_of l.text) l.flags (numbers_in (option_map (λ list. list.now) l.rest))

abbrev pub decreases-loop-rest : goal.decreases-loop-rest
decreases-loop-rest l = bytes_in (option_map (λ list. list.now) l.rest)
