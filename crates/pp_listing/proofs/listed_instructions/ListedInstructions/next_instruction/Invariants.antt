use Rattle.std.proofs.Common.{◌≡◌, ◌-◌, ◌<◌, length}
use Rattle.pp_word.specs.Address.{place_count}
use Rattle.pp_listing.proofs.TextLemmas.{lines_from}
use Rattle.pp_listing.proofs.listed_instructions.ListedInstructions.next_instruction.Given as goal

abbrev pub invariant-loop-at : goal.invariant-loop-at
invariant-loop-at l = record {
  long : 0 < l.at → length l.self-inside.pp.now.memory ≡ place_count;
  left : l.fn.self ≡ lines_from l.at l.self-inside.pp.now.memory;
}

abbrev pub decreases-loop-at : goal.decreases-loop-at
decreases-loop-at l = 4096 - l.at
