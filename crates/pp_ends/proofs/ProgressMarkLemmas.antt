-- A step after which its processor stands the same leaves it as it was.
use Rattle.std.proofs.Common.{◌≡◌, ℕ, length, refl, ap, slice_set, arith}
use Rattle.std.specs.Prelude.{Some, None}
use Rattle.std.proofs.lemmas.Bool.{cases_lt}
use Rattle.std.proofs.lemmas.List.{get_or-set_same, set-get_or, set_past}
use Rattle.pp_word.specs.Address.{next_place, place_count}
use Rattle.pp_processor.specs.Block.{block_word, cut_short, starts}
use Rattle.pp_processor.specs.NeedAndEffect.{processor_after}
use Rattle.pp_processor.specs.PpMemory.{IsMemory}
use Rattle.pp_processor.specs.Processor.{Processor}
use Rattle.pp_processor.specs.declared.{answer.Answer.Answer, block.BlockKind.BlockKind}
use Rattle.pp_processor.specs.declared.block.BlockKind.TheVariants.{Input, Output}
use Rattle.pp_processor.specs.declared.pp_state.PpState.TheVariants.{Running}
use Rattle.pp_processor.proofs.EachStep.{Leaves, Steps, either, leaves}
use Rattle.pp_ends.specs.declared.progress_mark.ProgressMark.{ProgressMark}
use Rattle.pp_ends.specs.ProgressMark.{next_in, mark_of}
use Rattle.pp_ends.proofs.MoveLemmas.{goes_by, five_on}

-- if it stands the same, it is the same
abbrev Stays : Processor → Processor → Type 0
Stays pp after = mark_of after ≡ mark_of pp → after ≡ pp

same_block : (pp after : Processor) → mark_of after ≡ mark_of pp → next_in after.block ≡ next_in pp.block
same_block pp after e = ap (λ (s : ProgressMark). s.block) e

-- a return jump
calls_stays : (pp : Processor) (target word : ℕ) → length pp.memory ≡ place_count
    → Stays pp (record pp { memory = slice_set pp.memory target word; p = next_place target })
calls_stays pp target word places e = grind (arith, cases_lt, set_past, get_or-set_same, set-get_or)

-- a block that begins, or is over at once
starts_stays : (pp : Processor) (count : ℕ) (kind : BlockKind) → pp.block ≡ None
    → length pp.memory ≡ place_count → Stays pp (starts pp count kind)
starts_stays pp count kind free places = grind (arith, get_or-set_same, same_block, either)

block_stays : (kind : BlockKind) (place : ℕ) (pp : Processor) → next_in pp.block ≡ Some place
    → Leaves (Stays pp) (block_word kind place pp)
block_stays kind place pp was = grind (arith, five_on, goes_by, same_block)

cut_stays : (kind : BlockKind) (at place : ℕ) (pp : Processor) → next_in pp.block ≡ Some place
    → Stays pp (cut_short kind at pp)
cut_stays (Input channel) at place pp was e = grind (arith, same_block)
cut_stays (Output channel) at place pp was e = grind (arith, same_block)
cut_stays other at place pp was e = refl

steps_stay : (pp : Processor) → length pp.memory ≡ place_count → pp.state ≡ Running
    → Steps pp (λ place. Unit {0}) (Stays pp)
steps_stay pp places runs = grind (arith, calls_stays, starts_stays, block_stays, cut_stays)

pub stands_still : (pp : Processor) (answer : Answer) → IsMemory pp.memory
    → mark_of (processor_after pp answer) ≡ mark_of pp → processor_after pp answer ≡ pp
stands_still pp answer memory =
    leaves pp (λ place. Unit {0}) (Stays pp) (λ e. refl) answer (steps_stay pp memory.each_place) tt
