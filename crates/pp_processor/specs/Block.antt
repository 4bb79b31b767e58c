-- Block transfers: how they start, what each word leaves, and how they end.
-- (Manual 60100000, peripheral processors: CRM, CWM, IAM, OAM.)
use Rattle.std.specs.Prelude.{ℕ, ◌-◌, ◌==◌, List, [], ◌∷◌, Option, None, Some, if◌then◌else◌, slice_set}
use Rattle.pp_word.specs.Address.{place_after, next_place}
use Rattle.pp_word.specs.CentralWord.{parts_of, joined}
use Rattle.pp_word.specs.OnesComplement.{sum, difference}
use Rattle.pp_channel.specs.declared.chan_op.ChanOp.TheVariants.{Put}
use Rattle.pp_channel.specs.declared.flags.Flags.{Flags}
use Rattle.pp_processor.specs.Operand.{second_word}
use Rattle.pp_processor.specs.Processor.{Processor, word_at}
use Rattle.pp_processor.specs.Step.{Step, takes, does, reads, writes}
use Rattle.pp_processor.specs.declared.{block.BlockKind.BlockKind, block.Block.Block}
use Rattle.pp_processor.specs.declared.block.BlockKind.TheVariants.{CentralIn, CentralOut, Input, Output}

-- a memory after words were stored from a place on
abbrev pub stored_from : List ℕ → ℕ → List ℕ → List ℕ
stored_from memory place [] = memory
stored_from memory place (word ∷ words) =
    stored_from (slice_set memory place word) (next_place place) words

-- the five parts of a central word come to a place and the four after it
abbrev pub receives : Processor → ℕ → ℕ → Processor
receives pp place central = record pp { memory = stored_from pp.memory place (parts_of central) }

-- the central word of the five words at a place and the four after it
abbrev pub central_from : Processor → ℕ → ℕ
central_from pp place =
    joined (word_at pp place ∷ word_at pp (place_after place 1) ∷ word_at pp (place_after place 2)
    ∷ word_at pp (place_after place 3) ∷ word_at pp (place_after place 4) ∷ [])

abbrev pub stores_at : Processor → ℕ → ℕ → Processor
stores_at pp place word = record pp { memory = slice_set pp.memory place word }

-- the end: P goes past the place whose number is in place 0000, and no block is in progress
abbrev pub ends : Processor → Processor
ends pp = record pp { p = next_place (word_at pp 0); block = None }

-- a block of this kind is in progress, and this place is next
abbrev pub continues : Processor → BlockKind → ℕ → Processor
continues pp kind place = record pp { block = Some (record { kind = kind; place = place }) }

-- the place of the second word goes to place 0000
abbrev pub keeps_place : Processor → Processor
keeps_place pp = stores_at pp 0 (next_place pp.p)

-- the start of a block at place m; a count of 0 moves nothing
abbrev pub starts : Processor → ℕ → BlockKind → Processor
starts pp count kind = let kept = keeps_place pp in
    if count == 0 then ends kept else continues kept kind (second_word pp)

-- IAM, OAM: a word has gone; A falls by 1, and the block ends at A = 0
abbrev pub counts_down : Processor → BlockKind → ℕ → Processor
counts_down pp kind place = let counted = record pp { a = difference pp.a 1 } in
    if counted.a == 0 then ends counted else continues counted kind (next_place place)

-- CRM, CWM: a central word has gone; A rises by 1, and the block ends if no more are left
abbrev pub counts_up : Processor → ℕ → BlockKind → ℕ → Processor
counts_up pp left kind place = let counted = record pp { a = sum pp.a 1 } in
    if left == 0 then ends counted else continues counted kind (place_after place 5)

-- one word of a block in progress
abbrev pub block_word : BlockKind → ℕ → Processor → Step
block_word (CentralIn left) place pp = reads pp.a
    (λ central. counts_up (receives pp place central) (left - 1) (CentralIn (left - 1)) place)
block_word (CentralOut left) place pp =
    writes pp.a (central_from pp place) (counts_up pp (left - 1) (CentralOut (left - 1)) place)
block_word (Input channel) place pp =
    takes channel (λ word. counts_down (stores_at pp place word) (Input channel) place)
block_word (Output channel) place pp =
    does channel (Put (word_at pp place)) (counts_down pp (Output channel) place)

-- the channel was inactive: an input closes with a word 0, and either block ends with A as it is
abbrev pub cut_short : BlockKind → ℕ → Processor → Processor
cut_short (Input channel) place pp = ends (stores_at pp place 0)
cut_short (Output channel) place pp = ends pp
cut_short kind place pp = pp

-- a channel that was not ready holds an instruction, and ends a block if it is inactive
abbrev pub held : Option Block → Processor → Flags → Processor
held None pp flags = pp
held (Some block) pp flags = if flags.active then pp else cut_short block.kind block.place pp
