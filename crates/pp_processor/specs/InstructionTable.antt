-- The table of instructions, in the order of the octal codes; its last line is for 30 to 57.
-- (Manual 60100000, peripheral processors: list of instructions and their descriptions; Thornton,
-- Design of a Computer, on the peripheral and control processors. Jumps of 00 and 77 and the two
-- zeros are this project's choice.)
use Rattle.std.specs.Prelude.{ℕ, List, [], ◌∷◌, ◌-◌, ◌/◌, ◌%◌, slice_index_or, ◌==◌, ◌&&◌, not, nat_le, Bool, if◌then◌else◌}
use Rattle.pp_word.specs.Bits.{shift, complement, logical_product, logical_difference, selective_clear}
use Rattle.pp_word.specs.OnesComplement.{sum, difference}
use Rattle.pp_word.specs.Opcode.{code_of, length_of}
use Rattle.pp_word.specs.declared.opcode.Opcode.{Opcode}
use Rattle.pp_word.specs.declared.opcode.Opcode.TheVariants.{PSN, LJM, RJM, UJN, ZJN, NJN, PJN, MJN, SHN, LMN, LPN, SCN, LDN, LCN, ADN, SBN, LDC, ADC, LPC, LMC, PSN24, PSN25, EXN, RPN, CRD, CRM, CWD, CWM, AJM, IJM, FJM, EJM, IAN, IAM, OAN, OAM, ACN, DCN, FAN, FNC}
use Rattle.pp_channel.specs.declared.chan_op.ChanOp.TheVariants.{Activate, Disconnect, Put, Function}
use Rattle.pp_processor.specs.Block.{receives, central_from, starts}
use Rattle.pp_processor.specs.Effect.{goes_on, goes_to, faults, jumps_or_stops, jumps_where, branches_where, calls, is_negative, low_of, loads, loads_word, adds_word, subtracts_word, differs_from_word, stores_word, replaces_by_sum, replaces_by_one_more, replaces_by_one_less}
use Rattle.pp_processor.specs.Operand.{second_word, index, constant}
use Rattle.pp_processor.specs.Processor.{Processor, word_at, exchange_jump, no_central_processor, no_such_channel}
use Rattle.pp_numbers.specs.Profile.{has_channel}
use Rattle.pp_processor.specs.Step.{Step, local, probes, takes, does, reads, writes}
use Rattle.pp_processor.specs.declared.block.BlockKind.TheVariants.{CentralIn, CentralOut, Input, Output}

-- Codes 30 to 57 (octal), LDD to SOM, work on one word of memory. The first octal digit of the code
-- says where it stands: 3 at place d, 4 at the place that is the word there, 5 at the indexed place
abbrev pub operand_places : Processor → ℕ → List ℕ
operand_places pp d = d ∷ word_at pp d ∷ index pp d ∷ []

abbrev pub operand_place : Opcode → Processor → ℕ → ℕ
operand_place op pp d = slice_index_or (operand_places pp d) (code_of op / 8 - 3) d

-- and the last octal digit, from 0 to 7, what is done with it
abbrev pub memory_operations : List (Processor → ℕ → ℕ → Processor)
memory_operations =
    loads_word ∷ adds_word ∷ subtracts_word ∷ differs_from_word ∷
    stores_word ∷ replaces_by_sum ∷ replaces_by_one_more ∷ replaces_by_one_less ∷ []

-- the effect of such an instruction
abbrev pub memory_instruction : Opcode → Processor → ℕ → ℕ → Processor
memory_instruction op pp d n =
    slice_index_or memory_operations (code_of op % 8) loads_word pp (operand_place op pp d) n

-- what an operation with lower six bits d means for a processor, if its instruction has n words
abbrev pub table : Opcode → Processor → ℕ → ℕ → Step
table PSN pp d n = local (goes_on pp n)
table LJM pp d n = local (goes_to pp (index pp d))
table RJM pp d n = local (calls pp (index pp d) n)
table UJN pp d n = local (jumps_or_stops pp d)
table ZJN pp d n = local (jumps_where (pp.a == 0) pp d n)
table NJN pp d n = local (jumps_where (not (pp.a == 0)) pp d n)
table PJN pp d n = local (jumps_where (not (is_negative pp)) pp d n)
table MJN pp d n = local (jumps_where (is_negative pp) pp d n)
table SHN pp d n = local (loads pp (shift pp.a d) n)
table LMN pp d n = local (loads pp (logical_difference pp.a d) n)
table LPN pp d n = local (loads pp (logical_product pp.a d) n)
table SCN pp d n = local (loads pp (selective_clear pp.a d) n)
table LDN pp d n = local (loads pp d n)
table LCN pp d n = local (loads pp (complement d) n)
table ADN pp d n = local (loads pp (sum pp.a d) n)
table SBN pp d n = local (loads pp (difference pp.a d) n)
table LDC pp d n = local (loads pp (constant pp d) n)
table ADC pp d n = local (loads pp (sum pp.a (constant pp d)) n)
table LPC pp d n = local (loads pp (logical_product pp.a (constant pp d)) n)
table LMC pp d n = local (loads pp (logical_difference pp.a (constant pp d)) n)
table PSN24 pp d n = local (goes_on pp n)
table PSN25 pp d n = local (goes_on pp n)
table EXN pp d n = local (faults pp exchange_jump)
table RPN pp d n = local (faults pp no_central_processor)
table CRD pp d n = reads pp.a (λ central. goes_on (receives pp d central) n)
table CRM pp d n = local (starts pp (word_at pp d) (CentralIn (word_at pp d)))
table CWD pp d n = writes pp.a (central_from pp d) (goes_on pp n)
table CWM pp d n = local (starts pp (word_at pp d) (CentralOut (word_at pp d)))
table AJM pp d n = probes d (λ flags. branches_where flags.active pp n)
table IJM pp d n = probes d (λ flags. branches_where (not flags.active) pp n)
table FJM pp d n = probes d (λ flags. branches_where flags.full pp n)
table EJM pp d n = probes d (λ flags. branches_where (not flags.full) pp n)
table IAN pp d n = takes d (λ word. loads pp word n)
table IAM pp d n = local (starts pp pp.a (Input d))
table OAN pp d n = does d (Put (low_of pp.a)) (goes_on pp n)
table OAM pp d n = local (starts pp pp.a (Output d))
table ACN pp d n = does d Activate (goes_on pp n)
table DCN pp d n = does d Disconnect (goes_on pp n)
table FAN pp d n = does d (Function (low_of pp.a)) (goes_on pp n)
table FNC pp d n = does d (Function (second_word pp)) (goes_on pp n)
table op pp d n = local (memory_instruction op pp d n)

-- a row of the table: the length of an instruction stands in that of the operation codes
abbrev pub row : Opcode → Processor → ℕ → Step
row op pp d = table op pp d (length_of op)

-- codes 64 to 77 (octal) work on channel d
abbrev pub works_on_channel : Opcode → Bool
works_on_channel op = nat_le 0o64 (code_of op)

-- an instruction: its row, but fault 3 if it works on channel d and the machine has none
abbrev pub instruction : Opcode → Processor → ℕ → Step
instruction op pp d =
    if works_on_channel op && not (has_channel pp.profile d) then local (faults pp no_such_channel)
    else row op pp d
