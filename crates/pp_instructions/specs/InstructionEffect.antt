-- What an instruction does wherever it is run: whether it faults, where it leads, and which channel
-- it uses. (Its operation is in the upper six bits of its word, its d the lower six.)
use Rattle.std.specs.Prelude.{ℕ, ◌/◌, ◌%◌, ◌^◌, ◌==◌, ◌||◌, Bool, Option, None, Some, if◌then◌else◌}
use Rattle.pp_word.specs.Address.{next_place}
use Rattle.pp_word.specs.Opcode.{opcode_at}
use Rattle.pp_numbers.specs.declared.profile.Profile.{Profile}
use Rattle.pp_processor.specs.Foreseen.{channel_named as channel_of, jump_from, may_go_on, sends_function as is_function, sure_fault as fault_of}
use Rattle.pp_text.specs.InstructionText.{is_long}
use Rattle.pp_instructions.specs.declared.instruction.Instruction.{Instruction}

-- its fault wherever it is run
unfoldable pub sure_fault : Profile → ℕ → Option ℕ
sure_fault profile word = fault_of profile (opcode_at (word / 2 ^ 6)) (word % 2 ^ 6)

-- whether the instruction behind one may be next
unfoldable pub goes_on : Profile → ℕ → Bool
goes_on profile word = may_go_on profile (opcode_at (word / 2 ^ 6)) (word % 2 ^ 6)

-- the place behind an instruction
unfoldable pub place_behind : Instruction → ℕ
place_behind i =
    if is_long i.word then next_place (next_place i.place) else next_place i.place

-- a jump to its own place leads nowhere, and none to place 0000: so a subroutine ends, until RJM
-- stores the place to return to
abbrev pub unless_idle : ℕ → Option ℕ → Option ℕ
unless_idle place None = None
unless_idle place (Some target) = if target == place || target == 0 then None else Some target

unfoldable pub leads_to : Profile → Instruction → Option ℕ
leads_to profile i = unless_idle i.place
    (jump_from profile (opcode_at (i.word / 2 ^ 6)) i.place (i.word % 2 ^ 6) i.second)

-- the channel that an instruction works on
unfoldable pub channel_named : Profile → ℕ → Option ℕ
channel_named profile word = channel_of profile (opcode_at (word / 2 ^ 6)) (word % 2 ^ 6)

-- whether it sends a function code to equipment
unfoldable pub sends_function : ℕ → Bool
sends_function word = is_function (opcode_at (word / 2 ^ 6))
