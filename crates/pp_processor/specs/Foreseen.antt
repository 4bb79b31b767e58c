-- What is known of an instruction whatever its processor holds: whether it faults, where it leads,
-- and what it does with a channel. d is the lower six bits of its word, m its second word.
use Rattle.std.specs.Prelude.{◌≡◌, ◌⊎◌, ℕ, ◌==◌, ◌&&◌, Bool, true, false, not, Option, None, Some, is_some, option_map, if◌then◌else◌}
use Rattle.pp_word.specs.Address.{next_place, place_after, relative_to}
use Rattle.pp_word.specs.Opcode.{length_of}
use Rattle.pp_word.specs.declared.opcode.Opcode.{Opcode}
use Rattle.pp_word.specs.declared.opcode.Opcode.TheVariants.{LJM, RJM, UJN, ZJN, NJN, PJN, MJN, EXN, RPN, AJM, IJM, FJM, EJM, FAN, FNC}
use Rattle.pp_channel.specs.declared.flags.Flags.{Flags}
use Rattle.pp_numbers.specs.Profile.{has_channel}
use Rattle.pp_numbers.specs.declared.profile.Profile.{Profile}
use Rattle.pp_processor.specs.InstructionTable.{works_on_channel}
use Rattle.pp_processor.specs.Operand.{lower_six, operation, second_word}
use Rattle.pp_processor.specs.Processor.{Processor, exchange_jump, no_central_processor, no_such_channel}

-- the channel that an instruction works on, if the machine has it
abbrev pub channel_named : Profile → Opcode → ℕ → Option ℕ
channel_named profile op d =
    if works_on_channel op && has_channel profile d then Some d else None

-- the fault of one that faults
abbrev pub sure_fault : Profile → Opcode → ℕ → Option ℕ
sure_fault profile EXN d = Some exchange_jump
sure_fault profile RPN d = Some no_central_processor
sure_fault profile op d =
    if works_on_channel op && not (has_channel profile d) then Some no_such_channel else None

-- whether the instruction behind one may be next: not behind UJN, LJM and RJM, nor a fault
abbrev pub always_jumps : Opcode → Bool
always_jumps LJM = true
always_jumps RJM = true
always_jumps UJN = true
always_jumps op = false

abbrev pub may_go_on : Profile → Opcode → ℕ → Bool
may_go_on profile op d = not (always_jumps op) && not (is_some (sure_fault profile op d))

-- the place that a jump at a place leads to, if it jumps; an index leads anywhere
abbrev pub jump_from : Profile → Opcode → ℕ → ℕ → Option ℕ → Option ℕ
jump_from profile LJM place d m = if d == 0 then m else None
jump_from profile RJM place d m = if d == 0 then option_map next_place m else None
jump_from profile UJN place d m = Some (relative_to place d)
jump_from profile ZJN place d m = Some (relative_to place d)
jump_from profile NJN place d m = Some (relative_to place d)
jump_from profile PJN place d m = Some (relative_to place d)
jump_from profile MJN place d m = Some (relative_to place d)
jump_from profile AJM place d m = if has_channel profile d then m else None
jump_from profile IJM place d m = if has_channel profile d then m else None
jump_from profile FJM place d m = if has_channel profile d then m else None
jump_from profile EJM place d m = if has_channel profile d then m else None
jump_from profile op place d m = None

-- LJM or RJM with an index
abbrev pub has_index : Opcode → ℕ → Bool
has_index LJM d = not (d == 0)
has_index RJM d = not (d == 0)
has_index op d = false

-- the places where P may be after an operation: where it was; behind the instruction, if it may go
-- on; where a jump leads; or any place, by an index
abbrev pub Reaches : Opcode → Processor → ℕ → ℕ → Type 0
Reaches op pp d place = (place ≡ pp.p)
    ⊎ ((may_go_on pp.profile op d ≡ true) × (place ≡ place_after pp.p (length_of op)))
    ⊎ (jump_from pp.profile op pp.p d (Some (second_word pp)) ≡ Some place)
    ⊎ (has_index op d ≡ true)

-- those after the instruction at P
abbrev pub MayComeTo : Processor → ℕ → Type 0
MayComeTo pp place = Reaches (operation pp) pp (lower_six pp) place

-- whether it is FAN or FNC, which send a function code to equipment
abbrev pub sends_function : Opcode → Bool
sends_function FAN = true
sends_function FNC = true
sends_function op = false

-- whether one that tests flags jumps at these: AJM, IJM, FJM and else EJM
abbrev pub jumps_at : Opcode → Flags → Bool
jumps_at AJM flags = flags.active
jumps_at IJM flags = not flags.active
jumps_at FJM flags = flags.full
jumps_at op flags = not flags.full
