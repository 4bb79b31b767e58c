-- What is known of a processor's next step before it is made.
use Rattle.std.specs.Prelude.{◌≡◌, ℕ, Bool, true, false, Option, None, Some, IsSome, nat_lt}
use Rattle.pp_word.specs.Opcode.{code_of}
use Rattle.pp_word.specs.declared.opcode.Opcode.{Opcode}
use Rattle.pp_processor.specs.Effect.{leads_to_itself}
use Rattle.pp_processor.specs.Operand.{operation, lower_six}
use Rattle.pp_processor.specs.Processor.{Processor}
use Rattle.pp_processor.specs.declared.pp_state.PpState.TheVariants.{Running}

-- it runs, in no block, and its next instruction is this operation with these lower six bits
pub record IsAtInstruction (op : Opcode) (d : ℕ) (pp : Processor) : Type 0 where
  pub running : pp.state ≡ Running
  pub free : pp.block ≡ None
  pub operation : op ≡ operation pp
  pub lower_six : d ≡ lower_six pp

-- it runs, and its next step is the instruction of this operation, or the next word of a block
abbrev pub IsNext : Option Opcode → ℕ → Processor → Type 0
IsNext None d pp = (pp.state ≡ Running) × IsSome pp.block
IsNext (Some op) d pp = IsAtInstruction op d pp

-- whether an operation, of codes 00 to 57, needs nothing from outside and begins no block
abbrev pub is_internal : Opcode → Bool
is_internal op = nat_lt (code_of op) 0o60

-- whether an instruction leaves its processor at rest: UJN may stop it, EXN and RPN are faults
abbrev pub ends : Opcode → ℕ → Bool
ends Opcode.UJN d = leads_to_itself d
ends Opcode.EXN d = true
ends Opcode.RPN d = true
ends op d = false
