-- A peripheral processor as contracts see it.
-- (Manual 60100000, peripheral processors: memory, the accumulator A, the program address P.)
use Rattle.std.specs.Prelude.{◌≡◌, ℕ, Bool, true, false, ◌<◌, ◌≤◌, ◌^◌, List, Option, None, Some, slice_index, ◌≢◌}
use Rattle.pp_processor.specs.PpMemory.{IsMemory, empty_memory}
use Rattle.pp_processor.specs.declared.{block.Block.Block, block.BlockKind.BlockKind, pp_state.PpState.PpState}
use Rattle.pp_processor.specs.declared.pp_state.PpState.TheVariants.{Running, Stopped, Fault}
use Rattle.pp_numbers.specs.declared.profile.Profile.{Profile}

-- its machine's profile, memory, A of 18 bits, P of 12, its state, and perhaps a block transfer
pub record Processor : Type 0 where
  pub profile : Profile
  pub memory : List ℕ
  pub a : ℕ
  pub p : ℕ
  pub state : PpState
  pub block : Option Block

abbrev pub is_running : PpState → Bool
is_running Running = true
is_running state = false

abbrev pub word_at : Processor → ℕ → ℕ
word_at pp place = slice_index pp.memory place

-- a processor before anything is set
abbrev pub new_processor : Profile → Processor
new_processor profile =
    record { profile = profile; memory = empty_memory; a = 0; p = 0; state = Stopped; block = None }

-- a processor that runs on from p with A = a, in no block
abbrev pub runs_from : ℕ → ℕ → Processor → Processor
runs_from p a pp = record pp { p = p; a = a; state = Running; block = None }

-- a processor that waits for its program: a block input from channel c, with places from 0000 on, P
-- 0000 and A 010000
abbrev pub waiting_on : ℕ → Processor → Processor
waiting_on c pp = record pp {
  a = 0o10000;
  p = 0;
  state = Running;
  block = Some (record { kind = BlockKind.Input c; place = 0 });
}

-- what stands for a processor past the end of a list
abbrev pub no_processor : Processor
no_processor = new_processor Profile.Ten

-- the faults: EXN, RPN, a channel that is not there, and a central address at or past the size
abbrev pub exchange_jump : ℕ
exchange_jump = 1

abbrev pub no_central_processor : ℕ
no_central_processor = 2

abbrev pub no_such_channel : ℕ
no_such_channel = 3

abbrev pub past_central_memory : ℕ
past_central_memory = 4

-- the number of a fault is one of these
pub record IsFaultNumber (number : ℕ) : Type 0 where
  pub first : 1 ≤ number
  pub last : number ≤ 4

-- a fault has such a number
abbrev pub HasFaultNumber : PpState → Type 0
HasFaultNumber (Fault number) = IsFaultNumber number
HasFaultNumber state = Unit {0}

-- a transfer with central memory has at least one word left
abbrev pub HasWordsLeft : BlockKind → Type 0
HasWordsLeft (BlockKind.CentralIn left) = 1 ≤ left
HasWordsLeft (BlockKind.CentralOut left) = 1 ≤ left
HasWordsLeft kind = Unit {0}

-- only a running processor is in a block, and a block with central memory has words left
abbrev pub IsBlockIn : PpState → Option Block → Type 0
IsBlockIn state None = Unit {0}
IsBlockIn state (Some block) = (state ≡ Running) × HasWordsLeft block.kind

-- memory and registers have the widths that the manual gives
pub record IsProcessor (pp : Processor) : Type 0 where
  pub memory : IsMemory pp.memory
  pub a : pp.a < 2 ^ 18
  pub p : pp.p < 2 ^ 12

-- a processor that is stopped or at fault
abbrev pub IsAtRest : Processor → Type 0
IsAtRest pp = pp.state ≢ Running

abbrev pub IsAtFault : Processor → Type 0
IsAtFault pp = (number : ℕ) × (pp.state ≡ Fault number)

-- memory, A and P are as before, and no block is in progress
pub record KeepsMemoryAndRegisters (old new : Processor) : Type 0 where
  pub memory : new.memory ≡ old.memory
  pub a : new.a ≡ old.a
  pub p : new.p ≡ old.p
  pub block : new.block ≡ None
