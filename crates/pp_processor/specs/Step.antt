-- One step of a processor: what it needs from outside, and the processor that the answer leaves.
use Rattle.std.specs.Prelude.{ℕ}
use Rattle.pp_channel.specs.declared.{chan_op.ChanOp.ChanOp, flags.Flags.Flags}
use Rattle.pp_processor.specs.Processor.{Processor}
use Rattle.pp_processor.specs.declared.need.Need.{Need}

-- local: nothing, and then this processor
-- probes, takes: the flags of a channel or a word from it, and the processor that each leaves
-- does: an operation on a channel that is answered Done, and then this processor
-- reads: the central word of an address, and the processor that each leaves
-- writes: a central word to an address, and then this processor
pub data Step : Type 0 where
  local : Processor → Step
  probes : ℕ → (Flags → Processor) → Step
  takes : ℕ → (ℕ → Processor) → Step
  does : ℕ → ChanOp → Processor → Step
  reads : ℕ → (ℕ → Processor) → Step
  writes : ℕ → ℕ → Processor → Step

abbrev pub need_of : Step → Need
need_of (local after) = Need.Local
need_of (probes channel after) = Need.Channel channel ChanOp.Probe
need_of (takes channel after) = Need.Channel channel ChanOp.Take
need_of (does channel operation after) = Need.Channel channel operation
need_of (reads address after) = Need.Read address
need_of (writes address word after) = Need.Write address word
