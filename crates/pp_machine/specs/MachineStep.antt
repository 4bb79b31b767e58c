-- One step of one processor of a machine: one trip through the slot of the barrel.
-- (Manual 60100000, part on peripheral and control processors: a processor works on its own memory,
-- exchanges words with data channels, reads and writes central memory; Thornton, on the barrel.)
use Rattle.std.specs.Prelude.{◌≡◌, ℕ, ◌+◌, ◌-◌, ◌^◌, min, List, ◌++◌, length, map, nat_lt, Option, None, IsNone, Result, IfOk, IsOk, OnErr, OnOk, slice_get, slice_set, option_to_list}
use Rattle.pp_channel.specs.Answer.{event_of, reply_to, history_after}
use Rattle.pp_numbers.specs.ChannelNo.{channel_index}
use Rattle.pp_channel.specs.declared.{event.Event.Event, memory.Memory.Memory}
use Rattle.pp_machine.specs.MachineState.{MachineState, processor_of, history_of}
use Rattle.pp_processor.specs.NeedAndEffect.{need, processor_after, outcome}
use Rattle.pp_numbers.specs.PpNo.{processor_index}
use Rattle.pp_processor.specs.declared.{answer.Answer.Answer, need.Need.Need, outcome.Outcome.Outcome}
use Rattle.pp_machine.specs.declared.{trace.Trace.Trace}

-- what the channels and central memory answer to a need
abbrev pub answer_to : Need → MachineState → Answer
answer_to Need.Nothing m = Answer.Local
answer_to Need.Local m = Answer.Local
answer_to (Need.Channel c op) m = Answer.Channel (reply_to op (history_of c m))
answer_to (Need.Read a) m = Answer.Read (slice_get m.central a)
answer_to (Need.Write a w) m = Answer.Wrote (nat_lt a (length m.central))

abbrev pub event_for : Need → MachineState → Option Event
event_for (Need.Channel c op) m = event_of op (history_of c m)
event_for _ m = None

abbrev pub histories_after : Need → MachineState → List (List Event)
histories_after (Need.Channel c op) m =
    slice_set m.histories (channel_index c) (history_after op (history_of c m))
histories_after _ m = m.histories

-- the central words after it; at or past the size nothing changes
abbrev pub central_after : Need → MachineState → List ℕ
central_after (Need.Write a w) m = slice_set m.central a w
central_after _ m = m.central

-- the trace after it, if it is processor n's
abbrev pub trace_after : ℕ → Need → MachineState → List Trace
trace_after n (Need.Channel c op) m =
    m.trace ++ map (λ e. record { turn = m.turns; pp = n; channel = c; event = e })
    (option_to_list (event_of op (history_of c m)))
trace_after n _ m = m.trace

-- a machine that has answered a need of processor n
abbrev pub served : ℕ → Need → MachineState → MachineState
served n x m = record m {
  histories = histories_after x m;
  central = central_after x m;
  trace = trace_after n x m;
}

-- one more turn; the greatest count stays
abbrev pub counted : ℕ → ℕ
counted turns = min (turns + 1) (2 ^ 64 - 1)

-- a machine in which processor n has taken an answer, which counts one turn
abbrev pub taken : ℕ → Answer → MachineState → MachineState
taken n x m = record m {
  processors = slice_set m.processors (processor_index n) (processor_after (processor_of n m) x);
  turns = counted m.turns;
}

-- a machine after one step of processor n
unfoldable pub stepped : ℕ → MachineState → MachineState
stepped n m = let x = need (processor_of n m) in taken n (answer_to x m) (served n x m)

-- what the step does to the processor
unfoldable pub step_outcome : ℕ → MachineState → Outcome
step_outcome n m = outcome (processor_of n m) (answer_to (need (processor_of n m)) m)

-- the event that the step makes
unfoldable pub step_event : ℕ → MachineState → Option Event
step_event n m = event_for (need (processor_of n m)) m

-- a step of processor n that was made, or for which memory was refused: then the machine is as it
-- was; and only a step that makes an event takes memory
pub record IsStep (n : ℕ) (answer : Result Outcome Memory) (old new : MachineState) : Type 0 where
  pub ok : OnOk answer (new ≡ stepped n old)
  pub outcome : IfOk answer (λ o. o ≡ step_outcome n old)
  pub unchanged_after_memory : OnErr answer (new ≡ old)
  pub no_event : IsNone (step_event n old) → IsOk answer
