-- How a worker ends.
use Rattle.std.specs.Prelude.{◌≡◌, ◌↔◌, ◌<◌, ◌≤◌, ℕ, false, IsTrue, None, List, length}
use Rattle.std.specs.List.{last_or}
use Rattle.pp_channel.specs.Answer.{only_looks}
use Rattle.pp_line.specs.ChannelWord.{greatest_number}
use Rattle.pp_line.specs.LineLog.{is_look_at}
use Rattle.pp_runner.specs.Types.{Answer, ChanOp, End, Entry, Need}
use Rattle.pp_processor.specs.NeedAndEffect.{need}
use Rattle.pp_processor.specs.Processor.{Processor, IsFaultNumber}
use Rattle.pp_processor.specs.declared.pp_state.PpState.TheVariants as states
use Rattle.pp_runner.specs.declared.end.End.TheVariants.{Stopped, Fault, Steps, Patience, Memory, Worn}

-- The processor is running, and has made fewer steps than the limit.
pub record HasStepsLeft (steps : ℕ) (pp : Processor) (answers : List Answer) : Type 0 where
  pub running : pp.state ≡ states.Running
  pub fewer : length answers < steps

-- A step needs an operation on this channel that does more than look.
pub record NeedsChannel (needed : Need) (channel : ℕ) : Type 0 where
  pub operation : ChanOp
  pub is : needed ≡ Need.Channel channel operation
  pub acts : only_looks operation ≡ false

-- It was held at a channel: the log ends with a look at it.
pub record WasHeld (pp : Processor) (log : List Entry) : Type 0 where
  pub channel : ℕ
  pub needs : NeedsChannel (need pp) channel
  pub looked : IsTrue (is_look_at channel (last_or None log))

-- After `happened c` events on each channel c: a step needs such an operation on a worn one.
pub record NeedsWornChannel (happened : ℕ → ℕ) (needed : Need) : Type 0 where
  pub channel : ℕ
  pub needs : NeedsChannel needed channel
  pub worn : greatest_number ≤ happened channel

-- Only a worker whose next step needs a worn channel has ended as worn.
abbrev pub WornWithCause : (ℕ → ℕ) → End → Processor → Type 0
WornWithCause happened finish pp = finish ≡ Worn → NeedsWornChannel happened (need pp)

-- An end at a fault is one of the numbered faults.
abbrev pub HasEndNumber : End → Type 0
HasEndNumber (Fault number) = IsFaultNumber number
HasEndNumber finish = Unit {0}

-- What each end says of the processor, the answers and the log.
pub record IsEnd (steps : ℕ) (finish : End) (pp : Processor) (answers : List Answer)
    (log : List Entry) : Type 0 where
  pub stopped : (finish ≡ Stopped) ↔ (pp.state ≡ states.Stopped)
  pub fault : (number : ℕ) → (finish ≡ Fault number) ↔ (pp.state ≡ states.Fault number)
  pub numbered : HasEndNumber finish
  pub all_steps : finish ≡ Steps → (pp.state ≡ states.Running) × (length answers ≡ steps)
  pub patience : finish ≡ Patience → HasStepsLeft steps pp answers × WasHeld pp log
  pub memory : finish ≡ Memory → HasStepsLeft steps pp answers
  pub worn : finish ≡ Worn → HasStepsLeft steps pp answers
      × ((channel : ℕ) × NeedsChannel (need pp) channel)
