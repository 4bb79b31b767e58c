-- A channel as one number of 64 bits, the channel word: how many events it has had, its flags and
-- its register; and one step of it, by the table of operations for every number of 64 bits, and by
-- the history if the word stands for one. (Manual 60100000, data channels: a register of 12 bits,
-- an active and a full flag. That they lie in one number with a count is this project's own.)
use Rattle.std.specs.Prelude.{◌≡◌, ℕ, ◌+◌, ◌-◌, ◌*◌, ◌/◌, ◌%◌, ◌^◌, ◌<◌, ◌==◌, ◌&&◌, true, false, not, List, [], ◌∷◌, ◌++◌, length, Option, Some, None, unwrap_or, if◌then◌else◌}
use Rattle.pp_line.specs.Types.{ChanOp, Event, Flags, WordStep}
use Rattle.pp_channel.specs.declared.channel_state.ChannelState.{ChannelState}
use Rattle.pp_channel.specs.History.{waiting}
use Rattle.pp_channel.specs.Answer.{event_by, flags_of, only_looks, flags_after, reply_made, IsReady}
use Rattle.pp_channel.specs.Session.{word_put}

-- bits 0 to 11: the register; bit 12: full; bit 13: active; from bit 14 on: the number of events
abbrev pub packed : ℕ → Flags → ℕ → ℕ
packed number flags register = number * 2 ^ 14 + (if flags.active then 2 ^ 13 else 0)
    + (if flags.full then 2 ^ 12 else 0) + register

-- The word of a channel with the history h; a register without a waiting word is 0.
abbrev pub history_word : List Event → ℕ
history_word h = packed (length h) (flags_of h) (unwrap_or (waiting h) 0)

-- what a word says: the number of events, the flags, the register
abbrev pub number_in : ℕ → ℕ
number_in word = word / 2 ^ 14

abbrev pub flags_in : ℕ → Flags
flags_in word = record { active = word / 2 ^ 13 % 2 == 1; full = word / 2 ^ 12 % 2 == 1 }

abbrev pub register_in : ℕ → ℕ
register_in word = word % 2 ^ 12

-- the greatest number of events that a word can count; at it the channel is worn
abbrev pub greatest_number : ℕ
greatest_number = 2 ^ 50 - 1

-- A step first by the table. The word that waits in the register of a channel word:
abbrev pub waiting_in : ℕ → Option ℕ
waiting_in word =
    if (flags_in word).active && (flags_in word).full then Some (register_in word) else None

abbrev pub state_in : ℕ → ChannelState
state_in word = record { flags = flags_in word; register = waiting_in word }

-- the word after an event: one more event, and the flags and the register that the event leaves
abbrev pub word_with : ℕ → Event → ℕ
word_with word e = packed (number_in word + 1) (flags_after e) (unwrap_or (word_put e) 0)

-- the step if it makes this event, or none
abbrev pub step_by : ChanOp → ℕ → Option Event → WordStep
step_by op word None =
    if only_looks op then WordStep.Look (flags_in word) else WordStep.Held (flags_in word)
step_by op word (Some e) = WordStep.Next (word_with word e) (reply_made e) e

-- The step of an operation from any word; on a worn one, only one that only looks is answered.
abbrev pub step_from : ChanOp → ℕ → WordStep
step_from op word = if not (only_looks op) && (number_in word == greatest_number) then WordStep.Worn
    else step_by op word (event_by op (flags_in word) (waiting_in word))

-- Then by the history. What the step of an operation has to be if the word is that of a channel
-- with the history h; whether the operation is ready is decided by the lawful histories.
pub record StepsFrom (h : List Event) (op : ChanOp) (step : WordStep) : Type 0 where
  -- an operation that only looks is shown the flags
  pub looks : only_looks op ≡ true → step ≡ WordStep.Look (flags_of h)
  -- a ready operation makes its event: the next word is that of the longer history
  pub ready : (e : Event) → length h < greatest_number → IsReady h op e
      → step ≡ WordStep.Next (history_word (h ++ e ∷ [])) (reply_made e) e
  -- any other operation is held at the flags
  pub not_ready : only_looks op ≡ false → length h < greatest_number
      → ((e : Event) → ¬ IsReady h op e) → step ≡ WordStep.Held (flags_of h)
  -- a word that can count no further event makes none
  pub worn : only_looks op ≡ false → length h ≡ greatest_number → step ≡ WordStep.Worn
