-- What a channel answers to an operation, by its history: first as a relation to lawful histories,
-- then as a function by the table of operations. On lawful histories they agree. (Manual 60100000,
-- channel instructions: 64 to 67 (octal) test the flags of a channel, 70 to 77 wait on its flags.)
use Rattle.std.specs.Prelude.{◌≡◌, ℕ, Bool, true, false, not, ◌&&◌, List, [], ◌∷◌, ◌++◌, Option, Some, None, ◌⊎◌, if◌then◌else◌, option_map, option_to_list, length}
use Rattle.std.specs.Option.{option_or}
use Rattle.pp_channel.specs.declared.{event.Event.Event, chan_op.ChanOp.ChanOp, channel_state.ChannelState.ChannelState, seen.Seen.Seen, reply.Reply.Reply, flags.Flags.Flags, numbered.Numbered.Numbered}
use Rattle.pp_channel.specs.History.{IsLawful, active, full, waiting, HasTwelveBitWords}
use Rattle.pp_channel.specs.Session.{word_put}

abbrev pub flags_of : List Event → Flags
flags_of h = record { active = active h; full = full h }

abbrev pub channel_state : List Event → ChannelState
channel_state h = record { flags = flags_of h; register = waiting h }

-- whether an operation only looks: it never makes an event, and is never held
abbrev pub only_looks : ChanOp → Bool
only_looks ChanOp.Probe = true
only_looks op = false

abbrev pub operation_of : Event → ChanOp
operation_of Event.Activate = ChanOp.Activate
operation_of Event.Disconnect = ChanOp.Disconnect
operation_of (Event.Put w) = ChanOp.Put w
operation_of (Event.Take w) = ChanOp.Take
operation_of (Event.Function w) = ChanOp.Function w

-- the reply if an event is made
abbrev pub reply_made : Event → Reply
reply_made (Event.Take w) = Reply.Word w
reply_made _ = Reply.Done

-- the reply if none is made: an operation that only looks is answered, any other is held
abbrev pub reply_shown : ChanOp → ChannelState → Reply
reply_shown ChanOp.Probe state = Reply.Flags state.flags
reply_shown op state = Reply.Held state.flags

-- the flags that a reply shows; one to an operation that made an event shows none
abbrev pub flags_shown : Reply → Option Flags
flags_shown (Reply.Flags f) = Some f
flags_shown (Reply.Held f) = Some f
flags_shown reply = None

-- First the relation. An operation is ready on h if it makes an event with which h stays lawful.
pub record IsReady (h : List Event) (op : ChanOp) (e : Event) : Type 0 where
  pub operation : operation_of e ≡ op
  pub lawful : IsLawful (h ++ e ∷ [])

-- the event is made, and stands at the end of the history
pub record IsMade (h : List Event) (op : ChanOp) (reply : Reply) (after : List Event) (e : Event)
    : Type 0 where
  pub ready : IsReady h op e
  pub answered : reply ≡ reply_made e
  pub recorded : after ≡ h ++ e ∷ []

-- the operation is not ready: the flags are shown, and the history stays
pub record IsShown (h : List Event) (op : ChanOp) (reply : Reply) (after : List Event) : Type 0
  where
    pub not_ready : (e : Event) → ¬ IsReady h op e
    pub answered : reply ≡ reply_shown op (channel_state h)
    pub unchanged : after ≡ h

-- The answer of a channel with the history h to an operation: its reply, and its history after it.
abbrev pub IsAnswer : List Event → ChanOp → Reply → List Event → Type 0
IsAnswer h op reply after = ((e : Event) × IsMade h op reply after e) ⊎ IsShown h op reply after

-- Then the table. Whether an operation is ready, by the flags:
abbrev pub ready_at : ChanOp → Flags → Bool
ready_at ChanOp.Probe f = true
ready_at ChanOp.Activate f = not f.active
ready_at ChanOp.Disconnect f = f.active
ready_at (ChanOp.Put w) f = f.active && not f.full
ready_at ChanOp.Take f = f.active && f.full
ready_at (ChanOp.Function w) f = not f.active

-- the event that it makes, if `word` is the one in the register
abbrev pub event_with : ChanOp → Option ℕ → Option Event
event_with ChanOp.Probe word = None
event_with ChanOp.Activate word = Some Event.Activate
event_with ChanOp.Disconnect word = Some Event.Disconnect
event_with (ChanOp.Put w) word = Some (Event.Put w)
event_with ChanOp.Take word = option_map (λ w. Event.Take w) word
event_with (ChanOp.Function w) word = Some (Event.Function w)

-- the event that an operation made, by its answer
abbrev pub event_answered : ChanOp → Reply → Option Event
event_answered op Reply.Done = event_with op None
event_answered ChanOp.Take (Reply.Word w) = Some (Event.Take w)
event_answered op reply = None

-- what an operation so answered saw or did: the flags that the reply shows, or its event
abbrev pub seen_answered : ChanOp → Reply → Option Seen
seen_answered op reply = option_or (option_map (λ f. Seen.Saw f) (flags_shown reply))
    (option_map (λ e. Seen.Did e) (event_answered op reply))

abbrev pub flags_after : Event → Flags
flags_after Event.Activate = record { active = true; full = false }
flags_after Event.Disconnect = record { active = false; full = false }
flags_after (Event.Put w) = record { active = true; full = true }
flags_after (Event.Take w) = record { active = true; full = false }
flags_after (Event.Function w) = record { active = false; full = false }

-- the event of an operation, by the flags and the register
abbrev pub event_by : ChanOp → Flags → Option ℕ → Option Event
event_by op f word = if ready_at op f then event_with op word else None

-- The event of an operation on a channel with the history h; None if it makes none.
abbrev pub event_of : ChanOp → List Event → Option Event
event_of op h = event_by op (flags_of h) (waiting h)

abbrev pub reply_by : ChanOp → ChannelState → Option Event → Reply
reply_by op state None = reply_shown op state
reply_by op state (Some e) = reply_made e

abbrev pub state_reply : ChanOp → ChannelState → Reply
state_reply op state = reply_by op state (event_by op state.flags state.register)

-- the state of a channel after an event of its own, or after none
abbrev pub state_with : ChannelState → Option Event → ChannelState
state_with state None = state
state_with state (Some e) = record { flags = flags_after e; register = word_put e }

-- and after an operation
abbrev pub state_after : ChanOp → ChannelState → ChannelState
state_after op state = state_with state (event_by op state.flags state.register)

-- The reply to an operation on a channel with the history h.
abbrev pub reply_to : ChanOp → List Event → Reply
reply_to op h = state_reply op (channel_state h)

-- The history after it: one more event, or the same.
abbrev pub history_after : ChanOp → List Event → List Event
history_after op h = h ++ option_to_list (event_of op h)

-- The answer of a channel behind a lock: one with some lawful history of `number` events; nothing
-- happened on the channel between the look at its history and the answer.
pub record IsLockedAnswer (op : ChanOp) (r : Numbered) : Type 0 where
  pub before : List Event
  pub after : List Event
  pub lawful : IsLawful before
  pub twelve_bits : HasTwelveBitWords before
  pub number : r.number ≡ length before
  pub loaded : r.loaded ≡ r.number
  pub answer : IsAnswer before op r.reply after
