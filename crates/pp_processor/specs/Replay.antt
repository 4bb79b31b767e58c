-- A replay: a processor is given answers in order, up to the first that does not fit its need.
use Rattle.std.specs.Prelude.{ℕ, ◌+◌, Bool, true, false, List, [], ◌∷◌, ◌++◌, map, if◌then◌else◌, option_to_list, not, Option, None, is_some}
use Rattle.pp_channel.specs.Answer.{event_answered, seen_answered, only_looks, event_with}
use Rattle.pp_channel.specs.declared.{chan_op.ChanOp.ChanOp, seen.Seen.Seen, event.Event.Event, reply.Reply.Reply}
use Rattle.pp_processor.specs.NeedAndEffect.{need, processor_after}
use Rattle.pp_processor.specs.Processor.{Processor}
use Rattle.pp_processor.specs.declared.{answer.Answer.Answer, need.Need.Need}

-- whether a reply fits an operation: flags go with one that only looks, a word with Take, Done with
-- one whose event needs no word from the channel; and each that acts may be held
abbrev pub reply_fits : ChanOp → Reply → Bool
reply_fits operation (Reply.Flags flags) = only_looks operation
reply_fits operation (Reply.Held flags) = not (only_looks operation)
reply_fits operation Reply.Done = is_some (event_with operation None)
reply_fits ChanOp.Take (Reply.Word word) = true
reply_fits operation (Reply.Word word) = false

abbrev pub fits : Need → Answer → Bool
fits Need.Nothing Answer.Local = true
fits Need.Local Answer.Local = true
fits (Need.Channel channel operation) (Answer.Channel reply) = reply_fits operation reply
fits (Need.Read address) (Answer.Read word) = true
fits (Need.Write address word) (Answer.Wrote written) = true
fits need answer = false

-- the processor after the answers, up to the first that does not fit
unfoldable pub replayed : Processor → List Answer → Processor
replayed pp [] = pp
replayed pp (answer ∷ more) =
    if fits (need pp) answer then replayed (processor_after pp answer) more else pp

unfoldable pub given_count : Processor → List Answer → ℕ
given_count pp [] = 0
given_count pp (answer ∷ more) =
    if fits (need pp) answer then given_count (processor_after pp answer) more + 1 else 0

-- an event, say, with the number of its channel
pub record OfChannel (X : Type 0) : Type 0 where
  pub channel : ℕ
  pub what : X

-- what an answer to a need gives, which the operation and its reply determine
abbrev pub contribution : {X : Type 0} → (ChanOp → Reply → Option X) → Need → Answer
    → List (OfChannel X)
contribution tells (Need.Channel channel operation) (Answer.Channel reply) =
    map (λ what. record { channel = channel; what = what }) (option_to_list (tells operation reply))
contribution tells need answer = []

-- what each answer gives, along a replay, end to end
unfoldable pub collected_along : {X : Type 0} → (ChanOp → Reply → Option X) → Processor
    → List Answer → List (OfChannel X)
collected_along tells pp [] = []
collected_along tells pp (answer ∷ more) =
    if fits (need pp) answer then contribution tells (need pp) answer
    ++ collected_along tells (processor_after pp answer) more else []

-- the events of a replay, in order
abbrev pub events_given : Processor → List Answer → List (OfChannel Event)
events_given = collected_along event_answered

-- the events and the looks of a replay together, in order
abbrev pub looks_and_events : Processor → List Answer → List (OfChannel Seen)
looks_and_events = collected_along seen_answered
