-- What one step leaves of each processor, of each history and of central memory.
use Rattle.std.proofs.Common.{◌≡◌, ◌≢◌, ℕ, IsTrue, List, [], ◌∷◌, ◌++◌, length, append-nil, slice_set, map, get_or, Option, Some, None, refl, sym, ap, ◌∙◌, subst, inl, inr, arith}
use Rattle.std.specs.Prelude.{◌⊎◌}
use Rattle.std.specs.Option.{option_to_list}
use Rattle.std.proofs.lemmas.Bool.{cases_eq, cases_lt, eq-eqb, ne_eqb}
use Rattle.std.proofs.lemmas.List.{set-get_or, get_or-set_same, get_or-set_other, length-set, set_past, get_or_past, length_push}
use Rattle.std.proofs.lemmas.List.Elements.{filter_map-append}
use Rattle.pp_channel.specs.Answer.{event_of, history_after}
use Rattle.pp_numbers.specs.ChannelNo.{channel_count, channel_index, names_channel, channel_places}
use Rattle.pp_channel.specs.declared.{chan_op.ChanOp.ChanOp, event.Event.Event}
use Rattle.pp_machine.specs.MachineState.{MachineState, processor_of, history_of}
use Rattle.pp_machine.specs.MachineStep.{answer_to, histories_after, central_after, trace_after, stepped, step_event, event_for}
use Rattle.pp_processor.specs.NeedAndEffect.{need, processor_after}
use Rattle.pp_processor.specs.Processor.{Processor, no_processor}
use Rattle.pp_numbers.specs.PpNo.{processor_count, processor_index, processor_places}
use Rattle.pp_processor.specs.declared.{answer.Answer.Answer, need.Need.Need}
use Rattle.pp_machine.specs.declared.{trace.Trace.Trace}
use Rattle.pp_run.specs.Determinacy.{made_on}
use Rattle.pp_processor.specs.declared.need.Need.TheVariants.{Channel, Write}

pub processors_by : (n : ℕ) (m : MachineState) → (stepped n m).processors ≡ slice_set m.processors (processor_index n) (processor_after (processor_of n m) (answer_to (need (processor_of n m)) m))
unfolding stepped
processors_by n m = refl

pub histories_by : (n : ℕ) (m : MachineState) (x : Need) → need (processor_of n m) ≡ x → (stepped n m).histories ≡ histories_after x m
unfolding stepped
histories_by n m x e = ap (λ y. histories_after y m) e

pub central_by : (n : ℕ) (m : MachineState) (x : Need) → need (processor_of n m) ≡ x → (stepped n m).central ≡ central_after x m
unfolding stepped
central_by n m x e = ap (λ y. central_after y m) e

no_processor_stays : (x : Answer) → processor_after no_processor x ≡ no_processor
unfolding processor_after
no_processor_stays x = refl

-- a step of n leaves n as its answer does
pub own_step : (n : ℕ) (m : MachineState) → processor_of n (stepped n m) ≡ processor_after (processor_of n m) (answer_to (need (processor_of n m)) m)
own_step n m = grind (arith, processors_by, cases_lt, get_or-set_same, get_or_past, set_past, no_processor_stays)

-- and every other as it was
pub other_step : (q n : ℕ) (m : MachineState) → length m.processors ≡ processor_count → q ≢ n → processor_of q (stepped n m) ≡ processor_of q m
other_step q n m all apart = grind (arith, processors_by, cases_lt, get_or-set_other, processor_places.one_place, processor_places.named_below, set_past)

pub length_processors : (n : ℕ) (m : MachineState) → length (stepped n m).processors ≡ length m.processors
length_processors n m = ap (λ (ps : List Processor). length ps) (processors_by n m) ∙ length-set m.processors (processor_index n) _

-- an operation that makes no event changes no history
pub histories_none : (n c : ℕ) (op : ChanOp) (m : MachineState) → need (processor_of n m) ≡ Channel c op → event_of op (history_of c m) ≡ None → (stepped n m).histories ≡ m.histories
histories_none n c op m e none = grind (arith, histories_by, append-nil, set-get_or)

-- an operation on another channel leaves the history of this one
pub history_elsewhere : (n c d : ℕ) (op : ChanOp) (m : MachineState) → length m.histories ≡ channel_count → need (processor_of n m) ≡ Channel d op → c ≢ d → history_of c (stepped n m) ≡ history_of c m
history_elsewhere n c d op m each e apart = grind (arith, histories_by, cases_lt, get_or-set_other, channel_places.one_place, channel_places.named_below, set_past)

-- on this channel, where there is one with this number
pub history_here : (n c : ℕ) (op : ChanOp) (m : MachineState) → length m.histories ≡ channel_count → IsTrue (names_channel c) → need (processor_of n m) ≡ Channel c op → history_of c (stepped n m) ≡ history_after op (history_of c m)
history_here n c op m each names e = grind (arith, channel_places.place_below, histories_by, get_or-set_same)

-- a history stays unless an event is made on its channel
pub history_unless : (n c : ℕ) (m : MachineState) → length m.histories ≡ channel_count → ((op : ChanOp) → need (processor_of n m) ≡ Channel c op → event_of op (history_of c m) ≡ None) → history_of c (stepped n m) ≡ history_of c m
history_unless n c m each none = grind (arith, histories_by, cases_eq, histories_none, history_elsewhere)

-- a step leaves a history, or adds one event to it
pub grows : (n c : ℕ) (m : MachineState) → length m.histories ≡ channel_count → (history_of c (stepped n m) ≡ history_of c m) ⊎ ((e : Event) × (history_of c (stepped n m) ≡ history_of c m ++ e ∷ []))
grows n c m each = by_need (need (processor_of n m)) refl
  where
    made : (op : ChanOp) (o : Option Event) → need (processor_of n m) ≡ Channel c op → event_of op (history_of c m) ≡ o → (history_of c (stepped n m) ≡ history_of c m) ⊎ ((e : Event) × (history_of c (stepped n m) ≡ history_of c m ++ e ∷ []))
    made op None e is = inl (ap (λ (hs : List (List Event)). get_or hs (channel_index c) []) (histories_none n c op m e is))
    made op (Some event) e is = elim (cases_lt (channel_index c) channel_count) [
      | inl below ↦ inr (event, history_here n c op m each (channel_places.named_below c below) e ∙ ap (λ (o : Option Event). history_of c m ++ option_to_list o) is)
      | inr past ↦ inl (ap (λ (hs : List (List Event)). get_or hs (channel_index c) []) (histories_by n m (Channel c op) e ∙ set_past m.histories (channel_index c) (history_after op (history_of c m)) (omega arith)))
    ]

    by_need : (x : Need) → need (processor_of n m) ≡ x → (history_of c (stepped n m) ≡ history_of c m) ⊎ ((e : Event) × (history_of c (stepped n m) ≡ history_of c m ++ e ∷ []))
    by_need (Channel d op) e = elim (cases_eq d c) [
      | inl same ↦ made op (event_of op (history_of c m)) (subst (λ (k : ℕ). need (processor_of n m) ≡ Channel k op) same e) refl
      | inr apart ↦ inl (history_elsewhere n c d op m each e (λ is. apart (sym is)))
    ]
    by_need other e = inl (ap (λ (hs : List (List Event)). get_or hs (channel_index c) []) (histories_by n m other e))

length_by : (x : Need) (m : MachineState) → length (histories_after x m) ≡ length m.histories
length_by (Channel c op) m = length-set m.histories (channel_index c) (history_after op (history_of c m))
length_by other m = refl

pub length_histories : (n : ℕ) (m : MachineState) → length (stepped n m).histories ≡ length m.histories
length_histories n m = ap (λ (hs : List (List Event)). length hs) (histories_by n m (need (processor_of n m)) refl) ∙ length_by (need (processor_of n m)) m

-- a central word stays unless it is written
pub word_unless : (n a : ℕ) (m : MachineState) → ((w : ℕ) → need (processor_of n m) ≡ Write a w → ⊥) → get_or (stepped n m).central a 0 ≡ get_or m.central a 0
word_unless n a m none = grind (arith, central_by, get_or-set_other)

length_central_by : (x : Need) (m : MachineState) → length (central_after x m) ≡ length m.central
length_central_by (Write a w) m = length-set m.central a w
length_central_by (Channel c op) m = refl
length_central_by other m = refl

pub length_central : (n : ℕ) (m : MachineState) → length (stepped n m).central ≡ length m.central
length_central n m = ap (λ (ws : List ℕ). length ws) (central_by n m (need (processor_of n m)) refl) ∙ length_central_by (need (processor_of n m)) m

-- what a step with this need has made
pub event_by : (n : ℕ) (m : MachineState) (x : Need) → need (processor_of n m) ≡ x → step_event n m ≡ event_for x m
unfolding step_event
event_by n m x e = ap (λ y. event_for y m) e

-- what a step with a channel as its need has made
pub event_by_need : (n c : ℕ) (op : ChanOp) (m : MachineState) → need (processor_of n m) ≡ Channel c op → step_event n m ≡ event_of op (history_of c m)
unfolding step_event
event_by_need n c op m e = ap (λ x. event_for x m) e

pub trace_by : (n : ℕ) (m : MachineState) (x : Need) → need (processor_of n m) ≡ x → (stepped n m).trace ≡ trace_after n x m
unfolding stepped
trace_by n m x e = ap (λ y. trace_after n y m) e

abbrev pub entry_of : ℕ → ℕ → MachineState → Event → Trace
entry_of n c m e = record { turn = m.turns; pp = n; channel = c; event = e }

pub trace_with : (n c : ℕ) (op : ChanOp) (m : MachineState) (o : Option Event) → need (processor_of n m) ≡ Channel c op → event_of op (history_of c m) ≡ o → (stepped n m).trace ≡ m.trace ++ map (entry_of n c m) (option_to_list o)
trace_with n c op m o e is = trace_by n m (Channel c op) e ∙ ap (λ (x : Option Event). m.trace ++ map (entry_of n c m) (option_to_list x)) is

made_more : (c : ℕ) (trace : List Trace) (entry : Trace) → entry.channel ≡ c → made_on c (trace ++ entry ∷ []) ≡ made_on c trace ++ (entry.pp, entry.event) ∷ []
made_more c trace entry same = grind (arith, eq-eqb, filter_map-append)

made_elsewhere : (c : ℕ) (trace : List Trace) (entry : Trace) → entry.channel ≢ c → made_on c (trace ++ entry ∷ []) ≡ made_on c trace
made_elsewhere c trace entry apart = grind (arith, ne_eqb, filter_map-append, append-nil)

-- who made the events of a channel: one event more
pub made_here : (n c : ℕ) (op : ChanOp) (e : Event) (m : MachineState) → need (processor_of n m) ≡ Channel c op → event_of op (history_of c m) ≡ Some e → made_on c (stepped n m).trace ≡ made_on c m.trace ++ (n, e) ∷ []
made_here n c op e m needs is = ap (λ (t : List Trace). made_on c t) (trace_with n c op m (Some e) needs is) ∙ made_more c m.trace (entry_of n c m e) refl

-- or the same, unless an event is made on it
pub made_unless : (n c : ℕ) (m : MachineState) → ((op : ChanOp) → need (processor_of n m) ≡ Channel c op → event_of op (history_of c m) ≡ None) → made_on c (stepped n m).trace ≡ made_on c m.trace
made_unless n c m none = by_need (need (processor_of n m)) refl
  where
    by_event : (k : ℕ) (op : ChanOp) (o : Option Event) → need (processor_of n m) ≡ Channel k op → event_of op (history_of k m) ≡ o → made_on c (stepped n m).trace ≡ made_on c m.trace
    by_event k op None e is = ap (λ (t : List Trace). made_on c t) (trace_with n k op m None e is ∙ append-nil m.trace)
    by_event k op (Some event) e is = elim (cases_eq k c) [
      | inl same ↦
          let never : event_of op (history_of k m) ≡ None = subst (λ (j : ℕ). event_of op (history_of j m) ≡ None) (sym same) (none op (subst (λ (j : ℕ). need (processor_of n m) ≡ Channel j op) same e)) in
          let bad : Some event ≡ None = sym is ∙ never in
          absurd (cc)
      | inr apart ↦ ap (λ (t : List Trace). made_on c t) (trace_with n k op m (Some event) e is) ∙ made_elsewhere c m.trace (entry_of n k m event) apart
    ]

    by_need : (x : Need) → need (processor_of n m) ≡ x → made_on c (stepped n m).trace ≡ made_on c m.trace
    by_need (Channel k op) e = by_event k op (event_of op (history_of k m)) e refl
    by_need other e = ap (λ (t : List Trace). made_on c t) (trace_by n m other e)

-- so it is the same where the history of the channel is, if there is such a channel
pub made_as_history : (n c : ℕ) (m : MachineState) → length m.histories ≡ channel_count → IsTrue (names_channel c) → history_of c (stepped n m) ≡ history_of c m → made_on c (stepped n m).trace ≡ made_on c m.trace
made_as_history n c m each names same = made_unless n c m (λ op e. none op (event_of op (history_of c m)) e refl)
  where
    none : (op : ChanOp) (o : Option Event) → need (processor_of n m) ≡ Channel c op → event_of op (history_of c m) ≡ o → event_of op (history_of c m) ≡ None
    none op None e is = is
    none op (Some event) e is =
        let longer : history_of c m ≡ history_of c m ++ event ∷ [] = sym same ∙ history_here n c op m each names e ∙ ap (λ (x : Option Event). history_of c m ++ option_to_list x) is in
        absurd (omega (arith, ap (λ (h : List Event). length h) longer, length_push (history_of c m) event))
