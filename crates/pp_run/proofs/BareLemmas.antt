-- Steps of a machine without its record.
use Rattle.std.proofs.Common.{get_or-set_same, get_or-set_other, ◌≡◌, ◌≢◌, ℕ, ◌+◌, ◌<◌, ◌⊎◌, inl, inr, List, [], length, slice_set, get_or, sym, ap, ◌∙◌, arith}
use Rattle.std.specs.Prelude.{IsTrue}
use Rattle.std.proofs.lemmas.Bool.{cases_eq}
use Rattle.std.proofs.lemmas.List.{get_or_read, length-set}
use Rattle.pp_channel.specs.Answer.{channel_state, history_after}
use Rattle.pp_numbers.specs.ChannelNo.{channel_count, channel_index, names_channel, channel_places}
use Rattle.pp_channel.specs.declared.{channel_state.ChannelState.ChannelState, event.Event.Event}
use Rattle.pp_machine.specs.MachineState.{MachineState, history_of, processor_of}
use Rattle.pp_machine.specs.MachineStep.{histories_after}
use Rattle.pp_processor.specs.Processor.{Processor}
use Rattle.pp_numbers.specs.PpNo.{processor_count, processor_index}
use Rattle.pp_processor.specs.declared.need.Need.{Need}
use Rattle.pp_processor.specs.declared.need.Need.TheVariants.{Channel}
use Rattle.pp_run.specs.BareMachine.{AreStates}

-- a channel's state and history, both put at its place
pub states_set : (states : List ChannelState) (histories : List (List Event)) (c : ℕ) (h : List Event) → AreStates states histories → IsTrue (names_channel c) → length states ≡ channel_count → length histories ≡ channel_count
    → AreStates (slice_set states (channel_index c) (channel_state h)) (slice_set histories (channel_index c) h)
states_set states histories c h are names as_many all = λ d named. by_number d named (cases_eq d c)
  where
    within : channel_index c < length states
    within = omega (arith, as_many, channel_places.place_below c names)

    inside : channel_index c < length histories
    inside = omega (arith, all, channel_places.place_below c names)

    by_number : (d : ℕ) → IsTrue (names_channel d) → (d ≡ c) ⊎ (d ≢ c)
        → get_or (slice_set states (channel_index c) (channel_state h)) (channel_index d) (channel_state []) ≡ channel_state (get_or (slice_set histories (channel_index c) h) (channel_index d) [])
    by_number d named (inl same) =
        ap (λ (k : ℕ). get_or (slice_set states (channel_index c) (channel_state h)) (channel_index k) (channel_state [])) same
        ∙ get_or-set_same states (channel_index c) (channel_state h) (channel_state []) within
        ∙ ap channel_state (sym (get_or-set_same histories (channel_index c) h [] inside) ∙ ap (λ (k : ℕ). get_or (slice_set histories (channel_index c) h) (channel_index k) []) (sym same))
    by_number d named (inr other) =
        get_or-set_other states (channel_index c) (channel_index d) (channel_state h) (channel_state []) (λ e. other (channel_places.one_place c d names e))
        ∙ are d named
        ∙ ap channel_state (sym (get_or-set_other histories (channel_index c) (channel_index d) h [] (λ e. other (channel_places.one_place c d names e))))

-- a processor that was read at its place
pub own_processor : {items : List Processor} {i : ℕ} {pp : Processor} (n : ℕ) (m : MachineState) → items ≡ m.processors → i ≡ processor_index n → i < processor_count → length m.processors ≡ processor_count → pp ≡ get_or items i pp → pp ≡ processor_of n m
own_processor {items} {i} {pp} n m same place below as_many read = grind (arith, get_or_read)

-- a machine keeps all its channels
pub all_channels : (x : Need) (m : MachineState) → length m.histories ≡ channel_count → length (histories_after x m) ≡ channel_count
all_channels (Channel c op) m all = length-set m.histories (channel_index c) (history_after op (history_of c m)) ∙ all
all_channels other m all = all

-- the states of the channels at the first places
abbrev pub AreStatesBelow : ℕ → List ChannelState → List (List Event) → Type 0
AreStatesBelow count states histories = (k : ℕ) → k < count → get_or states k (channel_state []) ≡ channel_state (get_or histories k [])

-- and of the next one
pub states_more : (states new : List ChannelState) (histories : List (List Event)) (k : ℕ) (x : ChannelState) → AreStatesBelow k states histories → k < length states → new ≡ slice_set states k x → x ≡ channel_state (get_or histories k [])
    → AreStatesBelow (k + 1) new histories
states_more states new histories k x so_far within put is = λ j below. ap (λ (s : List ChannelState). get_or s j (channel_state [])) put ∙ by_place j below (cases_eq j k)
  where
    by_place : (j : ℕ) → j < k + 1 → (j ≡ k) ⊎ (j ≢ k) → get_or (slice_set states k x) j (channel_state []) ≡ channel_state (get_or histories j [])
    by_place j below (inl same) =
        ap (λ (i : ℕ). get_or (slice_set states k x) i (channel_state [])) same ∙ get_or-set_same states k x (channel_state []) within
        ∙ is ∙ ap (λ (i : ℕ). channel_state (get_or histories i [])) (sym same)
    by_place j below (inr other) = get_or-set_other states k j x (channel_state []) other ∙ so_far j (omega (arith, below, other))
