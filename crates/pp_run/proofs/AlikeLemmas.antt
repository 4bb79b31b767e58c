-- Machines whose channels stand alike, and a step of both.
use Rattle.std.proofs.Common.{◌≡◌, ℕ, List, [], ◌∷◌, ◌++◌, length, append-nil, slice_set, get_or, Option, Some, None, refl, sym, ap, ◌∙◌, inl, inr, arith}
use Rattle.std.specs.Prelude.{slice_get, nat_lt}
use Rattle.std.specs.Option.{option_to_list}
use Rattle.std.proofs.lemmas.Bool.{cases_eq, cases_lt}
use Rattle.std.proofs.lemmas.List.{get_or_past}
use Rattle.pp_channel.specs.Answer.{channel_state, event_of, flags_after, history_after, state_after, state_reply, state_with}
use Rattle.pp_channel.specs.History.{IsLawful, waiting}
use Rattle.pp_channel.specs.declared.{chan_op.ChanOp.ChanOp, channel_state.ChannelState.ChannelState, event.Event.Event, flags.Flags.Flags}
use Rattle.pp_channel.proofs.AnswerLemmas.{flags_by_table, lawful_with_event, word_by_table}
use Rattle.pp_numbers.specs.ChannelNo.{channel_count, channel_index, channel_places}
use Rattle.pp_machine.specs.Headline.{HoldsOnEachChannel}
use Rattle.pp_machine.specs.MachineState.{MachineState, processor_of, history_of}
use Rattle.pp_machine.specs.MachineStep.{answer_to, central_after, stepped}
use Rattle.pp_processor.specs.NeedAndEffect.{need}
use Rattle.pp_machine.specs.Run.{run}
use Rattle.pp_processor.specs.declared.{answer.Answer.Answer, need.Need.Need}
use Rattle.pp_processor.specs.declared.need.Need.TheVariants.{Channel, Read, Write}
use Rattle.pp_machine.proofs.RunLemmas.{run_keeps}
use Rattle.pp_run.proofs.StepFacts.{histories_by, history_elsewhere, history_here, length_histories}
use Rattle.pp_run.proofs.Moments.{run_histories}

-- a machine whose channels keep their laws
pub record IsLawfulMachine (m : MachineState) : Type 0 where
  pub channels : length m.histories ≡ channel_count
  pub headline : HoldsOnEachChannel m

pub run_lawful : (ns : List ℕ) (m : MachineState) → IsLawfulMachine m → IsLawfulMachine (run ns m)
run_lawful ns m l = record {
  channels = run_histories ns m ∙ l.channels;
  headline = run_keeps ns m l.channels l.headline;
}

-- how a channel stands after an operation
after_by : (h : List Event) (op : ChanOp) (o : Option Event) → IsLawful h → event_of op h ≡ o
    → channel_state (h ++ option_to_list o) ≡ state_with (channel_state h) o
after_by h op None lawful made = ap (λ (k : List Event). channel_state k) (append-nil h)
after_by h op (Some e) lawful made =
    let more : IsLawful (h ++ e ∷ []) = lawful_with_event h op e lawful made in
    ap (λ (f : Flags). record { flags = f; register = waiting (h ++ e ∷ []) }) (flags_by_table h e lawful more)
    ∙ ap (λ (w : Option ℕ). record { flags = flags_after e; register = w }) (word_by_table h e lawful more)

pub after_operation : (h : List Event) (op : ChanOp) → IsLawful h → channel_state (history_after op h) ≡ state_after op (channel_state h)
after_operation h op lawful = after_by h op (event_of op h) lawful refl

abbrev pub ChannelsAlike : MachineState → MachineState → Type 0
ChannelsAlike one other = (c : ℕ) → channel_state (history_of c other) ≡ channel_state (history_of c one)

pub channels_alike : (n c : ℕ) (one other : MachineState) → IsLawfulMachine one → IsLawfulMachine other
    → ChannelsAlike one other → (x : Need) → need (processor_of n one) ≡ x → need (processor_of n other) ≡ x
    → channel_state (history_of c (stepped n other)) ≡ channel_state (history_of c (stepped n one))
channels_alike n c one other l k alike (Channel d op) e f = elim (cases_lt (channel_index c) channel_count) [
  | inr past ↦
      ap channel_state (get_or_past (stepped n other).histories (channel_index c) [] (omega (arith, past, length_histories n other, k.channels)))
      ∙ ap channel_state (sym (get_or_past (stepped n one).histories (channel_index c) [] (omega (arith, past, length_histories n one, l.channels))))
  | inl below ↦
      let names = channel_places.named_below c below in
      elim (cases_eq c d) [
        | inr apart ↦
            ap channel_state (history_elsewhere n c d op other k.channels f apart) ∙ alike c
            ∙ ap channel_state (sym (history_elsewhere n c d op one l.channels e apart))
        | inl same ↦
            let on : need (processor_of n one) ≡ Channel c op = e ∙ ap (λ (b : ℕ). Channel b op) (sym same) in
            let on_other : need (processor_of n other) ≡ Channel c op = f ∙ ap (λ (b : ℕ). Channel b op) (sym same) in
            ap channel_state (history_here n c op other k.channels names on_other)
            ∙ after_operation (history_of c other) op (k.headline c names).lawful ∙ ap (state_after op) (alike c)
            ∙ sym (after_operation (history_of c one) op (l.headline c names).lawful)
            ∙ ap channel_state (sym (history_here n c op one l.channels names on))
      ]
]
channels_alike n c one other l k alike rest e f =
    ap (λ (hs : List (List Event)). channel_state (get_or hs (channel_index c) [])) (histories_by n other rest f) ∙ alike c
    ∙ ap (λ (hs : List (List Event)). channel_state (get_or hs (channel_index c) [])) (sym (histories_by n one rest e))

-- with central memories that are the same, needs are answered alike
pub answers_alike : (one other : MachineState) → ChannelsAlike one other → other.central ≡ one.central
    → (x : Need) → answer_to x other ≡ answer_to x one
answers_alike one other alike central (Channel c op) = ap (λ (s : ChannelState). Answer.Channel (state_reply op s)) (alike c)
answers_alike one other alike central (Read address) = ap (λ (ws : List ℕ). Answer.Read (slice_get ws address)) central
answers_alike one other alike central (Write address word) = ap (λ (ws : List ℕ). Answer.Wrote (nat_lt address (length ws))) central
answers_alike one other alike central rest = refl

pub central_alike : (one other : MachineState) → other.central ≡ one.central → (x : Need) → central_after x other ≡ central_after x one
central_alike one other central (Write address word) = ap (λ (ws : List ℕ). slice_set ws address word) central
central_alike one other central next = central
