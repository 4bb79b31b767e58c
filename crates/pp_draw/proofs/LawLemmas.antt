-- What a drawing tells of a run.
use Rattle.std.proofs.Common.{◌≡◌, ℕ, Bool, true, false, cond, eqb, List, [], ◌∷◌, ◌++◌, map, Some, None, refl, sym, ap, ◌∙◌, arith}
use Rattle.std.specs.Prelude.{◌↔◌, IsTrue}
use Rattle.std.specs.List.{filter_map}
use Rattle.std.proofs.lemmas.List.{map-append}
use Rattle.pp_numbers.specs.ChannelNo.{names_channel}
use Rattle.pp_channel.specs.declared.event.Event.{Event}
use Rattle.pp_channel.specs.declared.event.Event.TheVariants.{Activate, Disconnect, Put}
use Rattle.pp_machine.specs.Headline.{HoldsOnEachChannel, events_on, opening_history}
use Rattle.pp_machine.specs.MachineState.{MachineState, history_of, is_opened}
use Rattle.pp_machine.specs.declared.trace.Trace.{Trace}
use Rattle.pp_draw.specs.Condition.{changes, channel_phases, phase_on, phases_from}
use Rattle.pp_draw.specs.DrawingLaw.{look_in}
use Rattle.pp_draw.specs.Lane.{is_lost}
use Rattle.pp_draw.specs.declared.{condition.Look.Look, condition.Phase.Phase}
use Rattle.pp_draw.specs.declared.condition.Look.TheVariants.{Channel}

-- ---- a channel

abbrev phase_after : Trace → Phase
phase_after entry = record { since = entry.turn; look = Channel entry.event }

abbrev phases_on : ℕ → List Trace → List Phase
phases_on c trace = filter_map (phase_on c) trace

-- something of each entry on channel c
mapped_on : {A B : Type 0} (h : A → B) (f : Trace → A) (c : ℕ) (trace : List Trace)
    → map h (filter_map (λ (e : Trace). cond (eqb e.channel c) (Some (f e)) None) trace) ≡ filter_map (λ (e : Trace). cond (eqb e.channel c) (Some (h (f e))) None) trace
mapped_on h f c [] = refl
mapped_on {A} {B} h f c (e ∷ trace) = grind (arith, mapped_on h f c trace)

opening_mapped : {A B : Type 0} (h : A → B) (b : Bool) (x : A) → map h (cond b (x ∷ []) []) ≡ cond b (h x ∷ []) []
opening_mapped h true x = refl
opening_mapped h false x = refl

abbrev opening : Phase
opening = record { since = 0; look = Channel Activate }

pub phase_for_event : (c : ℕ) (m : MachineState) → IsTrue (names_channel c) → HoldsOnEachChannel m → map look_in (channel_phases c m) ≡ map Channel (history_of c m)
phase_for_event c m names h =
    map-append look_in (cond (is_opened c m) (opening ∷ []) []) (phases_on c m.trace)
    ∙ ap (λ (ls : List Look). ls ++ map look_in (phases_on c m.trace)) (opening_mapped look_in (is_opened c m) opening ∙ sym (listed (is_opened c m)))
    ∙ ap (λ (ls : List Look). map Channel (opening_history c m) ++ ls) (mapped_on look_in phase_after c m.trace ∙ sym (mapped_on Channel (λ (e : Trace). e.event) c m.trace))
    ∙ sym (map-append Channel (opening_history c m) (events_on c m.trace))
    ∙ ap (map Channel) (sym (h c names).traced)
  where
    listed : (b : Bool) → map Channel (cond b (Activate ∷ []) []) ≡ cond b (Channel Activate ∷ []) []
    listed true = refl
    listed false = refl

pub turn_for_event : (c : ℕ) (m : MachineState) → map (λ (phase : Phase). phase.since) (channel_phases c m) ≡ cond (is_opened c m) (0 ∷ []) [] ++ filter_map (λ (e : Trace). cond (eqb e.channel c) (Some e.turn) None) m.trace
turn_for_event c m =
    map-append since (cond (is_opened c m) (opening ∷ []) []) (phases_on c m.trace)
    ∙ ap (λ (ts : List ℕ). ts ++ map since (phases_on c m.trace)) (opening_mapped since (is_opened c m) opening)
    ∙ ap (λ (ts : List ℕ). cond (is_opened c m) (0 ∷ []) [] ++ ts) (mapped_on since phase_after c m.trace)
  where
    since : Phase → ℕ
    since phase = phase.since

-- ---- each of its phases is drawn

-- those that come after an event
all_begin : (c : ℕ) (event : Event) (trace : List Trace) → changes (Channel event) (phases_on c trace) ≡ phases_on c trace
all_begin c event [] = refl
all_begin c event (e ∷ trace) = grind (arith, phases_on, phase_after, all_begin c event trace, all_begin c e.event trace)

-- an event goes on as nothing does
from_start : (event : Event) (phases : List Phase) → phases_from None phases ≡ changes (Channel event) phases
from_start event [] = refl
from_start event (first ∷ more) = refl

pub each_is_drawn : (c : ℕ) (m : MachineState) → phases_from None (channel_phases c m) ≡ channel_phases c m
each_is_drawn c m = by_test (is_opened c m)
  where
    by_test : (b : Bool) → phases_from None (cond b (opening ∷ []) [] ++ phases_on c m.trace) ≡ cond b (opening ∷ []) [] ++ phases_on c m.trace
    by_test true = ap (λ (ps : List Phase). opening ∷ ps) (all_begin c Activate m.trace)
    by_test false = from_start Activate (phases_on c m.trace) ∙ all_begin c Activate m.trace

-- ---- lost words

pub lost_where : (e next : Event) (turn : ℕ) → IsTrue (is_lost (Channel e) (Some (record { since = turn; look = Channel next }))) ↔ (((word : ℕ) × (e ≡ Put word)) × (next ≡ Disconnect))
lost_where (Put w) Disconnect turn = (λ h. ((w, refl), refl), λ h. refl)
lost_where (Put w) next turn = (λ h. absurd (cc), λ h. let (put, is) = h in absurd (cc))
lost_where e next turn = (λ h. absurd (cc), λ h. let ((w, put), is) = h in absurd (cc))
