-- A run that goes on, and one from its dump, step by step.
use Rattle.std.proofs.Common.{◌≡◌, ◌≢◌, ℕ, ◌+◌, ◌^◌, ◌<◌, ◌≤◌, Bool, false, cond, IsTrue, List, [], ◌∷◌, ◌++◌, append-nil, append_assoc, length, map, Option, Some, None, Ok, refl, sym, ap, ◌∙◌, subst, inl, inr, arith}
use Rattle.std.specs.Prelude.{filter_map, nat_lt, slice_get}
use Rattle.std.specs.Option.{option_to_list}
use Rattle.std.proofs.Math.ListN.{get_or-map}
use Rattle.std.proofs.lemmas.Bool.{cases_eq, cases_lt, ltb-false}
use Rattle.std.proofs.lemmas.List.{get_or-replicate, get_or_past, length-map, length-replicate, map-append}
use Rattle.pp_numbers.specs.ChannelNo.{all_channels, channel_count, channel_index, channel_number, channel_places, names_channel}
use Rattle.pp_numbers.specs.PpNo.{all_processors, processor_count, processor_index}
use Rattle.pp_numbers.specs.Tables.{tabulate}
use Rattle.pp_channel.specs.Answer.{channel_state}
use Rattle.pp_channel.specs.History.{IsLawful, active}
use Rattle.pp_channel.specs.declared.{event.Event.Event}
use Rattle.pp_channel.specs.declared.event.Event.TheVariants.{Activate}
use Rattle.pp_channel.proofs.LawLemmas.{law_of_lawful}
use Rattle.pp_machine.specs.Headline.{HoldsOnChannel}
use Rattle.pp_machine.specs.MachineState.{MachineState, history_of, processor_of}
use Rattle.pp_machine.specs.MachineStep.{answer_to, counted, stepped, trace_after}
use Rattle.pp_processor.specs.NeedAndEffect.{need, processor_after}
use Rattle.pp_processor.specs.Processor.{Processor, IsAtRest, no_processor}
use Rattle.pp_machine.specs.Run.{run, run_order}
use Rattle.pp_processor.specs.declared.{need.Need.Need, pp_state.PpState.PpState}
use Rattle.pp_machine.specs.declared.{trace.Trace.Trace}
use Rattle.pp_processor.specs.declared.pp_state.PpState.TheVariants.{Running, Stopped, Fault}
use Rattle.pp_machine.proofs.MachineStepLemmas.{stepped_at_rest}
use Rattle.pp_machine.proofs.OrderLemmas.{length-run_order}
use Rattle.pp_numbers.specs.declared.profile.Profile.{Profile}
use Rattle.pp_listing.specs.RestOfOrder.{order_left}
use Rattle.pp_listing.proofs.GoingOnLemmas.{none_given}
use Rattle.pp_listing.proofs.RestOfOrderLemmas.{run_goes_on}
use Rattle.pp_run.proofs.AlikeLemmas.{ChannelsAlike, IsLawfulMachine, answers_alike, central_alike, channels_alike, run_lawful}
use Rattle.pp_run.proofs.Moments.{run_processors}
use Rattle.pp_run.proofs.StepFacts.{central_by, other_step, own_step, trace_by}
use Rattle.pp_deck.specs.DeckMeaning.{LoadedDeck, deck_meaning}
use Rattle.pp_listing.specs.Dump.{after, all_busy, busy_channel, busy_processor, deck_to_go_on, first_busy, left_of}
use Rattle.pp_listing.specs.declared.going_on.Busy.{Busy}
use Rattle.pp_listing.specs.declared.going_on.Busy.TheVariants.{Active}
use Rattle.pp_laws.specs.GoingOn.{GoesOnAs, RestAlike, later}
use Rattle.pp_laws.proofs.RisingTurnLemmas.{count_step}

-- a machine with all its processors and channels, of each of which the headline holds
pub record IsSound (m : MachineState) : Type 0 where
  pub processors : length m.processors ≡ processor_count
  pub lawful : IsLawfulMachine m

sound_run : (ns : List ℕ) (m : MachineState) → IsSound m → IsSound (run ns m)
sound_run ns m s = record { processors = run_processors ns m ∙ s.processors; lawful = run_lawful ns m s.lawful }

-- ---- events

abbrev entry : ℕ → ℕ → ℕ → Event → Trace
entry turn n c e = record { turn = turn; pp = n; channel = c; event = e }

entries : (turns one other n c : ℕ) (o : Option Event) → one ≡ turns + other → map (entry one n c) (option_to_list o) ≡ map (later turns) (map (entry other n c) (option_to_list o))
entries turns one other n c o count = grind arith

events_alike : (turns n : ℕ) (before : List Trace) (one other : MachineState) → ChannelsAlike one other → one.turns ≡ turns + other.turns → one.trace ≡ before ++ map (later turns) other.trace → (x : Need)
    → trace_after n x one ≡ before ++ map (later turns) (trace_after n x other)
events_alike turns n before one other alike count same x = grind (arith, append_assoc, entries, map-append)

-- ---- a step of both

-- and the turns are counted from the dump on
pub record IsBeside (turns : ℕ) (dumped one other : MachineState) : Type 0 where
  pub goes_on : GoesOnAs turns dumped one other
  pub count : one.turns ≡ turns + other.turns

counts : (turns n : ℕ) (one other : MachineState) → one.turns ≡ turns + other.turns → one.turns + 1 < 2 ^ 64 → (stepped n one).turns ≡ turns + (stepped n other).turns
counts turns n one other count few = omega (arith, count, few, count_step n one few, count_step n other (omega (arith, count, few)))

module _ (turns n : ℕ) (dumped one other : MachineState) (l : IsSound one) (k : IsSound other) (b : IsBeside turns dumped one other) (few : one.turns + 1 < 2 ^ 64) where
  -- of a processor that was running
  step_running : (processor_of n dumped).state ≡ Running → IsBeside turns dumped (stepped n one) (stepped n other)
  step_running runs =
      let g = b.goes_on in
      let same = g.running n runs in
      let x = need (processor_of n one) in
      let needs : need (processor_of n other) ≡ x = ap need same in
      let after : processor_of n (stepped n other) ≡ processor_of n (stepped n one) =
      own_step n other
      ∙ ap (λ (q : Processor). processor_after q (answer_to (need q) other)) same
      ∙ ap (processor_after (processor_of n one)) (answers_alike one other g.channels g.central x)
      ∙ sym (own_step n one) in
      record {
        goes_on = record {
          running = λ q was. elim (cases_eq q n) [
            | inl is ↦ subst (λ (p : ℕ). processor_of p (stepped n other) ≡ processor_of p (stepped n one)) (sym is) after
            | inr apart ↦ other_step q n other k.processors apart ∙ g.running q was ∙ sym (other_step q n one l.processors apart)
          ];
          at_rest = λ q was.
              let apart : q ≢ n = λ is. was (ap (λ (p : ℕ). (processor_of p dumped).state) is ∙ runs) in
              subst (λ (pp : Processor). RestAlike pp (processor_of q (stepped n other))) (sym (other_step q n one l.processors apart))
              (subst (RestAlike (processor_of q one)) (sym (other_step q n other k.processors apart)) (g.at_rest q was));
          central = central_by n other x needs ∙ central_alike one other g.central x ∙ sym (central_by n one x refl);
          channels = λ c. channels_alike n c one other l.lawful k.lawful g.channels x refl needs;
          events = trace_by n one x refl ∙ events_alike turns n dumped.trace one other g.channels b.count g.events x
              ∙ ap (λ (es : List Trace). dumped.trace ++ map (later turns) es) (sym (trace_by n other x needs));
        };
        count = counts turns n one other b.count few;
      }

  -- and of one at rest
  step_at_rest : IsAtRest (processor_of n dumped) → IsBeside turns dumped (stepped n one) (stepped n other)
  step_at_rest was =
      let g = b.goes_on in
      let rests = g.at_rest n was in
      let first = stepped_at_rest n one rests.at_rest in
      let second = stepped_at_rest n other rests.also in
      record {
        goes_on = subst (λ (m : MachineState). GoesOnAs turns dumped m (stepped n other)) (sym first)
            (subst (GoesOnAs turns dumped (record one { turns = counted one.turns })) (sym second)
            (record { running = g.running; at_rest = g.at_rest; central = g.central; channels = g.channels; events = g.events }));
        count = counts turns n one other b.count few;
      }

  pub step_beside : (s : PpState) → (processor_of n dumped).state ≡ s → IsBeside turns dumped (stepped n one) (stepped n other)
  step_beside s is = grind (arith, step_running, step_at_rest)

pub run_beside : (turns : ℕ) (ns : List ℕ) (dumped one other : MachineState) → IsSound one → IsSound other → IsBeside turns dumped one other → one.turns + length ns < 2 ^ 64 → IsBeside turns dumped (run ns one) (run ns other)
run_beside turns [] dumped one other l k b few = b
run_beside turns (n ∷ ns) dumped one other l k b few =
    let next : one.turns + 1 < 2 ^ 64 = omega (arith, few) in
    run_beside turns ns dumped (stepped n one) (stepped n other) (sound_run (n ∷ []) one l) (sound_run (n ∷ []) other k)
    (step_beside turns n dumped one other l k b next (processor_of n dumped).state refl) (omega (arith, few, count_step n one next))

-- ---- the dump

none_first : {A : Type 0} (xs ys : List A) → slice_get (xs ++ ys) 0 ≡ None → ys ≡ []
none_first [] [] e = refl
none_first [] (y ∷ ys) e = absurd (cc)
none_first (x ∷ xs) ys e = absurd (cc)

not_active : (c : ℕ) (b : Bool) → cond b (Some (Active c)) None ≡ None → b ≡ false
not_active c b e = grind arith

-- between programs no channel is active
none_active : (m : MachineState) (c : ℕ) → IsTrue (names_channel c) → first_busy m ≡ None → active (history_of c m) ≡ false
unfolding all_busy all_channels
none_active m c named e =
    let place = channel_index c in
    let below = channel_places.place_below c named in
    let none = none_first (filter_map (busy_processor m) all_processors) (filter_map (busy_channel m) (tabulate channel_count channel_number)) e in
    let given = none_given (busy_channel m) channel_number place channel_count [] below (ap (λ (xs : List Busy). slice_get (xs ++ []) 0) none) in
    not_active c (active (history_of c m)) (ap (busy_channel m) (sym (channel_places.number_of_place c named)) ∙ given)

inactive : (h : List Event) → active h ≡ false → channel_state h ≡ channel_state []
inactive h e = rw e refl

as_unused : (m : MachineState) (c : ℕ) → length m.histories ≡ channel_count → first_busy m ≡ None → channel_state [] ≡ channel_state (history_of c m)
as_unused m c all between = elim (cases_lt (channel_index c) channel_count) [
  | inl below ↦ sym (inactive (history_of c m) (none_active m c (channel_places.named_below c below) between))
  | inr past ↦ ap channel_state (sym (get_or_past m.histories (channel_index c) [] (omega (arith, all, past))))
]

none_lawful : IsLawful []
none_lawful = (record { first_stretch = []; whole_sessions = []; open_session = None }, refl)

none_happened : (opening history : List Event) → opening ≡ [] → history ≡ [] → HoldsOnChannel opening [] history
none_happened opening history unopened none = rw (unopened, none) (record { traced = refl; lawful = none_lawful; law = law_of_lawful [] none_lawful })

-- the deck to go on from, beside the deck that was dumped
module _ (deck : LoadedDeck) where
  left_there : (n : ℕ) → processor_of n (deck_to_go_on deck).machine ≡ left_of (processor_of n deck.machine).state (processor_of n deck.machine)
  left_there n = get_or-map (λ (pp : Processor). left_of pp.state pp) deck.machine.processors (processor_index n) no_processor

  rest_left : (s : PpState) (pp : Processor) → pp.state ≡ s → s ≢ Running → RestAlike pp (left_of s pp)
  rest_left Running pp is rests = absurd (rests refl)
  rest_left Stopped pp is rests = record { at_rest = λ e. rests (sym is ∙ e); also = λ e. absurd (cc); memory = refl }
  rest_left (Fault number) pp is rests = record { at_rest = λ e. rests (sym is ∙ e); also = λ e. absurd (cc); memory = refl }

  each_history : length (deck_to_go_on deck).machine.histories ≡ channel_count
  each_history = length-replicate {A = List Event} channel_count []

  no_history : (c : ℕ) → history_of c (deck_to_go_on deck).machine ≡ []
  no_history c = grind (arith, cases_lt, get_or-replicate, get_or_past, each_history)

  pub sound_to_go_on : length deck.machine.processors ≡ processor_count → IsSound (deck_to_go_on deck).machine
  sound_to_go_on all = record {
    processors = length-map deck.machine.processors (λ (pp : Processor). left_of pp.state pp) ∙ all;
    lawful = record {
      channels = each_history;
      headline = λ c named. none_happened _ _ (ap (λ (b : Bool). cond b (Activate ∷ []) []) (get_or-replicate channel_count (channel_index c) false false (channel_places.place_below c named))) (no_history c);
    };
  }

  pub starts_beside : (turns : ℕ) → deck.machine.turns ≡ turns → length deck.machine.histories ≡ channel_count → first_busy deck.machine ≡ None → IsBeside turns deck.machine deck.machine (deck_to_go_on deck).machine
  starts_beside turns count all between = grind (arith, left_there, rest_left, no_history, as_unused, append-nil)

-- ---- the whole run

pub count_run : (ns : List ℕ) (m : MachineState) → m.turns + length ns < 2 ^ 64 → (run ns m).turns ≡ m.turns + length ns
count_run [] m few = omega arith
count_run (n ∷ ns) m few =
    let next = count_step n m (omega (arith, few)) in
    let rest = count_run ns (stepped n m) (omega (arith, few, next)) in
    omega (arith, next, rest)

-- a deck that has made some steps and is dumped, and then more
pub goes_on_from : (deck : LoadedDeck) (steps more : List ℕ) → IsSound deck.machine → deck.machine.turns ≡ 0 → length steps + length more < 2 ^ 64 → first_busy (run steps deck.machine) ≡ None
    → GoesOnAs (length steps) (run steps deck.machine) (run more (run steps deck.machine)) (run more (deck_to_go_on (after steps deck)).machine)
goes_on_from deck steps more sound none few between =
    let dumped = run steps deck.machine in
    let its = sound_run steps deck.machine sound in
    let count : dumped.turns ≡ length steps = omega (arith, few, none, count_run steps deck.machine (omega (arith, few, none))) in
    let start = starts_beside (after steps deck) (length steps) count its.lawful.channels between in
    (run_beside (length steps) more dumped dumped (deck_to_go_on (after steps deck)).machine its (sound_to_go_on (after steps deck) its.processors) start (omega (arith, few, count))).goes_on

pub goes_on_in_order : (deck : LoadedDeck) (first : List ℕ) (p : Profile) (turns more : ℕ) → IsSound deck.machine → deck.machine.turns ≡ 0 → turns + more < 2 ^ 64 → first_busy (run (run_order first p turns) deck.machine) ≡ None
    → GoesOnAs turns (run (run_order first p turns) deck.machine) (run (run_order first p (turns + more)) deck.machine) (run (run_order (order_left first p turns) p more) (deck_to_go_on (after (run_order first p turns) deck)).machine)
goes_on_in_order deck first p turns more sound none few between = grind (arith, length-run_order, run_goes_on, goes_on_from)

-- a text that means a deck is no longer than a deck may be
fits_if : (profile : Profile) (text : List ℕ) (deck : LoadedDeck) (b : Bool) → nat_lt 1048576 (length text) ≡ b → deck_meaning profile text ≡ Ok deck → length text ≤ 1048576
unfolding deck_meaning
fits_if profile text deck b long meant = grind (arith, ltb-false)

pub meant_fits : (profile : Profile) (text : List ℕ) (deck : LoadedDeck) → deck_meaning profile text ≡ Ok deck → length text ≤ 1048576
meant_fits profile text deck meant = fits_if profile text deck (nat_lt 1048576 (length text)) refl meant
