-- What stays of a loaded deck through all steps of its machine.
use Rattle.std.proofs.Common.{◌≡◌, ℕ, ◌^◌, ◌<◌, ◌≤◌, Bool, true, false, cond, List, [], ◌∷◌, ◌++◌, length, get_or-set_other, Option, None, Some, Ok, refl, sym, ap, subst, ◌∙◌, arith, inl, inr, append-nil}
use Rattle.std.specs.Prelude.{All, IsTrue, filter_map, unwrap_or, slice_set}
use Rattle.std.specs.Option.{option_to_list}
use Rattle.std.proofs.lemmas.Bool.{cases_lt, or_parts}
use Rattle.std.proofs.lemmas.Bool.Decides.{eqb_tells}
use Rattle.std.proofs.lemmas.List.{get_or_past, length-set, set_past}
use Rattle.std.proofs.lemmas.List.Elements.{All-nil, All-push, All-replicate, All-same, All-set}
use Rattle.pp_numbers.proofs.GrowingLists.{last_of}
use Rattle.pp_numbers.specs.Tables.{tabulate}
use Rattle.pp_numbers.proofs.TableLemmas.{length-tabulate}
use Rattle.pp_channel.specs.Answer.{event_of, event_with, history_after}
use Rattle.pp_channel.proofs.AnswerLemmas.{shows_flags}
use Rattle.pp_numbers.specs.ChannelNo.{channel_count, channel_index, channel_number}
use Rattle.pp_channel.specs.History.{HasTwelveBitWord, HasTwelveBitWords}
use Rattle.pp_channel.specs.declared.{chan_op.ChanOp.ChanOp, event.Event.Event}
use Rattle.pp_channel.specs.declared.event.Event.TheVariants as events
use Rattle.pp_channel.proofs.EachHistory.{bits_on}
use Rattle.pp_channel.proofs.HistoryLemmas.{waiting_small}
use Rattle.pp_machine.specs.Central.{IsCentral}
use Rattle.pp_machine.specs.DeadStart.{waits, processor_started, history_started, processors_started, histories_started}
use Rattle.pp_machine.specs.MachineState.{MachineState, processor_of, history_of}
use Rattle.pp_machine.specs.MachineStep.{answer_to, histories_after, central_after, stepped}
use Rattle.pp_processor.specs.NeedAndEffect.{need, processor_after}
use Rattle.pp_processor.specs.PpMemory.{empty_memory}
use Rattle.pp_numbers.specs.PpNo.{names_processor, processor_count, processor_index, processor_number, processor_places}
use Rattle.pp_processor.specs.Processor.{Processor, IsAtRest, new_processor, no_processor, waiting_on}
use Rattle.pp_numbers.proofs.PpNoLemmas.{channel_of_processor}
use Rattle.pp_numbers.specs.Profile.{has_processor}
use Rattle.pp_processor.specs.declared.{need.Need.Need}
use Rattle.pp_processor.specs.declared.need.Need.TheVariants.{Channel, Write}
use Rattle.pp_numbers.specs.declared.profile.Profile.{Profile}
use Rattle.pp_numbers.specs.declared.profile.Profile.TheVariants.{Ten}
use Rattle.pp_machine.proofs.MachineStepLemmas.{stepped_at_rest}
use Rattle.pp_processor.proofs.MemoryLemmas.{zero_memory}
use Rattle.pp_deck.specs.DeckLine.{Line}
use Rattle.pp_deck.specs.DeckLoad.{asks_dead_start, lines_for, memory_of, processor_loaded, processor_with, start_in}
use Rattle.pp_deck.specs.DeckLoad as load
use Rattle.pp_deck.specs.DeckMeaning.{LoadedDeck, deck_meaning, loaded, set_by, unnamed_in, with_dead_start}
use Rattle.pp_deck.specs.InUse.{is_in_use}
use Rattle.pp_deck.proofs.DeadStartLemmas as dead
use Rattle.pp_deck.proofs.LawLemmas as law
use Rattle.pp_deck.proofs.LoadedRangeLemmas.{all_tabulate, processor_in_range, central_in_range, named_has}
use Rattle.pp_deck.proofs.RangeLemmas.{InRange}
use Rattle.std.specs.List.{AllByRecursion}
use Rattle.pp_listing.specs.Dump.{after}
use Rattle.pp_listing.proofs.ListedLemmas.{processor_is}
use Rattle.pp_listing.proofs.ListingLemmas.{each_deck, name_here, names_of, unnamed_new}
use Rattle.pp_listing.proofs.StepLemmas.{IsOf, IsSmallAnswer, IsSmallOperation, each_set, kept_after, next_keeps}

-- a deck for a machine of this profile that may have run
pub record IsDeckFor (profile : Profile) (deck : LoadedDeck) : Type 0 where
  pub its_profile : deck.machine.profile ≡ profile
  pub each_processor : length deck.machine.processors ≡ processor_count
  -- processors, words of histories and central words have their widths
  pub processors : All (IsOf profile) deck.machine.processors
  pub histories : All HasTwelveBitWords deck.machine.histories
  pub central : IsCentral deck.machine.central
  -- no processor is in use that the machine lacks
  pub within : (n : ℕ) → IsTrue (names_processor n) → is_in_use deck n ≡ true → IsTrue (has_processor profile n)
  -- one that is not in use is as it was made
  pub unused : (n : ℕ) → IsTrue (names_processor n) → is_in_use deck n ≡ false → processor_of n deck.machine ≡ new_processor profile

pub processor_here : {profile : Profile} (deck : LoadedDeck) → IsDeckFor profile deck → (n : ℕ) → IsTrue (names_processor n) → IsOf profile (processor_of n deck.machine)
processor_here deck h n named = h.processors (processor_index n) no_processor (omega (arith, processor_places.place_below n named, h.each_processor))

-- ---- what a step needs and is answered

-- the words that a need has
abbrev IsSmallNeed : Need → Type 0
IsSmallNeed (Channel c op) = IsSmallOperation op
IsSmallNeed (Write a w) = w < 2 ^ 60
IsSmallNeed x = Unit {0}

need_small : (profile : Profile) (pp : Processor) → IsOf profile pp → IsSmallNeed (need pp)
unfolding need
need_small profile pp h = grind (arith, next_keeps)

-- the word of an event, if there is one
abbrev OnEvent : Option Event → Type 0
OnEvent None = Unit {0}
OnEvent (Some e) = HasTwelveBitWord e

made_small : (op : ChanOp) (word : Option ℕ) → IsSmallOperation op → unwrap_or word 0 < 2 ^ 12 → OnEvent (event_with op word)
made_small op word small low = grind arith

event_small : (op : ChanOp) (h : List Event) → IsSmallOperation op → HasTwelveBitWords h → OnEvent (event_of op h)
event_small op h small words = grind (arith, made_small, waiting_small)

grown : (h : List Event) (o : Option Event) → HasTwelveBitWords h → OnEvent o → HasTwelveBitWords (h ++ option_to_list o)
grown h None words small = subst HasTwelveBitWords (sym (append-nil h)) words
grown h (Some e) words small = All-push HasTwelveBitWord h e words small

module _ (m : MachineState) where
  histories_keep : (x : Need) → IsSmallNeed x → All HasTwelveBitWords m.histories → All HasTwelveBitWords (histories_after x m)
  histories_keep (Channel c op) small all =
      let h = history_of c m in
      let words = bits_on m.histories c all in
      All-set HasTwelveBitWords m.histories (channel_index c) (history_after op h) (grown h (event_of op h) words (event_small op h small words)) all
  histories_keep x small all = all

  central_keeps : (x : Need) → IsSmallNeed x → IsCentral m.central → IsCentral (central_after x m)
  central_keeps x small central = grind (arith, length-set, each_set)

  answer_small : (x : Need) → IsSmallNeed x → All HasTwelveBitWords m.histories → IsSmallAnswer (answer_to x m)
  answer_small x small all = grind (arith, event_small, bits_on, shows_flags)

-- ---- one step

unmade : IsOf Ten no_processor
unfolding empty_memory
unmade = record { widths = record { memory = zero_memory; a = omega arith; p = omega arith }; its_profile = refl }

module _ (k : ℕ) (m : MachineState) where
  -- at a number that has no place stands a processor that was never made
  own : (profile : Profile) → All (IsOf profile) m.processors → (p : Profile) × IsOf p (processor_of k m)
  own profile all = grind (arith, cases_lt, get_or_past, unmade)

  processors_keep : (profile : Profile) (answer : _) → IsSmallAnswer answer → All (IsOf profile) m.processors → All (IsOf profile) (slice_set m.processors (processor_index k) (processor_after (processor_of k m) answer))
  processors_keep profile answer small all = elim (cases_lt (processor_index k) (length m.processors)) [
    | inl here ↦ All-set (IsOf profile) m.processors (processor_index k) _ (kept_after profile (processor_of k m) answer (all (processor_index k) no_processor here) small) all
    | inr past ↦ All-same (IsOf profile) _ m.processors (set_past m.processors (processor_index k) _ past) all
  ]

  rest_stays : (n : ℕ) → IsAtRest (processor_of n m) → processor_of n (stepped k m) ≡ processor_of n m
  unfolding stepped
  rest_stays n rests = grind (arith, eqb_tells, stepped_at_rest, get_or-set_other)

new_rests : (profile : Profile) (pp : Processor) → pp ≡ new_processor profile → IsAtRest pp
new_rests profile pp e = λ runs. let never = sym (ap (λ (q : Processor). q.state) e) ∙ runs in absurd (cc)

module _ (profile : Profile) where
  step_stays : (k : ℕ) (deck : LoadedDeck) → IsDeckFor profile deck → IsDeckFor profile (record deck { machine = stepped k deck.machine })
  unfolding stepped
  step_stays k deck h =
      let m = deck.machine in
      let x = need (processor_of k m) in
      let its = own k m profile h.processors in
      let small = need_small its.0 (processor_of k m) its.1 in
      record {
        its_profile = h.its_profile;
        each_processor = length-set m.processors (processor_index k) (processor_after (processor_of k m) (answer_to x m)) ∙ h.each_processor;
        processors = processors_keep k m profile (answer_to x m) (answer_small m x small h.histories) h.processors;
        histories = histories_keep m x small h.histories;
        central = central_keeps m x small h.central;
        within = h.within;
        unused = λ n named free. rest_stays k m n (new_rests profile (processor_of n m) (h.unused n named free)) ∙ h.unused n named free;
      }

  pub run_stays : (steps : List ℕ) (deck : LoadedDeck) → IsDeckFor profile deck → IsDeckFor profile (after steps deck)
  run_stays [] deck h = h
  run_stays (k ∷ steps) deck h = run_stays steps (record deck { machine = stepped k deck.machine }) (step_stays k deck h)

-- ---- a loaded deck

module _ (profile : Profile) where
  its_profile : (memory : List ℕ) (o : Option (ℕ × ℕ)) → (processor_with profile memory o).profile ≡ profile
  its_profile memory o = grind arith

  waits_with : (b : Bool) (n : ℕ) (pp : Processor) → IsOf profile pp → IsOf profile (cond b (waiting_on n pp) pp)
  waits_with b n pp h = grind (arith, its_profile)

  started_processors : (b : Bool) (deck : LoadedDeck) → length deck.machine.processors ≡ processor_count → All (IsOf profile) deck.machine.processors → All (IsOf profile) (with_dead_start b deck).machine.processors
  unfolding processors_started tabulate
  started_processors true deck long all =
      let waiting = waits (unnamed_in deck.machine.profile deck.named) in
      all_tabulate (IsOf profile) processor_count (λ place. processor_started waiting deck.machine (processor_number place))
      (λ place below. let n = processor_number place in waits_with (waiting n) n (processor_of n deck.machine) (all (processor_index n) no_processor (omega (arith, below, processor_places.place_of_number place below, long))))
  started_processors false deck long all = all

  opened_words : (b : Bool) (h : List Event) → HasTwelveBitWords h → HasTwelveBitWords (cond b (events.Activate ∷ []) h)
  opened_words b h words = grind arith

  started_histories : (b : Bool) (deck : LoadedDeck) → All HasTwelveBitWords deck.machine.histories → All HasTwelveBitWords (with_dead_start b deck).machine.histories
  unfolding histories_started tabulate
  started_histories true deck all =
      let waiting = waits (unnamed_in deck.machine.profile deck.named) in
      all_tabulate HasTwelveBitWords channel_count (λ place. history_started waiting deck.machine (channel_number place))
      (λ place below. let c = channel_number place in opened_words (waiting c) (history_of c deck.machine) (bits_on deck.machine.histories c all))
  started_histories false deck all = all

  unused_here : (size : ℕ) (lines : List Line) (n : ℕ) → IsTrue (names_processor n) → load.is_named lines n ≡ false → dead.is_waiting profile lines n ≡ false → processor_of n (loaded profile size lines).machine ≡ new_processor profile
  unused_here size lines n named unnamed awake =
      let set : Processor = processor_of n (set_by profile size lines).machine in
      dead.processor_is profile size lines (asks_dead_start lines) n refl named
      ∙ ap (λ (b : Bool). cond b (waiting_on n set) set) awake
      ∙ law.processor_here profile size lines n named
      ∙ unnamed_new profile lines n unnamed

  loaded_for : (size : ℕ) (lines : List Line) → 1 ≤ size → size ≤ 0o400000 → AllByRecursion (InRange profile) lines → IsDeckFor profile (loaded profile size lines)
  unfolding names_of
  loaded_for size lines least most small =
      let asked = asks_dead_start lines in
      let set = set_by profile size lines in
      let each = length-tabulate processor_count (λ place. processor_loaded profile lines (processor_number place)) in
      record {
        its_profile = dead.stays (λ d. d.machine.profile) asked set refl;
        each_processor = dead.all_processors asked set each;
        processors = started_processors asked set each (all_tabulate (IsOf profile) processor_count (λ place. processor_loaded profile lines (processor_number place)) (λ place below. let n = processor_number place in record { widths = processor_in_range profile n lines small; its_profile = ap (λ (pp : Processor). pp.profile) (processor_is profile lines n) ∙ its_profile (memory_of (lines_for n lines)) (last_of (filter_map start_in (lines_for n lines))) }));
        histories = started_histories asked set (All-replicate HasTwelveBitWords channel_count [] (All-nil HasTwelveBitWord));
        central = subst IsCentral (sym (dead.stays (λ d. d.machine.central) asked set refl)) (central_in_range profile size lines least most small);
        within = λ n named used. by n named used (names_of (loaded profile size lines) n) refl;
        unused = grind (arith, or_parts, names_of, unused_here, name_here, dead.opened_is, channel_of_processor);
      }
    where
      by : (n : ℕ) → IsTrue (names_processor n) → is_in_use (loaded profile size lines) n ≡ true → (b : Bool) → names_of (loaded profile size lines) n ≡ b → IsTrue (has_processor profile n)
      by n named used true is = named_has profile lines small n (law.some_name n lines (sym (name_here profile size lines n named) ∙ is))
      by n named used false is = grind (arith, dead.waiting, dead.opened_is, channel_of_processor)

  -- whatever steps a deck has made
  pub deck_after : (text : List ℕ) (deck : LoadedDeck) (steps : List ℕ) → deck_meaning profile text ≡ Ok deck → IsDeckFor profile (after steps deck)
  deck_after text deck steps e = run_stays profile steps deck (each_deck profile (IsDeckFor profile) loaded_for text deck e)
