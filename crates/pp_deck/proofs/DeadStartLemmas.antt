-- A loaded deck at dead start: who waits, on which channel, and what stays as the lines set it.
use Rattle.std.proofs.Common.{◌≡◌, ℕ, ◌<◌, ◌≤◌, ◌&&◌, Bool, true, false, IsTrue, List, [], ◌∷◌, length, replicate, get_or, if◌then◌else◌, refl, sym, ap, ◌∙◌, arith}
use Rattle.std.specs.Prelude.{Contains, not, nat_lt, slice_index_or}
use Rattle.std.proofs.lemmas.Bool.{and_from, and_parts, both_ways, false_from_ne_true, not_from_false, not-true, ltb-true, ltb-false}
use Rattle.std.proofs.lemmas.List.{ext_get_or, get_or-replicate, length-replicate}
use Rattle.std.proofs.lemmas.List.FromFn.{length-map-range_with_len, get_or-map-range_with_len}
use Rattle.std.proofs.lemmas.List.Folds.{list_any_at}
use Rattle.pp_numbers.specs.ChannelNo.{channel_count, channel_index, channel_number, names_channel, channel_places}
use Rattle.pp_channel.specs.declared.event.Event.{Event}
use Rattle.pp_channel.specs.declared.event.Event.TheVariants.{Activate}
use Rattle.pp_machine.specs.DeadStart.{waits, processor_started, history_started, processors_started, histories_started, opened_where, dead_started}
use Rattle.pp_machine.specs.MachineState.{MachineState, processor_of, history_of, is_opened}
use Rattle.pp_processor.specs.Processor.{no_processor, waiting_on}
use Rattle.pp_numbers.specs.PpNo.{names_processor, processor_count, processor_index, processor_number, processor_places}
use Rattle.pp_numbers.specs.Profile.{processors_in, has_processor}
use Rattle.pp_numbers.proofs.PpNoLemmas.{channel_of_processor}
use Rattle.pp_numbers.proofs.ProfileLemmas.{unnamed_lacks, has_at}
use Rattle.pp_deck.specs.DeckLaw.{WaitsAtDeadStart}
use Rattle.pp_deck.specs.DeckLine.{Line, dead_start}
use Rattle.pp_numbers.specs.Tables.{tabulate}
use Rattle.pp_numbers.proofs.TableLemmas.{length-tabulate, get_or-tabulate, tabulate_is, tabulate_const}
use Rattle.pp_deck.specs.DeckLoad.{is_dead_start, asks_dead_start, is_named, processor_loaded}
use Rattle.pp_deck.specs.DeckMeaning.{LoadedDeck, set_by, unnamed_in, with_dead_start}
use Rattle.pp_deck.proofs.LawLemmas.{named_here, some_line, some_name, named_some}
use Rattle.pp_numbers.specs.declared.profile.Profile.{Profile}

-- ---- a machine at dead start, place by place

processor_at : (list : List Bool) (m : MachineState) (n : ℕ) → IsTrue (names_processor n) → processor_of n (dead_started list m) ≡ processor_started (waits list) m n
unfolding processors_started
processor_at list m n named =
    get_or-map-range_with_len (λ place. processor_started (waits list) m (processor_number place)) 0 processor_count (processor_index n) (processor_index n) no_processor (processor_places.place_below n named) (omega arith)
    ∙ ap (processor_started (waits list) m) (processor_places.number_of_place n named)

history_at : (list : List Bool) (m : MachineState) (c : ℕ) → IsTrue (names_channel c) → history_of c (dead_started list m) ≡ history_started (waits list) m c
unfolding histories_started
history_at list m c named =
    get_or-map-range_with_len (λ place. history_started (waits list) m (channel_number place)) 0 channel_count (channel_index c) (channel_index c) [] (channel_places.place_below c named) (omega arith)
    ∙ ap (history_started (waits list) m) (channel_places.number_of_place c named)

opened_at : (list : List Bool) (m : MachineState) (c : ℕ) → IsTrue (names_channel c) → is_opened c (dead_started list m) ≡ waits list c
unfolding opened_where
opened_at list m c named =
    get_or-map-range_with_len (λ place. waits list (channel_number place)) 0 channel_count (channel_index c) (channel_index c) false (channel_places.place_below c named) (omega arith)
    ∙ ap (waits list) (channel_places.number_of_place c named)

-- ---- who waits

some_asks : (lines : List Line) → asks_dead_start lines ≡ true → Contains lines dead_start
some_asks lines e = some_line is_dead_start dead_start lines is_request e
  where
    is_request : (line : Line) → is_dead_start line ≡ true → line ≡ dead_start
    is_request line e = grind arith

-- ---- the loaded machine, where dead start was asked for and where it was not

pub each_history : (b : Bool) (deck : LoadedDeck) → length deck.machine.histories ≡ channel_count → length (with_dead_start b deck).machine.histories ≡ channel_count
unfolding histories_started
each_history b deck e = grind (arith, length-map-range_with_len)

pub each_opened : (b : Bool) (deck : LoadedDeck) → length deck.machine.opened ≡ channel_count → length (with_dead_start b deck).machine.opened ≡ channel_count
unfolding opened_where
each_opened b deck e = grind (arith, length-map-range_with_len)

pub all_processors : (b : Bool) (deck : LoadedDeck) → length deck.machine.processors ≡ processor_count → length (with_dead_start b deck).machine.processors ≡ processor_count
unfolding processors_started
all_processors b deck e = grind (arith, length-map-range_with_len)

-- what dead start leaves as it is
pub stays : {A : Type 0} (f : LoadedDeck → A) (b : Bool) (deck : LoadedDeck) → f (with_dead_start true deck) ≡ f deck → f (with_dead_start b deck) ≡ f deck
stays f b deck same = grind arith

-- ---- the processors that are not named

pub unnamed_are : (p : Profile) (named list : List Bool) → length list ≡ processor_count
    → ((k : ℕ) → k < processors_in p → get_or list k false ≡ not (get_or named k false)) → ((k : ℕ) → processors_in p ≤ k → get_or list k false ≡ false) → list ≡ unnamed_in p named
unnamed_are p named list all done left =
    ext_get_or false list (unnamed_in p named) (all ∙ sym (length-tabulate processor_count (λ place. wanted (processor_number place))))
    (λ i inside. let within : i < processor_count = omega (arith, all) in at i within ∙ sym (get_or-tabulate processor_count (λ place. wanted (processor_number place)) i false within))
  where
    wanted : ℕ → Bool
    wanted n = has_processor p n && not (slice_index_or named (processor_index n) false)

    by : (i : ℕ) (b : Bool) → nat_lt i (processors_in p) ≡ b → get_or list i false ≡ (b && not (get_or named i false))
    by i b e = grind (arith, ltb-true, ltb-false)

    at : (i : ℕ) → i < processor_count → get_or list i false ≡ wanted (processor_number i)
    at i within =
        by i (nat_lt i (processors_in p)) refl
        ∙ ap (λ (b : Bool). b && not (get_or named i false)) (sym (has_at p i within))
        ∙ ap (λ k. has_processor p (processor_number i) && not (get_or named k false)) (sym (processor_places.place_of_number i within))

-- ---- dead start where nobody waits

same_processors : (list : List Bool) (m : MachineState) → ((n : ℕ) → waits list n ≡ false) → length m.processors ≡ processor_count → processors_started (waits list) m ≡ m.processors
unfolding processors_started tabulate
same_processors list m none long =
    sym (tabulate_is no_processor m.processors processor_count (λ place. processor_started (waits list) m (processor_number place)) long
    (λ place below. sym (ap (λ (b : Bool). if b then waiting_on (processor_number place) (processor_of (processor_number place) m) else processor_of (processor_number place) m) (none (processor_number place))
    ∙ ap (λ (i : ℕ). get_or m.processors i no_processor) (processor_places.place_of_number place below))))

same_histories : (list : List Bool) (m : MachineState) → ((n : ℕ) → waits list n ≡ false) → length m.histories ≡ channel_count → histories_started (waits list) m ≡ m.histories
unfolding histories_started tabulate
same_histories list m none long =
    sym (tabulate_is [] m.histories channel_count (λ place. history_started (waits list) m (channel_number place)) long
    (λ place below. sym (ap (λ (b : Bool). if b then Activate ∷ [] else history_of (channel_number place) m) (none (channel_number place))
    ∙ ap (λ (i : ℕ). get_or m.histories i []) (channel_places.place_of_number place below))))

none_opened : (list : List Bool) → ((n : ℕ) → waits list n ≡ false) → opened_where (waits list) ≡ replicate channel_count false
unfolding opened_where tabulate
none_opened list none = tabulate_const channel_count (λ place. waits list (channel_number place)) false (λ place. none (channel_number place))

-- ---- who waits, and the loaded machine, where dead start was asked for and where it was not

module _ (profile : Profile) where
  -- dead start is asked for, and no line names processor n
  abbrev pub is_waiting : List Line → ℕ → Bool
  is_waiting lines n = asks_dead_start lines && (has_processor profile n && not (is_named lines n))

  waits_unnamed : (size : ℕ) (lines : List Line) (n : ℕ) → waits (unnamed_in profile (set_by profile size lines).named) n ≡ (has_processor profile n && not (is_named lines n))
  waits_unnamed size lines n = grind (arith, get_or-tabulate, processor_places.place_below, processor_places.number_of_place, named_here, unnamed_lacks)

  waits_where_asked : (size : ℕ) (lines : List Line) (n : ℕ) → asks_dead_start lines ≡ true → waits (unnamed_in profile (set_by profile size lines).named) n ≡ is_waiting lines n
  waits_where_asked size lines n e = waits_unnamed size lines n ∙ sym (ap (λ (b : Bool). b && (has_processor profile n && not (is_named lines n))) e)

  pub waiting : (lines : List Line) (n : ℕ) → is_waiting lines n ≡ true → WaitsAtDeadStart profile lines n
  waiting lines n e = grind (arith, and_parts, some_asks, both_ways, not-true, named_some)

  pub waiting_where : (lines : List Line) (n : ℕ) → WaitsAtDeadStart profile lines n → is_waiting lines n ≡ true
  waiting_where lines n w = grind (arith, and_from, list_any_at, not_from_false, false_from_ne_true, some_name)

  pub not_waiting : (lines : List Line) (n : ℕ) → (WaitsAtDeadStart profile lines n → ⊥) → is_waiting lines n ≡ false
  not_waiting lines n not_so = false_from_ne_true (is_waiting lines n) (λ is. not_so (waiting lines n is))

  pub processor_is : (size : ℕ) (lines : List Line) (b : Bool) (n : ℕ) → asks_dead_start lines ≡ b → IsTrue (names_processor n) → processor_of n (with_dead_start b (set_by profile size lines)).machine ≡ (if is_waiting lines n then waiting_on n (processor_of n (set_by profile size lines).machine) else processor_of n (set_by profile size lines).machine)
  processor_is size lines true n e named =
      let set = (set_by profile size lines).machine in
      processor_at (unnamed_in profile (set_by profile size lines).named) set n named
      ∙ ap (λ (b : Bool). if b then waiting_on n (processor_of n set) else processor_of n set) (waits_where_asked size lines n e)
  processor_is size lines false n e named = grind arith

  pub opened_is : (size : ℕ) (lines : List Line) (b : Bool) (c : ℕ) → asks_dead_start lines ≡ b → IsTrue (names_channel c) → is_opened c (with_dead_start b (set_by profile size lines)).machine ≡ is_waiting lines c
  opened_is size lines true c e named = opened_at (unnamed_in profile (set_by profile size lines).named) (set_by profile size lines).machine c named ∙ waits_where_asked size lines c e
  opened_is size lines false c e named = grind (arith, get_or-replicate, channel_places.place_below)

  pub history_is : (size : ℕ) (lines : List Line) (b : Bool) (c : ℕ) → asks_dead_start lines ≡ b → IsTrue (names_channel c) → history_of c (with_dead_start b (set_by profile size lines)).machine ≡ (if is_waiting lines c then Activate ∷ [] else [])
  history_is size lines true c e named =
      history_at (unnamed_in profile (set_by profile size lines).named) (set_by profile size lines).machine c named
      ∙ ap (λ (b : Bool). if b then Activate ∷ [] else history_of c (set_by profile size lines).machine) (waits_where_asked size lines c e)
      ∙ ap (λ h. if is_waiting lines c then Activate ∷ [] else h) (get_or-replicate channel_count (channel_index c) [] [] (channel_places.place_below c named))
  history_is size lines false c e named = grind (arith, get_or-replicate, channel_places.place_below)

  waits_nowhere : (size : ℕ) (lines : List Line) → asks_dead_start lines ≡ true → ((c : ℕ) → IsTrue (names_channel c) → is_waiting lines c ≡ false) → (n : ℕ) → waits (unnamed_in profile (set_by profile size lines).named) n ≡ false
  waits_nowhere size lines e none n = by_name (names_processor n) refl
    where
      list : List Bool
      list = unnamed_in profile (set_by profile size lines).named

      by_name : (b : Bool) → names_processor n ≡ b → waits list n ≡ false
      by_name true named = waits_where_asked size lines n e ∙ none n (channel_of_processor n named)
      by_name false named = rw named refl

  -- dead start changes nothing where no channel is that of a waiting processor
  pub no_dead_start : (size : ℕ) (lines : List Line) → asks_dead_start lines ≡ true → ((c : ℕ) → IsTrue (names_channel c) → is_waiting lines c ≡ false) → with_dead_start true (set_by profile size lines) ≡ set_by profile size lines
  no_dead_start size lines e none =
      let set : LoadedDeck = set_by profile size lines in
      let list : List Bool = unnamed_in profile set.named in
      let nobody = waits_nowhere size lines e none in
      let same : dead_started list set.machine ≡ set.machine =
      ap (λ pps. record set.machine { processors = pps; histories = histories_started (waits list) set.machine; opened = opened_where (waits list) })
      (same_processors list set.machine nobody (length-tabulate processor_count (λ place. processor_loaded profile lines (processor_number place))))
      ∙ ap (λ histories. record set.machine { histories = histories; opened = opened_where (waits list) }) (same_histories list set.machine nobody (length-replicate {A = List Event} channel_count []))
      ∙ ap (λ opened. record set.machine { opened = opened }) (none_opened list nobody) in
      ap (λ (m : MachineState). record set { machine = m }) same

  -- whether dead start was asked for shows in the channels that it opened, as far as it changed anything
  pub dead_start_shows : (size : ℕ) (lines : List Line) (b shown : Bool) → asks_dead_start lines ≡ b → (((c : ℕ) → IsTrue (names_channel c) → is_opened c (with_dead_start b (set_by profile size lines)).machine ≡ false) → shown ≡ false) → (shown ≡ false → (c : ℕ) → IsTrue (names_channel c) → is_opened c (with_dead_start b (set_by profile size lines)).machine ≡ false)
      → with_dead_start shown (set_by profile size lines) ≡ with_dead_start b (set_by profile size lines)
  dead_start_shows size lines b shown e none hidden = grind (arith, no_dead_start, opened_is)
