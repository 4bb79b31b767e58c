-- Each deck that has a meaning keeps the law of loaded decks.
use Rattle.std.proofs.Common.{◌≡◌, ℕ, ◌<◌, Bool, true, false, IsTrue, List, [], ◌∷◌, length, get_or, Some, None, Ok, if◌then◌else◌, refl, sym, ap, subst, ◌∙◌, ◌++◌, append-nil, arith}
use Rattle.std.specs.Prelude.{option_map, slice_index, Some, None}
use Rattle.std.proofs.lemmas.List.{length-replicate}
use Rattle.pp_numbers.specs.ChannelNo.{channel_count}
use Rattle.pp_channel.specs.declared.event.Event.{Event}
use Rattle.pp_channel.specs.declared.event.Event.TheVariants.{Activate}
use Rattle.pp_machine.specs.MachineState.{processor_of, history_of, is_opened}
use Rattle.pp_processor.specs.Processor.{Processor, word_at, waiting_on}
use Rattle.pp_numbers.specs.PpNo.{names_processor, processor_count, processor_index, processor_number}
use Rattle.pp_numbers.proofs.ProfileLemmas.{processor_named}
use Rattle.pp_deck.specs.DeckLaw.{NamesWithin, SetsWord, SetsCentralWord, Starts, registers_of, at_rest, HoldsLast, WaitsAtDeadStart, KeepsDeckLaw, line_of}
use Rattle.pp_deck.specs.DeckLine.{Line}
use Rattle.pp_deck.specs.DeckLoad.{word_for, central_word_for, start_in, asks_dead_start, central_loaded, processor_loaded, is_named}
use Rattle.pp_deck.specs.DeckMeaning.{LoadedDeck, set_by, loaded, size_of, parsed_deck, meaning_of_lines, deck_meaning}
use Rattle.pp_deck.specs.DeckText.{lines_of}
use Rattle.pp_deck.proofs.DeadStartLemmas.{is_waiting, waiting, waiting_where, not_waiting, processor_is, opened_is, history_is, all_processors, each_history, each_opened, stays}
use Rattle.pp_deck.proofs.LawLemmas.{processor_here, place_here, registers_here, no_block_here, central_here, named_here, some_name, named_some, own_last, all_last, registers_at, start_set, set_start, word_set, set_word, central_set, set_central}
use Rattle.pp_numbers.proofs.TableLemmas.{length-tabulate}
use Rattle.pp_deck.proofs.LoadedRangeLemmas.{central_in_range, named_has, said_in_range}
use Rattle.pp_deck.proofs.MemoryLemmas.{length-central_loaded}
use Rattle.pp_deck.proofs.RangeLemmas.{size_in_range}
use Rattle.pp_numbers.specs.declared.profile.Profile.{Profile}
use Rattle.pp_channel.specs.History.{IsLawful}
use Rattle.pp_channel.specs.Law.{KeepsLaw}
use Rattle.pp_machine.specs.Central.{IsCentral}
use Rattle.pp_machine.specs.Headline.{HoldsOnEachChannel, IsMachine, events_on, opening_history}

module _ (profile : Profile) where
  as_set : (size : ℕ) (lines : List Line) (n : ℕ) → IsTrue (names_processor n) → (WaitsAtDeadStart profile lines n → ⊥) → processor_of n (loaded profile size lines).machine ≡ processor_of n (set_by profile size lines).machine
  as_set size lines n named not_so = grind (arith, not_waiting, processor_is)

  waits_there : (size : ℕ) (lines : List Line) (n : ℕ) → WaitsAtDeadStart profile lines n → processor_of n (loaded profile size lines).machine ≡ waiting_on n (processor_of n (loaded profile size lines).machine)
  waits_there size lines n w = grind (arith, processor_named, waiting_where, processor_is)

  places_hold : (size : ℕ) (lines : List Line) (n place : ℕ) → IsTrue (names_processor n) → word_at (processor_of n (loaded profile size lines).machine) place ≡ word_at (processor_of n (set_by profile size lines).machine) place
  places_hold size lines n place named = grind (arith, is_waiting, processor_is)

  central_holds : (size : ℕ) (lines : List Line) (central : List ℕ) → central ≡ central_loaded size lines → (address : ℕ) → address < length central → HoldsLast lines (λ k w. SetsCentralWord (line_of lines k) address w) 0 (slice_index central address)
  central_holds size lines central is =
      let P : List ℕ → Type 0 = λ words. (address : ℕ) → address < length words → HoldsLast lines (λ k w. SetsCentralWord (line_of lines k) address w) 0 (slice_index words address) in
      subst P (sym is)
      (λ address lt. all_last lines (central_word_for address) (λ line w. SetsCentralWord line address w) 0 _ (λ line w. central_set line address w) (λ line w. set_central line address w)
      (central_here size lines address lt))

  loaded_law : (size : ℕ) (lines : List Line) → KeepsDeckLaw lines (loaded profile size lines)
  loaded_law size lines =
      let asked = asks_dead_start lines in
      let set = set_by profile size lines in
      let same : (loaded profile size lines).machine.profile ≡ profile = stays (λ d. d.machine.profile) asked set refl in
      let wait : (n : ℕ) → WaitsAtDeadStart profile lines n → WaitsAtDeadStart (loaded profile size lines).machine.profile lines n = λ n w. subst (λ p. WaitsAtDeadStart p lines n) (sym same) w in
      let so : (n : ℕ) → WaitsAtDeadStart (loaded profile size lines).machine.profile lines n → WaitsAtDeadStart profile lines n = λ n w. subst (λ p. WaitsAtDeadStart p lines n) same w in
      record {
        places = λ n place named within. own_last n lines (word_for place) (λ line w. SetsWord line place w) 0 _ (λ line w. word_set line place w) (λ line w. set_word line place w)
            (places_hold size lines n place named ∙ ap (λ (pp : Processor). word_at pp place) (processor_here profile size lines n named) ∙ place_here profile lines n place within);
        starts = λ n named not_so. own_last n lines (λ line. option_map registers_at (start_in line)) Starts at_rest _ start_set set_start
            (ap registers_of (as_set size lines n named (λ w. not_so (wait n w)) ∙ processor_here profile size lines n named) ∙ registers_here profile lines n);
        central = central_holds size lines _ (stays (λ d. d.machine.central) asked set refl);
        named = λ n named.
            let same = ap (λ (list : List Bool). get_or list (processor_index n) false) (stays (λ d. d.named) asked set refl) ∙ named_here profile size lines n named in
            (λ e. some_name n lines (sym same ∙ e), λ h. same ∙ named_some n lines h);
        waits = λ n w. waits_there size lines n (so n w);
        no_block = λ n named not_so. ap (λ (pp : Processor). pp.block) (as_set size lines n named (λ w. not_so (wait n w)) ∙ processor_here profile size lines n named) ∙ no_block_here profile lines n;
        opened = grind (arith, opened_is, waiting, waiting_where);
        history = λ c named. history_is profile size lines asked c refl named ∙ sym (ap (λ (b : Bool). if b then Activate ∷ [] else []) (opened_is profile size lines asked c refl named));
        each_processor = all_processors asked set (length-tabulate processor_count (λ place. processor_loaded profile lines (processor_number place)));
        each_name = ap length (stays (λ d. d.named) asked set refl) ∙ length-tabulate processor_count (λ place. is_named lines (processor_number place));
        each_channel = each_history asked set (length-replicate {A = List Event} channel_count []);
        no_turn = stays (λ d. d.machine.turns) asked set refl;
        no_event = stays (λ d. d.machine.trace) asked set refl;
      }

  -- ---- a deck that has a meaning

  -- it is what its lines load
  pub loaded_is : (text : List ℕ) (deck : LoadedDeck) → deck_meaning profile text ≡ Ok deck → loaded profile (size_of (lines_of text)) (parsed_deck profile (lines_of text)) ≡ deck
  unfolding deck_meaning meaning_of_lines
  loaded_is text deck e = grind (arith)

  -- it keeps the law of loaded decks
  pub deck_law_of : (text : List ℕ) (deck : LoadedDeck) → deck_meaning profile text ≡ Ok deck → KeepsDeckLaw (parsed_deck profile (lines_of text)) deck
  deck_law_of text deck e =
      let lines = lines_of text in
      let P : LoadedDeck → Type 0 = λ d. KeepsDeckLaw (parsed_deck profile lines) d in
      subst P (loaded_is text deck e) (loaded_law (size_of lines) (parsed_deck profile lines))

  -- central memory has the size that it says
  pub deck_size_of : (text : List ℕ) (deck : LoadedDeck) → deck_meaning profile text ≡ Ok deck → length deck.machine.central ≡ size_of (lines_of text)
  deck_size_of text deck e = grind (arith, loaded_is, stays, length-central_loaded)

  -- its machine has the profile for which it was read
  pub deck_profile_of : (text : List ℕ) (deck : LoadedDeck) → deck_meaning profile text ≡ Ok deck → deck.machine.profile ≡ profile
  deck_profile_of text deck e = grind (arith, loaded_is, stays)

  pub deck_names_within : (text : List ℕ) (deck : LoadedDeck) → deck_meaning profile text ≡ Ok deck → NamesWithin profile deck.named
  deck_names_within text deck e n named is = named_has profile (parsed_deck profile (lines_of text)) (said_in_range profile (lines_of text)) n (((deck_law_of text deck e).named n named).0 is)

-- an opening history is lawful: nothing, or a session that has just begun
lawful_opening : (b : Bool) → IsLawful (if b then Activate ∷ [] else [])
lawful_opening true = (record { first_stretch = []; whole_sessions = []; open_session = Some (record { passed = []; lone = None }) }, refl)
lawful_opening false = (record { first_stretch = []; whole_sessions = []; open_session = None }, refl)

-- where every lawful history keeps the law of sessions
before_first_step : ((h : List Event) → IsLawful h → KeepsLaw h) → (lines : List Line) (deck : LoadedDeck) → KeepsDeckLaw lines deck → HoldsOnEachChannel deck.machine
before_first_step law lines deck holds c named =
    let is : history_of c deck.machine ≡ opening_history c deck.machine = holds.history c named in
    let lawful : IsLawful (history_of c deck.machine) = subst IsLawful (sym is) (lawful_opening (is_opened c deck.machine)) in
    record {
      traced = is ∙ sym (append-nil (opening_history c deck.machine)) ∙ ap (λ trace. opening_history c deck.machine ++ events_on c trace) (sym holds.no_event);
      lawful = lawful;
      law = law (history_of c deck.machine) lawful;
    }

-- the machine is then a whole one
pub whole_machine : ((h : List Event) → IsLawful h → KeepsLaw h) → (profile : Profile) (text : List ℕ) (deck : LoadedDeck) → deck_meaning profile text ≡ Ok deck → IsMachine deck.machine
whole_machine law profile text deck e =
    let holds = deck_law_of profile text deck e in
    let size = size_in_range (lines_of text) in
    let central : deck.machine.central ≡ central_loaded (size_of (lines_of text)) (parsed_deck profile (lines_of text)) = grind (arith, loaded_is, stays) in
    record {
      processors = holds.each_processor;
      channels = holds.each_channel;
      opened = grind (arith, loaded_is, each_opened, length-replicate);
      central = subst IsCentral (sym central) (central_in_range profile _ _ size.0 size.1 (said_in_range profile (lines_of text)));
      headline = before_first_step law _ deck holds;
    }
