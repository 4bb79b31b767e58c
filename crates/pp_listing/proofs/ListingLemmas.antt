-- The listing of a deck, read as a deck.
use Rattle.std.proofs.Common.{◌≡◌, ℕ, zero, suc, ◌+◌, ◌^◌, ◌<◌, ◌≤◌, Bool, true, false, cond, eqb, List, [], ◌∷◌, ◌++◌, length, get_or, map, Option, Some, None, Ok, refl, sym, ap, subst, ◌∙◌, arith}
use Rattle.std.specs.Prelude.{IsTrue, ◌&&◌, is_some, filter_map}
use Rattle.std.specs.List.{AllByRecursion, flat_map, list_all, list_any, range_with_len}
use Rattle.std.proofs.lemmas.Bool.{and_left, and_parts, both_ways, false_from_ne_true}
use Rattle.std.proofs.lemmas.List.{map-append}
use Rattle.std.proofs.lemmas.List.Elements.{All-cons, All-nil}
use Rattle.std.proofs.lemmas.List.Folds.{list_any_at, list_any_none}
use Rattle.pp_numbers.specs.Tables.{tabulate}
use Rattle.pp_numbers.proofs.TableLemmas.{length-tabulate, get_or-tabulate, tabulate_const, tabulate_is}
use Rattle.pp_numbers.specs.ChannelNo.{all_channels, channel_count, channel_index, channel_number, names_channel, channel_places}
use Rattle.pp_machine.specs.MachineState.{new_machine, processor_of, is_opened}
use Rattle.pp_machine.specs.Central.{IsCentral}
use Rattle.pp_processor.specs.PpMemory.{empty_memory}
use Rattle.pp_processor.specs.Processor.{Processor, IsProcessor, new_processor, no_processor, word_at}
use Rattle.pp_numbers.specs.PpNo.{processor_places, all_processors, names_processor, processor_count, processor_index, processor_number, each_processor, is_named}
use Rattle.pp_word.specs.Address.{place_count}
use Rattle.pp_numbers.proofs.GrowingLists.{last_of}
use Rattle.std.proofs.lemmas.Grind.{get_or_default_zero}
use Rattle.pp_numbers.specs.Profile.{has_processor}
use Rattle.pp_numbers.specs.declared.profile.Profile.{Profile}
use Rattle.pp_deck.specs.DeckLine.{Line, central_size, central_words, section, dead_start, line_after, keyword_of}
use Rattle.pp_deck.specs.DeckLoad.{processor_loaded, processor_with, central_loaded, asks_dead_start, lines_for, memory_of, start_in}
use Rattle.pp_deck.specs.DeckLoad as load
use Rattle.pp_deck.specs.DeckMeaning.{LoadedDeck, set_by, with_dead_start, loaded, deck_meaning}
use Rattle.pp_deck.proofs.SectionLemmas.{current_after}
use Rattle.pp_deck.proofs.DeadStartLemmas as dead
use Rattle.pp_deck.proofs.LawLemmas as law
use Rattle.pp_deck.proofs.DeckLawLemmas.{loaded_is}
use Rattle.pp_deck.proofs.LoadedRangeLemmas.{processor_in_range, central_in_range, named_has, said_in_range}
use Rattle.pp_deck.proofs.FieldTextLemmas.{is_plain}
use Rattle.pp_deck.proofs.RangeLemmas.{InRange, size_in_range}
use Rattle.pp_deck.proofs.SectionLinesLemmas.{KeepsCurrent, section_if, unnamed_empty}
use Rattle.pp_listing.specs.ListedLine.{ListedLine, bare, says, text_line}
use Rattle.pp_listing.specs.Listing.{ReadsBackAs, central_word_line, dead_start_line, listed, listing, named_section, section_lines}
use Rattle.pp_listing.proofs.InstructionLemmas.{IsReadInSection, instructions_read, start_all}
use Rattle.pp_listing.proofs.ListedLemmas.{all_of_body, each_of_body, body_of, word_line, central_lines, dead_line, lines_of_parts, asked_held, central_held, central_is, memory_held, memory_is, memory_with, named_held, processor_is, start_held, number_count, processor_counts, sections_by_number}
use Rattle.pp_listing.proofs.ListedLineLemmas.{fields_said, central_words_read, section_read, start_read, IsReady, meaning_behind, meaning_printed, read_behind, read_lines}

-- ---- the lines are read as they are

module _ (profile : Profile) where
  ready_append : (size : ℕ) (xs ys : List Line) (c : Option ℕ) → IsReady profile size c xs → ((c : Option ℕ) → IsReady profile size c ys) → IsReady profile size c (xs ++ ys)
  ready_append size [] ys c h k = k c
  ready_append size (x ∷ xs) ys c h k = (h.0, ready_append size xs ys (current_after x c) h.1 k)

  ready_each : (size : ℕ) (f : ℕ → List Line) (a n : ℕ) → ((k : ℕ) → a ≤ k → k < a + n → (c : Option ℕ) → IsReady profile size c (f k)) → (c : Option ℕ) → IsReady profile size c (flat_map f (range_with_len a n))
  ready_each size f a zero h c = tt
  ready_each size f a (suc n) h c =
      ready_append size (f a) (flat_map f (range_with_len (a + 1) n)) c (h a (omega arith) (omega arith) c)
      (ready_each size f (a + 1) n (λ k le lt. h k (omega (arith, le)) (omega (arith, lt))))

  ready_body : (size n : ℕ) (lines : List Line) → AllByRecursion KeepsCurrent lines → AllByRecursion (IsReadInSection profile size) lines → IsReady profile size (Some n) lines
  ready_body size n [] h k = tt
  ready_body size n (line ∷ lines) h k = grind (arith, ready_body size n lines h.1 k.1)

  body_read : (size : ℕ) (pp : Processor) → IsProcessor pp → AllByRecursion (IsReadInSection profile size) (body_of pp)
  body_read size pp h =
      all_of_body (IsReadInSection profile size) pp
      (instructions_read profile size (word_at pp 0) 0 pp.memory (λ k d lt. omega (arith, h.memory.each_word k, get_or_default_zero pp.memory k d lt)) (omega (arith, h.memory.each_place)))
      (start_all (IsReadInSection profile size) pp.state pp.p pp.a (λ b. start_read profile size pp.p pp.a b (omega (arith, h.p)) (omega (arith, h.a))))

  ready_section : (size n : ℕ) (pp : Processor) (b : Bool) (c : Option ℕ) → (b ≡ true → IsTrue (has_processor profile n)) → (b ≡ true → IsProcessor pp) → IsReady profile size c (cond b (section n ∷ body_of pp) [])
  ready_section size n pp true c has h = (λ b. section_read profile size n b (is_some c) (has refl), ready_body size n (body_of pp) (each_of_body KeepsCurrent (λ x ws c. refl) (λ p a c. refl) pp) (body_read size pp (h refl)))
  ready_section size n pp false c has h = tt

  ready_central : (size a w : ℕ) (b : Bool) (c : Option ℕ) → size ≤ 0o400000 → a < size → w < 8 ^ 20 → IsReady profile size c (cond b [] (central_words a (w ∷ []) ∷ []))
  ready_central size a w true c most lt small = tt
  ready_central size a w false c most lt small =
      (λ b. central_words_read profile size a (w ∷ []) b (is_some c) (omega (arith, most, lt)) (All-cons (λ v. v < 8 ^ 20) w [] small (All-nil (λ v. v < 8 ^ 20))) (omega (arith, lt)), tt)

  ready_dead : (size : ℕ) (dead : Bool) (c : Option ℕ) → IsReady profile size c (dead_line dead)
  unfolding line_after keyword_of
  ready_dead size dead c = grind arith

  parts_ready : (central : List ℕ) (dead : Bool) (named : ℕ → Bool) (pp : ℕ → Processor) → IsCentral central → ((n : ℕ) → named n ≡ true → IsTrue (has_processor profile n)) → ((n : ℕ) → named n ≡ true → IsProcessor (pp n))
      → IsReady profile (length central) None ((central_lines central ++ dead_line dead) ++ flat_map (section_if named (λ n. body_of (pp n))) (range_with_len 0 number_count))
  parts_ready central dead named pp its has h =
      let size = length central in
      ready_append size (central_lines central ++ dead_line dead) (flat_map (section_if named (λ n. body_of (pp n))) (range_with_len 0 number_count)) None
      (ready_append size (central_lines central) (dead_line dead) None
      (ready_each size (word_line central) 0 size
      (λ a le lt c. ready_central size a (get_or central a 0) (eqb (get_or central a 0) 0) c (omega (arith, its.size.most)) (omega (arith, lt)) (omega (arith, its.small a))) None)
      (λ c. ready_dead size dead c))
      (ready_each size (section_if named (λ n. body_of (pp n))) 0 number_count
      (λ n le lt c. ready_section size n (pp n) (named n) c (has n) (h n)))

-- ---- the lines of a deck, without their comments

says_each : (f : ℕ → List ListedLine) (g : ℕ → List Line) (ns : List ℕ) → ((n : ℕ) → map says (f n) ≡ g n) → map says (flat_map f ns) ≡ flat_map g ns
says_each f g [] same = refl
says_each f g (n ∷ ns) same = grind (arith, map-append, says_each f g ns same)

says_central : (a w : ℕ) (b : Bool) → map says (cond b [] (bare (central_words a (w ∷ [])) ∷ [])) ≡ cond b [] (central_words a (w ∷ []) ∷ [])
says_central a w b = grind arith

says_dead : (b : Bool) → map says (cond b (bare dead_start ∷ []) []) ≡ dead_line b
says_dead b = grind arith

says_section : (n : ℕ) (pp : Processor) (b : Bool) → map says (cond b (section_lines n pp) []) ≡ cond b (section n ∷ body_of pp) []
says_section n pp b = grind arith

unfoldable pub dead_of : LoadedDeck → Bool
dead_of deck = list_any (λ c. is_opened c deck.machine) all_channels

unfoldable pub names_of : LoadedDeck → ℕ → Bool
names_of deck n = is_named deck.named n

unfoldable pub processors_of : LoadedDeck → ℕ → Processor
processors_of deck n = processor_of n deck.machine

pub said : (deck : LoadedDeck) → map says (listed deck) ≡ lines_of_parts deck.machine.central (dead_of deck) (names_of deck) (processors_of deck)
unfolding listed dead_of names_of processors_of
said deck =
    let central = deck.machine.central in
    let size = bare (central_size (length central)) in
    let words_of = flat_map (central_word_line central) (range_with_len 0 (length central)) in
    let sections = flat_map (named_section deck.named deck.machine) all_processors in
    map-append says ((size ∷ words_of) ++ dead_start_line deck.machine) sections
    ∙ ap (λ (ls : List Line). ls ++ map says sections)
    (map-append says (size ∷ words_of) (dead_start_line deck.machine)
    ∙ ap (λ (ls : List Line). (central_size (length central) ∷ ls) ++ map says (dead_start_line deck.machine))
    (says_each (central_word_line central) (word_line central) (range_with_len 0 (length central)) (λ a. says_central a (get_or central a 0) (eqb (get_or central a 0) 0)))
    ∙ ap (λ (ls : List Line). (central_size (length central) ∷ central_lines central) ++ ls) (says_dead (list_any (λ c. is_opened c deck.machine) all_channels)))
    ∙ ap (λ (ls : List Line). ((central_size (length central) ∷ central_lines central) ++ dead_line (list_any (λ c. is_opened c deck.machine) all_channels)) ++ ls)
    (says_each (named_section deck.named deck.machine) (section_if (λ n. is_named deck.named n) (λ n. body_of (processor_of n deck.machine))) all_processors (λ n. says_section n (processor_of n deck.machine) (is_named deck.named n))
    ∙ sections_by_number (λ n. is_named deck.named n) (λ n. body_of (processor_of n deck.machine)) (λ n none. and_left (names_processor n) (get_or deck.named (processor_index n) false) (false_from_ne_true (names_processor n) none)))

pub listing_is : (deck : LoadedDeck) → listing deck ≡ flat_map text_line (listed deck)
unfolding listing
listing_is deck = refl

-- ---- what lines load

pub numbered : (deck : LoadedDeck) (n : ℕ) → names_of deck n ≡ true → IsTrue (names_processor n)
unfolding names_of
numbered deck n e = (and_parts (names_processor n) (get_or deck.named (processor_index n) false) e).0

pub none_opened : (deck : LoadedDeck) → ((c : ℕ) → IsTrue (names_channel c) → is_opened c deck.machine ≡ false) → dead_of deck ≡ false
unfolding dead_of all_channels
none_opened deck none = grind (arith, list_any_none, length-tabulate, get_or-tabulate, channel_places.number_named)

not_opened : (deck : LoadedDeck) → dead_of deck ≡ false → (c : ℕ) → IsTrue (names_channel c) → is_opened c deck.machine ≡ false
unfolding dead_of all_channels
not_opened deck e c named =
    let below = channel_places.place_below c named in
    false_from_ne_true (is_opened c deck.machine) (λ is. both_ways (dead_of deck) e
    (list_any_at (λ (c : ℕ). is_opened c deck.machine) (tabulate channel_count channel_number) (channel_index c) 0 (omega (arith, below, length-tabulate channel_count channel_number))
    (ap (λ (c : ℕ). is_opened c deck.machine) (get_or-tabulate channel_count channel_number (channel_index c) 0 below ∙ channel_places.number_of_place c named) ∙ is)))

-- ---- what a listing loads

no_words : memory_of [] ≡ empty_memory
unfolding empty_memory
no_words = memory_is [] ∙ tabulate_const place_count _ 0 (λ place. refl)

module _ (profile : Profile) where
  -- a processor that no line names is as it was made
  pub unnamed_new : (lines : List Line) (n : ℕ) → load.is_named lines n ≡ false → processor_loaded profile lines n ≡ new_processor profile
  unnamed_new lines n unnamed = grind (arith, processor_is, last_of, unnamed_empty, no_words)

-- a deck for a machine of this profile, and what is set in it before any dead start: nothing has happened, each processor
-- that is named has its memory and perhaps a start, and the others are as they were made
pub record IsSet (profile : Profile) (deck set : LoadedDeck) : Type 0 where
  pub machine : set.machine ≡ record (new_machine profile (length deck.machine.central)) { processors = set.machine.processors; central = deck.machine.central }
  pub central : IsCentral deck.machine.central
  pub each_processor : length set.machine.processors ≡ processor_count
  pub each_name : length deck.named ≡ processor_count
  pub names : set.named ≡ deck.named
  pub within : (n : ℕ) → names_of deck n ≡ true → IsTrue (has_processor profile n)
  pub widths : (n : ℕ) → names_of deck n ≡ true → IsProcessor (processors_of deck n)
  pub start : (n : ℕ) → names_of deck n ≡ true → (o : Option (ℕ × ℕ)) × (processors_of deck n ≡ processor_with profile (processors_of deck n).memory o)
  pub same : (n : ℕ) → names_of deck n ≡ true → processors_of deck n ≡ processor_of n set.machine
  pub free : (n : ℕ) → IsTrue (names_processor n) → names_of deck n ≡ false → processor_of n set.machine ≡ new_processor profile

module _ (profile : Profile) (deck set : LoadedDeck) (h : IsSet profile deck set) where
  -- its lines
  parts : List Line
  parts = lines_of_parts deck.machine.central (dead_of deck) (names_of deck) (processors_of deck)

  processor_again : (n : ℕ) → IsTrue (names_processor n) → (b : Bool) → names_of deck n ≡ b → processor_loaded profile parts n ≡ processor_of n set.machine
  unfolding parts
  processor_again n named b is = grind (arith, processor_is, last_of, lines_of_parts, memory_held, processor_counts, start_held, unnamed_new, named_held)

  processors_again : each_processor (processor_loaded profile parts) ≡ set.machine.processors
  processors_again =
      sym (tabulate_is no_processor set.machine.processors processor_count (λ place. processor_loaded profile parts (processor_number place)) h.each_processor
      (λ place lt. let n = processor_number place in sym (processor_again n (processor_places.number_named place lt) (names_of deck n) refl ∙ ap (λ (i : ℕ). get_or set.machine.processors i no_processor) (processor_places.place_of_number place lt))))

  names_again : each_processor (load.is_named parts) ≡ deck.named
  unfolding parts names_of
  names_again =
      sym (tabulate_is false deck.named processor_count (λ place. load.is_named parts (processor_number place)) h.each_name
      (λ place lt. sym
      (named_held deck.machine.central (dead_of deck) (names_of deck) (processors_of deck) (processor_number place) (processor_counts (processor_number place) (processor_places.number_named place lt))
      ∙ ap (λ (b : Bool). b && get_or deck.named (processor_index (processor_number place)) false) (processor_places.number_named place lt)
      ∙ ap (λ (i : ℕ). get_or deck.named i false) (processor_places.place_of_number place lt))))

  central_again : central_loaded (length deck.machine.central) parts ≡ deck.machine.central
  unfolding parts
  central_again =
      central_is profile (length deck.machine.central) parts
      ∙ sym (tabulate_is 0 deck.machine.central (length deck.machine.central) _ refl
      (λ a lt. sym (central_held deck.machine.central (dead_of deck) (names_of deck) (processors_of deck) a lt)))

  loads_again : loaded profile (length deck.machine.central) parts ≡ with_dead_start (dead_of deck) set
  unfolding parts
  loads_again = grind (arith, parts, asked_held, processors_again, central_again, names_again)

  -- the listing of the deck is a deck
  pub listing_loads : length (listing deck) ≤ 1048576 → deck_meaning profile (listing deck) ≡ Ok (with_dead_start (dead_of deck) set)
  unfolding parts
  listing_loads short = grind (arith, listing_is, meaning_printed, fields_said, said, loads_again, read_lines, central_lines, dead_line, section_if, body_of, number_count, parts_ready)

  -- and behind a comment
  pub comment_loads : (text : List ℕ) → list_all is_plain (42 ∷ text) ≡ true → length (42 ∷ text ++ 10 ∷ listing deck) ≤ 1048576 → deck_meaning profile (42 ∷ text ++ 10 ∷ listing deck) ≡ Ok (with_dead_start (dead_of deck) set)
  unfolding parts
  comment_loads text plain short = grind (arith, listing_is, meaning_behind, fields_said, said, loads_again, read_behind, central_lines, dead_line, section_if, body_of, number_count, parts_ready)

-- ---- each deck that a text means

module _ (profile : Profile) where
  pub name_here : (size : ℕ) (lines : List Line) (n : ℕ) → IsTrue (names_processor n) → names_of (loaded profile size lines) n ≡ load.is_named lines n
  unfolding names_of
  name_here size lines n named =
      ap (λ (list : List Bool). names_processor n && get_or list (processor_index n) false) (dead.stays (λ d. d.named) (asks_dead_start lines) (set_by profile size lines) refl)
      ∙ ap (λ (b : Bool). b && get_or (set_by profile size lines).named (processor_index n) false) named
      ∙ law.named_here profile size lines n named

  -- a processor that is named does not wait
  set_here : (size : ℕ) (lines : List Line) (n : ℕ) → IsTrue (names_processor n) → names_of (loaded profile size lines) n ≡ true → processors_of (loaded profile size lines) n ≡ processor_of n (set_by profile size lines).machine
  unfolding processors_of
  set_here size lines n named is = grind (arith, dead.processor_is, name_here)

  -- what holds of all that lines load whose numbers are in range
  abbrev pub HoldsOfLoaded : (LoadedDeck → Type 0) → Type 0
  HoldsOfLoaded Q = (size : ℕ) (lines : List Line) → 1 ≤ size → size ≤ 0o400000 → AllByRecursion (InRange profile) lines → Q (loaded profile size lines)

  -- a deck whose listing, where it is no longer than a deck may be, means the deck
  ReadsBack : LoadedDeck → Type 0
  ReadsBack deck = length (listing deck) ≤ 1048576 → deck_meaning profile (listing deck) ≡ Ok deck

  loaded_listing : HoldsOfLoaded ReadsBack
  unfolding ReadsBack
  loaded_listing size lines least most small short =
      let deck = loaded profile size lines in
      let set = set_by profile size lines in
      let asked = asks_dead_start lines in
      let same_central = dead.stays (λ d. d.machine.central) asked set refl in
      let here : (n : ℕ) → names_of deck n ≡ true → processors_of deck n ≡ processor_loaded profile lines n = λ n is. set_here size lines n (numbered deck n is) is ∙ law.processor_here profile size lines n (numbered deck n is) in
      listing_loads profile deck set (record {
        machine = ap (λ (words : List ℕ). record set.machine { central = words }) (sym same_central);
        central = subst IsCentral (sym same_central) (central_in_range profile size lines least most small);
        each_processor = length-tabulate processor_count (λ place. processor_loaded profile lines (processor_number place));
        each_name = ap length (dead.stays (λ d. d.named) asked set refl) ∙ length-tabulate processor_count (λ place. load.is_named lines (processor_number place));
        names = sym (dead.stays (λ d. d.named) asked set refl);
        within = λ n is. named_has profile lines small n (law.some_name n lines (sym (name_here size lines n (numbered deck n is)) ∙ is));
        widths = λ n is. subst IsProcessor (sym (here n is)) (processor_in_range profile n lines small);
        start = λ n is.
            let memory = memory_of (lines_for n lines) in
            let o = last_of (filter_map start_in (lines_for n lines)) in
            let its : processors_of deck n ≡ processor_with profile memory o = here n is ∙ processor_is profile lines n in
            (o, its ∙ ap (λ (ws : List ℕ). processor_with profile ws o) (sym (ap (λ (pp : Processor). pp.memory) its ∙ memory_with profile memory o)));
        same = λ n is. set_here size lines n (numbered deck n is) is;
        free = λ n named is. law.processor_here profile size lines n named ∙ unnamed_new profile lines n (sym (name_here size lines n named) ∙ is);
      }) short
      ∙ ap (λ (d : LoadedDeck). Ok d) (dead.dead_start_shows profile size lines asked (dead_of deck) refl (none_opened deck) (not_opened deck))

  -- holds of each deck that a text means
  pub each_deck : (Q : LoadedDeck → Type 0) → HoldsOfLoaded Q → (text : List ℕ) (deck : LoadedDeck) → deck_meaning profile text ≡ Ok deck → Q deck
  each_deck Q holds text deck e = grind (arith, size_in_range, loaded_is, said_in_range)

  pub listing_is_deck : (text : List ℕ) (deck : LoadedDeck) → deck_meaning profile text ≡ Ok deck → length (listing deck) ≤ 1048576 → deck_meaning profile (listing deck) ≡ Ok deck
  unfolding ReadsBack
  listing_is_deck text deck e = each_deck ReadsBack loaded_listing text deck e

pub reads_back : (text : List ℕ) (deck : LoadedDeck) → text ≡ listing deck → ReadsBackAs text deck
reads_back text deck is = grind (arith, listing_is_deck)
