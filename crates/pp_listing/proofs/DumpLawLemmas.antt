-- The dump of a deck that has run is printed from the machine as it stands; and read as a deck it is the deck to go on from.
use Rattle.std.proofs.Common.{◌≡◌, ℕ, ◌≤◌, Bool, true, false, List, length, get_or, Option, Some, None, Ok, refl, sym, ap, subst, ◌∙◌, arith, cond, [], ◌∷◌, ◌++◌}
use Rattle.std.specs.Prelude.{IsTrue, ◌&&◌, codes, filter_map}
use Rattle.std.specs.List.{list_any, flat_map, range_with_len}
use Rattle.std.proofs.lemmas.List.{get_or-replicate, length-map, append-nil, append_assoc}
use Rattle.std.proofs.Math.ListN.{get_or-map}
use Rattle.pp_numbers.specs.ChannelNo.{all_channels, channel_count, channel_index, names_channel, channel_places}
use Rattle.pp_machine.specs.MachineState.{MachineState, processor_of, is_opened}
use Rattle.pp_processor.specs.Processor.{Processor, IsProcessor, new_processor, no_processor}
use Rattle.pp_numbers.specs.PpNo.{all_processors, names_processor, processor_count, processor_index, processor_number, processor_places}
use Rattle.pp_machine.specs.Run.{run}
use Rattle.pp_processor.specs.declared.{block.Block.Block, pp_state.PpState.PpState}
use Rattle.pp_processor.specs.declared.pp_state.PpState.TheVariants.{Running}
use Rattle.pp_numbers.specs.declared.profile.Profile.{Profile}
use Rattle.pp_deck.specs.DeckLoad.{processor_with}
use Rattle.pp_deck.specs.DeckMeaning.{LoadedDeck, deck_meaning, with_dead_start}
use Rattle.pp_numbers.proofs.TableLemmas.{length-tabulate, get_or-tabulate}
use Rattle.pp_deck.specs.InUse.{is_in_use, in_use}
use Rattle.pp_listing.specs.Dump.{in_processor, busy_processor, busy_channel, all_busy, first_busy, left_of, deck_to_go_on, dump, after, order_comment, GoesOnFrom}
use Rattle.pp_listing.specs.Listing.{listing, central_word_line, dead_start_line, named_section}
use Rattle.pp_listing.proofs.GoingOnLemmas.{none_given}
use Rattle.pp_listing.proofs.ListingLemmas.{IsSet, comment_loads, dead_of, listing_loads, names_of, none_opened, numbered, processors_of}
use Rattle.pp_text.specs.OrderText.{order_text}
use Rattle.pp_listing.proofs.OrderCommentLemmas.{comment_plain}
use Rattle.pp_listing.proofs.RunDeckLemmas.{IsDeckFor, deck_after, processor_here}
use Rattle.pp_deck.specs.DeckLine.{central_size, dead_start}
use Rattle.pp_listing.specs.ListedLine.{ListedLine, bare, deck_line, text_line}
use Rattle.pp_listing.proofs.TextLemmas.{listing_in_parts}

-- ---- the processors of a deck to go on from

pub left_there : (deck : LoadedDeck) (n : ℕ) → processor_of n (deck_to_go_on deck).machine ≡ left_of (processor_of n deck.machine).state (processor_of n deck.machine)
left_there deck n = get_or-map (λ (pp : Processor). left_of pp.state pp) deck.machine.processors (processor_index n) no_processor

pub used_there : (deck : LoadedDeck) (n : ℕ) → IsTrue (names_processor n) → get_or (deck_to_go_on deck).named (processor_index n) false ≡ is_in_use deck n
used_there deck n named = grind (arith, get_or-tabulate, processor_places.place_below, processor_places.number_of_place)

named_there : (deck : LoadedDeck) (n : ℕ) → IsTrue (names_processor n) → names_of (deck_to_go_on deck) n ≡ is_in_use deck n
unfolding names_of
named_there deck n named = ap (λ (b : Bool). b && get_or (deck_to_go_on deck).named (processor_index n) false) named ∙ used_there deck n named

-- ---- between programs no processor is in a block

in_no_block : (n : ℕ) (block : Option Block) (state : PpState) → in_processor n block state ≡ None → block ≡ None
in_no_block n block state e = grind arith

no_block : (m : MachineState) (n : ℕ) → IsTrue (names_processor n) → first_busy m ≡ None → (processor_of n m).block ≡ None
unfolding all_busy all_processors
no_block m n named e =
    let pp = processor_of n m in
    in_no_block n pp.block pp.state
    (subst (λ (k : ℕ). busy_processor m k ≡ None) (processor_places.number_of_place n named)
    (none_given (busy_processor m) processor_number (processor_index n) processor_count (filter_map (busy_channel m) all_channels) (processor_places.place_below n named) e))

-- ---- a processor that is left

module _ (profile : Profile) where
  left_widths : (state : PpState) (pp : Processor) → IsProcessor pp → IsProcessor (left_of state pp)
  left_widths state pp h = grind arith

  -- from its start, where it is running
  start_left : PpState → Processor → Option (ℕ × ℕ)
  start_left Running pp = Some (pp.p, pp.a)
  start_left state pp = None

  left_set : (state : PpState) (pp : Processor) → pp.state ≡ state → pp.profile ≡ profile → pp.block ≡ None → left_of state pp ≡ processor_with profile (left_of state pp).memory (start_left state pp)
  unfolding start_left
  left_set state pp e its none = grind arith

  left_new : (pp : Processor) → pp ≡ new_processor profile → left_of pp.state pp ≡ new_processor profile
  left_new pp e = ap (λ (q : Processor). left_of q.state q) e

-- ---- the deck to go on from

unopened : (deck : LoadedDeck) (c : ℕ) → IsTrue (names_channel c) → is_opened c (deck_to_go_on deck).machine ≡ false
unopened deck c named = get_or-replicate channel_count (channel_index c) false false (channel_places.place_below c named)

pub none_open : (deck : LoadedDeck) → list_any (λ c. is_opened c (deck_to_go_on deck).machine) all_channels ≡ false
unfolding dead_of
none_open deck = none_opened (deck_to_go_on deck) (unopened deck)

to_go_on : (deck : LoadedDeck) → IsDeckFor deck.machine.profile deck → first_busy deck.machine ≡ None → IsSet deck.machine.profile (deck_to_go_on deck) (deck_to_go_on deck)
unfolding processors_of
to_go_on deck h between = record {
  machine = refl;
  central = h.central;
  each_processor = length-map deck.machine.processors (λ (pp : Processor). left_of pp.state pp) ∙ h.each_processor;
  each_name = length-tabulate processor_count (λ place. is_in_use deck (processor_number place));
  names = refl;
  within = λ n is. h.within n (number n is) (sym (named_there deck n (number n is)) ∙ is);
  widths = λ n is. subst IsProcessor (sym (left_there deck n)) (left_widths deck.machine.profile (processor_of n deck.machine).state (processor_of n deck.machine) (processor_here deck h n (number n is)).widths);
  start = λ n is.
      let pp = processor_of n deck.machine in (
        start_left deck.machine.profile pp.state pp,
        left_there deck n
            ∙ left_set deck.machine.profile pp.state pp refl (processor_here deck h n (number n is)).its_profile (no_block deck.machine n (number n is) between)
            ∙ ap (λ (q : Processor). processor_with deck.machine.profile q.memory (start_left deck.machine.profile pp.state pp)) (sym (left_there deck n)),
      );
  same = λ n is. refl;
  free = λ n named none. left_there deck n ∙ left_new deck.machine.profile (processor_of n deck.machine) (h.unused n named (sym (named_there deck n named) ∙ none));
}
  where
    number : (n : ℕ) → names_of (deck_to_go_on deck) n ≡ true → IsTrue (names_processor n)
    number n is = numbered (deck_to_go_on deck) n is

dump_is : (order : List ℕ) (deck : LoadedDeck) → dump order deck ≡ order_comment order ++ listing (deck_to_go_on deck)
unfolding dump
dump_is order deck = refl

-- behind a comment, or none
module _ (profile : Profile) (deck set : LoadedDeck) (h : IsSet profile deck set) where
  behind_comment : (order : List ℕ) → length (order_comment order ++ listing deck) ≤ 1048576 → deck_meaning profile (order_comment order ++ listing deck) ≡ Ok (with_dead_start (dead_of deck) set)
  behind_comment [] short = listing_loads profile deck set h short
  behind_comment (n ∷ ns) short =
      let comment = codes "* GO ON WITH --order " ++ order_text (n ∷ ns) in
      let is = append_assoc comment (10 ∷ []) (listing deck) in
      ap (deck_meaning profile) is
      ∙ comment_loads profile deck set h (codes " GO ON WITH --order " ++ order_text (n ∷ ns)) (comment_plain (n ∷ ns)) (omega (arith, short, ap length is))

-- where a text means a deck that has come to this one by steps
dump_is_deck : (order : List ℕ) (deck loaded : LoadedDeck) (source : List ℕ) (steps : List ℕ) → deck_meaning deck.machine.profile source ≡ Ok loaded → deck ≡ after steps loaded → first_busy deck.machine ≡ None
    → length (dump order deck) ≤ 1048576 → deck_meaning deck.machine.profile (dump order deck) ≡ Ok (deck_to_go_on deck)
dump_is_deck order deck loaded source steps meant ran between short =
    let its = dump_is order deck in
    let profile = deck.machine.profile in
    let sound : IsDeckFor profile deck = subst (IsDeckFor profile) (sym ran) (deck_after profile source loaded steps meant) in
    ap (deck_meaning profile) its
    ∙ behind_comment profile (deck_to_go_on deck) (deck_to_go_on deck) (to_go_on deck sound between) order (omega (arith, short, ap length its))
    ∙ ap (λ (b : Bool). Ok (with_dead_start b (deck_to_go_on deck))) (none_opened (deck_to_go_on deck) (unopened deck))

pub goes_on : (text order : List ℕ) (deck : LoadedDeck) → text ≡ dump order deck → first_busy deck.machine ≡ None → GoesOnFrom text deck
goes_on text order deck is between = grind (arith, dump_is_deck)

-- the same of each run of each deck that a text means
pub dump_law_of : (profile : Profile) (text : List ℕ) (deck : LoadedDeck) (steps order : List ℕ) → deck_meaning profile text ≡ Ok deck → first_busy (run steps deck.machine) ≡ None
    → length (dump order (after steps deck)) ≤ 1048576 → deck_meaning profile (dump order (after steps deck)) ≡ Ok (deck_to_go_on (after steps deck))
dump_law_of profile text deck steps order meant between short =
    let ran = after steps deck in
    let same : ran.machine.profile ≡ profile = (deck_after profile text deck steps meant).its_profile in
    let P : Profile → Type 0 = λ p. deck_meaning p text ≡ Ok deck in
    let Q : Profile → Type 0 = λ p. deck_meaning p (dump order ran) ≡ Ok (deck_to_go_on ran) in
    subst Q same (dump_is_deck order ran deck text steps (subst P (sym same) meant) refl between short)

-- ---- the lines, printed from the machine as it stands

section_left : (deck : LoadedDeck) (n : ℕ) → named_section (deck_to_go_on deck).named deck.machine n ≡ named_section (deck_to_go_on deck).named (deck_to_go_on deck).machine n
section_left deck n = grind (arith, left_there)

flat_same : (f g : ℕ → List ListedLine) (ns : List ℕ) → ((n : ℕ) → f n ≡ g n) → flat_map f ns ≡ flat_map g ns
flat_same f g [] same = refl
flat_same f g (n ∷ ns) same = ap (λ (lines : List ListedLine). lines ++ flat_map f ns) (same n) ∙ ap (λ (lines : List ListedLine). g n ++ lines) (flat_same f g ns same)

no_dead_start : (deck : LoadedDeck) → dead_start_line (deck_to_go_on deck).machine ≡ []
no_dead_start deck = ap (λ (b : Bool). cond b (bare dead_start ∷ []) []) (none_open deck)

pub dump_in_parts : (order : List ℕ) (deck : LoadedDeck) → dump order deck
    ≡ order_comment order ++ (deck_line (central_size (length deck.machine.central)) ++ flat_map text_line (flat_map (central_word_line deck.machine.central) (range_with_len 0 (length deck.machine.central)))
    ++ flat_map text_line (flat_map (named_section (in_use deck) deck.machine) all_processors))
dump_in_parts order deck =
    let to_go_on = deck_to_go_on deck in
    let front : List ℕ = deck_line (central_size (length deck.machine.central)) ++ flat_map text_line (flat_map (central_word_line deck.machine.central) (range_with_len 0 (length deck.machine.central))) in
    dump_is order deck ∙ ap (λ (text : List ℕ). order_comment order ++ text) (listing_in_parts to_go_on
    ∙ ap (λ (lines : List ListedLine). (front ++ flat_map text_line lines) ++ flat_map text_line (flat_map (named_section to_go_on.named to_go_on.machine) all_processors)) (no_dead_start deck)
    ∙ ap (λ (text : List ℕ). text ++ flat_map text_line (flat_map (named_section to_go_on.named to_go_on.machine) all_processors)) (append-nil front)
    ∙ ap (λ (lines : List ListedLine). front ++ flat_map text_line lines) (sym (flat_same (named_section to_go_on.named deck.machine) (named_section to_go_on.named to_go_on.machine) all_processors (section_left deck))))
