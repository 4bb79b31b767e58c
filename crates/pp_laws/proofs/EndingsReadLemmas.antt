-- The orders that are read from the text of all endings are those that it was printed of.
use Rattle.std.proofs.Common.{◌≡◌, ℕ, ◌+◌, ◌/◌, ◌%◌, Bool, false, [], ◌++◌, Option, None, Some, refl, arith, add-one, zero, suc, ◌≤◌, true, cond, List, ◌∷◌, append-nil, length, take, sym, ap, ◌∙◌, subst}
use Rattle.std.specs.Prelude.{codes, All, slice_index_or}
use Rattle.std.proofs.lemmas.Bool.{ne_eqb}
use Rattle.pp_word.specs.Numeral.{octal, short_decimal}
use Rattle.pp_channel.specs.declared.flags.Flags.{Flags}
use Rattle.pp_machine.specs.MachineState.{MachineState, processor_of}
use Rattle.pp_processor.specs.declared.{block.Block.Block, block.BlockKind.BlockKind, need.Need.Need, outcome.Outcome.Outcome}
use Rattle.pp_deck.specs.DeckLine.{Line}
use Rattle.pp_deck.proofs.FieldTextLemmas.{octal_plain, is_plain, plain_joined}
use Rattle.pp_listing.specs.ListedLine.{line_text, deck_line}
use Rattle.pp_text.specs.InstructionText.{block_text, running_text}
use Rattle.pp_text.specs.Standing.{block_place_text, flags_text, held_text, standing}
use Rattle.pp_endings.specs.EndingsText.{going_text, ending_at, ending_text, endings_text, going_line, head_line, order_line}
use Rattle.pp_listing.proofs.ListedLineLemmas.{IsPlain, instruction_plain, plain_append, plain_if, bare_plain}
use Rattle.pp_laws.proofs.PrintedLineLemmas.{plain_state, are_channel_fields, channel_field, channel_line_is, plain_processor, processor_body, processor_line_is, state_fields}
use Rattle.pp_laws.specs.OrdersRead.{names_order, SaysMore, order_named, orders_on, orders_read}
use Rattle.std.specs.List.{flat_map, join_with_byte}
use Rattle.std.proofs.lemmas.List.{take_more}
use lib.Seq.{take_all}
use Rattle.std.proofs.lemmas.List.Elements.{All-get_or}
use Rattle.pp_numbers.specs.PpNo.{all_processors, is_named}
use Rattle.pp_numbers.specs.ChannelNo.{all_channels}
use Rattle.pp_numbers.specs.declared.profile.Profile.{Profile}
use Rattle.pp_channel.specs.History.{active, history_on, waiting}
use Rattle.pp_channel.specs.declared.event.Event.{Event}
use Rattle.pp_machine.specs.Run.{run}
use Rattle.pp_deck.specs.DeckMeaning.{LoadedDeck}
use Rattle.pp_deck.specs.InUse.{in_use}
use Rattle.pp_text.specs.OrderText.{order_text}
use Rattle.pp_text.specs.PrintedText.{channel_line, each_below, line_end, used_channel_line}
use Rattle.pp_state.specs.Changes.{changed_central, changed_sections}
use Rattle.pp_state.specs.StateText.{changes_text}
use Rattle.pp_orders.specs.Endings.{CanBeListed}
use Rattle.pp_listing.proofs.OrderCommentLemmas.{order_plain, plain_digit}
use Rattle.pp_text.proofs.Telling.{short_decimal_pass}
use Rattle.pp_laws.proofs.OrderReadLemmas.{read_back}
use Rattle.pp_laws.proofs.PrintedTextLemmas.{Says, says_below, says_both, says_none, split_line}

-- ---- how a processor stands

block_plain : (kind : BlockKind) → IsPlain (block_text kind)
block_plain kind = grind (arith, octal_plain)

running_plain : (block : Option Block) (place word m : ℕ) → IsPlain (running_text block place word m)
running_plain block place word m = grind (arith, instruction_plain, block_plain)

block_place_plain : (block : Option Block) → IsPlain (block_place_text block)
block_place_plain None = refl
block_place_plain (Some block) = plain_append (codes " BLOCK ") (octal 4 block.place) refl (octal_plain 4 block.place)

flags_plain : (flags : Flags) → IsPlain (flags_text flags)
flags_plain flags = grind (arith, plain_if)

held_plain : (x : Need) (outcome : Outcome) (m : MachineState) → IsPlain (held_text x outcome m 0)
held_plain x outcome m = grind (arith, plain_append, octal_plain, flags_plain)

standing_plain : (n : ℕ) (m : MachineState) → IsPlain (standing n m 0)
standing_plain n m = search (plain_append, plain_state, running_plain, block_place_plain, held_plain)

pub said_plain : (n : ℕ) (m : MachineState) (goes_on : Bool) → IsPlain (standing n m 0 ++ going_text goes_on)
said_plain n m goes_on = search (plain_append, standing_plain, plain_if)

pub line_no_order : (line : Line) → names_order (line_text line) ≡ false
line_no_order line = grind (arith, ne_eqb)

module _ (profile : Profile) where
  -- these orders are read of a text
  abbrev Reads : List ℕ → List (List ℕ) → Type 0
  Reads text orders = orders_read profile text ≡ Some orders

  other_line : (body : List ℕ) → IsPlain body → names_order body ≡ false → Says Reads (body ++ line_end) []
  unfolding orders_read
  other_line body plain other rest more is = ap (orders_on profile) (split_line body rest plain) ∙ rw other is

  line_said : (line order : List ℕ) → IsPlain line → names_order line ≡ true → order_named profile line ≡ Some order → Says Reads (line ++ line_end) (order ∷ [])
  unfolding orders_read
  line_said line order plain names named rest more is = ap (orders_on profile) (split_line line rest plain) ∙ rw (names, named, is) refl

  says_order : (order : List ℕ) → CanBeListed profile order → Says Reads (order_line order) (order ∷ [])
  says_order [] listable = line_said (codes "ORDER") [] refl refl refl
  says_order (n ∷ ns) listable =
      let order = n ∷ ns in
      let line = codes "ORDER " ++ order_text order in
      rw (ne_eqb (length order) 0 (λ e. absurd (omega (arith, e))))
      (line_said line order (plain_append (codes "ORDER ") (order_text order) refl (order_plain order)) refl
      (rw (ne_eqb (length line) 5 (λ e. absurd (omega (arith, e)))) (read_back profile order (omega arith) listable.few listable.of_machine)))

  -- ---- what stands behind it

  passes_processor : (shown going : List Bool) (m : MachineState) (n : ℕ) → Says Reads (going_line shown going m n) []
  passes_processor shown going m n =
      let said = standing n m 0 ++ going_text (is_named going n) in
      by_name (is_named shown n) _ (subst (λ text. Says Reads text []) (sym (processor_line_is n (processor_of n m) said))
      (other_line (processor_body n (processor_of n m) said) (plain_processor n (processor_of n m) said (said_plain n m (is_named going n))) refl))
    where
      by_name : (b : Bool) (text : List ℕ) → Says Reads text [] → Says Reads (cond b text []) []
      by_name b text says = grind arith

  passes_deck_line : (line : Line) → Says Reads (deck_line line) []
  passes_deck_line line = other_line (line_text line) (bare_plain line) (line_no_order line)

  passes_channel : (c : ℕ) (h : List Event) → Says Reads (channel_line c h) []
  passes_channel c [] = λ rest more is. is
  passes_channel c (e ∷ h) =
      let fields = state_fields (active (e ∷ h)) (waiting (e ∷ h)) in
      subst (λ text. Says Reads text []) (sym (channel_line_is c e h)) (other_line _ (plain_joined (channel_field c ∷ fields) (are_channel_fields c _ _)) (by_fields fields))
    where
      by_fields : (fields : List (List ℕ)) → names_order (join_with_byte 32 (channel_field c ∷ fields)) ≡ false
      by_fields fields = grind arith

  passes_changes : (before after : MachineState) → Says Reads (changes_text before after) []
  unfolding changes_text
  passes_changes before after =
      let sections = flat_map deck_line (changed_sections before after) in
      let central = flat_map deck_line (changed_central before.central after.central) in
      says_both Reads (sections ++ central) _ [] []
      (says_both Reads sections central [] [] (says_none Reads deck_line (changed_sections before after) passes_deck_line) (says_none Reads deck_line (changed_central before.central after.central) passes_deck_line))
      (says_none Reads (used_channel_line after.histories) all_channels (λ c. passes_channel c (history_on c after.histories)))

  passes_head : (count : ℕ) (more : Bool) → Says Reads (head_line count more) []
  passes_head count more = other_line (codes "ENDINGS " ++ short_decimal count ++ cond more (codes " OR MORE") []) (search (plain_append, short_decimal_pass is_plain plain_digit count, plain_if)) refl

  -- ---- an ending, and all

  says_ending : (deck : LoadedDeck) (order : List ℕ) (going : List Bool) → CanBeListed profile order → Says Reads (ending_text deck order going) (order ∷ [])
  unfolding ending_text
  says_ending deck order going listable =
      let after = run order deck.machine in
      let processors = flat_map (going_line (in_use deck) going after) all_processors in
      says_both Reads (order_line order ++ processors) (changes_text deck.machine after) (order ∷ []) []
      (says_both Reads (order_line order) processors (order ∷ []) [] (says_order order listable) (says_none Reads (going_line (in_use deck) going after) all_processors (passes_processor (in_use deck) going after)))
      (passes_changes deck.machine after)

  each_order : (orders : List (List ℕ)) (k : ℕ) → k ≤ length orders → each_below k (λ n. slice_index_or orders n [] ∷ []) ≡ take k orders
  unfolding each_below
  each_order orders zero le = refl
  each_order orders (suc k) le = ap (λ front. front ++ slice_index_or orders k [] ∷ []) (each_order orders k (omega (arith, le))) ∙ sym (take_more orders k [] (omega (arith, le))) ∙ ap (λ n. take n orders) (add-one k)

  nothing_read : Reads [] []
  unfolding orders_read
  nothing_read = refl

  -- the orders that are read are those of which it was printed
  pub orders_listed : (deck : LoadedDeck) (orders : List (List ℕ)) (going : List (List Bool)) (more : Bool) → All (CanBeListed profile) orders
      → orders_read profile (endings_text deck orders going more) ≡ Some orders
  unfolding endings_text
  orders_listed deck orders going more listed =
      let count = length orders in
      let endings = each_below count (ending_at deck orders going) in
      let found = each_below count (λ n. slice_index_or orders n [] ∷ []) in
      let all = says_both Reads (head_line count more) endings [] found (passes_head count more)
      (says_below Reads count (ending_at deck orders going) (λ n. slice_index_or orders n [] ∷ []) (λ k low. says_ending deck (slice_index_or orders k []) (slice_index_or going k []) (All-get_or (CanBeListed profile) orders k [] low listed))) in
      ap (orders_read profile) (sym (append-nil (endings_text deck orders going more))) ∙ all [] [] nothing_read
      ∙ ap (λ (found : List (List ℕ)). Some found) (append-nil found ∙ each_order orders count (omega arith) ∙ take_all count orders (omega arith))

-- where the first line does not say that there may be more, none may be
pub says_all : (deck : LoadedDeck) (text : List ℕ) (orders : List (List ℕ)) (going : List (List Bool)) (more : Bool) → text ≡ endings_text deck orders going more
    → ¬ SaysMore text → more ≡ false
unfolding endings_text
says_all deck text orders going more is no_more = grind arith
