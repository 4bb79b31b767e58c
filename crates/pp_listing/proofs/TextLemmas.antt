-- Steps of what prints a listing.
use Rattle.std.proofs.Common.{◌≡◌, ◌≢◌, ℕ, ◌+◌, ◌%◌, ◌<◌, ◌≤◌, true, false, List, [], ◌∷◌, ◌++◌, length, drop, get_or, eqb, ◌^◌, codes, refl, sym, ap, ◌∙◌, append_assoc, arith}
use Rattle.std.specs.Prelude.{◌&&◌, nat_lt}
use Rattle.std.specs.List.{flat_map, range_with_len}
use Rattle.std.proofs.lemmas.Bool.{eq-eqb, lt-ltb, ne_eqb, cond-true, cond-false, cases_lt}
use Rattle.std.proofs.lemmas.List.{append-nil, drop_all, drop_more, length-drop}
use Rattle.std.proofs.lemmas.List.Concat.{flat_map-append}
use Rattle.pp_word.specs.Address.{place_count, next_place}
use Rattle.pp_numbers.specs.PpNo.{all_processors}
use Rattle.pp_processor.specs.declared.pp_state.PpState.{PpState}
use Rattle.pp_processor.specs.declared.pp_state.PpState.TheVariants.{Running}
use Rattle.pp_deck.specs.DeckLine.{central_size, central_words, section}
use Rattle.pp_deck.specs.DeckMeaning.{LoadedDeck}
use Rattle.pp_text.specs.InstructionText.{instruction_text, is_long}
use Rattle.pp_word.specs.Numeral.{octal, short_octal}
use Rattle.pp_listing.specs.ListedLine.{ListedLine, bare, one_word, two_words, deck_line, text_line}
use Rattle.pp_listing.specs.Listing.{central_word_line, dead_start_line, instruction_lines, listed, listing, named_section, start_line}

-- ---- the lines of instructions, one by one

-- the word that comes next, where these follow
next_of : ℕ → List ℕ → ℕ
next_of first [] = first
next_of first (m ∷ ws) = m

zero_first : (first x w : ℕ) (ws : List ℕ) → w ≡ 0 → instruction_lines first x (w ∷ ws) ≡ instruction_lines first (x + 1) ws
zero_first first x w [] e = let is : eqb w 0 ≡ true = eq-eqb w 0 e in rw is refl
zero_first first x w (m ∷ ws) e = let is : eqb w 0 ≡ true = eq-eqb w 0 e in rw is refl

one_first : (first x w : ℕ) (ws : List ℕ) → w ≢ 0 → (0 < length ws → is_long w ≡ false) → instruction_lines first x (w ∷ ws) ≡ one_word x w (next_of first ws) ∷ instruction_lines first (x + 1) ws
unfolding next_of
one_first first x w [] ne short = let is : eqb w 0 ≡ false = ne_eqb w 0 ne in rw is refl
one_first first x w (m ∷ ws) ne short = grind (arith, cond-false, ne_eqb)

-- the word at the next place
next_is : (memory : List ℕ) (place : ℕ) → length memory ≡ place_count → place < place_count → next_of (get_or memory 0 0) (drop (place + 1) memory) ≡ get_or memory (next_place place) 0
unfolding next_of
next_is memory place long lt = grind (arith, cases_lt, next_of, drop_more, drop_all)

-- the lines from a place on
unfoldable pub lines_from : ℕ → List ℕ → List ListedLine
lines_from place memory = instruction_lines (get_or memory 0 0) place (drop place memory)

pub none_left : (all : List ListedLine) (memory : List ℕ) (place : ℕ) → length memory ≤ place → all ≡ lines_from place memory → all ≡ []
unfolding lines_from
none_left all memory place le are = grind (arith, drop_all)

-- ---- one word more

here : (memory : List ℕ) (place at word : ℕ) → place < place_count → at ≡ place % 2 ^ 12 → word ≡ get_or memory at 0 → word ≡ get_or memory place 0
here memory place at word lt is_at is_word = let at_is : at ≡ place = omega (arith, is_at, lt) in is_word ∙ ap (λ (i : ℕ). get_or memory i 0) at_is

behind : (memory : List ℕ) (place at after m : ℕ) → place < place_count → at ≡ place % 2 ^ 12 → after ≡ next_place at → m ≡ get_or memory after 0 → m ≡ get_or memory (next_place place) 0
behind memory place at after m lt is_at is_after is_m = grind arith

pub zero_step : (all : List ListedLine) (memory : List ℕ) (place at word : ℕ) → length memory ≡ place_count → place < place_count → at ≡ place % 2 ^ 12 → word ≡ get_or memory at 0 → word ≡ 0
    → all ≡ lines_from place memory → all ≡ lines_from (place + 1) memory
unfolding lines_from
zero_step all memory place at word long lt is_at is_word none are =
    are ∙ ap (instruction_lines (get_or memory 0 0) place) (drop_more memory place 0 (omega (arith, lt, long)))
    ∙ zero_first (get_or memory 0 0) place (get_or memory place 0) (drop (place + 1) memory) (sym (here memory place at word lt is_at is_word) ∙ none)

pub one_step : (all : List ListedLine) (memory : List ℕ) (place at after word m : ℕ) → length memory ≡ place_count → place < place_count → at ≡ place % 2 ^ 12 → after ≡ next_place at → word ≡ get_or memory at 0 → m ≡ get_or memory after 0 → word ≢ 0 → (place + 1 < place_count → is_long word ≡ false)
    → all ≡ lines_from place memory → all ≡ one_word at word m ∷ lines_from (place + 1) memory
unfolding lines_from
one_step all memory place at after word m long lt is_at is_after is_word is_m some short are =
    let first = get_or memory 0 0 in
    let at_is : at ≡ place = omega (arith, is_at, lt) in
    let left = drop (place + 1) memory in
    are ∙ ap (instruction_lines first place) (drop_more memory place 0 (omega (arith, lt, long)) ∙ ap (λ (w : ℕ). w ∷ left) (sym (here memory place at word lt is_at is_word)))
    ∙ one_first first place word left some (λ next. short (omega (arith, next, long, length-drop (place + 1) memory)))
    ∙ ap (λ (v : ℕ). one_word place word v ∷ instruction_lines first (place + 1) left) (next_is memory place long lt ∙ sym (behind memory place at after m lt is_at is_after is_m))
    ∙ ap (λ (i : ℕ). one_word i word m ∷ instruction_lines first (place + 1) left) (sym at_is)

pub two_step : (all : List ListedLine) (memory : List ℕ) (place at after word m : ℕ) → length memory ≡ place_count → place + 1 < place_count → at ≡ place % 2 ^ 12 → after ≡ next_place at → word ≡ get_or memory at 0 → m ≡ get_or memory after 0 → word ≢ 0 → is_long word ≡ true
    → all ≡ lines_from place memory → all ≡ two_words at word m ∷ lines_from (place + 1 + 1) memory
unfolding lines_from
two_step all memory place at after word m long lt is_at is_after is_word is_m some two are =
    let first = get_or memory 0 0 in
    let at_is : at ≡ place = omega (arith, is_at, lt) in
    let next : next_place place ≡ place + 1 = omega (arith, lt) in
    let on : place + 2 ≡ place + 1 + 1 = omega arith in
    let left = drop (place + 1 + 1) memory in
    let m_is : m ≡ get_or memory (place + 1) 0 = behind memory place at after m (omega (arith, lt)) is_at is_after is_m ∙ ap (λ (i : ℕ). get_or memory i 0) next in
    are ∙ ap (instruction_lines first place)
    (drop_more memory place 0 (omega (arith, lt, long)) ∙ ap (λ (ws : List ℕ). get_or memory place 0 ∷ ws) (drop_more memory (place + 1) 0 (omega (arith, lt, long)))
    ∙ ap (λ (w : ℕ). w ∷ get_or memory (place + 1) 0 ∷ left) (sym (here memory place at word (omega (arith, lt)) is_at is_word)) ∙ ap (λ (v : ℕ). word ∷ v ∷ left) (sym m_is))
    ∙ cond-false (eqb word 0) _ _ (ne_eqb word 0 some) ∙ cond-true (is_long word) _ _ two
    ∙ ap (λ (i : ℕ). two_words place word m ∷ instruction_lines first i left) on
    ∙ ap (λ (i : ℕ). two_words i word m ∷ instruction_lines first (place + 1 + 1) left) (sym at_is)

-- by whether the word has a second one, at a place that there is
pub one_line : (all : List ListedLine) (memory : List ℕ) (place at after word m : ℕ) → length memory ≡ place_count → place < place_count → at ≡ place % 2 ^ 12 → after ≡ next_place at → word ≡ get_or memory at 0 → m ≡ get_or memory after 0 → word ≢ 0
    → (is_long word && nat_lt (place + 1) place_count) ≡ false → all ≡ lines_from place memory → all ≡ one_word at word m ∷ lines_from (place + 1) memory
one_line all memory place at after word m long lt is_at is_after is_word is_m some lone = grind (arith, one_step, lt-ltb)

-- ---- the line of a central word

pub central_word_some : (central : List ℕ) (a w : ℕ) → get_or central a 0 ≡ w → w ≢ 0 → deck_line (central_words a (w ∷ [])) ≡ flat_map text_line (central_word_line central a)
central_word_some central a w is ne = grind (arith, ne_eqb, append-nil)

-- ---- the whole listing

pub listing_in_parts : (deck : LoadedDeck) → listing deck
    ≡ deck_line (central_size (length deck.machine.central)) ++ flat_map text_line (flat_map (central_word_line deck.machine.central) (range_with_len 0 (length deck.machine.central)))
    ++ flat_map text_line (dead_start_line deck.machine) ++ flat_map text_line (flat_map (named_section deck.named deck.machine) all_processors)
unfolding listing listed
listing_in_parts deck =
    let size = bare (central_size (length deck.machine.central)) in
    let central = flat_map (central_word_line deck.machine.central) (range_with_len 0 (length deck.machine.central)) in
    let dead = dead_start_line deck.machine in
    let sections = flat_map (named_section deck.named deck.machine) all_processors in
    flat_map-append text_line ((size ∷ central) ++ dead) sections
    ∙ ap (λ (bytes : List ℕ). bytes ++ flat_map text_line sections) (flat_map-append text_line (size ∷ central) dead)

-- ---- lines in pieces

pub central_line_pieces : (a first w : ℕ) → first ≡ a → (((codes "CM " ++ short_octal 6 first) ++ 32 ∷ []) ++ octal 20 w) ++ 10 ∷ [] ≡ deck_line (central_words a (w ∷ []))
central_line_pieces a first w is = grind (arith, codes, append_assoc, append-nil)

pub section_line_pieces : (n first : ℕ) → first ≡ n → (codes "PP " ++ short_octal 2 first) ++ 10 ∷ [] ≡ deck_line (section n)
section_line_pieces n first is = ap (λ (x : ℕ). (codes "PP " ++ short_octal 2 x) ++ 10 ∷ []) is

pub one_word_pieces : (place word m first second : ℕ) (a b d : List ℕ) → a ≡ octal 4 first → b ≡ octal 4 second → d ≡ codes "    " → first ≡ place → second ≡ word
    → (((((((a ++ 32 ∷ []) ++ b) ++ 32 ∷ []) ++ d) ++ codes "      * ") ++ instruction_text place word m) ++ 10 ∷ []) ≡ text_line (one_word place word m)
one_word_pieces place word m first second a b d e f h is_first is_second = rw (e, f, h, is_first, is_second) refl

pub two_words_pieces : (place word m first second third : ℕ) (a b d : List ℕ) → a ≡ octal 4 first → b ≡ octal 4 second → d ≡ octal 4 third → first ≡ place → second ≡ word → third ≡ m
    → (((((((a ++ 32 ∷ []) ++ b) ++ 32 ∷ []) ++ d) ++ codes "      * ") ++ instruction_text place word m) ++ 10 ∷ []) ≡ text_line (two_words place word m)
two_words_pieces place word m first second third a b d e f h is_first is_second is_third = rw (e, f, h, is_first, is_second, is_third) refl

pub start_pieces : (state : PpState) (p a first second : ℕ) (x y : List ℕ) → state ≡ Running → x ≡ octal 4 first → y ≡ octal 6 second → first ≡ p → second ≡ a
    → ((((codes "START " ++ x) ++ 32 ∷ []) ++ y) ++ 10 ∷ []) ≡ flat_map text_line (start_line state p a)
start_pieces state p a first second x y runs e f is_first is_second = rw (runs, e, f, is_first, is_second) refl
