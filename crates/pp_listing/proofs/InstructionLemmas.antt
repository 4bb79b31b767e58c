-- The lines of instructions, and the words that they set.
use Rattle.std.proofs.Common.{◌≡◌, ℕ, zero, suc, ◌+◌, ◌^◌, ◌<◌, ◌≤◌, Bool, true, false, cond, eqb, leb, List, [], ◌∷◌, length, map, get_or, Option, Some, None, Ok, refl, sym, ap, ◌∙◌, arith}
use Rattle.std.specs.Prelude.{filter_map, unwrap_or, slice_get, All}
use Rattle.std.specs.List.{AllByRecursion, cons_option}
use Rattle.std.proofs.lemmas.Bool.{le-leb, lt-leb, eqb-true}
use Rattle.std.proofs.lemmas.List.Elements.{All-head, All-tail, All-cons, All-nil}
use Rattle.pp_word.specs.Address.{place_count}
use Rattle.pp_processor.specs.declared.pp_state.PpState.{PpState}
use Rattle.pp_numbers.specs.declared.profile.Profile.{Profile}
use Rattle.pp_deck.specs.DeckLine.{Line, start, words, line_after}
use Rattle.pp_deck.specs.DeckLoad.{word_among, word_for}
use Rattle.pp_numbers.proofs.GrowingLists.{last_of}
use Rattle.pp_text.specs.InstructionText.{is_long}
use Rattle.pp_listing.specs.ListedLine.{ListedLine, one_word, two_words, says}
use Rattle.pp_listing.specs.Listing.{instruction_lines, start_line}
use Rattle.pp_listing.proofs.ListedLineLemmas.{fields_said, words_line_read}
use Rattle.pp_deck.proofs.SectionLinesLemmas.{all_unset}

all_if : (P : Line → Type 0) (b : Bool) (xs ys : List ListedLine) → AllByRecursion P (map says xs) → AllByRecursion P (map says ys) → AllByRecursion P (map says (cond b xs ys))
all_if P b xs ys h k = grind arith

-- what holds of each line of words from a place on holds of the lines of the instructions there
pub instructions_all : (P : Line → Type 0) (first x : ℕ) (ws : List ℕ) → ((y : ℕ) (us : List ℕ) → x ≤ y → P (words y us)) → AllByRecursion P (map says (instruction_lines first x ws))
instructions_all P first x [] each = tt
instructions_all P first x (w ∷ []) each = all_if P (eqb w 0) [] (one_word x w first ∷ []) tt (each x (w ∷ []) (omega arith), tt)
instructions_all P first x (w ∷ m ∷ ws) each = grind (arith, all_if, instructions_all P first (x + 1) (m ∷ ws) (λ y us le. each y us (omega (arith, le))), instructions_all P first (x + 2) ws (λ y us le. each y us (omega (arith, le))))

pub start_all : (P : Line → Type 0) (state : PpState) (p a : ℕ) → P (start p a) → AllByRecursion P (map says (start_line state p a))
start_all P state p a h = grind arith

-- ---- reading the lines

-- a line is read as it is inside a section
abbrev pub IsReadInSection : Profile → ℕ → Line → Type 0
IsReadInSection profile size line = (b : Bool) → line_after profile size b true (fields_said line) ≡ Ok line

one_word_read : (profile : Profile) (size x w : ℕ) → w < 8 ^ 4 → x + 1 ≤ place_count → IsReadInSection profile size (words x (w ∷ []))
one_word_read profile size x w small le = λ b. words_line_read profile size x (w ∷ []) b (omega (arith, le)) (All-cons (λ v. v < 8 ^ 4) w [] small (All-nil (λ v. v < 8 ^ 4))) le

two_words_read : (profile : Profile) (size x w m : ℕ) → w < 8 ^ 4 → m < 8 ^ 4 → x + 2 ≤ place_count → IsReadInSection profile size (words x (w ∷ m ∷ []))
two_words_read profile size x w m small low le =
    λ b. words_line_read profile size x (w ∷ m ∷ []) b (omega (arith, le))
    (All-cons (λ v. v < 8 ^ 4) w (m ∷ []) small (All-cons (λ v. v < 8 ^ 4) m [] low (All-nil (λ v. v < 8 ^ 4)))) le

pub instructions_read : (profile : Profile) (size first x : ℕ) (ws : List ℕ) → All (λ w. w < 8 ^ 4) ws → x + length ws ≤ place_count → AllByRecursion (IsReadInSection profile size) (map says (instruction_lines first x ws))
instructions_read profile size first x [] small le = tt
instructions_read profile size first x (w ∷ []) small le =
    all_if (IsReadInSection profile size) (eqb w 0) [] (one_word x w first ∷ []) tt (one_word_read profile size x w (All-head (λ v. v < 8 ^ 4) w [] small) le, tt)
instructions_read profile size first x (w ∷ m ∷ ws) small le =
    let here = All-head (λ v. v < 8 ^ 4) w (m ∷ ws) small in
    let rest = All-tail (λ v. v < 8 ^ 4) w (m ∷ ws) small in
    let second = All-head (λ v. v < 8 ^ 4) m ws rest in
    let behind = All-tail (λ v. v < 8 ^ 4) m ws rest in
    let next = instructions_read profile size first (x + 1) (m ∷ ws) rest (omega (arith, le)) in
    all_if (IsReadInSection profile size) (eqb w 0) (instruction_lines first (x + 1) (m ∷ ws)) _ next
    (all_if (IsReadInSection profile size) (is_long w) (two_words x w m ∷ instruction_lines first (x + 2) ws) (one_word x w m ∷ instruction_lines first (x + 1) (m ∷ ws))
    (two_words_read profile size x w m here second (omega (arith, le)), instructions_read profile size first (x + 2) ws behind (omega (arith, le)))
    (one_word_read profile size x w here (omega (arith, le)), next))

-- ---- the words that the lines set

pub among_at : (first i place : ℕ) (ws : List ℕ) → place ≡ first + i → word_among first ws place ≡ slice_get ws i
among_at first i place ws e = grind (arith, le-leb)

pub among_before : (first place : ℕ) (ws : List ℕ) → place < first → word_among first ws place ≡ None
among_before first place ws lt = let no : leb first place ≡ false = lt-leb first place lt in rw no refl

-- nothing is set before the first place
below : (place first x : ℕ) (ws : List ℕ) → place < x → filter_map (word_for place) (map says (instruction_lines first x ws)) ≡ []
below place first x ws lt = all_unset (word_for place) _ (instructions_all (λ line. word_for place line ≡ None) first x ws (λ y us le. among_before y place us (omega (arith, lt, le))))

-- the last word set at a place, else 0
abbrev pub value_at : ℕ → List ListedLine → ℕ
value_at place lines = unwrap_or (last_of (filter_map (word_for place) (map says lines))) 0

value_if : (place v : ℕ) (b : Bool) (xs ys : List ListedLine) → (b ≡ true → value_at place xs ≡ v) → (b ≡ false → value_at place ys ≡ v) → value_at place (cond b xs ys) ≡ v
value_if place v b xs ys h k = grind arith

value_here : (place v : ℕ) (line : ListedLine) (lines : List ListedLine) → word_for place (says line) ≡ Some v → filter_map (word_for place) (map says lines) ≡ [] → value_at place (line ∷ lines) ≡ v
value_here place v line lines e h = grind (arith, last_of)

value_later : (place : ℕ) (line : ListedLine) (lines : List ListedLine) → word_for place (says line) ≡ None → value_at place (line ∷ lines) ≡ value_at place lines
value_later place line lines e = ap (λ (o : Option ℕ). unwrap_or (last_of (cons_option o (filter_map (word_for place) (map says lines)))) 0) e

-- a place holds its word
pub instructions_hold : (first x i place : ℕ) (ws : List ℕ) → place ≡ x + i → value_at place (instruction_lines first x ws) ≡ get_or ws i 0
instructions_hold first x i place [] e = refl
instructions_hold first x zero place (w ∷ []) e = grind (arith, value_if, eqb-true, value_here, among_at)
instructions_hold first x (suc i) place (w ∷ []) e = grind (arith, value_if, value_later, among_at)
instructions_hold first x zero place (w ∷ m ∷ ws) e =
    let next = below place first (x + 1) (m ∷ ws) (omega (arith, e)) in
    value_if place w (eqb w 0) (instruction_lines first (x + 1) (m ∷ ws)) _ (λ h. ap (λ (xs : List ℕ). unwrap_or (last_of xs) 0) next ∙ sym (eqb-true w 0 h))
    (λ h. value_if place w (is_long w) (two_words x w m ∷ instruction_lines first (x + 2) ws) (one_word x w m ∷ instruction_lines first (x + 1) (m ∷ ws))
    (λ k. value_here place w (two_words x w m) (instruction_lines first (x + 2) ws) (among_at x 0 place (w ∷ m ∷ []) e) (below place first (x + 2) ws (omega (arith, e))))
    (λ k. value_here place w (one_word x w m) (instruction_lines first (x + 1) (m ∷ ws)) (among_at x 0 place (w ∷ []) e) next))
instructions_hold first x (suc zero) place (w ∷ m ∷ ws) e =
    let next = instructions_hold first (x + 1) zero place (m ∷ ws) (omega (arith, e)) in
    value_if place m (eqb w 0) (instruction_lines first (x + 1) (m ∷ ws)) _ (λ h. next)
    (λ h. value_if place m (is_long w) (two_words x w m ∷ instruction_lines first (x + 2) ws) (one_word x w m ∷ instruction_lines first (x + 1) (m ∷ ws))
    (λ k. value_here place m (two_words x w m) (instruction_lines first (x + 2) ws) (among_at x 1 place (w ∷ m ∷ []) e) (below place first (x + 2) ws (omega (arith, e))))
    (λ k. value_later place (one_word x w m) (instruction_lines first (x + 1) (m ∷ ws)) (among_at x 1 place (w ∷ []) e) ∙ next))
instructions_hold first x (suc (suc i)) place (w ∷ m ∷ ws) e =
    let next = instructions_hold first (x + 1) (suc i) place (m ∷ ws) (omega (arith, e)) in
    value_if place (get_or ws i 0) (eqb w 0) (instruction_lines first (x + 1) (m ∷ ws)) _ (λ h. next)
    (λ h. value_if place (get_or ws i 0) (is_long w) (two_words x w m ∷ instruction_lines first (x + 2) ws) (one_word x w m ∷ instruction_lines first (x + 1) (m ∷ ws))
    (λ k. value_later place (two_words x w m) (instruction_lines first (x + 2) ws) (among_at x (suc (suc i)) place (w ∷ m ∷ []) e) ∙ instructions_hold first (x + 2) i place ws (omega (arith, e)))
    (λ k. value_later place (one_word x w m) (instruction_lines first (x + 1) (m ∷ ws)) (among_at x (suc (suc i)) place (w ∷ []) e) ∙ next))
