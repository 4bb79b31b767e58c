-- The lines of a listing, taken all together, load the deck that they list.
use mathlib.Core.Bool.{and-false, and-true, or-false}
use Rattle.std.proofs.Common.{◌≡◌, ℕ, ◌<◌, Bool, true, false, cond, eqb, List, [], ◌∷◌, ◌++◌, length, get_or, Option, None, refl, sym, ap, ◌∙◌, map, subst, arith, append-nil}
use Rattle.std.specs.Prelude.{filter_map, unwrap_or, ◌&&◌, ◌||◌, IsTrue}
use Rattle.std.specs.List.{AllByRecursion, flat_map, list_any, range_with_len}
use Rattle.std.proofs.lemmas.Bool.{eqb-true, cases_order}
use Rattle.std.proofs.lemmas.List.Elements.{All-from_recursion, filter_map-append}
use Rattle.std.proofs.lemmas.List.Folds.{list_any-append, list_any_none}
use Rattle.std.proofs.lemmas.List.{map-append}
use Rattle.pp_word.specs.Address.{place_count}
use Rattle.pp_processor.specs.Processor.{Processor, word_at}
use Rattle.pp_numbers.specs.declared.profile.Profile.{Profile}
use Rattle.pp_deck.specs.DeckLine.{Line, central_size, central_words, section, start, words, dead_start}
use Rattle.pp_numbers.specs.Tables.{tabulate}
use Rattle.pp_numbers.proofs.TableLemmas.{tabulate_is}
use Rattle.pp_deck.specs.DeckLoad.{word_for, central_word_for, start_in, lines_for, is_named, is_dead_start, asks_dead_start, memory_of, central_loaded, processor_with, processor_loaded}
use Rattle.pp_numbers.proofs.GrowingLists.{last_of}
use Rattle.pp_deck.proofs.SectionLemmas.{names}
use Rattle.pp_deck.proofs.SectionLinesLemmas.{KeepsCurrent, all_append, all_flat, all_unset, flat_only, filter_flat, any_flat, any_none, section_if, held_by_sections, named_by_sections, unset_by_sections}
use Rattle.pp_listing.specs.ListedLine.{says}
use Rattle.pp_listing.specs.Listing.{instruction_lines, start_line}
use Rattle.pp_listing.proofs.InstructionLemmas.{among_at, among_before, instructions_all, instructions_hold, start_all}
use Rattle.pp_numbers.specs.PpNo.{all_processors, names_processor}
use Rattle.pp_numbers.proofs.PpNoLemmas.{processor_fits, numbers_of_processors}

-- how many numbers of two octal digits there are
pub number_count : ℕ
number_count = 0o100

pub processor_counts : (n : ℕ) → IsTrue (names_processor n) → n < number_count
unfolding number_count
processor_counts n names = omega (arith, processor_fits n names)

-- the sections of all processors are those of all numbers, where only processors are named
pub sections_by_number : (named : ℕ → Bool) (body : ℕ → List Line) → ((n : ℕ) → (IsTrue (names_processor n) → ⊥) → named n ≡ false) → flat_map (section_if named body) all_processors ≡ flat_map (section_if named body) (range_with_len 0 number_count)
unfolding number_count
sections_by_number named body none =
    numbers_of_processors (section_if named body) (λ n out. ap (λ (b : Bool). cond b (section n ∷ body n) []) (none n out))

-- the lines of a processor behind its heading
abbrev pub body_of : Processor → List Line
body_of pp = map says (instruction_lines (word_at pp 0) 0 pp.memory ++ start_line pp.state pp.p pp.a)

body_parts : (pp : Processor) → body_of pp ≡ map says (instruction_lines (word_at pp 0) 0 pp.memory) ++ map says (start_line pp.state pp.p pp.a)
body_parts pp = map-append says (instruction_lines (word_at pp 0) 0 pp.memory) (start_line pp.state pp.p pp.a)

pub all_of_body : (P : Line → Type 0) (pp : Processor) → AllByRecursion P (map says (instruction_lines (word_at pp 0) 0 pp.memory)) → AllByRecursion P (map says (start_line pp.state pp.p pp.a)) → AllByRecursion P (body_of pp)
all_of_body P pp h k = subst (AllByRecursion P) (sym (body_parts pp)) (all_append P _ _ h k)

-- what holds of lines of words and of starts
pub each_of_body : (P : Line → Type 0) → ((x : ℕ) (ws : List ℕ) → P (words x ws)) → ((p a : ℕ) → P (start p a)) → (pp : Processor) → AllByRecursion P (body_of pp)
each_of_body P h k pp = all_of_body P pp (instructions_all P (word_at pp 0) 0 pp.memory (λ y us le. h y us)) (start_all P pp.state pp.p pp.a (k pp.p pp.a))

-- the lines of central words
abbrev pub word_line : List ℕ → ℕ → List Line
word_line central a = cond (eqb (get_or central a 0) 0) [] (central_words a (get_or central a 0 ∷ []) ∷ [])

abbrev pub central_lines : List ℕ → List Line
central_lines central = flat_map (word_line central) (range_with_len 0 (length central))

-- the lines before the sections
abbrev pub dead_line : Bool → List Line
dead_line dead = cond dead (dead_start ∷ []) []

abbrev pub head_of : List ℕ → Bool → List Line
head_of central dead = (central_size (length central) ∷ central_lines central) ++ dead_line dead

-- all lines: those of the processors come from functions of the number
abbrev pub lines_of_parts : List ℕ → Bool → (ℕ → Bool) → (ℕ → Processor) → List Line
lines_of_parts central dead named pp = head_of central dead ++ flat_map (section_if named (λ n. body_of (pp n))) (range_with_len 0 number_count)

-- ---- central words

word_if : (a w : ℕ) (b : Bool) → eqb w 0 ≡ b → unwrap_or (last_of (filter_map (central_word_for a) (cond b [] (central_words a (w ∷ []) ∷ [])))) 0 ≡ w
word_if a w b e = grind (arith, eqb-true, last_of, among_at)

no_word_if : (n m w : ℕ) (b : Bool) → (n ≡ m → ⊥) → filter_map (central_word_for n) (cond b [] (central_words m (w ∷ []) ∷ [])) ≡ []
no_word_if n m w b ne = grind (arith, cases_order, among_before, among_at)

head_words : (central : List ℕ) (dead : Bool) (a : ℕ) → filter_map (central_word_for a) (head_of central dead) ≡ filter_map (central_word_for a) (central_lines central)
head_words central dead a = grind (arith, filter_map-append, append-nil)

pub central_held : (central : List ℕ) (dead : Bool) (named : ℕ → Bool) (pp : ℕ → Processor) (a : ℕ) → a < length central → unwrap_or (last_of (filter_map (central_word_for a) (lines_of_parts central dead named pp))) 0 ≡ get_or central a 0
central_held central dead named pp a lt =
    ap (λ (ws : List ℕ). unwrap_or (last_of ws) 0)
    (unset_by_sections (central_word_for a) named (λ n. body_of (pp n)) number_count (head_of central dead) (λ m. refl) (λ m. all_unset (central_word_for a) (body_of (pp m)) (each_of_body (λ line. central_word_for a line ≡ None) (λ x ws. refl) (λ p b. refl) (pp m)))
    ∙ head_words central dead a
    ∙ filter_flat (central_word_for a) (word_line central) (range_with_len 0 (length central))
    ∙ flat_only (λ m. filter_map (central_word_for a) (word_line central m)) a 0 (length central) (λ m ne. no_word_if a m (get_or central m 0) (eqb (get_or central m 0) 0) ne) (omega arith) (omega (arith, lt)))
    ∙ word_if a (get_or central a 0) (eqb (get_or central a 0) 0) refl

-- ---- the lines before the sections

line_keeps : (a w : ℕ) (b : Bool) → AllByRecursion KeepsCurrent (cond b [] (central_words a (w ∷ []) ∷ []))
line_keeps a w b = grind arith

dead_keeps : (dead : Bool) → AllByRecursion KeepsCurrent (dead_line dead)
dead_keeps dead = grind arith

head_keeps : (central : List ℕ) (dead : Bool) → AllByRecursion KeepsCurrent (head_of central dead)
head_keeps central dead =
    all_append KeepsCurrent (central_size (length central) ∷ central_lines central) (dead_line dead)
    (λ c. refl, all_flat KeepsCurrent (word_line central) (range_with_len 0 (length central)) (λ a. line_keeps a (get_or central a 0) (eqb (get_or central a 0) 0))) (dead_keeps dead)

-- no line of a processor has a trait that lines of words and starts lack
untrue : (p : Line → Bool) (lines : List Line) → AllByRecursion (λ line. p line ≡ false) lines → list_any p lines ≡ false
untrue p lines h = list_any_none p lines (All-from_recursion (λ line. p line ≡ false) lines h)

any_head : (p : Line → Bool) (central : List ℕ) (dead : Bool) → p (central_size (length central)) ≡ false → ((a w : ℕ) → p (central_words a (w ∷ [])) ≡ false) → list_any p (head_of central dead) ≡ (dead && p dead_start)
any_head p central dead no_size no_word = grind (arith, list_any-append, central_lines, dead_line, any_flat, word_line, any_none)

-- ---- names

pub named_held : (central : List ℕ) (dead : Bool) (named : ℕ → Bool) (pp : ℕ → Processor) (n : ℕ) → n < number_count → is_named (lines_of_parts central dead named pp) n ≡ named n
named_held central dead named pp n lt =
    named_by_sections named (λ m. body_of (pp m)) n number_count (head_of central dead) (λ m. untrue (names n) (body_of (pp m)) (each_of_body (λ line. names n line ≡ false) (λ x ws. refl) (λ p a. refl) (pp m))) (any_head (names n) central dead refl (λ a w. refl) ∙ and-false dead) lt

-- ---- dead start

section_unasking : (m : ℕ) (b : Bool) (pp : Processor) → list_any is_dead_start (cond b (section m ∷ body_of pp) []) ≡ false
section_unasking m true pp = untrue is_dead_start (body_of pp) (each_of_body (λ line. is_dead_start line ≡ false) (λ x ws. refl) (λ p a. refl) pp)
section_unasking m false pp = refl

pub asked_held : (central : List ℕ) (dead : Bool) (named : ℕ → Bool) (pp : ℕ → Processor) → asks_dead_start (lines_of_parts central dead named pp) ≡ dead
asked_held central dead named pp =
    list_any-append is_dead_start (head_of central dead) (flat_map (section_if named (λ n. body_of (pp n))) (range_with_len 0 number_count))
    ∙ ap (λ (b : Bool). b || list_any is_dead_start (flat_map (section_if named (λ n. body_of (pp n))) (range_with_len 0 number_count))) (any_head is_dead_start central dead refl (λ a w. refl) ∙ and-true dead)
    ∙ ap (λ (b : Bool). dead || b)
    (any_flat is_dead_start (section_if named (λ n. body_of (pp n))) (range_with_len 0 number_count)
    ∙ any_none (λ m. list_any is_dead_start (section_if named (λ n. body_of (pp n)) m)) 0 number_count (λ m le. section_unasking m (named m) (pp m)))
    ∙ or-false dead

-- ---- processors

own_held : {A : Type 0} (f : Line → Option A) (central : List ℕ) (dead : Bool) (named : ℕ → Bool) (pp : ℕ → Processor) (n : ℕ) → ((m : ℕ) → f (section m) ≡ None) → n < number_count → filter_map f (lines_for n (lines_of_parts central dead named pp)) ≡ cond (named n) (filter_map f (body_of (pp n))) []
own_held f central dead named pp n none lt = search (held_by_sections, number_count, each_of_body, head_keeps)

pub memory_is : (lines : List Line) → memory_of lines ≡ tabulate place_count (λ place. unwrap_or (last_of (filter_map (word_for place) lines)) 0)
unfolding memory_of
memory_is lines = refl

-- a named processor has its memory
body_words : (pp : Processor) (place : ℕ) → unwrap_or (last_of (filter_map (word_for place) (body_of pp))) 0 ≡ get_or pp.memory place 0
body_words pp place =
    let lines = map says (instruction_lines (word_at pp 0) 0 pp.memory) in
    ap (λ (ws : List ℕ). unwrap_or (last_of ws) 0)
    (ap (filter_map (word_for place)) (body_parts pp) ∙ filter_map-append (word_for place) lines (map says (start_line pp.state pp.p pp.a))
    ∙ ap (λ (ws : List ℕ). filter_map (word_for place) lines ++ ws) (all_unset (word_for place) _ (start_all (λ line. word_for place line ≡ None) pp.state pp.p pp.a refl))
    ∙ append-nil (filter_map (word_for place) lines))
    ∙ instructions_hold (word_at pp 0) 0 place place pp.memory (omega arith)

pub memory_held : (central : List ℕ) (dead : Bool) (named : ℕ → Bool) (pp : ℕ → Processor) (n : ℕ) → n < number_count → named n ≡ true → length (pp n).memory ≡ place_count → memory_of (lines_for n (lines_of_parts central dead named pp)) ≡ (pp n).memory
memory_held central dead named pp n lt here long =
    memory_is (lines_for n (lines_of_parts central dead named pp))
    ∙ sym (tabulate_is 0 (pp n).memory place_count (λ place. unwrap_or (last_of (filter_map (word_for place) (lines_for n (lines_of_parts central dead named pp)))) 0) long
    (λ i within. sym (ap (λ (ws : List ℕ). unwrap_or (last_of ws) 0)
    (own_held (word_for i) central dead named pp n (λ m. refl) lt ∙ ap (λ (b : Bool). cond b (filter_map (word_for i) (body_of (pp n))) []) here) ∙ body_words (pp n) i)))

-- and its start
body_start : (pp : Processor) → filter_map start_in (body_of pp) ≡ filter_map start_in (map says (start_line pp.state pp.p pp.a))
body_start pp = search (body_parts, filter_map-append, all_unset, instructions_all)

module _ (profile : Profile) where
  pub start_held : (central : List ℕ) (dead : Bool) (named : ℕ → Bool) (pp : ℕ → Processor) (n : ℕ) → n < number_count → named n ≡ true → (memory : List ℕ) (o : Option (ℕ × ℕ)) → pp n ≡ processor_with profile memory o → last_of (filter_map start_in (lines_for n (lines_of_parts central dead named pp))) ≡ o
  start_held central dead named pp n lt here memory o is = grind (arith, last_of, own_held, body_of, body_start)

  -- ---- the whole

  pub processor_is : (lines : List Line) (n : ℕ) → processor_loaded profile lines n ≡ processor_with profile (memory_of (lines_for n lines)) (last_of (filter_map start_in (lines_for n lines)))
  unfolding processor_loaded
  processor_is lines n = refl

  pub memory_with : (memory : List ℕ) (o : Option (ℕ × ℕ)) → (processor_with profile memory o).memory ≡ memory
  memory_with memory o = grind arith

  pub central_is : (size : ℕ) (lines : List Line) → central_loaded size lines ≡ tabulate size (λ address. unwrap_or (last_of (filter_map (central_word_for address) lines)) 0)
  unfolding central_loaded
  central_is size lines = refl
