-- One line more: the words that it sets.
use Rattle.std.proofs.Common.{◌≡◌, ℕ, ◌+◌, ◌<◌, inl, inr, leb, List, [], ◌∷◌, ◌++◌, length, get_or, set, replicate, Option, None, refl, sym, ap, subst, ◌∙◌, arith}
use Rattle.std.specs.Prelude.{filter_map, unwrap_or}
use Rattle.std.proofs.lemmas.Bool.{le-leb, lt-leb, cases_order}
use Rattle.std.proofs.lemmas.List.{length-set, get_or-set_same, get_or-set_other}
use Rattle.pp_word.specs.Address.{place_count}
use Rattle.pp_deck.specs.DeckLine.{Line, central_words, words}
use Rattle.pp_numbers.specs.Tables.{tabulate}
use Rattle.pp_numbers.proofs.TableLemmas.{length-tabulate, get_or-tabulate, tabulate_is, tabulate_same, tabulate_const}
use Rattle.pp_deck.specs.DeckLoad.{word_among, word_for, central_word_for, memory_of, central_loaded}
use Rattle.pp_deck.specs.Reading.{with_words}
use Rattle.pp_numbers.proofs.GrowingLists.{last_of, last_of_more, filter_map_more}

pub length-with_words : (first : ℕ) (ws memory : List ℕ) → length (with_words first ws memory) ≡ length memory
length-with_words first [] memory = refl
length-with_words first (w ∷ ws) memory = length-with_words (first + 1) ws (set memory first w) ∙ length-set memory first w

-- ---- where words stand

behind_first : (first place w : ℕ) (ws : List ℕ) → first < place → word_among first (w ∷ ws) place ≡ word_among (first + 1) ws place
behind_first first place w ws lt = grind (arith, le-leb)

-- what a place holds after the first word
after_first : (first place w : ℕ) (ws memory : List ℕ) → place < length memory
    → unwrap_or (word_among (first + 1) ws place) (get_or (set memory first w) place 0) ≡ unwrap_or (word_among first (w ∷ ws) place) (get_or memory place 0)
after_first first place w ws memory lt = elim (cases_order first place) [
  | inl same ↦ subst (λ p. unwrap_or (word_among (first + 1) ws p) (get_or (set memory first w) p 0) ≡ unwrap_or (word_among first (w ∷ ws) p) (get_or memory p 0)) same
      (grind (arith, lt-leb, le-leb, get_or-set_same memory first w 0 (omega (arith, lt, same))))
  | inr (inl behind) ↦
      ap (unwrap_or (word_among (first + 1) ws place)) (get_or-set_other memory first place w 0 (λ same. omega (arith, same, behind)))
      ∙ ap (λ (o : Option ℕ). unwrap_or o (get_or memory place 0)) (sym (behind_first first place w ws behind))
  | inr (inr before) ↦
      ap (unwrap_or (word_among (first + 1) ws place)) (get_or-set_other memory first place w 0 (λ same. omega (arith, same, before)))
      ∙ grind (arith, lt-leb, before)
]

-- a place holds the word that is set there, else what it held
pub get_or-with_words : (first : ℕ) (ws memory : List ℕ) (place : ℕ) → place < length memory → get_or (with_words first ws memory) place 0 ≡ unwrap_or (word_among first ws place) (get_or memory place 0)
get_or-with_words first [] memory place lt = grind arith
get_or-with_words first (w ∷ ws) memory place lt =
    get_or-with_words (first + 1) ws (set memory first w) place (omega (arith, lt, length-set memory first w)) ∙ after_first first place w ws memory lt

-- ---- the last word

last_word : (ℕ → Line → Option ℕ) → List Line → ℕ → ℕ
last_word word_of lines place = unwrap_or (last_of (filter_map (word_of place) lines)) 0

last_word_more : (word_of : ℕ → Line → Option ℕ) (lines : List Line) (line : Line) (place : ℕ) → last_word word_of (lines ++ line ∷ []) place ≡ unwrap_or (word_of place line) (last_word word_of lines place)
unfolding last_word
last_word_more word_of lines line place = grind (arith, last_of, filter_map_more, last_of_more)

last_words_none : (word_of : ℕ → Line → Option ℕ) (n : ℕ) → tabulate n (last_word word_of []) ≡ replicate n 0
unfolding last_word
last_words_none word_of n = tabulate_const n (λ place. 0) 0 (λ i. refl)

last_words_set : (word_of : ℕ → Line → Option ℕ) (n : ℕ) (lines : List Line) (line : Line) (first : ℕ) (ws : List ℕ) → ((place : ℕ) → word_of place line ≡ word_among first ws place) → tabulate n (last_word word_of (lines ++ line ∷ [])) ≡ with_words first ws (tabulate n (last_word word_of lines))
last_words_set word_of n lines line first ws same =
    sym (tabulate_is 0 (with_words first ws (tabulate n (last_word word_of lines))) n (last_word word_of (lines ++ line ∷ []))
    (length-with_words first ws (tabulate n (last_word word_of lines)) ∙ length-tabulate n (last_word word_of lines))
    (λ i lt. get_or-with_words first ws (tabulate n (last_word word_of lines)) i (omega (arith, lt, length-tabulate n (last_word word_of lines)))
    ∙ ap (unwrap_or (word_among first ws i)) (get_or-tabulate n (last_word word_of lines) i 0 lt)
    ∙ ap (λ (o : Option ℕ). unwrap_or o (last_word word_of lines i)) (sym (same i))
    ∙ sym (last_word_more word_of lines line i)))

last_words_kept : (word_of : ℕ → Line → Option ℕ) (n : ℕ) (lines : List Line) (line : Line) → ((place : ℕ) → word_of place line ≡ None) → tabulate n (last_word word_of (lines ++ line ∷ [])) ≡ tabulate n (last_word word_of lines)
last_words_kept word_of n lines line none =
    tabulate_same 0 n (last_word word_of (lines ++ line ∷ [])) (last_word word_of lines)
    (λ i lt. last_word_more word_of lines line i ∙ ap (λ (o : Option ℕ). unwrap_or o (last_word word_of lines i)) (none i))

-- ---- memories

memory_is : (lines : List Line) → memory_of lines ≡ tabulate place_count (last_word word_for lines)
unfolding memory_of last_word
memory_is lines = refl

pub memory_none : memory_of [] ≡ replicate place_count 0
memory_none = memory_is [] ∙ last_words_none word_for place_count

pub memory_set : (lines : List Line) (x : ℕ) (ws : List ℕ) → memory_of (lines ++ words x ws ∷ []) ≡ with_words x ws (memory_of lines)
memory_set lines x ws =
    memory_is (lines ++ words x ws ∷ []) ∙ last_words_set word_for place_count lines (words x ws) x ws (λ place. refl)
    ∙ ap (with_words x ws) (sym (memory_is lines))

pub memory_kept : (lines : List Line) (line : Line) → ((place : ℕ) → word_for place line ≡ None) → memory_of (lines ++ line ∷ []) ≡ memory_of lines
memory_kept lines line none = memory_is (lines ++ line ∷ []) ∙ last_words_kept word_for place_count lines line none ∙ sym (memory_is lines)

central_is : (size : ℕ) (lines : List Line) → central_loaded size lines ≡ tabulate size (last_word central_word_for lines)
unfolding central_loaded last_word
central_is size lines = refl

pub length-central_loaded : (size : ℕ) (lines : List Line) → length (central_loaded size lines) ≡ size
length-central_loaded size lines = ap length (central_is size lines) ∙ length-tabulate size (last_word central_word_for lines)

pub central_none : (size : ℕ) → central_loaded size [] ≡ replicate size 0
central_none size = central_is size [] ∙ last_words_none central_word_for size

pub central_set : (size : ℕ) (lines : List Line) (a : ℕ) (ws : List ℕ) → central_loaded size (lines ++ central_words a ws ∷ []) ≡ with_words a ws (central_loaded size lines)
central_set size lines a ws =
    central_is size (lines ++ central_words a ws ∷ []) ∙ last_words_set central_word_for size lines (central_words a ws) a ws (λ address. refl)
    ∙ ap (with_words a ws) (sym (central_is size lines))

pub central_kept : (size : ℕ) (lines : List Line) (line : Line) → ((address : ℕ) → central_word_for address line ≡ None) → central_loaded size (lines ++ line ∷ []) ≡ central_loaded size lines
central_kept size lines line none = central_is size (lines ++ line ∷ []) ∙ last_words_kept central_word_for size lines line none ∙ sym (central_is size lines)
