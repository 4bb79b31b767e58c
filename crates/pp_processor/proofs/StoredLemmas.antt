-- Words stored from a place on.
use Rattle.std.proofs.Common.{◌≡◌, ◌≢◌, ℕ, zero, suc, ◌+◌, ◌*◌, ◌/◌, ◌%◌, ◌<◌, ◌≤◌, List, [], ◌∷◌, ◌++◌, length, slice_index, slice_set, refl, ap, ◌∙◌, sym, arith, get_or-set_same, get_or-set_other}
use Rattle.std.proofs.lemmas.Grind.{common_steps}
use Rattle.pp_word.specs.Address.{place_count, place_after, next_place}
use Rattle.pp_word.specs.CentralWord.{parts_of}
use Rattle.pp_processor.specs.Block.{stored_from}
use Rattle.pp_processor.specs.BlockResults.{BringsWords, part_of}

-- the words stored from place i of the places from m on
pub stored : List ℕ → ℕ → ℕ → List ℕ → List ℕ
stored memory m i [] = memory
stored memory m i (word ∷ words) = stored (slice_set memory (place_after m i) word) m (i + 1) words

pub stored-nil : (memory : List ℕ) (m i : ℕ) → stored memory m i [] ≡ memory
unfolding stored
stored-nil memory m i = refl

pub stored-cons : (memory : List ℕ) (m i word : ℕ) (words : List ℕ) →
    stored memory m i (word ∷ words) ≡ stored (slice_set memory (place_after m i) word) m (i + 1) words
unfolding stored
stored-cons memory m i word words = refl

pub next-place_from : (m i : ℕ) → next_place (place_after m i) ≡ place_after m (i + 1)
next-place_from m i = omega arith

pub stored_from-place_from : (words memory : List ℕ) (m i : ℕ) →
    stored_from memory (place_after m i) words ≡ stored memory m i words
unfolding stored
stored_from-place_from [] memory m i = refl
stored_from-place_from (word ∷ words) memory m i = grind (arith, next-place_from, stored_from-place_from words (slice_set memory (place_after m i) word) m (i + 1))

pub stored-append : (words more memory : List ℕ) (m i : ℕ) →
    stored memory m i (words ++ more) ≡ stored (stored memory m i words) m (i + length words) more
unfolding stored
stored-append [] more memory m i = let here : i + 0 ≡ i = omega arith in rw here refl
stored-append (word ∷ words) more memory m i = grind (arith, stored-append words more (slice_set memory (place_after m i) word) m (i + 1))

length-stored : (words memory : List ℕ) (m i : ℕ) → length (stored memory m i words) ≡ length memory
unfolding stored
length-stored [] memory m i = refl
length-stored (word ∷ words) memory m i = grind (arith, common_steps, length-stored words (slice_set memory (place_after m i) word) m (i + 1))

stored_others : (words memory : List ℕ) (m i place : ℕ) → ((j : ℕ) → j < length words →
    place ≢ place_after m (i + j)) → slice_index (stored memory m i words) place ≡ slice_index memory place
unfolding stored
stored_others [] memory m i place apart = refl
stored_others (word ∷ words) memory m i place apart =
    let here : i + 0 ≡ i = omega arith in
    let not_here : place ≢ place_after m i = rw (← here) (apart 0 (omega arith)) in
    stored_others words (slice_set memory (place_after m i) word) m (i + 1) place (λ j k. let further : i + 1 + j ≡ i + suc j = omega arith in rw further (apart (suc j) (omega arith)))
    ∙ get_or-set_other memory (place_after m i) place word 0 not_here

apart_places : (m i j : ℕ) → i + 1 + j < place_count → place_after m i ≢ place_after m (i + 1 + j)
apart_places m i j h = λ e. omega arith

stored_words : (words memory : List ℕ) (m i j : ℕ) → i + length words ≤ place_count → length memory ≡ place_count →
    j < length words → slice_index (stored memory m i words) (place_after m (i + j)) ≡ slice_index words j
unfolding stored
stored_words [] memory m i j h l k = absurd (omega arith)
stored_words (word ∷ words) memory m i zero h l k = grind (arith, stored_others, apart_places, get_or-set_same)
stored_words (word ∷ words) memory m i (suc j) h l k =
    let further : i + suc j ≡ i + 1 + j = omega arith in
    let long : length (slice_set memory (place_after m i) word) ≡ place_count = grind (arith, common_steps) in
    rw further (stored_words words (slice_set memory (place_after m i) word) m (i + 1) j (omega arith) long (omega arith))

-- they stand in their places, and all else is as before
pub BringsWords-stored : (words memory : List ℕ) (m : ℕ) → length words ≤ place_count →
    length memory ≡ place_count →
    BringsWords memory (stored memory m 0 words) m (length words) (λ i. slice_index words i)
BringsWords-stored words memory m h l = grind (arith, slice_index, stored, stored_words, stored_others, length-stored)

-- the parts of central words, one after another
pub parts_of_all : List ℕ → List ℕ
parts_of_all [] = []
parts_of_all (central ∷ centrals) = parts_of central ++ parts_of_all centrals

pub stored-parts : (central : ℕ) (centrals memory : List ℕ) (m i : ℕ) →
    stored memory m i (parts_of_all (central ∷ centrals)) ≡ stored (stored_from memory (place_after m i) (parts_of central)) m (i + 5) (parts_of_all centrals)
unfolding parts_of_all
stored-parts central centrals memory m i =
    stored-append (parts_of central) (parts_of_all centrals) memory m i
    ∙ ap (λ new. stored new m (i + 5) (parts_of_all centrals)) (sym (stored_from-place_from (parts_of central) memory m i))

pub stored-no_parts : (memory : List ℕ) (m i : ℕ) → stored memory m i (parts_of_all []) ≡ memory
unfolding parts_of_all stored
stored-no_parts memory m i = refl

pub length-parts_of_all : (centrals : List ℕ) → length (parts_of_all centrals) ≡ 5 * length centrals
unfolding parts_of_all
length-parts_of_all [] = refl
length-parts_of_all (central ∷ centrals) = let more = length-parts_of_all centrals in omega arith

pub slice_index-parts_of_all : (centrals : List ℕ) (j : ℕ) → j < 5 * length centrals →
    slice_index (parts_of_all centrals) j ≡ part_of centrals j
unfolding parts_of_all
slice_index-parts_of_all [] j h = absurd (omega arith)
slice_index-parts_of_all (central ∷ centrals) zero h = refl
slice_index-parts_of_all (central ∷ centrals) (suc zero) h = refl
slice_index-parts_of_all (central ∷ centrals) (suc (suc zero)) h = refl
slice_index-parts_of_all (central ∷ centrals) (suc (suc (suc zero))) h = refl
slice_index-parts_of_all (central ∷ centrals) (suc (suc (suc (suc zero)))) h = refl
slice_index-parts_of_all (central ∷ centrals) (suc (suc (suc (suc (suc j))))) h =
    let word : suc (suc (suc (suc (suc j)))) / 5 ≡ suc (j / 5) = omega arith in
    let part : suc (suc (suc (suc (suc j)))) % 5 ≡ j % 5 = omega arith in
    rw (word, part) (slice_index-parts_of_all centrals j (omega arith))
