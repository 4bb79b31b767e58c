-- The verdict, line by line of a deck.
use Rattle.std.proofs.Common.{◌≡◌, ℕ, zero, suc, ◌+◌, ◌-◌, ◌<◌, ◌≤◌, Bool, true, false, List, [], ◌∷◌, ◌++◌, length, drop, take, get_or, refl, sym, ap, ◌∙◌, arith}
use Rattle.std.specs.Prelude.{All, ◌||◌, ◌==◌, codes, filter, not, slice_index, if◌then◌else◌}
use Rattle.std.specs.Bool.{beq}
use Rattle.std.specs.List.{Any, flat_map, list_any, onto_first, position_or_len, slice_split}
use Rattle.std.specs.Str.Lines.{strip_carriage_return}
use Rattle.std.proofs.lemmas.List.{append-nil, length-append, length-drop, length-take}
use Rattle.std.proofs.lemmas.List.Concat.{flat_map-append}
use Rattle.std.proofs.lemmas.List.Elements.{filter-append}
use Rattle.std.proofs.lemmas.List.Folds.{Any-from_list_any, list_any_at}
use Rattle.pp_deck.specs.DeckText.{Fields, fields_of, is_blank, is_line_feed}
use Rattle.pp_word.specs.Numeral.{short_decimal}
use Rattle.pp_text.specs.PrintedText.{line_end}
use Rattle.pp_test.specs.Expectations.{Expectation, expectation_in, expectations, expectations_from, is_unwanted, is_wanted, text_of_line, words_of}
use Rattle.pp_test.specs.Nearest.{begin, nearest}
use Rattle.pp_test.specs.Verdict.{BeginsWith, Holds, failure_text, failures, fails, is_held, lines_in, near_heading}
use Rattle.pp_test.proofs.NearestLemmas.{begin_nearest, begins_with, begins_words}

-- ---- the characters of lines

abbrev pub characters : List (List ℕ) → ℕ
characters [] = 0
characters (line ∷ lines) = length line + characters lines

-- a first character more
one_more : (x : ℕ) (parts : List (List ℕ)) → characters (onto_first x parts) ≡ characters parts + 1
one_more x [] = refl
one_more x (part ∷ parts) = omega arith

few_by : (x : ℕ) (text : List ℕ) → characters (slice_split is_line_feed text) ≤ length text → (b : Bool) → is_line_feed x ≡ b
    → characters (slice_split is_line_feed (x ∷ text)) ≤ length (x ∷ text)
few_by x text few true is = rw is (omega (arith, few))
few_by x text few false is = rw is (omega (arith, few, one_more x (slice_split is_line_feed text)))

-- the lines of a text have no more than the text
pub few_characters : (text : List ℕ) → characters (slice_split is_line_feed text) ≤ length text
few_characters [] = omega arith
few_characters (x ∷ text) = few_by x text (few_characters text) (is_line_feed x) refl

-- ---- one line of a deck

pub no_expectation : (number : ℕ) (line : List ℕ) → (is_wanted (text_of_line line) || is_unwanted (text_of_line line)) ≡ false → expectation_in number line ≡ []
unfolding expectation_in
no_expectation number line none = rw none refl

pub an_expectation : (number : ℕ) (line : List ℕ) → (is_wanted (text_of_line line) || is_unwanted (text_of_line line)) ≡ true
    → expectation_in number line ≡ record { line = number; text = text_of_line line } ∷ []
unfolding expectation_in
an_expectation number line is = rw is refl

pub one_holds : (lines : List (List ℕ)) (e : Expectation) → fails lines e ≡ false → failures lines (e ∷ []) ≡ []
one_holds lines e holds = rw holds refl

pub one_fails : (lines : List (List ℕ)) (e : Expectation) → fails lines e ≡ true → failures lines (e ∷ []) ≡ e ∷ []
one_fails lines e fail = rw fail refl

same_flags : (wanted begins : Bool) → beq begins wanted ≡ true → (if wanted then not begins else begins) ≡ false
same_flags true true is = refl
same_flags true false is = absurd (cc)
same_flags false true is = absurd (cc)
same_flags false false is = refl

other_flags : (wanted begins : Bool) → beq begins wanted ≡ false → (if wanted then not begins else begins) ≡ true
other_flags true true is = absurd (cc)
other_flags true false is = refl
other_flags false true is = refl
other_flags false false is = absurd (cc)

-- whether it fails is told by the nearest line
told_by : (text : List ℕ) (e : Expectation) (begins wanted same : Bool) → begins ≡ begin (words_of e.text) (nearest (words_of e.text) (lines_in text)) → wanted ≡ is_wanted e.text
    → beq begins wanted ≡ same → beq (list_any (begin (words_of e.text)) (lines_in text)) (is_wanted e.text) ≡ same
told_by text e begins wanted same near which is =
    sym (ap (λ b. beq b (is_wanted e.text)) (near ∙ begin_nearest (words_of e.text) text)) ∙ sym (ap (beq begins) which) ∙ is

pub held_by : (text : List ℕ) (e : Expectation) (begins wanted : Bool) → begins ≡ begin (words_of e.text) (nearest (words_of e.text) (lines_in text)) → wanted ≡ is_wanted e.text
    → beq begins wanted ≡ true → fails (lines_in text) e ≡ false
held_by text e begins wanted near which is =
    same_flags (is_wanted e.text) (list_any (begin (words_of e.text)) (lines_in text)) (told_by text e begins wanted true near which is)

pub failed_by : (text : List ℕ) (e : Expectation) (begins wanted : Bool) → begins ≡ begin (words_of e.text) (nearest (words_of e.text) (lines_in text)) → wanted ≡ is_wanted e.text
    → beq begins wanted ≡ false → fails (lines_in text) e ≡ true
failed_by text e begins wanted near which is =
    other_flags (is_wanted e.text) (list_any (begin (words_of e.text)) (lines_in text)) (told_by text e begins wanted false near which is)

-- what is said of it
pub failure_told : (lines : List (List ℕ)) (e : Expectation) (text near : List ℕ) (wanted : Bool) (here : List Expectation) → text ≡ e.text → near ≡ nearest (words_of e.text) lines → wanted ≡ is_wanted e.text → failures lines here ≡ e ∷ []
    → short_decimal e.line ++ codes ": " ++ text ++ line_end ++ near_heading wanted ++ near ++ line_end ≡ flat_map (failure_text lines) (failures lines here)
unfolding failure_text
failure_told lines e text near wanted here text_is near_is wanted_is failed =
    told ∙ sym (append-nil (failure_text lines e)) ∙ sym (ap (flat_map (failure_text lines)) failed)
  where
    told : short_decimal e.line ++ codes ": " ++ text ++ line_end ++ near_heading wanted ++ near ++ line_end ≡ failure_text lines e
    told = rw (text_is, near_is, wanted_is) refl

-- its words are no longer than its line
no_longer : (line : List ℕ) (b : Bool) → length (if b then take (length line - 1) line else line) ≤ length line
no_longer line true = omega (arith, length-take (length line - 1) line)
no_longer line false = omega arith

pub few_words : (line : List ℕ) → length (drop 2 (text_of_line line)) ≤ length line
few_words line =
    let text = strip_carriage_return line in
    omega (arith, no_longer line (slice_index line (length line - 1) == 13), length-drop (position_or_len (λ byte. not (is_blank byte)) text) text, length-drop 2 (text_of_line line))

-- ---- the lines that are left

pub all_left : (deck : List ℕ) (left : List (List ℕ)) → left ≡ slice_split is_line_feed deck → expectations_from 1 left ≡ expectations deck
unfolding expectations
all_left deck left is = ap (expectations_from 1) is

pub told_more : (lines : List (List ℕ)) (here rest all : List Expectation) → all ≡ here ++ rest
    → flat_map (failure_text lines) (failures lines here) ++ flat_map (failure_text lines) (failures lines rest) ≡ flat_map (failure_text lines) (failures lines all)
told_more lines here rest all is =
    sym (ap (λ es. flat_map (failure_text lines) (failures lines es)) is ∙ ap (flat_map (failure_text lines)) (filter-append (fails lines) here rest)
    ∙ flat_map-append (failure_text lines) (failures lines here) (failures lines rest))

pub count_more : (here rest all : List Expectation) → all ≡ here ++ rest → length all ≡ length here + length rest
count_more here rest all is = ap length is ∙ length-append here rest

pub failed_more : (lines : List (List ℕ)) (here rest all : List Expectation) → all ≡ here ++ rest → length (failures lines all) ≡ length (failures lines here) + length (failures lines rest)
failed_more lines here rest all is = ap (λ es. length (failures lines es)) is ∙ ap length (filter-append (fails lines) here rest) ∙ length-append (failures lines here) (failures lines rest)

-- ---- what is held

pass_none : {X : Type 0} (p : X → Bool) (x : X) (xs : List X) (d : X) → (length (filter p xs) ≡ 0 → (k : ℕ) → k < length xs → p (get_or xs k d) ≡ false)
    → (b : Bool) → p x ≡ b → length (filter p (x ∷ xs)) ≡ 0 → (k : ℕ) → k < length (x ∷ xs) → p (get_or (x ∷ xs) k d) ≡ false
pass_none p x xs d rest true is none k within = absurd (grind (arith, none, is))
pass_none p x xs d rest false is none zero within = is
pass_none p x xs d rest false is none (suc k) within = rest (rw is at none) k (omega (arith, within))

none_passes : {X : Type 0} (p : X → Bool) (xs : List X) (d : X) → length (filter p xs) ≡ 0 → (k : ℕ) → k < length xs → p (get_or xs k d) ≡ false
none_passes p [] d none k within = absurd (omega (arith, within))
none_passes p (x ∷ xs) d none k within = pass_none p x xs d (none_passes p xs d) (p x) refl none k within

wanted_some : (wanted some : Bool) → (if wanted then not some else some) ≡ false → wanted ≡ true → some ≡ true
wanted_some true true held is = refl
wanted_some true false held is = absurd (cc)
wanted_some false some held is = absurd (cc)

unwanted_none : (wanted some : Bool) → (if wanted then not some else some) ≡ false → wanted ≡ false → some ≡ false
unwanted_none true some held is = absurd (cc)
unwanted_none false some held is = held

some_begins : (words : Fields) (lines : List (List ℕ)) → list_any (begin words) lines ≡ true → Any (BeginsWith words) lines
some_begins words lines any =
    let found = Any-from_list_any (begin words) lines any in
    (found.0, found.1, found.2, found.3, begins_with words (fields_of found.1) found.4)

none_begins : (words : Fields) (lines : List (List ℕ)) → list_any (begin words) lines ≡ false → (k : ℕ) (d : List ℕ) → k < length lines → BeginsWith words (get_or lines k d) → ⊥
none_begins words lines none k d within begins =
    let any = list_any_at (begin words) lines k d within (begins_words words (fields_of (get_or lines k d)) begins) in
    absurd (cc)

holds : (lines : List (List ℕ)) (e : Expectation) → fails lines e ≡ false → Holds lines e
holds lines e held = record {
  wanted = λ is. some_begins (words_of e.text) lines (wanted_some (is_wanted e.text) (list_any (begin (words_of e.text)) lines) held is);
  unwanted = λ is. none_begins (words_of e.text) lines (unwanted_none (is_wanted e.text) (list_any (begin (words_of e.text)) lines) held is);
}

pub held_all : (deck text : List ℕ) → is_held deck text ≡ true → All (Holds (lines_in text)) (expectations deck)
unfolding is_held
held_all deck text held = λ k d within.
    let none : length (failures (lines_in text) (expectations deck)) ≡ 0 = grind (arith, held) in
    holds (lines_in text) (get_or (expectations deck) k d) (none_passes (fails (lines_in text)) (expectations deck) d none k within)
