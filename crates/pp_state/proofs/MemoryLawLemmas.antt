-- Words read off the texts are the words in memory: numbers in the columns of a line, also where
-- spaces at its end are dropped, and the lines of a text that pass a test.
use Rattle.std.proofs.Common.{◌≡◌, ◌≢◌, ◌∙◌, ℕ, zero, suc, ◌-◌, ◌<◌, Bool, true, false, List, [], ◌∷◌, ◌++◌, length, refl, sym, ap, arith, inl, inr, append_assoc, reverse, ◌+◌, ◌/◌, ◌%◌, ◌^◌, cond, take, lit<, length-append, ◌*◌, ◌≤◌, codes, ◌⊎◌}
use Rattle.std.specs.Prelude.{◌==◌, if◌then◌else◌, ◌&&◌, not, slice_index}
use Rattle.std.specs.List.{filter, flat_map, slice_split, prefix_len, suffix_len, list_all}
use Rattle.std.specs.Str.Lines.{lines, lines_of_parts, strip_carriage_return}
use Rattle.std.proofs.lemmas.Bool.{and_from, and_parts, cases_lt, ne_eqb, both_ways, eq-eqb, eqb-true, false_from_ne_true, le-leb, not-false}
use Rattle.std.proofs.lemmas.List.{append-nil, drop_at, reverse-append, take_at}
use Rattle.std.proofs.lemmas.List.Elements.{filter-append}
use Rattle.std.proofs.lemmas.Grind.{flat_map-append}
use Rattle.std.proofs.lemmas.List.Splits.{slice_split_at}
use Rattle.pp_text.specs.PrintedText.{each_below, line_end}
use Rattle.std.specs.Char.{is_ascii_whitespace}
use Rattle.std.proofs.Math.Seq.{take-append-add}
use Rattle.std.proofs.Math.Nat.{mod-eq_of_lt}
use Rattle.std.proofs.lemmas.Bool.Decides.{nat_tests}
use Rattle.std.proofs.lemmas.List.Sums.{suffix_len-le-length, AllPass-from_list_all}
use Rattle.pp_word.specs.Numeral.{octal}
use Rattle.pp_word.proofs.NumeralLemmas.{digits_value, length_digits}
use Rattle.pp_state.specs.MemoryText.{trimmed, displayed_words, has_words, memory_line, memory_text, octal_words, padded_line, shown_line}
use Rattle.pp_text.specs.InstructionRead.{number_in}
use Rattle.std.proofs.lemmas.List.Folds.{list_all-append, list_any_at}
use Rattle.pp_deck.proofs.FieldTextLemmas.{is_plain, octal_plain, plain_least}
use Rattle.pp_listing.proofs.ListedLineLemmas.{IsPlain, no_line_feed, plain_append}
use Rattle.std.proofs.lemmas.List.FromFn.{get_or-range_with_len, length-range_with_len}
use Rattle.pp_word.specs.Address.{place_count}
use Rattle.pp_machine.specs.Central.{IsCentral}
use Rattle.pp_processor.specs.PpMemory.{IsMemory}
use Rattle.pp_processor.specs.Processor.{Processor, word_at}
use Rattle.pp_state.specs.CentralText.{central_line, central_text, shown_word}
use Rattle.pp_state.specs.DisplayCode.{display_character, display_characters, displayed}
use Rattle.pp_numbers.specs.Bounds.{meets}
use Rattle.pp_state.specs.MemoryReading.{central_word_read, lines_of, number_on, word_read}
use Rattle.pp_numbers.specs.declared.bounds.Bounds.{Bounds}

-- the number that stands after some characters
pub number_after : (before after : List ℕ) (column width n : ℕ) → length before ≡ column → n < 8 ^ width
    → number_in column width (before ++ (octal width n ++ after)) ≡ n
number_after before after column width n here small = grind (arith, drop_at, take_at, length_digits, digits_value, lit<, mod-eq_of_lt)

-- ---- spaces at the end

stops : (p : ℕ → Bool) (ys zs : List ℕ) (x : ℕ) → p x ≡ false → prefix_len p (ys ++ x ∷ zs) ≡ prefix_len p ys
stops p [] zs x fails = rw fails refl
stops p (y ∷ ys) zs x fails = ap (λ (n : ℕ). cond (p y) (1 + n) 0) (stops p ys zs x fails)

backwards : (a b : List ℕ) (x : ℕ) → reverse (a ++ x ∷ b) ≡ reverse b ++ x ∷ reverse a
backwards a b x =
    cc (reverse-append a (x ∷ b), reverse-append (x ∷ []) b, append_assoc (reverse b) (x ∷ []) (reverse a))

same_spaces : (a b : List ℕ) (x : ℕ) → 47 < x → suffix_len is_ascii_whitespace (a ++ x ∷ b) ≡ suffix_len is_ascii_whitespace b
same_spaces a b x past = grind (arith, backwards, stops, nat_tests)

-- what stands up to a digit stays
trim_keeps : (a b : List ℕ) (x : ℕ) → 47 < x → trimmed (a ++ x ∷ b) ≡ a ++ x ∷ trimmed b
unfolding trimmed
trim_keeps a b x past =
    let spaces = suffix_len is_ascii_whitespace b in
    let kept : length (a ++ x ∷ b) - suffix_len is_ascii_whitespace (a ++ x ∷ b) ≡ length a + suc (length b - spaces) =
    omega (arith, same_spaces a b x past, length-append a (x ∷ b), suffix_len-le-length is_ascii_whitespace b) in
    ap (λ (n : ℕ). take n (a ++ x ∷ b)) kept ∙ take-append-add a (x ∷ b) (suc (length b - spaces))

regrouped : (a b c : List ℕ) (x : ℕ) → a ++ ((b ++ x ∷ []) ++ c) ≡ (a ++ b) ++ x ∷ c
regrouped a b c x = ap (λ (l : List ℕ). a ++ l) (append_assoc b (x ∷ []) c) ∙ sym (append_assoc a b (x ∷ c))

-- also a line of some pieces, up to a digit
pub trim_after : (a b c : List ℕ) (x : ℕ) → 47 < x → trimmed ((a ++ (b ++ x ∷ [])) ++ c) ≡ (a ++ (b ++ x ∷ [])) ++ trimmed c
trim_after a b c x past = grind (arith, append_assoc, regrouped, trim_keeps)

-- the number that stands after some characters of a line whose last spaces are dropped
pub number_trimmed : (before after : List ℕ) (column width n : ℕ) → length before ≡ column → n < 8 ^ suc width
    → number_in column (suc width) (trimmed (before ++ (octal (suc width) n ++ after))) ≡ n
number_trimmed before after column width n here small =
    let front = octal width (n / 8) in
    ap (λ (l : List ℕ). number_in column (suc width) (trimmed l)) (regrouped before front after (48 + n % 8))
    ∙ (ap (number_in column (suc width)) (trim_keeps (before ++ front) after (48 + n % 8) (omega arith) ∙ sym (regrouped before front (trimmed after) (48 + n % 8)))
    ∙ number_after before (trimmed after) column (suc width) n here small)

-- what is taken from the front of a plain text is plain
plain_take : (n : ℕ) (text : List ℕ) → IsPlain text → IsPlain (take n text)
plain_take zero text plain = refl
plain_take (suc n) [] plain = refl
plain_take (suc n) (c ∷ text) plain = grind (arith, and_parts, and_from, plain_take n text (and_parts (is_plain c) (list_all is_plain text) plain).1)

abbrev is_feed : ℕ → Bool
is_feed character = character == 10

-- lines, each with its line feed
abbrev unlines : List (List ℕ) → List ℕ
unlines ls = flat_map (λ l. l ++ line_end) ls

parts_of_lines : (ls : List (List ℕ)) → list_all (list_all is_plain) ls ≡ true → slice_split is_feed (unlines ls) ≡ ls ++ [] ∷ []
parts_of_lines [] plain = refl
parts_of_lines (l ∷ ls) plain =
    let (first, more) = and_parts (list_all is_plain l) (list_all (list_all is_plain) ls) plain in
    grind (arith, append_assoc, slice_split_at is_feed l 10 (unlines ls) (no_line_feed l first), parts_of_lines ls more)

no_return : (l : List ℕ) → IsPlain l → strip_carriage_return l ≡ l
no_return [] plain = refl
no_return (c ∷ l) plain =
    let least = plain_least (slice_index (c ∷ l) (length l)) (AllPass-from_list_all is_plain (c ∷ l) plain (length l) 0 (omega arith)) in
    grind (arith, least, ne_eqb)

lines_again : (ls : List (List ℕ)) → list_all (list_all is_plain) ls ≡ true → lines_of_parts (ls ++ [] ∷ []) ≡ ls
lines_again [] plain = refl
lines_again (l ∷ ls) plain = grind (arith, and_parts, no_return, lines_again ls)

-- ---- a line for some numbers

-- the line of a number, if it has one
abbrev pub line_if : (ℕ → Bool) → (ℕ → List ℕ) → ℕ → List (List ℕ)
line_if has line n = if has n then line n ∷ [] else []

-- what is said of it in a text
abbrev pub said_if : (ℕ → Bool) → (ℕ → List ℕ) → ℕ → List ℕ
said_if has line n = if has n then line n ++ line_end else []

plain_if : (has : Bool) (l : List ℕ) → IsPlain l → list_all (list_all is_plain) (if has then l ∷ [] else []) ≡ true
plain_if has l plain = grind arith

all_below : {X : Type 0} (p : X → Bool) (k : ℕ) (f : ℕ → List X) → ((n : ℕ) → list_all p (f n) ≡ true) → list_all p (each_below k f) ≡ true
unfolding each_below
all_below p zero f each = refl
all_below p (suc k) f each = grind (arith, list_all-append, all_below p k f each, each k)

one_line : (b : Bool) (l : List ℕ) → (if b then l ++ line_end else []) ≡ unlines (if b then l ∷ [] else [])
one_line b l = grind (arith, append-nil)

said_in_lines : (k : ℕ) (has : ℕ → Bool) (line : ℕ → List ℕ) → each_below k (said_if has line) ≡ unlines (each_below k (line_if has line))
unfolding each_below
said_in_lines zero has line = refl
said_in_lines (suc k) has line = grind (arith, one_line, flat_map-append, said_in_lines k has line)

lines_said : (count : ℕ) (has : ℕ → Bool) (line : ℕ → List ℕ) → ((n : ℕ) → IsPlain (line n))
    → lines (each_below count (said_if has line)) ≡ each_below count (line_if has line)
lines_said count has line plain =
    let all = all_below (list_all is_plain) count (line_if has line) (λ n. plain_if (has n) (line n) (plain n)) in
    grind (arith, said_in_lines, parts_of_lines, lines_again, all)

-- a line that passes a test, and one that does not
passes : (p : List ℕ → Bool) (b : Bool) (l : List ℕ) → p l ≡ true → filter p (if b then l ∷ [] else []) ≡ (if b then l ∷ [] else [])
passes p b l is = grind arith

fails : (p : List ℕ → Bool) (b : Bool) (l : List ℕ) → p l ≡ false → filter p (if b then l ∷ [] else []) ≡ []
fails p b l is = grind arith

none_below : (k : ℕ) (p : List ℕ → Bool) (f : ℕ → List (List ℕ)) → ((n : ℕ) → n < k → filter p (f n) ≡ []) → filter p (each_below k f) ≡ []
unfolding each_below
none_below zero p f each = refl
none_below (suc k) p f each = grind (arith, filter-append, each, none_below k p f (λ n low. each n (omega (arith, low))))

one_passes : (count n : ℕ) (p : List ℕ → Bool) (f : ℕ → List (List ℕ)) → n < count → filter p (f n) ≡ f n
    → ((m : ℕ) → m < count → m ≢ n → filter p (f m) ≡ []) → filter p (each_below count f) ≡ f n
unfolding each_below
one_passes zero n p f within own others = absurd (omega (arith, within))
one_passes (suc k) n p f within own others =
    filter-append p (each_below k f) (f k)
    ∙ elim (cases_lt n k) [
      | inl early ↦ grind (arith, append-nil, one_passes k n p f early own (λ m low. others m (omega (arith, low))))
      | inr late ↦ grind (arith, none_below)
    ]

-- of the lines of a text, those that pass a test that the line of one number alone passes
pub lines_passing : (count n : ℕ) (has : ℕ → Bool) (line : ℕ → List ℕ) (p : List ℕ → Bool) → n < count → ((m : ℕ) → IsPlain (line m)) → p (line n) ≡ true
    → ((m : ℕ) → m < count → m ≢ n → p (line m) ≡ false) → filter p (lines (each_below count (said_if has line))) ≡ line_if has line n
lines_passing count n has line p within plain own others =
    ap (filter p) (lines_said count has line plain)
    ∙ one_passes count n p (line_if has line) within (passes p (has n) (line n) own) (λ m low other. fails p (has m) (line m) (others m low other))

-- ---- characters

table_plain : IsPlain display_characters
unfolding display_characters
table_plain = refl

plain_displayed : (width word : ℕ) → IsPlain (displayed width word)
unfolding display_characters
plain_displayed zero word = refl
plain_displayed (suc width) word =
    plain_append (displayed width (word / 0o100)) (display_character (word % 0o100) ∷ []) (plain_displayed width (word / 0o100))
    (ap (λ b. b && true) (AllPass-from_list_all is_plain display_characters table_plain (word % 0o100) 0 (omega arith)))

-- ---- eight words on a line

length_below : (k : ℕ) (said : ℕ → List ℕ) → ((n : ℕ) → length (said n) ≡ 5) → length (each_below k said) ≡ k * 5
unfolding each_below
length_below zero said each = refl
length_below (suc k) said each = omega (arith, length-append (each_below k said) (said k), length_below k said each, each k)

-- what is said of one number, with what comes before and after it
abbrev HasParts : ℕ → ℕ → (ℕ → List ℕ) → Type 0
HasParts k count said = (after : List ℕ) × (each_below count said ≡ each_below k said ++ (said k ++ after))

one_further : (k n : ℕ) (said : ℕ → List ℕ) → k < suc n → (k < n → HasParts k n said) → (k < n) ⊎ (n ≤ k) → HasParts k (suc n) said
unfolding each_below
one_further k n said within before (inl early) =
    let (after, is) = before early in (
      after ++ said n,
      ap (λ (t : List ℕ). t ++ said n) is
          ∙ (append_assoc (each_below k said) (said k ++ after) (said n) ∙ ap (λ (t : List ℕ). each_below k said ++ t) (append_assoc (said k) after (said n))),
    )
one_further k n said within before (inr late) = grind (arith, append-nil)

parts_below : (k count : ℕ) (said : ℕ → List ℕ) → k < count → HasParts k count said
parts_below k zero said within = absurd (omega (arith, within))
parts_below k (suc n) said within = one_further k n said within (λ early. parts_below k n said early) (cases_lt k n)

padded_is : (pp : Processor) (place : ℕ)
    → padded_line pp place ≡ octal 4 place ++ (32 ∷ (octal_words pp place ++ (32 ∷ 32 ∷ displayed_words pp place)))
unfolding padded_line
padded_is pp place = grind (arith, append_assoc)

abbrev word_field : Processor → ℕ → ℕ → List ℕ
word_field pp place k = codes " " ++ octal 4 (word_at pp (place + k))

words_are : (pp : Processor) (place : ℕ) → octal_words pp place ≡ each_below 8 (word_field pp place)
unfolding octal_words
words_are pp place = refl

word_on_line : (pp : Processor) (place k : ℕ) → k < 8 → word_at pp (place + k) < 8 ^ 4 → number_in (6 + k * 5) 4 (memory_line pp place) ≡ word_at pp (place + k)
word_on_line pp place k within small =
    let word = word_at pp (place + k) in
    let (after, is) = parts_below k 8 (word_field pp place) within in
    let before = octal 4 place ++ (32 ∷ (each_below k (word_field pp place) ++ 32 ∷ [])) in
    let tail = 32 ∷ 32 ∷ displayed_words pp place in
    let line : padded_line pp place ≡ before ++ (octal 4 word ++ (after ++ tail)) =
    padded_is pp place
    ∙ (ap (λ (t : List ℕ). octal 4 place ++ (32 ∷ (t ++ tail))) (words_are pp place ∙ is)
    ∙ (simp append_assoc)) in
    let columns : length before ≡ 6 + k * 5 =
    omega (arith, length-append (each_below k (word_field pp place)) (32 ∷ []), length_below k (word_field pp place) (λ j. refl)) in
    cc (number_trimmed before (after ++ tail) (6 + k * 5) 3 word columns small)

place_on_line : (pp : Processor) (place : ℕ) → place < 8 ^ 4 → number_in 0 4 (memory_line pp place) ≡ place
place_on_line pp place small =
    ap (λ (l : List ℕ). number_in 0 4 (trimmed l)) (padded_is pp place) ∙ number_trimmed [] (32 ∷ (octal_words pp place ++ (32 ∷ 32 ∷ displayed_words pp place))) 0 3 place refl small

plain_line : (pp : Processor) (place : ℕ) → IsPlain (memory_line pp place)
unfolding trimmed padded_line octal_words displayed_words
plain_line pp place = plain_take _ (padded_line pp place) (search (plain_append, octal_plain, all_below, plain_displayed))

-- ---- the text of a memory

abbrev is_shown : Bounds → Processor → ℕ → Bool
is_shown bounds pp n = meets bounds (n * 8) (n * 8 + 7) && has_words pp (n * 8)

line_found : (bounds : Bounds) (pp : Processor) (n : ℕ) → n < 0o1000
    → lines_of 4 (n * 8) (memory_text bounds pp) ≡ line_if (is_shown bounds pp) (λ m. memory_line pp (m * 8)) n
unfolding memory_text shown_line
line_found bounds pp n within =
    lines_passing 0o1000 n (is_shown bounds pp) (λ m. memory_line pp (m * 8)) (λ l. number_in 0 4 l == n * 8) within (λ m. plain_line pp (m * 8))
    (eq-eqb _ _ (place_on_line pp (n * 8) (omega (arith, within))))
    (λ m low other. ne_eqb _ _ (λ same. other (omega (arith, same, place_on_line pp (m * 8) (omega (arith, low))))))

-- the word on a line that is shown where some word is not 0, and is 0 where there is none
pub on_line : (met some : Bool) (column width w : ℕ) (l : List ℕ) → met ≡ true → number_in column width l ≡ w → (some ≡ false → w ≡ 0)
    → number_on column width (if met && some then l ∷ [] else []) ≡ w
on_line met some column width w l h reads zeros = grind arith

no_words : (pp : Processor) (place k : ℕ) → k < 8 → has_words pp place ≡ false → word_at pp (place + k) ≡ 0
no_words pp place k within none = grind (arith, eqb-true, not-false, false_from_ne_true, both_ways, list_any_at, length-range_with_len, get_or-range_with_len)

met : (bounds : Bounds) (from to : ℕ) → bounds.first ≤ to → from ≤ bounds.last → meets bounds from to ≡ true
met bounds from to first last = rw (le-leb bounds.first to first, le-leb from bounds.last last) refl

pub word_is_read : (bounds : Bounds) (pp : Processor) (place : ℕ) → IsMemory pp.memory → place < place_count → bounds.first ≤ place → place ≤ bounds.last
    → word_read place (memory_text bounds pp) ≡ word_at pp place
word_is_read bounds pp place memory within first last =
    let n = place / 8 in
    let k = place % 8 in
    let begins : place - place % 8 ≡ n * 8 = omega arith in
    let here : n * 8 + k ≡ place = omega arith in
    cc (
      line_found bounds pp n (omega (arith, within)),
      on_line (meets bounds (n * 8) (n * 8 + 7)) (has_words pp (n * 8)) (6 + k * 5) 4 (word_at pp (n * 8 + k)) (memory_line pp (n * 8))
          (met bounds (n * 8) (n * 8 + 7) (omega (arith, first)) (omega (arith, last)))
          (word_on_line pp (n * 8) k (omega arith) (memory.each_word (n * 8 + k))) (no_words pp (n * 8) k (omega arith)),
    )

-- ---- the text of central memory

central_is : (a word : ℕ) → central_line a word ≡ (octal 6 a ++ (32 ∷ 32 ∷ [])) ++ (octal 20 word ++ (32 ∷ 32 ∷ displayed 10 word))
unfolding central_line
central_is a word = refl

plain_central : (a word : ℕ) → IsPlain (central_line a word)
unfolding central_line
plain_central a word = search (plain_append, octal_plain, plain_displayed)

address_on_line : (a word : ℕ) → a < 8 ^ 6 → number_in 0 6 (central_line a word) ≡ a
address_on_line a word small = grind (arith, central_is, number_after)

central_on_line : (a word : ℕ) → word < 8 ^ 20 → number_in 8 20 (central_line a word) ≡ word
central_on_line a word small = search (central_is, number_after)

pub central_word_is_read : (bounds : Bounds) (central : List ℕ) (a : ℕ) → IsCentral central → a < length central → bounds.first ≤ a → a ≤ bounds.last
    → central_word_read a (central_text bounds central) ≡ slice_index central a
unfolding central_text shown_word
central_word_is_read bounds central a are within first last =
    let word : ℕ → ℕ = slice_index central in
    let fits : (m : ℕ) → m < length central → m < 8 ^ 6 = λ m low. omega (arith, low, are.size.most) in
    ap (number_on 8 20)
    (lines_passing (length central) a (λ m. meets bounds m m && not (word m == 0)) (λ m. central_line m (word m)) (λ l. number_in 0 6 l == a) within
    (λ m. plain_central m (word m)) (eq-eqb _ _ (address_on_line a (word a) (fits a within)))
    (λ m low other. ne_eqb _ _ (λ same. other (sym (address_on_line m (word m) (fits m low)) ∙ same))))
    ∙ on_line (meets bounds a a) (not (word a == 0)) 8 20 (word a) (central_line a (word a)) (met bounds a a first last)
    (central_on_line a (word a) (are.small a)) (λ none. eqb-true (word a) 0 (not-false _ none))
