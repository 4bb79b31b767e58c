-- A line that was printed has the fields that it was printed from, and is plain text; a text of such
-- lines is read as these lines, one after another.
use Rattle.std.proofs.Common.{◌≡◌, ℕ, ◌+◌, ◌<◌, ◌≤◌, Bool, true, false, List, [], ◌∷◌, ◌++◌, length, drop, get_or, map, fold, Option, Some, None, Ok, refl, sym, ap, subst, ◌∙◌, arith, append_assoc, ltb, le-ltb, ◌^◌, cond, Result, Err, lt-ltb, eqb}
use Rattle.std.specs.Prelude.{nat_le, position, is_some, IsTrue, All, codes}
use Rattle.std.specs.List.{list_all, flat_map, All, AllByRecursion, join_with_byte}
use Rattle.std.proofs.lemmas.Bool.{and_from, and_parts, cond-false, le-leb, leb-true, ne_eqb}
use Rattle.std.proofs.lemmas.List.{length-drop, append-nil}
use Rattle.std.proofs.lemmas.List.Folds.{list_all-append}
use Rattle.std.proofs.lemmas.List.Sums.{AllPass-from_list_all}
use Rattle.std.proofs.lemmas.List.Splits.{slice_split_at}
use Rattle.std.proofs.lemmas.List.Quantifiers.{position-Some}
use Rattle.pp_numbers.specs.declared.profile.Profile.{Profile}
use Rattle.pp_deck.specs.DeckLine.{Line, line_after, central_size, central_words, section, start, words, dead_start, keyword_of, words_in, central_line, central_words_line, section_line, start_line, words_line, ◌>>=◌, nothing}
use Rattle.pp_deck.specs.DeckMeaning.{LoadedDeck, deck_meaning, meaning_of_lines, is_foreign, size_of, loaded, with_dead_start}
use Rattle.pp_deck.specs.Reading.{Progress, before_lines, after_line, after_lines, deck_so_far, progress_of}
use Rattle.pp_deck.proofs.SectionLemmas.{after_line_parts, current_after}
use Rattle.pp_deck.specs.DeckText.{lines_of, fields_in, is_line_feed}
use Rattle.pp_deck.proofs.FieldLemmas.{next_line}
use Rattle.pp_deck.proofs.ProgressLemmas.{after_lines_is}
use Rattle.pp_deck.proofs.ReadingLemmas.{ReadTo, read_none, read_more, read_blank, read_all}
use Rattle.pp_listing.specs.ListedLine.{ListedLine, says, text_line, bare, one_word, two_words, after_blank, line_text, listed_text}
use Rattle.pp_deck.proofs.FieldTextLemmas.{is_plain, plain_most, no_fields, fields_comment, fields_of_plain, octal_field, short_field, is_ink, IsField, blanks_comment, fields_commented, fields_joined, octal_is_field, octal_plain, plain_joined, plain_least, short_is_field}
use Rattle.std.proofs.lemmas.List.Elements.{All-head, All-tail}
use Rattle.pp_word.specs.Address.{place_count}
use Rattle.pp_numbers.specs.Profile.{has_processor}
use Rattle.pp_numbers.proofs.ProfileLemmas.{processor_named}
use Rattle.pp_word.specs.Numeral.{octal, short_octal}
use Rattle.pp_numbers.proofs.PpNoLemmas.{processor_fits}
use Rattle.pp_text.specs.InstructionText.{instruction_text, operands_text}
use Rattle.pp_word.specs.declared.operands.Operands.{Operands}
use Rattle.pp_word.specs.declared.operands.Operands.TheVariants.{IndexedPlace}

-- plain text
abbrev pub IsPlain : List ℕ → Type 0
IsPlain text = list_all is_plain text ≡ true

pub plain_append : (xs ys : List ℕ) → IsPlain xs → IsPlain ys → IsPlain (xs ++ ys)
plain_append xs ys h k = list_all-append is_plain xs ys ∙ and_from (list_all is_plain xs) (list_all is_plain ys) h k

pub no_line_feed : (text : List ℕ) → IsPlain text → All (λ c. is_line_feed c ≡ false) text
no_line_feed text plain = λ k d lt.
    let least = plain_least (get_or text k d) (AllPass-from_list_all is_plain text plain k d lt) in
    ne_eqb (get_or text k d) 10 (λ e. absurd (omega (arith, least, e)))

pub plain_if : (b : Bool) (xs ys : List ℕ) → IsPlain xs → IsPlain ys → IsPlain (cond b xs ys)
plain_if b xs ys h k = grind arith

operands_plain : (operands : Operands) (place d m : ℕ) → IsPlain (operands_text operands place d m)
operands_plain IndexedPlace place d m = search (plain_append, octal_plain, plain_if, eqb)
operands_plain operands place d m = search (plain_append, octal_plain)

pub instruction_plain : (place word m : ℕ) → IsPlain (instruction_text place word m)
unfolding instruction_text
instruction_plain place word m = grind (arith, plain_append, operands_plain)

-- ---- the fields of a line

-- the fields that a line is printed from
abbrev pub fields_said : Line → List (List ℕ)
fields_said nothing = []
fields_said (central_size n) = codes "CENTRAL" ∷ short_octal 6 n ∷ []
fields_said (central_words a ws) = codes "CM" ∷ short_octal 6 a ∷ map (octal 20) ws
fields_said (section n) = codes "PP" ∷ short_octal 2 n ∷ []
fields_said (start p a) = codes "START" ∷ octal 4 p ∷ octal 6 a ∷ []
fields_said (words x ws) = octal 4 x ∷ map (octal 4) ws
fields_said dead_start = codes "DEAD" ∷ []

keyword_field : (field : List ℕ) → 0 < length field → list_all is_ink field ≡ true → IsField field
keyword_field field some ink = record { some = some; ink = ink }

words_are_fields : (width : ℕ) → 0 < width → (ws : List ℕ) → AllByRecursion IsField (map (octal width) ws)
words_are_fields width some [] = tt
words_are_fields width some (w ∷ ws) = (octal_is_field width w some, words_are_fields width some ws)

are_fields : (line : Line) → AllByRecursion IsField (fields_said line)
are_fields nothing = tt
are_fields (central_size n) = (keyword_field (codes "CENTRAL") (omega arith) refl, (short_is_field 6 n (omega arith), tt))
are_fields (central_words a ws) = (keyword_field (codes "CM") (omega arith) refl, (short_is_field 6 a (omega arith), words_are_fields 20 (omega arith) ws))
are_fields (section n) = (keyword_field (codes "PP") (omega arith) refl, (short_is_field 2 n (omega arith), tt))
are_fields (start p a) = (keyword_field (codes "START") (omega arith) refl, (octal_is_field 4 p (omega arith), (octal_is_field 6 a (omega arith), tt)))
are_fields (words x ws) = words_are_fields 4 (omega arith) (x ∷ ws)
are_fields dead_start = (keyword_field (codes "DEAD") (omega arith) refl, tt)

words_joined : (width : ℕ) (first : List ℕ) (ws : List ℕ) → first ++ flat_map (after_blank width) ws ≡ join_with_byte 32 (first ∷ map (octal width) ws)
words_joined width first [] = append-nil first
words_joined width first (w ∷ ws) = ap (λ more. first ++ 32 ∷ more) (words_joined width (octal width w) ws)

line_joined : (line : Line) → line_text line ≡ join_with_byte 32 (fields_said line)
line_joined (central_words a ws) = ap (λ more. codes "CM " ++ more) (words_joined 20 (short_octal 6 a) ws)
line_joined (words x ws) = words_joined 4 (octal 4 x) ws
line_joined nothing = refl
line_joined b = refl

pub bare_plain : (line : Line) → IsPlain (line_text line)
bare_plain line = ap (list_all is_plain) (line_joined line) ∙ plain_joined (fields_said line) (are_fields line)

pub line_fields : (line : ListedLine) → fields_in (listed_text line) ≡ fields_said (says line)
line_fields (bare line) = ap fields_in (line_joined line) ∙ fields_joined (fields_said line) (are_fields line)
line_fields (one_word x w m) = fields_commented (octal 4 x) (octal 4 w ∷ []) _ (are_fields (words x (w ∷ []))) (blanks_comment 10 (32 ∷ instruction_text x w m))
line_fields (two_words x w m) = fields_commented (octal 4 x) (octal 4 w ∷ octal 4 m ∷ []) _ (are_fields (words x (w ∷ m ∷ []))) (blanks_comment 5 (32 ∷ instruction_text x w m))

pub line_plain : (line : ListedLine) → IsPlain (listed_text line)
line_plain (bare line) = bare_plain line
line_plain (one_word x w m) = search (plain_append, bare_plain, instruction_plain)
line_plain (two_words x w m) = search (plain_append, bare_plain, instruction_plain)

-- ---- numbers

words_read : (most place end : ℕ) (ws : List ℕ) → 0 < most → All (λ w. w < 8 ^ most) ws → place + length ws ≤ end → (past : _) → words_in most place end past (map (octal most) ws) ≡ Ok ws
unfolding words_in
words_read most place end [] some below le past = refl
words_read most place end (w ∷ ws) some below le past =
    ap (λ (r : Result ℕ _). r >>= λ word. cond (ltb place end) (words_in most (place + 1) end past (map (octal most) ws)) (Err past) >>= λ more. Ok (word ∷ more))
    (octal_field most w some (All-head (λ w. w < 8 ^ most) w ws below))
    ∙ ap (λ (b : Bool). cond b (words_in most (place + 1) end past (map (octal most) ws)) (Err past) >>= λ more. Ok (w ∷ more)) (lt-ltb place end (omega (arith, le)))
    ∙ ap (λ (r : Result (List ℕ) _). r >>= λ more. Ok (w ∷ more)) (words_read most (place + 1) end ws some (All-tail (λ w. w < 8 ^ most) w ws below) (omega (arith, le)) past)

-- ---- lines

pub central_size_read : (profile : Profile) (size n : ℕ) (s : Bool) → 1 ≤ n → n ≤ 0o400000 → line_after profile size false s (fields_said (central_size n)) ≡ Ok (central_size n)
unfolding line_after keyword_of central_line
central_size_read profile size n s least most = grind (arith, short_field, le-leb)

-- the size that a first such line says
pub size_read : (n : ℕ) (lines : List (List (List ℕ))) → 1 ≤ n → n ≤ 0o400000 → size_of (fields_said (central_size n) ∷ lines) ≡ n
unfolding size_of keyword_of central_line
size_read n lines least most = grind (arith, short_field, le-leb)

size_behind : (lines : List (List (List ℕ))) → size_of ([] ∷ lines) ≡ size_of lines
unfolding size_of
size_behind lines = refl

pub central_words_read : (profile : Profile) (size a : ℕ) (ws : List ℕ) (b s : Bool) → a < 8 ^ 6 → All (λ w. w < 8 ^ 20) ws → a + length ws ≤ size → line_after profile size b s (fields_said (central_words a ws)) ≡ Ok (central_words a ws)
unfolding line_after keyword_of central_words_line
central_words_read profile size a ws b s below small le = grind (arith, short_field, words_read)

pub section_read : (profile : Profile) (size n : ℕ) (b s : Bool) → IsTrue (has_processor profile n) → line_after profile size b s (fields_said (section n)) ≡ Ok (section n)
unfolding line_after keyword_of section_line
section_read profile size n b s has = grind (arith, short_field, processor_fits, processor_named)

pub start_read : (profile : Profile) (size p a : ℕ) (b : Bool) → p < 8 ^ 4 → a < 8 ^ 6 → line_after profile size b true (fields_said (start p a)) ≡ Ok (start p a)
unfolding line_after keyword_of start_line
start_read profile size p a b small low =
    let p_is = octal_field 4 p (omega arith) small in
    let a_is = octal_field 6 a (omega arith) low in
    rw (p_is, a_is) refl

words_line_is : (x : ℕ) (ws : List ℕ) → x < 8 ^ 4 → All (λ w. w < 8 ^ 4) ws → x + length ws ≤ place_count → words_line (octal 4 x) (map (octal 4) ws) ≡ Ok (words x ws)
unfolding words_line
words_line_is x ws below small le =
    let x_is = octal_field 4 x (omega arith) below in
    let words_are = words_read 4 x place_count ws (omega arith) small le in
    rw (x_is, words_are) refl

pub words_line_read : (profile : Profile) (size x : ℕ) (ws : List ℕ) (b : Bool) → x < 8 ^ 4 → All (λ w. w < 8 ^ 4) ws → x + length ws ≤ place_count → line_after profile size b true (fields_said (words x ws)) ≡ Ok (words x ws)
unfolding line_after keyword_of
words_line_read profile size x ws b below small le = grind (arith, words_line_is, ne_eqb, le-leb)

-- ---- the lines of the text

-- each line, and behind the last line feed a line without fields
pub lines_printed : (lines : List ListedLine) → lines_of (flat_map text_line lines) ≡ map fields_said (map says lines) ++ [] ∷ []
unfolding lines_of
lines_printed [] = grind (arith, no_fields)
lines_printed (line ∷ lines) = grind (arith, lines_printed lines, append_assoc, slice_split_at, no_line_feed, fields_of_plain, line_plain, line_fields)

-- ---- no byte is foreign

is_ascii : ℕ → Bool
is_ascii c = nat_le c 127

plain_ascii : (text : List ℕ) → list_all is_plain text ≡ true → list_all is_ascii text ≡ true
unfolding is_ascii
plain_ascii [] e = refl
plain_ascii (c ∷ text) e = grind (arith, plain_most, and_parts, is_plain, and_from, is_ascii, le-leb, plain_ascii text (and_parts (is_plain c) (list_all is_plain text) e).1)

text_ascii : (lines : List ListedLine) → list_all is_ascii (flat_map text_line lines) ≡ true
unfolding is_ascii
text_ascii [] = refl
text_ascii (line ∷ lines) = grind (arith, plain_ascii, line_plain, text_ascii lines, list_all-append, is_ascii, and_from)

none_foreign : (text : List ℕ) → list_all is_ascii text ≡ true → (o : Option ℕ) → position is_foreign text ≡ o → position is_foreign text ≡ None
unfolding is_ascii
none_foreign text h None e = e
none_foreign text h (Some i) e =
    let there = position-Some is_foreign text i 0 e in
    let most = leb-true (get_or text i 0) 127 (AllPass-from_list_all is_ascii text h i 0 there.0) in
    let least = leb-true 128 (get_or text i 0) there.1 in
    absurd (omega (arith, most, least))

meaning_of_text : (profile : Profile) (text : List ℕ) (lines : List (List (List ℕ))) → list_all is_ascii text ≡ true → lines_of text ≡ lines → length text ≤ 1048576 → deck_meaning profile text ≡ meaning_of_lines profile lines
unfolding deck_meaning
meaning_of_text profile text lines ascii are le = grind (arith, cond-false, le-ltb, none_foreign)

pub meaning_printed : (profile : Profile) (lines : List ListedLine) → length (flat_map text_line lines) ≤ 1048576 → deck_meaning profile (flat_map text_line lines) ≡ meaning_of_lines profile (map fields_said (map says lines) ++ [] ∷ [])
meaning_printed profile lines le = meaning_of_text profile (flat_map text_line lines) _ (text_ascii lines) (lines_printed lines) le

pub meaning_behind : (profile : Profile) (text : List ℕ) (lines : List ListedLine) → list_all is_plain (42 ∷ text) ≡ true → length (42 ∷ text ++ 10 ∷ flat_map text_line lines) ≤ 1048576 → deck_meaning profile (42 ∷ text ++ 10 ∷ flat_map text_line lines) ≡ meaning_of_lines profile ([] ∷ (map fields_said (map says lines) ++ [] ∷ []))
unfolding lines_of is_ascii
meaning_behind profile text lines plain le = grind (arith, meaning_of_text, lines_printed, slice_split_at, no_line_feed, fields_of_plain, fields_comment, plain_ascii, text_ascii, list_all-append, is_ascii, and_from)

-- ---- reading the lines

-- the deck behind all lines
abbrev deck_after : Progress → LoadedDeck
deck_after progress = with_dead_start progress.asks_dead_start (deck_so_far progress)

module _ (profile : Profile) where
  -- each line is read as it is, behind those before it, where this is the section before the first
  abbrev pub IsReady : ℕ → Option ℕ → List Line → Type 0
  IsReady size current [] = Unit {0}
  IsReady size current (line ∷ lines) = ((b : Bool) → line_after profile size b (is_some current) (fields_said line) ≡ Ok line) × IsReady size (current_after line current) lines

  read_rest : (size : ℕ) (all : List (List (List ℕ))) (lines : List Line) (k : ℕ) (progress : Progress) (b : Bool) → size_of all ≡ size → ReadTo profile all k progress b → map fields_said lines ++ [] ∷ [] ≡ drop k all → IsReady size progress.current lines → meaning_of_lines profile all ≡ Ok (deck_after (fold after_line progress lines))
  read_rest size all [] k progress b is h e ready =
      let next = next_line all ([] ∷ []) [] k [] e refl in
      let blank = read_blank profile all k progress b h next.within next.here in
      let long = ap length next.behind in
      read_all profile all (k + 1) progress b blank (at_end k (length all) (omega (arith, long, length-drop (k + 1) all)) next.within)
    where
      at_end : (k n : ℕ) → n ≤ k + 1 → k < n → k + 1 ≡ n
      at_end k n le lt = omega (arith, le, lt)
  read_rest size all (line ∷ lines) k progress b is h e ready =
      let next = next_line all (fields_said line ∷ (map fields_said lines ++ [] ∷ [])) (map fields_said lines ++ [] ∷ []) k (fields_said line) e refl in
      let reads : line_after profile (size_of all) b (is_some progress.current) (get_or all k []) ≡ Ok line =
      ap (λ (n : ℕ). line_after profile n b (is_some progress.current) (get_or all k [])) is ∙ ap (line_after profile size b (is_some progress.current)) next.here ∙ ready.0 b in
      let more = read_more profile all k progress b line h next.within reads in
      let Q : Option ℕ → Type 0 = λ c. IsReady size c lines in
      read_rest size all lines (k + 1) (after_line progress line) _ is more next.behind (subst Q (sym (ap (λ (p : Progress). p.current) (after_line_parts progress line))) ready.1)

  -- a line that says the size of central memory, behind lines without fields, and then others
  read_from : (n k : ℕ) (lines : List Line) (all : List (List (List ℕ))) → size_of all ≡ n → ReadTo profile all k (before_lines profile (size_of all)) false → fields_said (central_size n) ∷ (map fields_said lines ++ [] ∷ []) ≡ drop k all
      → 1 ≤ n → n ≤ 0o400000 → IsReady n None lines → meaning_of_lines profile all ≡ Ok (loaded profile n (central_size n ∷ lines))
  unfolding after_lines before_lines after_line progress_of
  read_from n k lines all is begun left least most ready =
      let next = next_line all (fields_said (central_size n) ∷ (map fields_said lines ++ [] ∷ [])) (map fields_said lines ++ [] ∷ []) k (fields_said (central_size n)) left refl in
      let reads : line_after profile (size_of all) false false (get_or all k []) ≡ Ok (central_size n) = ap (line_after profile (size_of all) false false) next.here ∙ central_size_read profile (size_of all) n false least most in
      let first = read_more profile all k (before_lines profile (size_of all)) false (central_size n) begun next.within reads in
      read_rest n all lines (k + 1) (after_line (before_lines profile (size_of all)) (central_size n)) _ is first next.behind ready
      ∙ ap (λ (size : ℕ). Ok (deck_after (fold after_line (before_lines profile size) (central_size n ∷ lines)))) is
      ∙ ap (λ (p : Progress). Ok (deck_after p)) (after_lines_is profile n (central_size n ∷ lines))

  -- as the first line of all
  pub read_lines : (n : ℕ) (lines : List Line) → 1 ≤ n → n ≤ 0o400000 → IsReady n None lines → meaning_of_lines profile (map fields_said (central_size n ∷ lines) ++ [] ∷ []) ≡ Ok (loaded profile n (central_size n ∷ lines))
  read_lines n lines least most ready =
      let all = fields_said (central_size n) ∷ (map fields_said lines ++ [] ∷ []) in
      read_from n 0 lines all (size_read n (map fields_said lines ++ [] ∷ []) least most) (read_none profile all (before_lines profile (size_of all)) refl) refl least most ready

  -- and as the second, behind one without fields
  pub read_behind : (n : ℕ) (lines : List Line) → 1 ≤ n → n ≤ 0o400000 → IsReady n None lines → meaning_of_lines profile ([] ∷ (map fields_said (central_size n ∷ lines) ++ [] ∷ [])) ≡ Ok (loaded profile n (central_size n ∷ lines))
  read_behind n lines least most ready =
      let rest = fields_said (central_size n) ∷ (map fields_said lines ++ [] ∷ []) in
      let all = [] ∷ rest in
      let none = read_none profile all (before_lines profile (size_of all)) refl in
      read_from n 1 lines all (size_behind rest ∙ size_read n (map fields_said lines ++ [] ∷ []) least most) (read_blank profile all 0 (before_lines profile (size_of all)) false none (omega arith) refl) refl least most ready
