-- What a line gives, by its fields.
use Rattle.std.proofs.Common.{◌≡◌, ℕ, ◌+◌, ◌-◌, ◌<◌, ◌≤◌, ◌^◌, Bool, true, false, List, [], ◌∷◌, ◌++◌, length, get_or, map, Option, Some, None, Result, Ok, Err, refl, sym, ap, ◌∙◌, arith, append_assoc, inl, inr}
use Rattle.std.specs.Prelude.{IfSome, IsSome, IsTrue, ◌↔◌, if◌then◌else◌, ◌&&◌, nat_le, bytes_eq, codes, slice_index, unwrap_or}
use Rattle.std.specs.Char.{is_ascii_digit}
use Rattle.std.proofs.lemmas.Bool.{cases_lt}
use Rattle.std.proofs.lemmas.List.{length-map}
use Rattle.std.proofs.lemmas.Slice.Eq.{bytes_eq-Decides}
use Rattle.pp_word.specs.Address.{place_count}
use Rattle.pp_deck.specs.DeckLine.{Line, ◌>>=◌, central_line, central_size, central_words, central_words_line, dead_start, ends_with, keyword_of, line_after, nothing, section, section_line, start, start_from, start_line, words, words_in}
use Rattle.pp_deck.specs.DeckMeaning.{begins_section, size_of}
use Rattle.pp_deck.specs.Flaw.{code_of}
use Rattle.pp_deck.specs.declared.deck_fault.DeckCode.{DeckCode}
use Rattle.pp_deck.proofs.RangeLemmas.{Holds, IsKnown, line_holds, size_in_range}
use Rattle.pp_text.proofs.PrintingLemmas.{range_flat}
use Rattle.pp_lint.specs.FieldAtFault.{fault_in}
use Rattle.pp_lint.specs.FirstLines.{IsOfProcessor, IsRow}
use Rattle.pp_lint.specs.LineFault.{before_line, fault_after, said_after}
use Rattle.pp_lint.specs.RowOfLine.{Gives, central_row, named_row, place_in_second, start_row, words_row}
use Rattle.pp_instructions.specs.WordsInFields.{word_in, words_in_fields}
use Rattle.pp_lint.specs.declared.{line_fault.Before.Before, row.Kind.Kind, row.Row.Row}
use Rattle.pp_lint.specs.declared.row.Kind.TheVariants.{Central, Dead, Fault, Name}
use Rattle.pp_lint.proofs.FindingLemmas.{begins_is, fields_at}
use Rattle.pp_lint.proofs.WordsLemmas.{words_have_room, words_said}
use Rattle.std.specs.List.{flat_map, range_with_len}
use Rattle.std.specs.Result.{result_ok}
use Rattle.pp_word.specs.Numeral.{numeral}
use Rattle.pp_numbers.specs.Profile.{has_processor}
use Rattle.pp_numbers.specs.declared.profile.Profile.{Profile}
use Rattle.pp_deck.specs.DeckText.{Field, Fields, fields_of}
use Rattle.pp_deck.specs.OctalNumber.{number}
use Rattle.pp_lint.specs.Given.{given, given_at, named_by, notes, notes_at, notes_of, notes_within, row, said_as_line, said_at, section_at, start_place}

-- ---- the processor that a `PP` line names

pub named_empty : (profile : Profile) → None ≡ named_by (result_ok (section_line profile []))
unfolding section_line
named_empty profile = refl

pub named_bad : (profile : Profile) (field : Field) (more : Fields) → numeral 8 2 field ≡ None → None ≡ named_by (result_ok (section_line profile (field ∷ more)))
unfolding section_line number
named_bad profile field more bad = rw bad refl

none_either : {F : Type 0} (b : Bool) (one other : Result Line F) → named_by (result_ok one) ≡ None → named_by (result_ok other) ≡ None → None ≡ named_by (result_ok (if b then one else other))
none_either true one other on off = sym on
none_either false one other on off = sym off

named_long_by : (o : Option ℕ) (profile : Profile) (field next : Field) (more : Fields) → numeral 8 2 field ≡ o → None ≡ named_by (result_ok (section_line profile (field ∷ next ∷ more)))
unfolding section_line number
named_long_by None profile field next more is = rw is refl
named_long_by (Some n) profile field next more is = rw is (none_either (has_processor profile n) _ _ refl refl)

pub named_long : (profile : Profile) (field next : Field) (more : Fields) → None ≡ named_by (result_ok (section_line profile (field ∷ next ∷ more)))
named_long profile field next more = named_long_by _ profile field next more refl

found_either : {F : Type 0} (b : Bool) (one other : Result Line F) (o : Option ℕ) (n : ℕ) → (IsSome o ↔ IsTrue b) → IfSome o (λ m. m ≡ n) → named_by (result_ok one) ≡ Some n → named_by (result_ok other) ≡ None
    → o ≡ named_by (result_ok (if b then one else other))
found_either true one other (Some m) n exists value on off = ap Some value ∙ sym on
found_either true one other None n exists value on off = let some = exists.1 refl in absurd (cc)
found_either false one other (Some m) n exists value on off = let true_false = exists.0 refl in absurd (cc)
found_either false one other None n exists value on off = sym off

pub named_one : (profile : Profile) (field : Field) (n : ℕ) (o : Option ℕ) → numeral 8 2 field ≡ Some n → (IsSome o ↔ IsTrue (has_processor profile n)) → IfSome o (λ m. m ≡ n)
    → o ≡ named_by (result_ok (section_line profile (field ∷ [])))
unfolding section_line number
named_one profile field n o is exists value = rw is (found_either (has_processor profile n) _ _ o n exists value refl refl)

-- ---- a line without a fault

given_nothing : (s : Option ℕ) → row Fault 0 0 ≡ given s (Some nothing)
unfolding given
given_nothing None = refl
given_nothing (Some n) = refl

given_size : (s : Option ℕ) (size : ℕ) → row Fault 0 0 ≡ given s (Some (central_size size))
unfolding given
given_size None size = refl
given_size (Some n) size = refl

given_dead : (s : Option ℕ) → row Dead 0 1 ≡ given s (Some dead_start)
unfolding given
given_dead None = refl
given_dead (Some n) = refl

given_central : (s : Option ℕ) (a : ℕ) (ws : List ℕ) → row Central a (length ws) ≡ given s (Some (central_words a ws))
unfolding given
given_central None a ws = refl
given_central (Some n) a ws = refl

given_section : (s : Option ℕ) (n : ℕ) → row (Name n) 0 1 ≡ given s (Some (section n))
unfolding given
given_section None n = refl
given_section (Some m) n = refl

given_start : (s : Option ℕ) (p a : ℕ) → start_row s ≡ given s (Some (start p a))
unfolding given
given_start None p a = refl
given_start (Some n) p a = refl

given_words : (s : Option ℕ) (first : Field) (fields : Fields) (x : ℕ) (ws : List ℕ) → word_in first ≡ x → length ws ≡ length fields → words_row s first fields ≡ given s (Some (words x ws))
unfolding given
given_words None first fields x ws is each = refl
given_words (Some n) first fields x ws is each = rw (is, each) refl

given_fault : (s : Option ℕ) → row Fault 0 1 ≡ given s None
unfolding given
given_fault None = refl
given_fault (Some n) = refl

read_central : (b : Before) (first : Field) (rest : Fields) → bytes_eq first (codes "CM") ≡ true → line_after b.profile b.size b.is_after_fields b.is_in_section (first ∷ rest) ≡ central_words_line b.size rest
unfolding line_after keyword_of
read_central b first rest is = rw ((bytes_eq-Decides first (codes "CM")).0 is) refl

read_section : (b : Before) (first : Field) (rest : Fields) → bytes_eq first (codes "PP") ≡ true → line_after b.profile b.size b.is_after_fields b.is_in_section (first ∷ rest) ≡ section_line b.profile rest
unfolding line_after keyword_of
read_section b first rest is = rw ((bytes_eq-Decides first (codes "PP")).0 is) refl

-- ---- central words

record IsCentralLine (size : ℕ) (rest : Fields) (said : Option Line) : Type 0 where
  address : ℕ
  ws : List ℕ
  is : said ≡ Some (central_words address ws)
  row_is : central_row rest ≡ row Central address (length ws)
  within : (i : ℕ) → i < length ws → address + i < size

central_of : (size a : ℕ) (past : _) (field : Field) (more : Fields) (read : Result (List ℕ) _) → numeral 8 6 field ≡ Some a → words_in 20 a size past more ≡ read
    → fault_in code_of (read >>= λ ws. Ok (central_words a ws)) ≡ None → IsCentralLine size (field ∷ more) (result_ok (read >>= λ ws. Ok (central_words a ws)))
central_of size a past field more (Err flaw) at is none = absurd (cc)
central_of size a past field more (Ok ws) at is none =
    let room = words_have_room 20 a size past more ws is in
    record {
      address = a;
      ws = ws;
      is = refl;
      row_is = rw (at, room.each) refl;
      within = λ i below. room.within i (omega (arith, below, room.each));
    }

central_read : (size : ℕ) (field : Field) (more : Fields) (o : Option ℕ) → numeral 8 6 field ≡ o → fault_in code_of (central_words_line size (field ∷ more)) ≡ None → IsCentralLine size (field ∷ more) (result_ok (central_words_line size (field ∷ more)))
unfolding central_words_line number
central_read size field more None at none = absurd (let bad = rw at at none in cc)
central_read size field more (Some a) at none = rw at (central_of size a _ field more _ at refl (rw at at none))

central_says : (size : ℕ) (rest : Fields) → fault_in code_of (central_words_line size rest) ≡ None → IsCentralLine size rest (result_ok (central_words_line size rest))
unfolding central_words_line
central_says size [] none = absurd (cc)
central_says size (field ∷ more) none = central_read size field more _ refl none

-- ---- rows

in_all : (first count end : ℕ) → ((i : ℕ) → i < count → first + i < end) → first < 2 ^ 18 → end ≤ 2 ^ 17 → first + count ≤ 2 ^ 18
in_all first count end within small most = elim (cases_lt 0 count) [
  | inl some ↦ let last = within (count - 1) (omega (arith, some)) in omega (arith, last, most, some)
  | inr none ↦ omega (arith, none, small)
]

pub blank_gives : (b : Before) (fields : Fields) → fields ≡ [] → row Fault 0 0 ≡ given b.section (said_after b fields)
unfolding line_after
blank_gives b fields blank = rw blank (given_nothing b.section)

pub central_gives : (b : Before) (fields : Fields) (first : Field) (rest : Fields) → fields ≡ first ∷ rest → bytes_eq first (codes "CM") ≡ true → fault_after b fields ≡ None
    → (central_row rest ≡ given b.section (said_after b fields)) × ((central_row rest).first < 2 ^ 18 → b.size ≤ 2 ^ 17 → IsRow (central_row rest))
central_gives b fields first rest is keyword none =
    let read = ap (line_after b.profile b.size b.is_after_fields b.is_in_section) is ∙ read_central b first rest keyword in
    let line = central_says b.size rest (ap (fault_in code_of) (sym read) ∙ none) in
    let room : (central_row rest).first < 2 ^ 18 → b.size ≤ 2 ^ 17 → IsRow (central_row rest) = rw line.row_is (λ small most. record {
      small = in_all line.address (length line.ws) b.size line.within small most;
      things = λ i below. record { within = let inside = line.within i below in omega (arith, inside, most); processor = tt };
    }) in
    (line.row_is ∙ given_central b.section line.address line.ws ∙ ap (given b.section) (sym (ap result_ok read ∙ line.is)), room)

-- ---- `PP n`

section_by : (profile : Profile) (s : Option ℕ) (r : Result Line _) → Holds (IsKnown profile true) r → fault_in code_of r ≡ None → named_row (named_by (result_ok r)) ≡ given s (result_ok r)
section_by profile s (Err flaw) known none = absurd (cc)
section_by profile s (Ok nothing) known none = absurd (let same = known.0 in cc)
section_by profile s (Ok (central_size n)) known none = absurd (let same = known.0 in cc)
section_by profile s (Ok (central_words a ws)) known none = absurd (let same = known.0 in cc)
section_by profile s (Ok (section n)) known none = given_section s n
section_by profile s (Ok (start p a)) known none = absurd (let same = known.0 in cc)
section_by profile s (Ok (words x ws)) known none = absurd (let same = known.0 in cc)
section_by profile s (Ok dead_start) known none = absurd (let same = known.0 in cc)

pub section_gives : (b : Before) (fields : Fields) (first : Field) (rest : Fields) → fields ≡ first ∷ rest → bytes_eq first (codes "PP") ≡ true → fault_after b fields ≡ None
    → named_row (named_by (result_ok (section_line b.profile rest))) ≡ given b.section (said_after b fields)
section_gives b fields first rest is keyword none =
    let read = ap (line_after b.profile b.size b.is_after_fields b.is_in_section) is ∙ read_section b first rest keyword in
    let begins : begins_section fields ≡ true = ap begins_section is ∙ begins_is first rest ∙ keyword in
    ap (λ r. named_row (named_by (result_ok r))) (sym read)
    ∙ section_by b.profile b.section _ (rw begins at (line_holds b.profile b.size b.is_after_fields b.is_in_section fields)) none

-- ---- `START p a`

pub record IsStartLine (rest : Fields) (said : Option Line) : Type 0 where
  pub p : ℕ
  pub a : ℕ
  pub is : said ≡ Some (start p a)
  pub at : (keyword : Field) → place_in_second (keyword ∷ rest) ≡ p

start_ends : (p a : ℕ) (field next : Field) (more : Fields) → numeral 8 4 field ≡ Some p → fault_in code_of (ends_with (start p a) more) ≡ None
    → IsStartLine (field ∷ next ∷ more) (result_ok (ends_with (start p a) more))
start_ends p a field next [] at none = record { p = p; a = a; is = refl; at = λ keyword. ap (λ o. unwrap_or o 0) at }
start_ends p a field next (one ∷ more) at none = absurd (cc)

start_with : (o : Option ℕ) (p : ℕ) (field next : Field) (more : Fields) → numeral 8 4 field ≡ Some p → numeral 8 6 next ≡ o → fault_in code_of (start_from p (next ∷ more)) ≡ None
    → IsStartLine (field ∷ next ∷ more) (result_ok (start_from p (next ∷ more)))
unfolding number
start_with None p field next more at is none = absurd (let bad = rw is at none in cc)
start_with (Some a) p field next more at is none = rw is (start_ends p a field next more at (rw is at none))

start_after : (p : ℕ) (field : Field) (more : Fields) → numeral 8 4 field ≡ Some p → fault_in code_of (start_from p more) ≡ None → IsStartLine (field ∷ more) (result_ok (start_from p more))
start_after p field [] at none = record { p = p; a = 0; is = refl; at = λ keyword. ap (λ o. unwrap_or o 0) at }
start_after p field (next ∷ more) at none = start_with _ p field next more at refl none

start_read : (o : Option ℕ) (field : Field) (more : Fields) → numeral 8 4 field ≡ o → fault_in code_of (start_line (field ∷ more)) ≡ None → IsStartLine (field ∷ more) (result_ok (start_line (field ∷ more)))
unfolding start_line number
start_read None field more at none = absurd (let bad = rw at at none in cc)
start_read (Some p) field more at none = rw at (start_after p field more at (rw at at none))

start_says : (rest : Fields) → fault_in code_of (start_line rest) ≡ None → IsStartLine rest (result_ok (start_line rest))
unfolding start_line
start_says [] none = absurd (cc)
start_says (field ∷ more) none = start_read _ field more refl none

start_in : (b : Bool) (rest : Fields) (early : _) → fault_in code_of (if b then start_line rest else Err early) ≡ None → IsStartLine rest (result_ok (if b then start_line rest else Err early))
start_in true rest early none = start_says rest none
start_in false rest early none = absurd (cc)

pub start_said : (b : Before) (first : Field) (rest : Fields) → bytes_eq first (codes "START") ≡ true → fault_after b (first ∷ rest) ≡ None → IsStartLine rest (said_after b (first ∷ rest))
unfolding line_after keyword_of
start_said b first rest is none = let same = (bytes_eq-Decides first (codes "START")).0 is in rw same (start_in b.is_in_section rest _ (rw same at none))

pub start_gives : (b : Before) (fields : Fields) (first : Field) (rest : Fields) → fields ≡ first ∷ rest → bytes_eq first (codes "START") ≡ true → fault_after b fields ≡ None
    → start_row b.section ≡ given b.section (said_after b fields)
start_gives b fields first rest is keyword none =
    let line = start_said b first rest keyword (rw is at none) in
    given_start b.section line.p line.a ∙ ap (given b.section) (sym (ap (said_after b) is ∙ line.is))

-- ---- `x w w ..`

row_has_room : (s : Option ℕ) (first : Field) (rest : Fields) (x : ℕ) → word_in first ≡ x → ((i : ℕ) → i < length rest → x + i < place_count) → IsOfProcessor (words_row s first rest).kind
    → (words_row s first rest).first < 2 ^ 18 → IsRow (words_row s first rest)
row_has_room None first rest x is room names small = record { small = omega arith; things = λ i below. absurd (omega (arith, below)) }
row_has_room (Some n) first rest x is room names small = record {
  small = in_all (word_in first) (length rest) place_count (λ i below. let inside = room i below in omega (arith, inside, is)) small (omega arith);
  things = λ i below. record { within = let inside = room i below in omega (arith, inside, is); processor = names };
}

pub words_give : (b : Before) (fields : Fields) (first : Field) (rest : Fields) → fields ≡ first ∷ rest → is_ascii_digit (slice_index first 0) ≡ true → fault_after b fields ≡ None
    → (words_row b.section first rest ≡ given b.section (said_after b fields))
    × (IsOfProcessor (words_row b.section first rest).kind → (words_row b.section first rest).first < 2 ^ 18 → IsRow (words_row b.section first rest))
words_give b fields first rest is digit none =
    let line = words_said b first rest (rw is at none) digit in
    let x : word_in first ≡ line.place = ap (λ o. unwrap_or o 0) line.at in (
      given_words b.section first rest line.place (words_in_fields rest) x (length-map rest word_in) ∙ ap (given b.section) (sym (ap (said_after b) is ∙ line.is)),
      row_has_room b.section first rest line.place x line.room,
    )

-- ---- a line of another kind

abbrev GivesNothing : {F : Type 0} → Option ℕ → (F → DeckCode) → Result Line F → Type 0
GivesNothing s code r = fault_in code r ≡ None → row Fault 0 0 ≡ given s (result_ok r)

nothing_at_end : (s : Option ℕ) (line : Line) (more : Fields) → row Fault 0 0 ≡ given s (Some line) → GivesNothing s code_of (ends_with line more)
nothing_at_end s line [] gives = λ none. gives
nothing_at_end s line (field ∷ more) gives = λ none. absurd (cc)

nothing_if : (s : Option ℕ) (b : Bool) (r : Result Line _) (flaw : _) → GivesNothing s code_of r → GivesNothing s code_of (if b then r else Err flaw)
nothing_if s true r flaw gives = gives
nothing_if s false r flaw gives = λ none. absurd (cc)

nothing_unless : (s : Option ℕ) (b : Bool) (r : Result Line _) (flaw : _) → GivesNothing s code_of r → GivesNothing s code_of (if b then Err flaw else r)
nothing_unless s true r flaw gives = λ none. absurd (cc)
nothing_unless s false r flaw gives = gives

size_by_number : (s : Option ℕ) (o : Option ℕ) (field : Field) (more : Fields) → numeral 8 6 field ≡ o → GivesNothing s code_of (central_line (field ∷ more))
unfolding central_line number
size_by_number s None field more is = rw is (λ none. absurd (cc))
size_by_number s (Some n) field more is = rw is (nothing_if s (nat_le 1 n && nat_le n 0o400000) (ends_with (central_size n) more) _ (nothing_at_end s (central_size n) more (given_size s n)))

size_gives : (s : Option ℕ) (rest : Fields) → GivesNothing s code_of (central_line rest)
unfolding central_line
size_gives s [] = λ none. absurd (cc)
size_gives s (field ∷ more) = size_by_number s _ field more refl

others_by : (b : Before) (first : Field) (rest : Fields) (central : Bool)
    → bytes_eq first (codes "CENTRAL") ≡ central → bytes_eq first (codes "CM") ≡ false → bytes_eq first (codes "PP") ≡ false → bytes_eq first (codes "START") ≡ false → bytes_eq first (codes "DEAD") ≡ false
    → is_ascii_digit (slice_index first 0) ≡ false → fault_after b (first ∷ rest) ≡ None → row Fault 0 0 ≡ given b.section (said_after b (first ∷ rest))
unfolding line_after keyword_of
others_by b first rest true is1 is2 is3 is4 is5 digit = rw is1 (nothing_unless b.section b.is_after_fields (central_line rest) _ (size_gives b.section rest))
others_by b first rest false is1 is2 is3 is4 is5 digit = rw (is1, is2, is3, is4, is5, digit) (λ none. absurd (cc))

pub others_give : (b : Before) (fields : Fields) (first : Field) (rest : Fields) → fields ≡ first ∷ rest → bytes_eq first (codes "CM") ≡ false → bytes_eq first (codes "PP") ≡ false → bytes_eq first (codes "START") ≡ false
    → bytes_eq first (codes "DEAD") ≡ false → is_ascii_digit (slice_index first 0) ≡ false → fault_after b fields ≡ None → row Fault 0 0 ≡ given b.section (said_after b fields)
others_give b fields first rest is is2 is3 is4 is5 digit none =
    rw is (others_by b first rest _ refl is2 is3 is4 is5 digit (rw is at none))

-- ---- `DEAD`

read_dead : (b : Before) (first : Field) (rest : Fields) → bytes_eq first (codes "DEAD") ≡ true → line_after b.profile b.size b.is_after_fields b.is_in_section (first ∷ rest) ≡ ends_with dead_start rest
unfolding line_after keyword_of
read_dead b first rest is = rw ((bytes_eq-Decides first (codes "DEAD")).0 is) refl

dead_at_end : (s : Option ℕ) (more : Fields) → fault_in code_of (ends_with dead_start more) ≡ None → row Dead 0 1 ≡ given s (result_ok (ends_with dead_start more))
dead_at_end s [] none = given_dead s
dead_at_end s (field ∷ more) none = absurd (cc)

pub dead_gives : (b : Before) (fields : Fields) (first : Field) (rest : Fields) → fields ≡ first ∷ rest → bytes_eq first (codes "DEAD") ≡ true → fault_after b fields ≡ None → row Dead 0 1 ≡ given b.section (said_after b fields)
dead_gives b fields first rest is keyword none =
    let read = ap (line_after b.profile b.size b.is_after_fields b.is_in_section) is ∙ read_dead b first rest keyword in
    dead_at_end b.section rest (ap (fault_in code_of) (sym read) ∙ none) ∙ ap (λ r. given b.section (result_ok r)) (sym read)

-- where a line starts its processor
pub start_is_second : (b : Before) (fields : Fields) (first : Field) (rest : Fields) → fields ≡ first ∷ rest → bytes_eq first (codes "START") ≡ true → fault_after b fields ≡ None
    → start_place (said_after b fields) ≡ place_in_second fields
start_is_second b fields first rest is keyword none =
    let line = start_said b first rest keyword (rw is at none) in
    ap start_place (ap (said_after b) is ∙ line.is) ∙ sym (line.at first) ∙ ap place_in_second (sym is)

-- ---- line by line

pub section_after_is : (b : Before) (fields : Fields) (first : Field) (rest : Fields) (t : Bool) → fields ≡ first ∷ rest → t ≡ bytes_eq first (codes "PP")
    → (if t then named_by (result_ok (section_line b.profile rest)) else b.section) ≡ (if bytes_eq first (codes "PP") then named_by (said_after b fields) else b.section)
section_after_is b fields first rest true is begins =
    rw (← begins) (sym (ap (λ r. named_by (result_ok r)) (ap (line_after b.profile b.size b.is_after_fields b.is_in_section) is ∙ read_section b first rest (sym begins))))
section_after_is b fields first rest false is begins = rw (← begins) refl

pub first_before : (profile : Profile) (lines : List Fields)
    → record { profile = profile; size = size_of lines; is_after_fields = false; is_in_section = false; section = None } ≡ before_line profile lines 0
unfolding section_at
first_before profile lines = refl

pub small_size : (profile : Profile) (lines : List Fields) (k : ℕ) (b : Before) → b ≡ before_line profile lines k → b.size ≤ 2 ^ 17
small_size profile lines k b is = rw is ((size_in_range lines).1)

pub given_here : (profile : Profile) (lines : List (List ℕ)) (k : ℕ) (line : List ℕ) (b : Before) → b ≡ before_line profile (map fields_of lines) k → k < length lines → get_or lines k [] ≡ line
    → given b.section (said_after b (fields_of line)) ≡ given_at profile (map fields_of lines) k
given_here profile lines k line b is within here =
    rw is (ap (λ fields. given (section_at profile (map fields_of lines) k) (said_as_line profile (map fields_of lines) k fields)) (sym (fields_at lines k within ∙ ap fields_of here)))

pub said_here : (profile : Profile) (lines : List (List ℕ)) (k : ℕ) (line : List ℕ) (b : Before) → b ≡ before_line profile (map fields_of lines) k → k < length lines → get_or lines k [] ≡ line
    → said_after b (fields_of line) ≡ said_at profile (map fields_of lines) k
said_here profile lines k line b is within here =
    rw is (ap (said_as_line profile (map fields_of lines) k) (sym (fields_at lines k within ∙ ap fields_of here)))

pub notes_more : (profile : Profile) (lines : List Fields) (k : ℕ) (row : Row) (said : Option Line) → row ≡ given_at profile lines k → said ≡ said_at profile lines k
    → (flat_map (notes_at profile lines) (range_with_len 0 k) ++ notes_of (k + 1) row) ++ notes_within (k + 1) profile row.kind said ≡ flat_map (notes_at profile lines) (range_with_len 0 (k + 1))
notes_more profile lines k row said is says =
    append_assoc (flat_map (notes_at profile lines) (range_with_len 0 k)) (notes_of (k + 1) row) (notes_within (k + 1) profile row.kind said)
    ∙ rw (is, says) (range_flat (notes_at profile lines) 0 k k (omega arith))

pub all_notes : (profile : Profile) (lines : List Fields) (k : ℕ) → k ≡ length lines → flat_map (notes_at profile lines) (range_with_len 0 k) ≡ notes profile lines
unfolding notes
all_notes profile lines k all = rw all refl

nothing_said : {F : Type 0} (code_in : F → DeckCode) (r : Result Line F) (code : DeckCode) → fault_in code_in r ≡ Some code → result_ok r ≡ None
nothing_said code_in (Ok line) code is = absurd (cc)
nothing_said code_in (Err flaw) code is = refl

pub fault_gives : (b : Before) (fields : Fields) (code : DeckCode) → fault_after b fields ≡ Some code → row Fault 0 1 ≡ given b.section (said_after b fields)
fault_gives b fields code is = given_fault b.section ∙ ap (given b.section) (sym (nothing_said code_of (line_after b.profile b.size b.is_after_fields b.is_in_section fields) code is))

fault_kind : (b : Before) (line : List ℕ) (kind : Kind) → kind ≡ Fault → Gives b line kind
fault_kind b line Fault is = record { clean = λ sets. absurd (cc); start = λ n start. absurd (cc) }
fault_kind b line kind is = absurd (cc)

pub fault_is_given : (b : Before) (line : List ℕ) (given : Row) → given ≡ row Fault 0 1 → Gives b line given.kind
fault_is_given b line given is = fault_kind b line given.kind (ap (λ (r : Row). r.kind) is)
