-- Faults of the lines of a deck, by their keywords.
use Rattle.std.proofs.Common.{◌≡◌, ℕ, ◌+◌, ◌<◌, ◌≤◌, true, false, [], ◌∷◌, Option, Some, None, Result, Ok, Err, refl, ◌∙◌, arith}
use Rattle.std.specs.Prelude.{◌≢◌, ◌&&◌, bytes_eq, codes, nat_le, slice_index}
use Rattle.std.specs.Char.{is_ascii_digit}
use Rattle.std.proofs.lemmas.Bool.{le-ltb, lt-ltb}
use Rattle.pp_word.specs.Numeral.{numeral}
use Rattle.pp_word.specs.Address.{place_count}
use Rattle.pp_numbers.specs.Profile.{has_processor}
use Rattle.pp_numbers.specs.declared.profile.Profile.{Profile}
use Rattle.pp_deck.specs.DeckLine.{◌>>=◌, central_line, central_size, central_words, central_words_line, dead_start, ends_with, keyword_of, line_after, section, section_line, start, start_from, start_line, words, words_in, words_line}
use Rattle.pp_deck.specs.Flaw.{code_of}
use Rattle.pp_deck.specs.DeckText.{Field, Fields}
use Rattle.pp_deck.specs.OctalNumber.{number}
use Rattle.pp_deck.specs.declared.deck_fault.DeckCode.{DeckCode}
use Rattle.pp_lint.specs.FieldAtFault.{fault_in, fault_number}
use Rattle.pp_lint.specs.LineFault.{BeginWithNumber, HasFault, IsFaultOf, IsFaultOfLine, fault_after, fault_of_words}
use Rattle.pp_lint.specs.declared.{line_fault.Before.Before, line_fault.Fault.Fault}
use Rattle.pp_lint.proofs.FaultLemmas.{fault_first, fault_here, fault_later, fault_on}

-- ---- the number behind a keyword

pub differs : (code : DeckCode) (fault : Option DeckCode) → fault ≡ None → fault_number fault ≢ fault_number (Some code)
differs code fault none = grind (arith, none)

pub number_refused : (fault_of : Fields → Option DeckCode) (fields : Fields) (field : Field) (rest : Fields) (code : DeckCode)
    → fields ≡ field ∷ rest → ((more : Fields) → fault_of (field ∷ more) ≡ Some code) → fault_number (fault_of []) ≢ fault_number (Some code)
    → IsFaultOfLine fault_of fields (Some (record { code = code; field = 1 }))
number_refused fault_of fields field rest code is refused other = λ keyword fault_of_line blank same.
    rw is (fault_later fault_of_line fault_of keyword (field ∷ rest) 0 1 (Some (record { code = code; field = 1 })) same refl (fault_here fault_of field rest 1 code refused other))

pub bad_number : (most : ℕ) (fault_of : Fields → Option DeckCode) (fields : Fields) (field : Field) (rest : Fields) → BeginWithNumber most fault_of
    → fields ≡ field ∷ rest → numeral 8 most field ≡ None
    → IsFaultOfLine fault_of fields (Some (record { code = DeckCode.BadDigits; field = 1 }))
bad_number most fault_of fields field rest begins is bad =
    number_refused fault_of fields field rest DeckCode.BadDigits is (λ more. begins.bad field more bad) (rw begins.missing (λ e. cc))

pub number_read : (fault_of later : Fields → Option DeckCode) (fields : Fields) (field : Field) (rest : Fields) (fault : Option Fault)
    → fields ≡ field ∷ rest → ((more : Fields) → fault_of (field ∷ more) ≡ later more) → IsFaultOf later rest 2 fault
    → IsFaultOfLine fault_of fields fault
number_read fault_of later fields field rest fault is read has = λ keyword fault_of_line blank same.
    rw is (fault_later fault_of_line fault_of keyword (field ∷ rest) 0 1 fault same refl
    (fault_later fault_of later field rest 1 2 fault read refl has))

-- ---- `CENTRAL n`

pub central_begins : BeginWithNumber 6 (λ more. fault_in code_of (central_line more))
unfolding central_line number
central_begins = record { missing = refl; bad = λ field more bad. grind (arith, bad) }

pub central_refused : (field : Field) (more : Fields) (n : ℕ) → numeral 8 6 field ≡ Some n → (nat_le 1 n && nat_le n 0o400000) ≡ false
    → fault_in code_of (central_line (field ∷ more)) ≡ Some DeckCode.CentralRange
unfolding central_line number
central_refused field more n is out = grind (arith, is, out)

pub central_out : (fields : Fields) (field : Field) (rest : Fields) (n : ℕ) → fields ≡ field ∷ rest → numeral 8 6 field ≡ Some n → (nat_le 1 n && nat_le n 0o400000) ≡ false
    → IsFaultOfLine (λ more. fault_in code_of (central_line more)) fields (Some (record { code = DeckCode.CentralRange; field = 1 }))
central_out fields field rest n begins is out =
    number_refused (λ more. fault_in code_of (central_line more)) fields field rest DeckCode.CentralRange begins
    (λ more. central_refused field more n is out) (rw central_begins.missing (λ e. cc))

pub central_read : (field : Field) (more : Fields) (n : ℕ) → numeral 8 6 field ≡ Some n → (nat_le 1 n && nat_le n 0o400000) ≡ true
    → fault_in code_of (central_line (field ∷ more)) ≡ fault_in code_of (ends_with (central_size n) more)
unfolding central_line number
central_read field more n is within = grind (arith, is, within)

-- ---- `PP n`

pub section_begins : (profile : Profile) → BeginWithNumber 2 (λ more. fault_in code_of (section_line profile more))
unfolding section_line number
section_begins profile = record { missing = refl; bad = λ field more bad. grind (arith, bad) }

pub section_refused : (profile : Profile) (field : Field) (more : Fields) (n : ℕ) → numeral 8 2 field ≡ Some n → has_processor profile n ≡ false
    → fault_in code_of (section_line profile (field ∷ more)) ≡ Some DeckCode.BadProcessor
unfolding section_line number
section_refused profile field more n is lacks = grind (arith, is, lacks)

pub section_lacks : (profile : Profile) (fields : Fields) (field : Field) (rest : Fields) (n : ℕ) → fields ≡ field ∷ rest → numeral 8 2 field ≡ Some n → has_processor profile n ≡ false
    → IsFaultOfLine (λ more. fault_in code_of (section_line profile more)) fields (Some (record { code = DeckCode.BadProcessor; field = 1 }))
section_lacks profile fields field rest n begins is lacks =
    number_refused (λ more. fault_in code_of (section_line profile more)) fields field rest DeckCode.BadProcessor begins
    (λ more. section_refused profile field more n is lacks) (rw (section_begins profile).missing (λ e. cc))

pub section_read : (profile : Profile) (field : Field) (more : Fields) (n : ℕ) → numeral 8 2 field ≡ Some n → has_processor profile n ≡ true
    → fault_in code_of (section_line profile (field ∷ more)) ≡ fault_in code_of (ends_with (section n) more)
unfolding section_line number
section_read profile field more n is has = grind (arith, is, has)

-- ---- `START p a`

pub start_begins : BeginWithNumber 4 (λ more. fault_in code_of (start_line more))
unfolding start_line number
start_begins = record { missing = refl; bad = λ field more bad. grind (arith, bad) }

pub start_read : (field : Field) (more : Fields) (p : ℕ) → numeral 8 4 field ≡ Some p
    → fault_in code_of (start_line (field ∷ more)) ≡ fault_in code_of (start_from p more)
unfolding start_line number
start_read field more p is = grind (arith, is)

pub a_refused : (p : ℕ) (field : Field) (more : Fields) → numeral 8 6 field ≡ None → fault_in code_of (start_from p (field ∷ more)) ≡ Some DeckCode.BadDigits
unfolding number
a_refused p field more bad = grind (arith, bad)

pub a_read : (p a : ℕ) (field : Field) (more : Fields) → numeral 8 6 field ≡ Some a
    → fault_in code_of (start_from p (field ∷ more)) ≡ fault_in code_of (ends_with (start p a) more)
unfolding number
a_read p a field more is = grind (arith, is)

-- ---- words

-- the fault of what is made of something read is that of reading it
made : {A B : Type 0} (read : Result A _) (use_of : A → B) → fault_in code_of (read >>= λ x. Ok (use_of x)) ≡ fault_in code_of read
made (Ok x) use_of = refl
made (Err flaw) use_of = refl

pub words_faults : (most place end : ℕ) (past : _) (more : Fields) → fault_in code_of (words_in most place end past more) ≡ fault_of_words most end (code_of past) place more
unfolding words_in number
words_faults most place end past [] = refl
words_faults most place end past (field ∷ more) = grind (arith, words_faults most (place + 1) end past more)

-- `x w w ..`
pub words_line_read : (field : Field) (more : Fields) (x : ℕ) → numeral 8 4 field ≡ Some x → fault_in code_of (words_line field more) ≡ fault_of_words 4 place_count DeckCode.PastEnd x more
unfolding words_line number
words_line_read field more x is = rw is (made (words_in 4 x place_count _ more) (words x) ∙ words_faults 4 x place_count _ more)

pub words_line_refused : (field : Field) (more : Fields) → numeral 8 4 field ≡ None → fault_in code_of (words_line field more) ≡ Some DeckCode.BadDigits
unfolding words_line number
words_line_refused field more bad = grind (arith, bad)

-- `CM a w w ..`
pub central_words_begin : (size : ℕ) → BeginWithNumber 6 (λ more. fault_in code_of (central_words_line size more))
unfolding central_words_line number
central_words_begin size = record { missing = refl; bad = λ field more bad. grind (arith, bad) }

pub central_words_read : (size : ℕ) (field : Field) (more : Fields) (a : ℕ) → numeral 8 6 field ≡ Some a
    → fault_in code_of (central_words_line size (field ∷ more)) ≡ fault_of_words 20 size DeckCode.CentralRange a more
unfolding central_words_line number
central_words_read size field more a is = rw is (made (words_in 20 a size _ more) (central_words a) ∙ words_faults 20 a size _ more)

-- ---- words one by one

pub bad_word : (most end place : ℕ) (past : DeckCode) (field : Field) (more : Fields) → numeral 8 most field ≡ None → fault_of_words most end past place (field ∷ more) ≡ Some DeckCode.BadDigits
bad_word most end place past field more bad = grind (arith, bad)

pub word_beyond : (most end place word : ℕ) (past : DeckCode) (field : Field) (more : Fields) → numeral 8 most field ≡ Some word → end ≤ place
    → fault_of_words most end past place (field ∷ more) ≡ Some past
word_beyond most end place word past field more is out = grind (arith, is, out, le-ltb)

pub next_word : (most end place word : ℕ) (past : DeckCode) (field : Field) (more : Fields) → numeral 8 most field ≡ Some word → place < end
    → fault_of_words most end past place (field ∷ more) ≡ fault_of_words most end past (place + 1) more
next_word most end place word past field more is within = grind (arith, is, within, lt-ltb)

-- ---- what a step of the reading comes to

pub word_bad : (most end place number : ℕ) (past : DeckCode) (fields : Fields) (field : Field) (rest : Fields) → fields ≡ field ∷ rest → numeral 8 most field ≡ None
    → IsFaultOf (fault_of_words most end past place) fields number (Some (record { code = DeckCode.BadDigits; field = number }))
word_bad most end place number past fields field rest begins bad =
    fault_first (fault_of_words most end past place) fields field rest number DeckCode.BadDigits begins (λ more. bad_word most end place past field more bad) (differs DeckCode.BadDigits None refl)

pub word_past : (most end place word number : ℕ) (past : DeckCode) (fields : Fields) (field : Field) (rest : Fields) → fields ≡ field ∷ rest → numeral 8 most field ≡ Some word → end ≤ place
    → IsFaultOf (fault_of_words most end past place) fields number (Some (record { code = past; field = number }))
word_past most end place word number past fields field rest begins is out =
    fault_first (fault_of_words most end past place) fields field rest number past begins (λ more. word_beyond most end place word past field more is out) (differs past None refl)

pub word_then : (most end place word number : ℕ) (past : DeckCode) (fields : Fields) (field : Field) (rest : Fields) (fault : Option Fault) → fields ≡ field ∷ rest → numeral 8 most field ≡ Some word → place < end
    → IsFaultOf (fault_of_words most end past (place + 1)) rest (number + 1) fault → IsFaultOf (fault_of_words most end past place) fields number fault
word_then most end place word number past fields field rest fault begins is within has =
    fault_on (fault_of_words most end past place) (fault_of_words most end past (place + 1)) fields field rest number (number + 1) fault begins (λ more. next_word most end place word past field more is within) refl has

pub words_end : (most end place number : ℕ) (past : DeckCode) (fields : Fields) → fields ≡ [] → IsFaultOf (fault_of_words most end past place) fields number None
words_end most end place number past fields none = rw none refl

pub start_a_bad : (p : ℕ) (fields : Fields) (field : Field) (rest : Fields) → fields ≡ field ∷ rest → numeral 8 6 field ≡ None
    → IsFaultOf (λ more. fault_in code_of (start_from p more)) fields 2 (Some (record { code = DeckCode.BadDigits; field = 2 }))
start_a_bad p fields field rest begins bad =
    fault_first (λ more. fault_in code_of (start_from p more)) fields field rest 2 DeckCode.BadDigits begins (λ more. a_refused p field more bad) (differs DeckCode.BadDigits None refl)

pub start_a_read : (p a : ℕ) (fields : Fields) (field : Field) (rest : Fields) (fault : Option Fault) → fields ≡ field ∷ rest → numeral 8 6 field ≡ Some a
    → IsFaultOf (λ more. fault_in code_of (ends_with (start p a) more)) rest 3 fault → IsFaultOf (λ more. fault_in code_of (start_from p more)) fields 2 fault
start_a_read p a fields field rest fault begins is has =
    fault_on (λ more. fault_in code_of (start_from p more)) (λ more. fault_in code_of (ends_with (start p a) more)) fields field rest 2 3 fault begins (λ more. a_read p a field more is) refl has

-- ---- lines by their keywords

module _ (b : Before) (first : Field) (more : Fields) where
  pub says_central : bytes_eq first (codes "CENTRAL") ≡ true → b.is_after_fields ≡ false → fault_after b (first ∷ more) ≡ fault_in code_of (central_line more)
  unfolding line_after keyword_of
  says_central central front = rw (central, front) refl

  pub says_late_central : bytes_eq first (codes "CENTRAL") ≡ true → b.is_after_fields ≡ true → fault_after b (first ∷ more) ≡ Some DeckCode.UnknownLine
  unfolding line_after keyword_of
  says_late_central central late = rw (central, late) refl

  pub says_central_words : bytes_eq first (codes "CENTRAL") ≡ false → bytes_eq first (codes "CM") ≡ true
      → fault_after b (first ∷ more) ≡ fault_in code_of (central_words_line b.size more)
  unfolding line_after keyword_of
  says_central_words central cm = rw (central, cm) refl

  pub says_section : bytes_eq first (codes "CENTRAL") ≡ false → bytes_eq first (codes "CM") ≡ false → bytes_eq first (codes "PP") ≡ true
      → fault_after b (first ∷ more) ≡ fault_in code_of (section_line b.profile more)
  unfolding line_after keyword_of
  says_section central cm pp = rw (central, cm, pp) refl

  pub says_start : bytes_eq first (codes "CENTRAL") ≡ false → bytes_eq first (codes "CM") ≡ false → bytes_eq first (codes "PP") ≡ false → bytes_eq first (codes "START") ≡ true
      → b.is_in_section ≡ true → fault_after b (first ∷ more) ≡ fault_in code_of (start_line more)
  unfolding line_after keyword_of
  says_start central cm pp st inside = rw (central, cm, pp, st, inside) refl

  pub says_early_start : bytes_eq first (codes "CENTRAL") ≡ false → bytes_eq first (codes "CM") ≡ false → bytes_eq first (codes "PP") ≡ false → bytes_eq first (codes "START") ≡ true
      → b.is_in_section ≡ false → fault_after b (first ∷ more) ≡ Some DeckCode.NoProcessor
  unfolding line_after keyword_of
  says_early_start central cm pp st early = rw (central, cm, pp, st, early) refl

  pub says_dead_start : bytes_eq first (codes "CENTRAL") ≡ false → bytes_eq first (codes "CM") ≡ false → bytes_eq first (codes "PP") ≡ false → bytes_eq first (codes "START") ≡ false → bytes_eq first (codes "DEAD") ≡ true
      → fault_after b (first ∷ more) ≡ fault_in code_of (ends_with dead_start more)
  unfolding line_after keyword_of
  says_dead_start central cm pp st dead = rw (central, cm, pp, st, dead) refl

  pub says_words : bytes_eq first (codes "CENTRAL") ≡ false → bytes_eq first (codes "CM") ≡ false → bytes_eq first (codes "PP") ≡ false → bytes_eq first (codes "START") ≡ false → bytes_eq first (codes "DEAD") ≡ false
      → is_ascii_digit (slice_index first 0) ≡ true → b.is_in_section ≡ true → fault_after b (first ∷ more) ≡ fault_in code_of (words_line first more)
  unfolding line_after keyword_of
  says_words central cm pp st dead digit inside = rw (central, cm, pp, st, dead, digit, inside) refl

  pub says_early_words : bytes_eq first (codes "CENTRAL") ≡ false → bytes_eq first (codes "CM") ≡ false → bytes_eq first (codes "PP") ≡ false → bytes_eq first (codes "START") ≡ false → bytes_eq first (codes "DEAD") ≡ false
      → is_ascii_digit (slice_index first 0) ≡ true → b.is_in_section ≡ false → fault_after b (first ∷ more) ≡ Some DeckCode.NoProcessor
  unfolding line_after keyword_of
  says_early_words central cm pp st dead digit early = rw (central, cm, pp, st, dead, digit, early) refl

  pub says_nothing : bytes_eq first (codes "CENTRAL") ≡ false → bytes_eq first (codes "CM") ≡ false → bytes_eq first (codes "PP") ≡ false → bytes_eq first (codes "START") ≡ false → bytes_eq first (codes "DEAD") ≡ false
      → is_ascii_digit (slice_index first 0) ≡ false → fault_after b (first ∷ more) ≡ Some DeckCode.UnknownLine
  unfolding line_after keyword_of
  says_nothing central cm pp st dead digit = rw (central, cm, pp, st, dead, digit) refl

pub blank_line : (b : Before) → fault_after b [] ≡ None
unfolding line_after
blank_line b = refl

-- a line at whose first field is a fault
pub first_at_fault : (b : Before) (fields : Fields) (first : Field) (rest : Fields) (code : DeckCode) → fields ≡ first ∷ rest
    → ((more : Fields) → fault_after b (first ∷ more) ≡ Some code) → HasFault (fault_after b) fields 0 (record { code = code; field = 0 })
first_at_fault b fields first rest code begins is = fault_first (fault_after b) fields first rest 0 code begins is (differs code (fault_after b []) (blank_line b))
