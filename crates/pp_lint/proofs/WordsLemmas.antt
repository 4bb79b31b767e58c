-- What a line of words says, by its fields.
use Rattle.std.proofs.Common.{◌≡◌, ℕ, ◌+◌, ◌-◌, ◌<◌, Bool, true, false, List, [], ◌∷◌, Option, Some, None, Result, Ok, Err, refl, sym, ap, ◌∙◌, arith, inl, inr, length}
use Rattle.std.specs.Prelude.{◌&&◌, bytes_eq, codes, nat_le, nat_lt, if◌then◌else◌, IfNone, IfSome, drop, slice_get, slice_index, unwrap_or}
use Rattle.std.specs.Char.{is_ascii_digit}
use Rattle.std.specs.Option.{ok_or}
use Rattle.std.specs.Result.{result_ok}
use Rattle.std.proofs.lemmas.Bool.{cases_lt, ltb-true}
use Rattle.std.proofs.lemmas.Slice.Eq.{bytes_eq-Decides}
use Rattle.pp_word.specs.Address.{place_count}
use Rattle.pp_word.specs.Numeral.{numeral}
use Rattle.pp_numbers.specs.Profile.{has_processor}
use Rattle.pp_numbers.specs.declared.profile.Profile.{Profile}
use Rattle.pp_deck.specs.DeckLine.{◌>>=◌, Line, central_line, central_size, central_words, central_words_line, dead_start, ends_with, keyword_of, line_after, number_then, section, section_line, start, start_from, start_line, words, words_in, words_line}
use Rattle.pp_deck.specs.DeckText.{Field, Fields, fields_of}
use Rattle.pp_deck.specs.Flaw.{code_of}
use Rattle.pp_deck.specs.OctalNumber.{number}
use Rattle.pp_instructions.specs.Claim.{claims, comment_place}
use Rattle.pp_instructions.specs.Column.{column_of}
use Rattle.pp_lint.specs.CommentFindings.{claims_findings, comment_findings}
use Rattle.pp_lint.specs.FieldAtFault.{fault_in}
use Rattle.pp_instructions.specs.Instruction.{instructions}
use Rattle.pp_lint.specs.InstructionsOfLine.{first_place, instructions_of}
use Rattle.pp_lint.specs.LineFault.{fault_after, said_after}
use Rattle.pp_instructions.specs.WordsInFields.{word_in, words_in_fields}
use Rattle.pp_lint.proofs.CommentLemmas.{comment_is}
use Rattle.pp_instructions.specs.declared.instruction.Instruction.{Instruction}
use Rattle.pp_lint.specs.declared.line_fault.Before.{Before}

-- ---- the words

pub record Taken {F : Type 0} (o : Option ℕ) (within : Bool) (read : Result (List ℕ) F) (ws : List ℕ) : Type 0 where
  pub word : ℕ
  pub more : List ℕ
  pub first : o ≡ Some word
  pub here : within ≡ true
  pub later : read ≡ Ok more
  pub all : ws ≡ word ∷ more

pub taken : (o : Option ℕ) (within : Bool) (bad past : _) (read : Result (List ℕ) _) (ws : List ℕ)
    → (ok_or o bad >>= λ word. (if within then read else Err past) >>= λ more. Ok (word ∷ more)) ≡ Ok ws → Taken o within read ws
taken None within bad past read ws is = absurd (cc)
taken (Some word) false bad past read ws is = absurd (cc)
taken (Some word) true bad past (Err flaw) ws is = absurd (cc)
taken (Some word) true bad past (Ok more) ws is = record { word = word; more = more; first = refl; here = refl; later = refl; all = cc }

-- as many words as fields, each below the end
pub record HasRoom (place end : ℕ) (fields : Fields) (ws : List ℕ) : Type 0 where
  pub each : length ws ≡ length fields
  pub within : (i : ℕ) → i < length fields → place + i < end

room_more : (place end : ℕ) (field : Field) (fields : Fields) (ws more : List ℕ) (word : ℕ) → HasRoom (place + 1) end fields more → place < end → ws ≡ word ∷ more → HasRoom place end (field ∷ fields) ws
room_more place end field fields ws more word room here is = record {
  each = let more_is = ap length is in omega (arith, more_is, room.each);
  within = λ i below. elim (cases_lt 0 i) [
    | inl later ↦ let next = room.within (i - 1) (omega (arith, later, below)) in omega (arith, next, later)
    | inr first ↦ omega (arith, first, here)
  ];
}

pub words_have_room : (most place end : ℕ) (past : _) (fields : Fields) (ws : List ℕ) → words_in most place end past fields ≡ Ok ws → HasRoom place end fields ws
unfolding words_in number
words_have_room most place end past [] ws is = record { each = cc; within = λ i below. absurd (omega (arith, below)) }
words_have_room most place end past (field ∷ fields) ws is =
    let t = taken (numeral 8 most field) (nat_lt place end) _ past (words_in most (place + 1) end past fields) ws is in
    room_more place end field fields ws t.more t.word (words_have_room most (place + 1) end past fields t.more t.later) (ltb-true place end t.here) t.all

words_are : (place : ℕ) (past : _) (fields : Fields) (ws : List ℕ) → words_in 4 place place_count past fields ≡ Ok ws → ws ≡ words_in_fields fields
unfolding words_in number
words_are place past [] ws is = cc
words_are place past (field ∷ fields) ws is =
    let t = taken (numeral 8 4 field) (nat_lt place place_count) _ past (words_in 4 (place + 1) place_count past fields) ws is in
    let later = words_are (place + 1) past fields t.more t.later in
    let word : t.word ≡ word_in field = sym (ap (λ o. unwrap_or o 0) t.first) in
    t.all ∙ ap (λ w. w ∷ t.more) word ∙ ap (λ rest. word_in field ∷ rest) later

pub record IsWordsLine (first : Field) (rest : Fields) (said : Option Line) : Type 0 where
  pub place : ℕ
  pub at : numeral 8 4 first ≡ Some place
  pub is : said ≡ Some (words place (words_in_fields rest))
  pub room : (i : ℕ) → i < length rest → place + i < place_count

-- what is read of a line without a fault
made_of : (x : ℕ) (past : _) (rest : Fields) (read : Result (List ℕ) _) → words_in 4 x place_count past rest ≡ read → fault_in code_of (read >>= λ ws. Ok (words x ws)) ≡ None
    → result_ok (read >>= λ ws. Ok (words x ws)) ≡ Some (words x (words_in_fields rest))
made_of x past rest (Err flaw) read none = absurd (cc)
made_of x past rest (Ok ws) read none = ap (λ more. Some (words x more)) (words_are x past rest ws read)

room_of : (x : ℕ) (past : _) (rest : Fields) (read : Result (List ℕ) _) → words_in 4 x place_count past rest ≡ read → fault_in code_of (read >>= λ ws. Ok (words x ws)) ≡ None
    → (i : ℕ) → i < length rest → x + i < place_count
room_of x past rest (Err flaw) read none = absurd (cc)
room_of x past rest (Ok ws) read none = (words_have_room 4 x place_count past rest ws read).within

placed : (o : Option ℕ) (bad past : _) (first : Field) (rest : Fields) → numeral 8 4 first ≡ o
    → fault_in code_of (ok_or o bad >>= λ x. words_in 4 x place_count past rest >>= λ ws. Ok (words x ws)) ≡ None
    → IsWordsLine first rest (result_ok (ok_or o bad >>= λ x. words_in 4 x place_count past rest >>= λ ws. Ok (words x ws)))
placed None bad past first rest at none = absurd (cc)
placed (Some x) bad past first rest at none = record { place = x; at = at; is = made_of x past rest _ refl none; room = room_of x past rest _ refl none }

words_line_says : (first : Field) (rest : Fields) → fault_in code_of (words_line first rest) ≡ None → IsWordsLine first rest (result_ok (words_line first rest))
unfolding words_line number
words_line_says first rest none = placed (numeral 8 4 first) _ _ first rest refl none

differ : true ≡ false → ⊥
differ same = cc

no_digit : (field keyword : Field) (b : Bool) → bytes_eq field keyword ≡ b → is_ascii_digit (slice_index field 0) ≡ true → is_ascii_digit (slice_index keyword 0) ≡ false → b ≡ false
no_digit field keyword false is digit none = refl
no_digit field keyword true is digit none = absurd (differ (sym digit ∙ ap (λ word. is_ascii_digit (slice_index word 0)) ((bytes_eq-Decides field keyword).0 is) ∙ none))

in_section : (b : Bool) (first : Field) (rest : Fields) (early : _) → fault_in code_of (if b then words_line first rest else Err early) ≡ None
    → IsWordsLine first rest (result_ok (if b then words_line first rest else Err early))
in_section true first rest early none = words_line_says first rest none
in_section false first rest early none = absurd (cc)

pub words_said : (b : Before) (first : Field) (rest : Fields) → fault_after b (first ∷ rest) ≡ None → is_ascii_digit (slice_index first 0) ≡ true
    → IsWordsLine first rest (said_after b (first ∷ rest))
unfolding line_after keyword_of
words_said b first rest none digit =
    let central = no_digit first (codes "CENTRAL") _ refl digit refl in
    let cm = no_digit first (codes "CM") _ refl digit refl in
    let pp = no_digit first (codes "PP") _ refl digit refl in
    let st = no_digit first (codes "START") _ refl digit refl in
    let dead = no_digit first (codes "DEAD") _ refl digit refl in
    rw (central, cm, pp, st, dead, digit) (in_section b.is_in_section first rest _ (rw (central, cm, pp, st, dead, digit) at none))

-- ---- lines of other kinds

abbrev says_words : Option Line → Bool
says_words (Some (words x ws)) = true
says_words other = false

ended : (line : Line) (fields : Fields) → says_words (Some line) ≡ false → says_words (result_ok (ends_with line fields)) ≡ false
ended line [] none = none
ended line (field ∷ fields) none = refl

after_number : (o : Option ℕ) (bad : _) (next : ℕ → Result Line _) → ((n : ℕ) → says_words (result_ok (next n)) ≡ false) → says_words (result_ok (ok_or o bad >>= next)) ≡ false
after_number None bad next none = refl
after_number (Some n) bad next none = none n

numbered : (most : ℕ) (fields : Fields) (next : ℕ → Fields → Result Line _) → ((n : ℕ) (more : Fields) → says_words (result_ok (next n more)) ≡ false) → says_words (result_ok (number_then most fields next)) ≡ false
unfolding number
numbered most [] next none = refl
numbered most (field ∷ fields) next none = after_number (numeral 8 most field) _ (λ n. next n fields) (λ n. none n fields)

if_else : {F : Type 0} (b : Bool) (line : Result Line F) (flaw : F) → says_words (result_ok line) ≡ false → says_words (result_ok (if b then line else Err flaw)) ≡ false
if_else true line flaw none = none
if_else false line flaw none = refl

unless : {F : Type 0} (b : Bool) (line : Result Line F) (flaw : F) → says_words (result_ok line) ≡ false → says_words (result_ok (if b then Err flaw else line)) ≡ false
unless true line flaw none = refl
unless false line flaw none = none

central_says : (fields : Fields) → says_words (result_ok (central_line fields)) ≡ false
unfolding central_line
central_says fields = numbered 6 fields _ (λ n more. if_else (nat_le 1 n && nat_le n 0o400000) (ends_with (central_size n) more) _ (ended (central_size n) more refl))

of_central : (a : ℕ) (read : Result (List ℕ) _) → says_words (result_ok (read >>= λ ws. Ok (central_words a ws))) ≡ false
of_central a (Ok ws) = refl
of_central a (Err flaw) = refl

central_words_says : (size : ℕ) (fields : Fields) → says_words (result_ok (central_words_line size fields)) ≡ false
unfolding central_words_line
central_words_says size fields = numbered 6 fields _ (λ a more. of_central a (words_in 20 a size _ more))

section_says : (profile : Profile) (fields : Fields) → says_words (result_ok (section_line profile fields)) ≡ false
unfolding section_line
section_says profile fields = numbered 2 fields _ (λ n more. if_else (has_processor profile n) (ends_with (section n) more) _ (ended (section n) more refl))

start_from_says : (p : ℕ) (fields : Fields) → says_words (result_ok (start_from p fields)) ≡ false
unfolding number
start_from_says p [] = refl
start_from_says p (field ∷ fields) = after_number (numeral 8 6 field) _ (λ a. ends_with (start p a) fields) (λ a. ended (start p a) fields refl)

start_says : (fields : Fields) → says_words (result_ok (start_line fields)) ≡ false
unfolding start_line
start_says fields = numbered 4 fields _ (λ p more. start_from_says p more)

other_said : (b : Before) (first : Field) (rest : Fields) (central cm pp st dead : Bool)
    → bytes_eq first (codes "CENTRAL") ≡ central → bytes_eq first (codes "CM") ≡ cm → bytes_eq first (codes "PP") ≡ pp → bytes_eq first (codes "START") ≡ st → bytes_eq first (codes "DEAD") ≡ dead
    → is_ascii_digit (slice_index first 0) ≡ false → says_words (said_after b (first ∷ rest)) ≡ false
unfolding line_after keyword_of
other_said b first rest true cm pp st dead is1 is2 is3 is4 is5 none = rw is1 (unless b.is_after_fields (central_line rest) _ (central_says rest))
other_said b first rest false true pp st dead is1 is2 is3 is4 is5 none = rw (is1, is2) (central_words_says b.size rest)
other_said b first rest false false true st dead is1 is2 is3 is4 is5 none = rw (is1, is2, is3) (section_says b.profile rest)
other_said b first rest false false false true dead is1 is2 is3 is4 is5 none = rw (is1, is2, is3, is4) (if_else b.is_in_section (start_line rest) _ (start_says rest))
other_said b first rest false false false false true is1 is2 is3 is4 is5 none = rw (is1, is2, is3, is4, is5) (ended dead_start rest refl)
other_said b first rest false false false false false is1 is2 is3 is4 is5 none = rw (is1, is2, is3, is4, is5, none) refl

nothing_in_comment : (k : ℕ) (line : List ℕ) (said : Option Line) → says_words said ≡ false → comment_findings k line said ≡ []
unfolding comment_findings
nothing_in_comment k line (Some (words x ws)) none = absurd (cc)
nothing_in_comment k line said none = refl

pub no_words_said : (k : ℕ) (b : Before) (line : List ℕ) (first : Field) (rest : Fields) → is_ascii_digit (slice_index first 0) ≡ false
    → comment_findings k line (said_after b (first ∷ rest)) ≡ []
no_words_said k b line first rest other = nothing_in_comment k line _ (other_said b first rest _ _ _ _ _ refl refl refl refl refl other)

pub blank_said : (k : ℕ) (b : Before) (line : List ℕ) → comment_findings k line (said_after b []) ≡ []
unfolding line_after comment_findings
blank_said k b line = refl

pub no_comment_said : (k : ℕ) (line : List ℕ) (said : Option Line) → comment_place line ≡ None → comment_findings k line said ≡ []
unfolding comment_findings
no_comment_said k line (Some (words x ws)) none = rw none refl
no_comment_said k line said none = refl

-- ---- the instructions of a line

nothing_run : (said : Option Line) → says_words said ≡ false → ([] ≡ instructions_of said) × (0 ≡ first_place said)
unfolding instructions_of first_place
nothing_run (Some (words x ws)) none = absurd (cc)
nothing_run said none = (refl, refl)

run_are : (x : ℕ) (ws : List ℕ) → (instructions x ws ≡ instructions_of (Some (words x ws))) × (x ≡ first_place (Some (words x ws)))
unfolding instructions_of first_place
run_are x ws = (refl, refl)

blank_runs : (b : Before) → says_words (said_after b []) ≡ false
unfolding line_after
blank_runs b = refl

-- of a line without a fault
pub record Runs (b : Before) (line : List ℕ) (is : List Instruction) (x : ℕ) : Type 0 where
  pub are : is ≡ instructions_of (said_after b (fields_of line))
  pub first : x ≡ first_place (said_after b (fields_of line))

pub none_run : (b : Before) (line : List ℕ) → fields_of line ≡ [] → Runs b line [] 0
none_run b line blank = let none = nothing_run (said_after b (fields_of line)) (ap (λ fields. says_words (said_after b fields)) blank ∙ blank_runs b) in record { are = none.0; first = none.1 }

pub others_run : (b : Before) (line : List ℕ) (first : Field) (rest : Fields) → fields_of line ≡ first ∷ rest → is_ascii_digit (slice_index first 0) ≡ false → Runs b line [] 0
others_run b line first rest begins other =
    let none = nothing_run (said_after b (fields_of line)) (ap (λ fields. says_words (said_after b fields)) begins ∙ other_said b first rest _ _ _ _ _ refl refl refl refl refl other) in
    record { are = none.0; first = none.1 }

pub words_run : (b : Before) (line : List ℕ) (first : Field) (rest : Fields) → fields_of line ≡ first ∷ rest → is_ascii_digit (slice_index first 0) ≡ true → fault_after b (fields_of line) ≡ None
    → Runs b line (instructions (word_in first) (words_in_fields rest)) (word_in first)
words_run b line first rest begins digit none =
    let said = words_said b first rest (ap (fault_after b) (sym begins) ∙ none) digit in
    let place : word_in first ≡ said.place = ap (λ o. unwrap_or o 0) said.at in
    let is = said.is ∙ ap (λ x. Some (words x (words_in_fields rest))) (sym place) in
    let same = ap (said_after b) begins ∙ is in
    let run = run_are (word_in first) (words_in_fields rest) in
    record { are = run.0 ∙ ap instructions_of (sym same); first = run.1 ∙ ap first_place (sym same) }

pub first_is : (old new : List Instruction) (o : Option Instruction) → IfSome o (λ i. old ≡ i ∷ new) → IfNone o ((old ≡ []) × (new ≡ [])) → slice_get old 0 ≡ o
first_is old new (Some i) some none = ap (λ is. slice_get is 0) some
first_is old new None some none = ap (λ is. slice_get is 0) none.0

pub later_are : (old new : List Instruction) (o : Option Instruction) → IfSome o (λ i. old ≡ i ∷ new) → IfNone o ((old ≡ []) × (new ≡ [])) → drop 1 old ≡ new
later_are old new (Some i) some none = ap (drop 1) some
later_are old new None some none = ap (drop 1) none.0 ∙ sym none.1

-- what is found by a comment and the words of its line
pub by_words : (k : ℕ) (before : Before) (line comment : List ℕ) (first : Field) (rest : Fields) (star : ℕ) (is : List Instruction) → fault_after before (fields_of line) ≡ None → fields_of line ≡ first ∷ rest
    → is_ascii_digit (slice_index first 0) ≡ true → Some star ≡ comment_place line → comment ≡ drop (star + 1) line → is ≡ instructions (word_in first) (words_in_fields rest)
    → claims_findings k (λ i. star + 1 + column_of comment i) (claims 0 (fields_of comment)) is ≡ comment_findings k line (said_after before (fields_of line))
by_words k before line comment first rest star is none begins digit at after are =
    let said = words_said before first rest (ap (fault_after before) (sym begins) ∙ none) digit in
    let place : word_in first ≡ said.place = ap (λ o. unwrap_or o 0) said.at in
    ap (λ text. claims_findings k (λ i. star + 1 + column_of text i) (claims 0 (fields_of text)) is) after
    ∙ ap (claims_findings k (λ i. star + 1 + column_of (drop (star + 1) line) i) (claims 0 (fields_of (drop (star + 1) line)))) (are ∙ ap (λ x. instructions x (words_in_fields rest)) place)
    ∙ sym (comment_is k line said.place (words_in_fields rest) star (sym at))
    ∙ ap (comment_findings k line) (sym said.is)
    ∙ ap (λ fields. comment_findings k line (said_after before fields)) (sym begins)
