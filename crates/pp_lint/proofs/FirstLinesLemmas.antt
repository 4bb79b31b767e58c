-- A table of the first lines that give things, as more are noted.
use Rattle.std.proofs.Common.{◌≡◌, ◌≢◌, ℕ, ◌+◌, ◌<◌, ◌≤◌, Bool, true, false, List, [], ◌∷◌, ◌++◌, length, get_or, map, Option, Some, None, refl, sym, ap, ◌∙◌, arith, append_assoc}
use Rattle.std.specs.Prelude.{◌&&◌, ◌==◌, IsTrue, find, if◌then◌else◌, option_map, slice_index, slice_set}
use Rattle.std.specs.List.{range_with_len}
use Rattle.std.specs.Option.{option_or}
use Rattle.std.proofs.lemmas.Bool.{eq-eqb, eqb-true, ne_eqb}
use Rattle.std.proofs.lemmas.Grind.{get_or-set_at}
use Rattle.std.proofs.lemmas.List.{get_or-set_other, get_or_default, map-append}
use Rattle.std.proofs.lemmas.List.Folds.{find-append}
use Rattle.pp_numbers.proofs.GrowingLists.{range_more}
use Rattle.pp_numbers.specs.PpNo.{names_processor, processor_index, processor_places}
use Rattle.pp_lint.specs.FirstLines.{IsThing, Shows, key, line_in}
use Rattle.pp_lint.specs.Given.{Note, first_line, is_kind}
use Rattle.pp_lint.specs.declared.{row.Kind.Kind, row.Row.Row}
use Rattle.pp_lint.specs.declared.row.Kind.TheVariants.{Central, Channel, Dead, Fault, Name, Start, Target, Word}

-- ---- keys

below : (n : ℕ) → IsTrue (names_processor n) → processor_index n < 20
below n names = processor_places.place_below n names

-- a thing that has the key of another is that
Same : Kind → ℕ → Kind → ℕ → Type 0
Same a p b q = (is_kind a b && q == p) ≡ true

processor_same : (n m p q : ℕ) → n ≡ m → q ≡ p → (n == m && q == p) ≡ true
processor_same n m p q same at = rw (eq-eqb n m same, eq-eqb q p at) refl

-- each kind has keys of its own, from one on, and up to another
first_key : Kind → ℕ
first_key Fault = 0
first_key (Name n) = 1
first_key (Start n) = 21
first_key (Word n) = 41
first_key Central = 81961
first_key Dead = 213033
first_key (Target n) = 213034
first_key (Channel n) = 294954

past_keys : Kind → ℕ
past_keys Fault = 1
past_keys (Name n) = 21
past_keys (Start n) = 41
past_keys (Word n) = 81961
past_keys Central = 213033
past_keys Dead = 213034
past_keys (Target n) = 294954
past_keys (Channel n) = 296234

key_within : (a : Kind) (p : ℕ) → IsThing a p → (first_key a ≤ key a p) × (key a p < past_keys a)
unfolding first_key past_keys
key_within Fault p s = (omega arith, s.within)
key_within (Name n) p s = (omega arith, omega (arith, s.within, below n s.processor))
key_within (Start n) p s = (omega arith, omega (arith, s.within, below n s.processor))
key_within (Word n) p s = (omega arith, omega (arith, s.within, below n s.processor))
key_within Central p s = (omega arith, omega (arith, s.within))
key_within Dead p s = (omega arith, omega (arith, s.within))
key_within (Target n) p s = (omega arith, omega (arith, s.within, below n s.processor))
key_within (Channel n) p s = (omega arith, omega (arith, s.within, below n s.processor))

one_key : (a b : Kind) (p q : ℕ) → IsThing a p → IsThing b q → key a p ≡ key b q → Same a p b q
unfolding Same first_key past_keys
one_key Fault Fault p q s t is = eq-eqb q p (sym is)
one_key (Name n) (Name m) p q s t is =
    let a = below n s.processor in let b = below m t.processor in
    processor_same n m p q (processor_places.one_place m n t.processor (omega (arith, is, s.within, t.within))) (omega (arith, s.within, t.within))
one_key (Start n) (Start m) p q s t is =
    processor_same n m p q (processor_places.one_place m n t.processor (omega (arith, is, s.within, t.within))) (omega (arith, s.within, t.within))
one_key (Word n) (Word m) p q s t is =
    let index : processor_index n ≡ processor_index m = omega (arith, is, s.within, t.within) in
    processor_same n m p q (processor_places.one_place m n t.processor index) (omega (arith, is, index))
one_key Central Central p q s t is = eq-eqb q p (omega (arith, is))
one_key Dead Dead p q s t is = eq-eqb q p (omega (arith, is))
one_key (Target n) (Target m) p q s t is =
    let index : processor_index n ≡ processor_index m = omega (arith, is, s.within, t.within) in
    processor_same n m p q (processor_places.one_place m n t.processor index) (omega (arith, is, index))
one_key (Channel n) (Channel m) p q s t is =
    let index : processor_index n ≡ processor_index m = omega (arith, is, s.within, t.within) in
    processor_same n m p q (processor_places.one_place m n t.processor index) (omega (arith, is, index))
one_key a b p q s t is = let one = key_within a p s in let other = key_within b q t in absurd (omega (arith, is, one.0, one.1, other.0, other.1))

both : (a b : Bool) → (a && b) ≡ true → (a ≡ true) × (b ≡ true)
both true b is = (refl, is)
both false b is = absurd (cc)

-- and the same thing has the same key
same_processor : (n m p q : ℕ) (f : ℕ → ℕ → ℕ) → (n == m && q == p) ≡ true → f n p ≡ f m q
same_processor n m p q f is =
    let parts = both (n == m) (q == p) is in
    ap (λ x. f x p) (eqb-true n m parts.0) ∙ ap (f m) (sym (eqb-true q p parts.1))

same_key : (a b : Kind) (p q : ℕ) → Same a p b q → key a p ≡ key b q
unfolding Same
same_key Fault Fault p q is = sym (eqb-true q p is)
same_key (Name n) (Name m) p q is = same_processor n m p q (λ x y. key (Name x) y) is
same_key (Start n) (Start m) p q is = same_processor n m p q (λ x y. key (Start x) y) is
same_key (Word n) (Word m) p q is = same_processor n m p q (λ x y. key (Word x) y) is
same_key Central Central p q is = ap (λ x. 81961 + x) (sym (eqb-true q p is))
same_key Dead Dead p q is = ap (λ x. 213033 + x) (sym (eqb-true q p is))
same_key (Target n) (Target m) p q is = same_processor n m p q (λ x y. key (Target x) y) is
same_key (Channel n) (Channel m) p q is = same_processor n m p q (λ x y. key (Channel x) y) is
same_key a b p q is = absurd (cc)

-- ---- one note more

pub shows_nothing : (table : List ℕ) → ((i : ℕ) → slice_index table i ≡ 0) → Shows table []
unfolding first_line
shows_nothing table zero = λ kind place thing. sym (ap line_in (zero (key kind place)))

first_with : (notes : List Note) (note : Note) (kind : Kind) (place : ℕ)
    → first_line (notes ++ note ∷ []) kind place ≡ option_or (first_line notes kind place) (if is_kind kind note.kind && note.place == place then Some note.line else None)
unfolding first_line
first_with notes note kind place = ap (option_map (λ n. n.line)) (find-append _ notes (note ∷ [])) ∙ by (find _ notes) (is_kind kind note.kind && note.place == place)
  where
    by : (o : Option Note) (b : Bool) → option_map (λ n. n.line) (option_or o (if b then Some note else None)) ≡ option_or (option_map (λ n. n.line) o) (if b then Some note.line else None)
    by (Some n) true = refl
    by (Some n) false = refl
    by None true = refl
    by None false = refl

none_else : (o : Option ℕ) → option_or o None ≡ o
none_else None = refl
none_else (Some n) = refl

differ : true ≡ false → ⊥
differ same = cc

-- by what the entry of the thing was, and what the table has now
module _ (table now : List ℕ) (notes : List Note) (kind : Kind) (place number : ℕ) (thing : IsThing kind place) (shows : Shows table notes)
    (here : option_or (line_in (slice_index table (key kind place))) (Some number) ≡ line_in (slice_index now (key kind place)))
    (there : (other : ℕ) → other ≢ key kind place → slice_index now other ≡ slice_index table other) where
  by_kind : (other : Kind) (q : ℕ) → IsThing other q → (b : Bool) → (is_kind other kind && place == q) ≡ b
      → option_or (line_in (slice_index table (key other q))) (if b then Some number else None) ≡ line_in (slice_index now (key other q))
  unfolding Same
  by_kind other q is true same = rw (same_key other kind q place same) here
  by_kind other q is false apart = none_else _ ∙ ap line_in (sym (there (key other q) (λ one. differ (sym (one_key other kind q place is thing one) ∙ apart))))

  shows_now : Shows now (notes ++ record { line = number; kind = kind; place = place } ∷ [])
  shows_now other q is =
      first_with notes (record { line = number; kind = kind; place = place }) other q
      ∙ ap (λ o. option_or o (if is_kind other kind && place == q then Some number else None)) (shows other q is)
      ∙ by_kind other q is (is_kind other kind && place == q) refl

entry_is : (table : List ℕ) (at entry : ℕ) → at < length table → entry ≡ get_or table at entry → slice_index table at ≡ entry
entry_is table at entry within is = get_or_default table at 0 entry within ∙ sym is

pub shows_set : (table : List ℕ) (notes : List Note) (kind : Kind) (place number at entry : ℕ) → IsThing kind place → at ≡ key kind place → at < length table → 0 < number → entry ≡ get_or table at entry → entry ≡ 0
    → Shows table notes → Shows (slice_set table at number) (notes ++ record { line = number; kind = kind; place = place } ∷ [])
shows_set table notes kind place number at entry thing is within some read free shows =
    let was : slice_index table at ≡ 0 = entry_is table at entry within read ∙ free in
    let set : line_in (slice_index (slice_set table at number) at) ≡ Some number =
    ap line_in (get_or-set_at table at at number 0 refl within) ∙ ap (λ (t : Bool). if t then None else Some number) (ne_eqb number 0 (λ none. absurd (omega (arith, none, some)))) in
    shows_now table (slice_set table at number) notes kind place number thing shows (rw (← is, was) (sym set)) (rw (← is) (λ other apart. get_or-set_other table at other number 0 apart))

pub shows_kept : (table : List ℕ) (notes : List Note) (kind : Kind) (place number at entry : ℕ) → IsThing kind place → at ≡ key kind place → at < length table → entry ≡ get_or table at entry → entry ≢ 0
    → Shows table notes → Shows table (notes ++ record { line = number; kind = kind; place = place } ∷ [])
shows_kept table notes kind place number at entry thing is within read taken shows =
    let was : line_in (slice_index table at) ≡ Some entry = ap line_in (entry_is table at entry within read) ∙ ap (λ (t : Bool). if t then None else Some entry) (ne_eqb entry 0 taken) in
    shows_now table table notes kind place number thing shows (rw (← is, was) refl) (λ other apart. refl)

-- ---- the rest of a row

pub notes_more : (number : ℕ) (row : Row) (notes : List Note) (i : ℕ)
    → (notes ++ map (λ j. record { line = number; kind = row.kind; place = row.first + j }) (range_with_len 0 i)) ++ record { line = number; kind = row.kind; place = row.first + i } ∷ []
    ≡ notes ++ map (λ j. record { line = number; kind = row.kind; place = row.first + j }) (range_with_len 0 (i + 1))
notes_more number row notes i =
    let each : ℕ → Note = λ j. record { line = number; kind = row.kind; place = row.first + j } in
    append_assoc notes (map each (range_with_len 0 i)) (each i ∷ [])
    ∙ ap (λ ns. notes ++ ns) (sym (ap (map each) (range_more 0 i ∙ ap (λ j. range_with_len 0 i ++ j ∷ []) (omega arith)) ∙ map-append each (range_with_len 0 i) (i ∷ [])))
