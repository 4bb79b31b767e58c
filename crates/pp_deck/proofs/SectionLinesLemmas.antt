-- Lines that stand in sections, and what each section sets.
use mathlib.Core.Bool.{and-true}
use Rattle.std.proofs.Common.{◌≡◌, ℕ, zero, suc, ◌+◌, ◌<◌, ◌≤◌, ◌⊎◌, Bool, true, false, cond, eqb, List, [], ◌∷◌, ◌++◌, length, take, get_or, Option, Some, None, refl, sym, ap, ◌∙◌, arith, append_assoc, append-nil}
use Rattle.std.specs.Prelude.{filter_map, ◌&&◌, ◌||◌}
use Rattle.std.specs.List.{AllByRecursion, flat_map, list_any, range_with_len, cons_option}
use Rattle.std.proofs.lemmas.Bool.{and_right, eq-eqb, ne_eqb, cases_eq, cond-true, cond-false}
use Rattle.pp_numbers.proofs.GrowingLists.{flat_map_none}
use Rattle.std.proofs.lemmas.List.Elements.{filter_map-append}
use Rattle.std.proofs.lemmas.List.Folds.{list_any-append, list_any_at}
use Rattle.pp_deck.specs.DeckLine.{Line, nothing, section}
use Rattle.pp_deck.specs.DeckLoad.{is_for, section_of, lines_for}
use Rattle.pp_deck.proofs.SectionLemmas.{current_after, names, section_more, lines_for_more, own}
use Rattle.pp_deck.proofs.LawLemmas.{heading_of, is_section}

-- ---- lists over a range of which one number counts

pub flat_only : {A : Type 0} (g : ℕ → List A) (n a len : ℕ) → ((m : ℕ) → (n ≡ m → ⊥) → g m ≡ []) → a ≤ n → n < a + len → flat_map g (range_with_len a len) ≡ g n
flat_only g n a zero none low high = absurd (omega (arith, low, high))
flat_only {A} g n a (suc len) none low high = at (λ ne. flat_only g n (a + 1) len none (omega (arith, low, ne)) (omega (arith, high))) (cases_eq n a)
  where
    at : ((n ≡ a → ⊥) → flat_map g (range_with_len (a + 1) len) ≡ g n) → (n ≡ a) ⊎ (n ≡ a → ⊥) → g a ++ flat_map g (range_with_len (a + 1) len) ≡ g n
    at later h2 = grind (arith, flat_map_none, append-nil)

pub any_none : (q : ℕ → Bool) (a len : ℕ) → ((m : ℕ) → a ≤ m → q m ≡ false) → list_any q (range_with_len a len) ≡ false
any_none q a zero none = refl
any_none q a (suc len) none = grind (arith, any_none q (a + 1) len (λ m le. none m (omega (arith, le))))

pub any_only : (q : ℕ → Bool) (n a len : ℕ) → ((m : ℕ) → (n ≡ m → ⊥) → q m ≡ false) → a ≤ n → n < a + len → list_any q (range_with_len a len) ≡ q n
any_only q n a zero none low high = absurd (omega (arith, low, high))
any_only q n a (suc len) none low high = at (λ ne. any_only q n (a + 1) len none (omega (arith, low, ne)) (omega (arith, high))) (cases_eq n a)
  where
    at : ((n ≡ a → ⊥) → list_any q (range_with_len (a + 1) len) ≡ q n) → (n ≡ a) ⊎ (n ≡ a → ⊥) → (q a || list_any q (range_with_len (a + 1) len)) ≡ q n
    at later h2 = grind (arith, any_none)

pub filter_flat : {X Y A : Type 0} (f : Y → Option A) (g : X → List Y) (xs : List X) → filter_map f (flat_map g xs) ≡ flat_map (λ x. filter_map f (g x)) xs
filter_flat f g [] = refl
filter_flat {X} {Y} {A} f g (x ∷ xs) = filter_map-append f (g x) (flat_map g xs) ∙ ap (λ (ys : List A). filter_map f (g x) ++ ys) (filter_flat f g xs)

pub any_flat : {X Y : Type 0} (p : Y → Bool) (g : X → List Y) (xs : List X) → list_any p (flat_map g xs) ≡ list_any (λ x. list_any p (g x)) xs
any_flat p g [] = refl
any_flat p g (x ∷ xs) = list_any-append p (g x) (flat_map g xs) ∙ ap (λ (b : Bool). list_any p (g x) || b) (any_flat p g xs)

-- ---- lines that all have a trait

pub all_append : (P : Line → Type 0) (xs ys : List Line) → AllByRecursion P xs → AllByRecursion P ys → AllByRecursion P (xs ++ ys)
all_append P [] ys h k = k
all_append P (x ∷ xs) ys h k = (h.0, all_append P xs ys h.1 k)

pub all_flat : (P : Line → Type 0) (g : ℕ → List Line) (ns : List ℕ) → ((n : ℕ) → AllByRecursion P (g n)) → AllByRecursion P (flat_map g ns)
all_flat P g [] h = tt
all_flat P g (n ∷ ns) h = all_append P (g n) (flat_map g ns) (h n) (all_flat P g ns h)

pub all_unset : {A : Type 0} (f : Line → Option A) (lines : List Line) → AllByRecursion (λ line. f line ≡ None) lines → filter_map f lines ≡ []
all_unset f [] h = refl
all_unset {A} f (line ∷ lines) h = ap (λ (o : Option A). cons_option o (filter_map f lines)) h.0 ∙ all_unset f lines h.1

-- a line that begins no section
abbrev pub KeepsCurrent : Line → Type 0
KeepsCurrent line = (c : Option ℕ) → current_after line c ≡ c

-- such lines are for the processor of the section before them
pub lines_for_body : (n : ℕ) (lines body : List Line) → AllByRecursion KeepsCurrent body → lines_for n (lines ++ body) ≡ lines_for n lines ++ cond (is_for n (section_of lines)) body []
lines_for_body n lines [] h = grind (arith, append-nil)
lines_for_body n lines (line ∷ body) h = grind (arith, append_assoc, lines_for_more, lines_for_body n (lines ++ line ∷ []) body h.1, append-nil, section_more)

no_lines_for : (n : ℕ) → lines_for n [] ≡ []
unfolding lines_for
no_lines_for n = refl

no_section_yet : section_of [] ≡ None
unfolding section_of
no_section_yet = refl

-- lines before the first section are for no processor
pub lines_for_head : (n : ℕ) (lines : List Line) → AllByRecursion KeepsCurrent lines → lines_for n lines ≡ []
lines_for_head n lines h =
    lines_for_body n [] lines h ∙ ap (λ (o : Option ℕ). lines_for n [] ++ cond (is_for n o) lines []) no_section_yet
    ∙ append-nil (lines_for n []) ∙ no_lines_for n

-- ---- sections

no_heading : {A : Type 0} (f : Line → Option A) (m : ℕ) (b : Bool) → f (section m) ≡ None → filter_map f (own b (section m)) ≡ []
no_heading f m b none = grind arith

pick_body : {A : Type 0} (f : Line → Option A) (b : Bool) (body : List Line) → filter_map f (cond b body []) ≡ cond b (filter_map f body) []
pick_body f b body = grind arith

-- what a section of processor m sets for processor n
pub held_section : {A : Type 0} (f : Line → Option A) (n m : ℕ) (lines body : List Line) → f (section m) ≡ None → AllByRecursion KeepsCurrent body → filter_map f (lines_for n (lines ++ section m ∷ body)) ≡ filter_map f (lines_for n lines) ++ cond (eqb n m) (filter_map f body) []
held_section {A} f n m lines body none h =
    let before = lines ++ section m ∷ [] in
    let heading : filter_map f (lines_for n before) ≡ filter_map f (lines_for n lines) =
    ap (filter_map f) (lines_for_more n lines (section m)) ∙ filter_map-append f (lines_for n lines) (own (is_for n (section_of lines)) (section m))
    ∙ ap (λ (xs : List A). filter_map f (lines_for n lines) ++ xs) (no_heading f m (is_for n (section_of lines)) none) ∙ append-nil (filter_map f (lines_for n lines)) in
    ap (λ (ls : List Line). filter_map f (lines_for n ls)) (sym (append_assoc lines (section m ∷ []) body))
    ∙ ap (filter_map f) (lines_for_body n before body h)
    ∙ ap (λ (o : Option ℕ). filter_map f (lines_for n before ++ cond (is_for n o) body [])) (section_more lines (section m))
    ∙ filter_map-append f (lines_for n before) (cond (eqb n m) body [])
    ∙ ap (λ (xs : List A). xs ++ filter_map f (cond (eqb n m) body [])) heading
    ∙ ap (λ (xs : List A). filter_map f (lines_for n lines) ++ xs) (pick_body f (eqb n m) body)

-- the section of a processor, where it is named
abbrev pub section_if : (ℕ → Bool) → (ℕ → List Line) → ℕ → List Line
section_if named body m = cond (named m) (section m ∷ body m) []

pub held_sections : {A : Type 0} (f : Line → Option A) (named : ℕ → Bool) (body : ℕ → List Line) (n : ℕ) (lines : List Line) (ms : List ℕ) → ((m : ℕ) → f (section m) ≡ None) → ((m : ℕ) → AllByRecursion KeepsCurrent (body m)) → filter_map f (lines_for n (lines ++ flat_map (section_if named body) ms)) ≡ filter_map f (lines_for n lines) ++ flat_map (λ m. cond (named m) (cond (eqb n m) (filter_map f (body m)) []) []) ms
held_sections f named body n lines [] none h = ap (λ (ls : List Line). filter_map f (lines_for n ls)) (append-nil lines) ∙ sym (append-nil (filter_map f (lines_for n lines)))
held_sections {A} f named body n lines (m ∷ ms) none h = grind (arith, append_assoc, section_if, held_sections f named body n (lines ++ section_if named body m) ms none h, held_section, append-nil)

other_empty : {A : Type 0} (b : Bool) (xs : List A) (n m : ℕ) → (n ≡ m → ⊥) → cond b (cond (eqb n m) xs []) [] ≡ []
other_empty b xs n m ne = grind (arith, cond-false, eqb, ne_eqb)

-- what all sections set for processor n
pub held_by_sections : {A : Type 0} (f : Line → Option A) (named : ℕ → Bool) (body : ℕ → List Line) (n count : ℕ) (head : List Line) → ((m : ℕ) → f (section m) ≡ None) → ((m : ℕ) → AllByRecursion KeepsCurrent (body m)) → AllByRecursion KeepsCurrent head → n < count → filter_map f (lines_for n (head ++ flat_map (section_if named body) (range_with_len 0 count))) ≡ cond (named n) (filter_map f (body n)) []
held_by_sections {A} f named body n count head none h k lt =
    held_sections f named body n head (range_with_len 0 count) none h
    ∙ ap (λ (ls : List Line). filter_map f ls ++ flat_map (λ m. cond (named m) (cond (eqb n m) (filter_map f (body m)) []) []) (range_with_len 0 count)) (lines_for_head n head k)
    ∙ flat_only (λ m. cond (named m) (cond (eqb n m) (filter_map f (body m)) []) []) n 0 count (λ m ne. other_empty (named m) (filter_map f (body m)) n m ne) (omega arith) (omega (arith, lt))
    ∙ ap (λ (xs : List A). cond (named n) xs []) (cond-true (eqb n n) (filter_map f (body n)) [] (eq-eqb n n refl))

-- ---- names

named_if : (n m : ℕ) (b : Bool) (body : List Line) → list_any (names n) body ≡ false → list_any (names n) (cond b (section m ∷ body) []) ≡ (b && eqb n m)
named_if n m b body none = grind (arith, eqb)

-- the processors that sections name
pub named_by_sections : (named : ℕ → Bool) (body : ℕ → List Line) (n count : ℕ) (head : List Line) → ((m : ℕ) → list_any (names n) (body m) ≡ false) → list_any (names n) head ≡ false → n < count → list_any (names n) (head ++ flat_map (section_if named body) (range_with_len 0 count)) ≡ named n
named_by_sections named body n count head none no_head lt =
    list_any-append (names n) head (flat_map (section_if named body) (range_with_len 0 count))
    ∙ ap (λ (b : Bool). b || list_any (names n) (flat_map (section_if named body) (range_with_len 0 count))) no_head
    ∙ any_flat (names n) (section_if named body) (range_with_len 0 count)
    ∙ any_only (λ m. list_any (names n) (section_if named body m)) n 0 count
    (λ m ne. named_if n m (named m) (body m) (none m) ∙ ap (λ (b : Bool). named m && b) (ne_eqb n m ne) ∙ and_right (named m) false refl) (omega arith) (omega (arith, lt))
    ∙ named_if n n (named n) (body n) (none n) ∙ ap (λ (b : Bool). named n && b) (eq-eqb n n refl) ∙ and-true (named n)

-- ---- central words

-- sections that set nothing
pub unset_by_sections : (f : Line → Option ℕ) (named : ℕ → Bool) (body : ℕ → List Line) (count : ℕ) (head : List Line) → ((m : ℕ) → f (section m) ≡ None) → ((m : ℕ) → filter_map f (body m) ≡ []) → filter_map f (head ++ flat_map (section_if named body) (range_with_len 0 count)) ≡ filter_map f head
unset_by_sections f named body count head none no_body = grind (arith, filter_map-append, section_if, filter_flat, flat_map_none, append-nil)

-- ---- processors that are not named

none_in : {A : Type 0} (f : ℕ → Option A) (a n : ℕ) → ((k : ℕ) → a ≤ k → k < a + n → f k ≡ None) → filter_map f (range_with_len a n) ≡ []
none_in f a zero none = refl
none_in {A} f a (suc n) none = grind (arith, none_in f (a + 1) n (λ k le lt. none k (omega (arith, le)) (omega (arith, lt))))

not_picked : (n : ℕ) (lines : List Line) (k : ℕ) → k < length lines → list_any (names n) lines ≡ false → (b : Bool) → is_for n (section_of (take k lines)) ≡ b → cond b (Some (get_or lines k nothing)) None ≡ None
not_picked n lines k lt absent false e = refl
not_picked n lines k lt absent true e =
    let h = heading_of lines k n (omega (arith, lt)) (is_section n (section_of (take k lines)) e) in
    let here : list_any (names n) lines ≡ true = list_any_at (names n) lines h.heading nothing (omega (arith, h.before, lt)) (ap (names n) h.names ∙ eq-eqb n n refl) in
    absurd (cc)

-- no line is for them
pub unnamed_empty : (n : ℕ) (lines : List Line) → list_any (names n) lines ≡ false → lines_for n lines ≡ []
unfolding lines_for
unnamed_empty n lines absent = grind (arith, none_in, not_picked)
