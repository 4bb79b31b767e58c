-- The last line that sets something holds.
use Rattle.std.proofs.Common.{◌≡◌, ℕ, zero, suc, ◌+◌, ◌-◌, ◌<◌, ◌≤◌, ◌⊎◌, Bool, true, false, cond, leb, List, [], ◌∷◌, length, take, map, get_or, Option, Some, None, refl, sym, ap, subst, ◌∙◌, arith, add-one}
use Rattle.std.specs.Prelude.{Contains, IsTrue, filter_map, option_map, slice_get, unwrap_or}
use Rattle.std.specs.List.{range_with_len, cons_option, list_any}
use Rattle.std.proofs.lemmas.Bool.{leb-true, le-leb, eqb-true, eq-eqb, cases_eq, cases_order}
use Rattle.std.proofs.lemmas.List.{take_more, length-map, get_or_default}
use Rattle.std.proofs.lemmas.List.Folds.{Any-from_list_any, list_any_at}
use Rattle.std.proofs.lemmas.List.FromFn.{fill_by_all}
use Rattle.std.proofs.lemmas.Option.{slice_get-map}
use Rattle.pp_word.specs.Address.{place_count}
use Rattle.pp_numbers.proofs.LastElements.{last_or_at}
use Rattle.pp_machine.specs.MachineState.{processor_of}
use Rattle.pp_processor.specs.Processor.{word_at}
use Rattle.pp_numbers.specs.PpNo.{names_processor, processor_index, processor_places}
use Rattle.pp_processor.specs.declared.pp_state.PpState.TheVariants.{Running}
use Rattle.pp_deck.specs.DeckLaw.{IsFor, SetsWord, SetsCentralWord, Starts, Registers, registers_of, at_rest, HoldsLast, line_of}
use Rattle.pp_deck.specs.DeckLine.{Line, nothing, central_words, section, start, words}
use Rattle.pp_deck.specs.DeckLoad.{word_for, central_word_for, start_in, is_for, section_of, lines_for, memory_of, processor_loaded, central_loaded}
use Rattle.pp_deck.specs.DeckMeaning.{set_by}
use Rattle.pp_deck.proofs.SectionLemmas.{current_after, names, section_more}
use Rattle.pp_numbers.proofs.GrowingLists.{last_of, or_else, range_more, last_of_more, filter_map_more}
use Rattle.pp_numbers.proofs.TableLemmas.{length-tabulate, get_or-tabulate}
use Rattle.pp_numbers.specs.declared.profile.Profile.{Profile}

-- ---- the last number at which there is something

last_more : {A : Type 0} (f : ℕ → Option A) (n : ℕ) → last_of (filter_map f (range_with_len 0 (suc n))) ≡ or_else (f n) (last_of (filter_map f (range_with_len 0 n)))
last_more f n =
    ap (λ (m : ℕ). last_of (filter_map f (range_with_len 0 m))) (sym (add-one n)) ∙ ap (λ (ks : List ℕ). last_of (filter_map f ks)) (range_more 0 n)
    ∙ ap last_of (filter_map_more f (range_with_len 0 n) (0 + n)) ∙ last_of_more (filter_map f (range_with_len 0 n)) (f (0 + n))
    ∙ ap (λ (i : ℕ). or_else (f i) (last_of (filter_map f (range_with_len 0 n)))) (from_zero n)
  where
    from_zero : (m : ℕ) → 0 + m ≡ m
    from_zero m = omega arith

last_none : {A : Type 0} (f : ℕ → Option A) (n : ℕ) → ((k : ℕ) → k < n → f k ≡ None) → last_of (filter_map f (range_with_len 0 n)) ≡ None
last_none f zero none = refl
last_none {A} f (suc n) none = grind (arith, last_more, or_else, last_of, last_none f n (λ k lt. none k (omega (arith, lt))))

-- the last is at k
last_at : {A : Type 0} (f : ℕ → Option A) (n k : ℕ) (x : A) → k < n → f k ≡ Some x → ((j : ℕ) → k < j → j < n → f j ≡ None) → last_of (filter_map f (range_with_len 0 n)) ≡ Some x
last_at f zero k x lt here behind = absurd (omega (arith, lt))
last_at {A} f (suc n) k x lt here behind = grind (arith, last_more, cases_eq, last_of, or_else, last_at f n k x)

-- a value that is the last one found holds the last
holds_last : {A : Type 0} (lines : List Line) (f : ℕ → Option A) (Sets : ℕ → A → Type 0) (otherwise value : A) → ((k : ℕ) (x : A) → k < length lines → f k ≡ Some x → Sets k x) → ((k : ℕ) (x : A) → k < length lines → Sets k x → f k ≡ Some x) → value ≡ unwrap_or (last_of (filter_map f (range_with_len 0 (length lines)))) otherwise → HoldsLast lines Sets otherwise value
holds_last {A} lines f Sets otherwise value found there is = record {
  last = λ k x lt sets behind. is ∙ ap (λ (o : Option A). unwrap_or o otherwise) (last_at f (length lines) k x lt (there k x lt sets) (λ j less within. nowhere j within (λ y h. behind j y less within h) (f j) refl));
  none = λ never. is ∙ ap (λ (o : Option A). unwrap_or o otherwise) (last_none f (length lines) (λ k within. nowhere k within (λ x h. never k x within h) (f k) refl));
}
  where
    nowhere : (j : ℕ) → j < length lines → ((y : A) → Sets j y → ⊥) → (o : Option A) → f j ≡ o → f j ≡ None
    nowhere j within not None e = e
    nowhere j within not (Some y) e = absurd (not y (found j y within e))

-- ---- the section of a line

section_next : (lines : List Line) (k : ℕ) → k < length lines → section_of (take (suc k) lines) ≡ current_after (line_of lines k) (section_of (take k lines))
section_next lines k lt =
    ap (λ (i : ℕ). section_of (take i lines)) (sym (add-one k)) ∙ ap section_of (take_more lines k nothing lt) ∙ section_more (take k lines) (line_of lines k)

-- a line is the heading, or the section is as before
heading_or : (line : Line) (current : Option ℕ) (n : ℕ) → current_after line current ≡ Some n → (line ≡ section n) ⊎ ((current ≡ Some n) × ((m : ℕ) → line ≡ section m → ⊥))
heading_or line current n e = grind arith

heading_at : (lines : List Line) (k n : ℕ) → (section_of (take k lines) ≡ Some n → IsFor lines k n) → (line_of lines k ≡ section n) ⊎ ((section_of (take k lines) ≡ Some n) × ((m : ℕ) → line_of lines k ≡ section m → ⊥)) → IsFor lines (k + 1) n
heading_at lines k n before h4 = grind (arith, names, cases_order)

-- the section behind k lines is that of the last heading before line k
pub heading_of : (lines : List Line) (k n : ℕ) → k ≤ length lines → section_of (take k lines) ≡ Some n → IsFor lines k n
unfolding section_of
heading_of lines zero n le e = grind arith
heading_of lines (suc k) n le e =
    let P : ℕ → Type 0 = λ i. IsFor lines i n in
    subst P (add-one k) (heading_at lines k n (heading_of lines k n (omega (arith, le)))
    (heading_or (line_of lines k) (section_of (take k lines)) n (sym (section_next lines k (omega (arith, le))) ∙ e)))

section_at : (lines : List Line) (k n : ℕ) → (IsFor lines k n → section_of (take k lines) ≡ Some n) → (h : IsFor lines (suc k) n) → (h.heading ≡ k) ⊎ ((h.heading < k) ⊎ (k < h.heading)) → current_after (line_of lines k) (section_of (take k lines)) ≡ Some n
section_at lines k n before h h5 = grind (arith, current_after, names)

section_for : (lines : List Line) (k n : ℕ) → k ≤ length lines → IsFor lines k n → section_of (take k lines) ≡ Some n
section_for lines zero n le h = absurd (omega (arith, h.before))
section_for lines (suc k) n le h =
    section_next lines k (omega (arith, le)) ∙ section_at lines k n (section_for lines k n (omega (arith, le))) h (cases_order h.heading k)

-- ---- what lines set

pub word_set : (line : Line) (place w : ℕ) → word_for place line ≡ Some w → SetsWord line place w
word_set (words x ws) place w e = grind (arith, leb, leb-true)
word_set line place w e = absurd (cc)

pub set_word : (line : Line) (place w : ℕ) → SetsWord line place w → word_for place line ≡ Some w
set_word line place w h = grind (arith, le-leb)

pub central_set : (line : Line) (address w : ℕ) → central_word_for address line ≡ Some w → SetsCentralWord line address w
central_set (central_words a ws) address w e = grind (arith, leb, leb-true)
central_set line address w e = absurd (cc)

pub set_central : (line : Line) (address w : ℕ) → SetsCentralWord line address w → central_word_for address line ≡ Some w
set_central line address w h = grind (arith, le-leb)

-- the registers at a start
abbrev pub registers_at : ℕ × ℕ → Registers
registers_at s = record { state = Running; p = s.0; a = s.1 }

pub start_set : (line : Line) (registers : Registers) → option_map registers_at (start_in line) ≡ Some registers → Starts line registers
start_set (start p a) registers e = cc
start_set line registers e = absurd (cc)

pub set_start : (line : Line) (registers : Registers) → Starts line registers → option_map registers_at (start_in line) ≡ Some registers
set_start line registers h = grind arith

-- ---- what the lines for a processor set

then_in : {X A : Type 0} → (X → Option A) → Option X → Option A
then_in f None = None
then_in f (Some x) = f x

filter_twice : {X Y A : Type 0} (f : X → Option Y) (g : Y → Option A) (xs : List X) → filter_map g (filter_map f xs) ≡ filter_map (λ x. then_in g (f x)) xs
unfolding then_in
filter_twice f g [] = refl
filter_twice {X} {Y} {A} f g (x ∷ xs) = grind (arith, then_in, filter_twice f g xs)

pick : ℕ → List Line → ℕ → Option Line
pick n lines k = cond (is_for n (section_of (take k lines))) (Some (line_of lines k)) None

pub is_section : (n : ℕ) (current : Option ℕ) → is_for n current ≡ true → current ≡ Some n
is_section n current e = grind (arith, eqb-true)

picked : {A : Type 0} (f : Line → Option A) (line : Line) (b : Bool) (x : A) → then_in f (cond b (Some line) None) ≡ Some x → (b ≡ true) × (f line ≡ Some x)
unfolding then_in
picked f line b x e = grind arith

picks : {A : Type 0} (f : Line → Option A) (line : Line) (n : ℕ) (current : Option ℕ) (x : A) → current ≡ Some n → f line ≡ Some x → then_in f (cond (is_for n current) (Some line) None) ≡ Some x
unfolding then_in
picks f line n current x e h = grind (arith, then_in, eq-eqb)

pub own_last : {A : Type 0} (n : ℕ) (lines : List Line) (f : Line → Option A) (Sets : Line → A → Type 0) (otherwise value : A) → ((line : Line) (x : A) → f line ≡ Some x → Sets line x) → ((line : Line) (x : A) → Sets line x → f line ≡ Some x) → value ≡ unwrap_or (last_of (filter_map f (lines_for n lines))) otherwise → HoldsLast lines (λ k x. IsFor lines k n × Sets (line_of lines k) x) otherwise value
unfolding pick lines_for
own_last {A} n lines f Sets otherwise value found there is =
    holds_last lines (λ k. then_in f (pick n lines k)) (λ k x. IsFor lines k n × Sets (line_of lines k) x) otherwise value
    (λ k x lt e. let p = picked f (line_of lines k) (is_for n (section_of (take k lines))) x e in
    (heading_of lines k n (omega (arith, lt)) (is_section n (section_of (take k lines)) p.0), found (line_of lines k) x p.1))
    (λ k x lt h. picks f (line_of lines k) n (section_of (take k lines)) x (section_for lines k n (omega (arith, lt)) h.0) (there (line_of lines k) x h.1))
    (is ∙ ap (λ (xs : List A). unwrap_or (last_of xs) otherwise) (filter_twice (λ k. cond (is_for n (section_of (take k lines))) (Some (line_of lines k)) None) f (range_with_len 0 (length lines))))

-- ---- what all lines set

filter_mapped : {X Y A : Type 0} (f : Y → Option A) (g : X → Y) (xs : List X) → filter_map f (map g xs) ≡ filter_map (λ x. f (g x)) xs
filter_mapped f g [] = refl
filter_mapped f g (x ∷ xs) = ap (cons_option (f (g x))) (filter_mapped f g xs)

pub all_last : {A : Type 0} (lines : List Line) (f : Line → Option A) (Sets : Line → A → Type 0) (otherwise value : A) → ((line : Line) (x : A) → f line ≡ Some x → Sets line x) → ((line : Line) (x : A) → Sets line x → f line ≡ Some x) → value ≡ unwrap_or (last_of (filter_map f lines)) otherwise → HoldsLast lines (λ k x. Sets (line_of lines k) x) otherwise value
all_last {A} lines f Sets otherwise value found there is =
    holds_last lines (λ k. f (line_of lines k)) (λ k x. Sets (line_of lines k) x) otherwise value
    (λ k x lt e. found (line_of lines k) x e) (λ k x lt h. there (line_of lines k) x h)
    (is ∙ ap (λ (xs : List A). unwrap_or (last_of xs) otherwise)
    (ap (filter_map f) (fill_by_all (line_of lines) lines (length lines) nothing refl (λ k lt. refl)) ∙ filter_mapped f (line_of lines) (range_with_len 0 (length lines))))

-- ---- the loaded machine

mapped_last : {X A B : Type 0} (g : A → B) (h : X → Option A) (xs : List X) → filter_map (λ x. option_map g (h x)) xs ≡ map g (filter_map h xs)
mapped_last g h [] = refl
mapped_last {X} {A} {B} g h (x ∷ xs) = grind (arith, mapped_last g h xs)

last_mapped : {A B : Type 0} (g : A → B) (xs : List A) → last_of (map g xs) ≡ option_map g (last_of xs)
last_mapped g xs = sym (last_or_at (map g xs)) ∙ ap (λ (n : ℕ). slice_get (map g xs) (n - 1)) (length-map xs g) ∙ slice_get-map g xs (length xs - 1) ∙ ap (option_map g) (last_or_at xs)

last_start : (lines : List Line) → last_of (filter_map (λ line. option_map registers_at (start_in line)) lines) ≡ option_map registers_at (last_of (filter_map start_in lines))
last_start lines = ap last_of (mapped_last registers_at start_in lines) ∙ last_mapped registers_at (filter_map start_in lines)

pub central_here : (size : ℕ) (lines : List Line) (address : ℕ) → address < length (central_loaded size lines) → get_or (central_loaded size lines) address 0 ≡ unwrap_or (last_of (filter_map (central_word_for address) lines)) 0
unfolding central_loaded
central_here size lines address lt = grind (arith, get_or-tabulate, last_of, length-tabulate)

-- ---- names

is_name : (n : ℕ) (line : Line) → names n line ≡ true → line ≡ section n
is_name n line e = grind (arith, eqb-true)

-- what only one line can pass, if some line passes it
pub some_line : (p : Line → Bool) (only : Line) (lines : List Line) → ((line : Line) → p line ≡ true → line ≡ only) → list_any p lines ≡ true → Contains lines only
some_line p only lines is e = let h = Any-from_list_any p lines e in (h.0, h.2, get_or_default lines h.0 only h.1 h.2 ∙ h.3 ∙ is h.1 h.4)

pub some_name : (n : ℕ) (lines : List Line) → list_any (names n) lines ≡ true → Contains lines (section n)
some_name n lines e = some_line (names n) (section n) lines (is_name n) e

pub named_some : (n : ℕ) (lines : List Line) → Contains lines (section n) → list_any (names n) lines ≡ true
named_some n lines h = list_any_at (names n) lines h.0 (section n) h.1 (ap (names n) h.2 ∙ eq-eqb n n refl)

-- ---- what a loaded machine holds

module _ (profile : Profile) where
  pub processor_here : (size : ℕ) (lines : List Line) (n : ℕ) → IsTrue (names_processor n) → processor_of n (set_by profile size lines).machine ≡ processor_loaded profile lines n
  processor_here size lines n names = grind (arith, get_or-tabulate, processor_places.place_below, processor_places.number_of_place)

  pub place_here : (lines : List Line) (n place : ℕ) → place < place_count → word_at (processor_loaded profile lines n) place ≡ unwrap_or (last_of (filter_map (word_for place) (lines_for n lines))) 0
  unfolding processor_loaded memory_of
  place_here lines n place lt = grind (arith, last_of, get_or-tabulate)

  pub registers_here : (lines : List Line) (n : ℕ) → registers_of (processor_loaded profile lines n) ≡ unwrap_or (last_of (filter_map (λ line. option_map registers_at (start_in line)) (lines_for n lines))) at_rest
  unfolding processor_loaded
  registers_here lines n = grind (arith, last_of, last_start)

  pub no_block_here : (lines : List Line) (n : ℕ) → (processor_loaded profile lines n).block ≡ None
  unfolding processor_loaded
  no_block_here lines n = grind (arith, last_of)

  pub named_here : (size : ℕ) (lines : List Line) (n : ℕ) → IsTrue (names_processor n) → get_or (set_by profile size lines).named (processor_index n) false ≡ list_any (names n) lines
  named_here size lines n named = grind (arith, get_or-tabulate, processor_places.place_below, processor_places.number_of_place)
