-- The words, starts and central words that a deck loads are in range.
use Rattle.std.proofs.Common.{ℕ, zero, suc, ◌^◌, ◌<◌, ◌≤◌, Bool, true, false, cond, List, [], ◌∷◌, length, take, get_or, Option, Some, None, Result, arith}
use Rattle.std.specs.Prelude.{All, Contains, IfSome, IsTrue, filter_map, slice_get, unwrap_or}
use Rattle.std.specs.List.{AllByRecursion, last_or, list_any, range_with_len}
use Rattle.std.specs.Result.{result_ok}
use Rattle.std.proofs.lemmas.Bool.{cases_lt}
use Rattle.std.proofs.lemmas.List.{get_or_past}
use Rattle.std.proofs.lemmas.List.Elements.{All-contains, All-from_recursion, All-head, All-tail}
use Rattle.pp_word.specs.Address.{place_count}
use Rattle.pp_numbers.proofs.GrowingLists.{last_of}
use Rattle.pp_numbers.specs.Tables.{tabulate}
use Rattle.pp_numbers.proofs.TableLemmas.{length-tabulate, get_or-tabulate}
use Rattle.pp_machine.specs.Central.{IsCentral}
use Rattle.pp_processor.specs.PpMemory.{IsMemory}
use Rattle.pp_processor.specs.Processor.{IsProcessor}
use Rattle.pp_numbers.specs.Profile.{has_processor}
use Rattle.pp_numbers.specs.declared.profile.Profile.{Profile}
use Rattle.pp_deck.specs.DeckLine.{Line, nothing, section}
use Rattle.pp_deck.specs.DeckLoad.{word_for, central_word_for, start_in, is_for, section_of, lines_for, memory_of, central_loaded, processor_with, processor_loaded}
use Rattle.pp_deck.specs.DeckMeaning.{has_fields, begins_section, line_at, size_of, parsed_deck}
use Rattle.pp_deck.specs.DeckText.{Fields}
use Rattle.pp_deck.specs.declared.flaw.Flaw.{Flaw}
use Rattle.pp_deck.proofs.MemoryLemmas.{length-central_loaded}
use Rattle.pp_deck.proofs.RangeLemmas.{Holds, InRange, IsKnown, line_holds}

-- ---- what holds of each that is found in a list

all_found : {X A : Type 0} (Q : X → Type 0) (P : A → Type 0) (f : X → Option A) (xs : List X) → ((x : X) → Q x → IfSome (f x) P) → AllByRecursion Q xs → AllByRecursion P (filter_map f xs)
all_found Q P f [] h k = tt
all_found Q P f (x ∷ xs) h k = grind (arith, all_found Q P f xs h k.1)

found_among : {A : Type 0} (P : A → Type 0) (f : ℕ → Option A) (ks : List ℕ) → ((k : ℕ) → IfSome (f k) P) → AllByRecursion P (filter_map f ks)
found_among P f ks h = all_found (λ k. Unit {0}) P f ks (λ k t. h k) (anything ks)
  where
    anything : (ks : List ℕ) → AllByRecursion (λ k. Unit {0}) ks
    anything [] = tt
    anything (k ∷ ks) = (tt, anything ks)

last_holds : {A : Type 0} (P : A → Type 0) (o : Option A) (xs : List A) → IfSome o P → AllByRecursion P xs → IfSome (last_or o xs) P
last_holds P o [] h k = h
last_holds P o (x ∷ xs) h k = last_holds P (Some x) xs k.0 k.1

-- what holds of each entry of a table holds of the table
pub all_tabulate : {A : Type 0} (P : A → Type 0) (n : ℕ) (f : ℕ → A) → ((k : ℕ) → k < n → P (f k)) → All P (tabulate n f)
all_tabulate P n f h = grind (arith, length-tabulate, get_or-tabulate)

-- numbers that are found or else 0 are below a bound, past the end of the table too
small_table : (most n : ℕ) (f : ℕ → Option ℕ) → 0 < most → ((k : ℕ) → IfSome (f k) (λ w. w < most)) → (i : ℕ) → get_or (tabulate n (λ k. unwrap_or (f k) 0)) i 0 < most
small_table most n f some h i = grind (arith, cases_lt, get_or-tabulate, get_or_past, length-tabulate)

among_in : (P : ℕ → Type 0) (b : Bool) (ws : List ℕ) (i : ℕ) → All P ws → IfSome (cond b (slice_get ws i) None) P
among_in P true [] i h = tt
among_in P true (w ∷ ws) zero h = All-head P w ws h
among_in P true (w ∷ ws) (suc i) h = among_in P true ws i (All-tail P w ws h)
among_in P false ws i h = tt

module _ (profile : Profile) where
  -- ---- the lines of a deck

  said_line : (begins : Bool) (r : Result Line Flaw) → Holds (IsKnown profile begins) r → IfSome (result_ok r) (InRange profile)
  said_line begins r h = grind arith

  pub said_in_range : (lines : List Fields) → AllByRecursion (InRange profile) (parsed_deck profile lines)
  unfolding parsed_deck line_at
  said_in_range lines =
      found_among (InRange profile) (λ k. result_ok (line_at profile (size_of lines) lines k)) (range_with_len 0 (length lines))
      (λ k. said_line (begins_section (get_or lines k [])) _ (line_holds profile (size_of lines) (list_any has_fields (take k lines)) (list_any begins_section (take k lines)) (get_or lines k [])))

  -- a processor that a line names is one of the profile
  pub named_has : (lines : List Line) → AllByRecursion (InRange profile) lines → (n : ℕ) → Contains lines (section n) → IsTrue (has_processor profile n)
  named_has lines h n named = All-contains (InRange profile) lines (section n) (All-from_recursion (InRange profile) lines h) named

  get_in : (lines : List Line) (k : ℕ) → AllByRecursion (InRange profile) lines → InRange profile (get_or lines k nothing)
  get_in [] k h = tt
  get_in (line ∷ lines) zero h = h.0
  get_in (line ∷ lines) (suc k) h = get_in lines k h.1

  picked : (b : Bool) (line : Line) → InRange profile line → IfSome (cond b (Some line) None) (InRange profile)
  picked b line h = grind arith

  for_in_range : (n : ℕ) (lines : List Line) → AllByRecursion (InRange profile) lines → AllByRecursion (InRange profile) (lines_for n lines)
  unfolding lines_for
  for_in_range n lines h =
      found_among (InRange profile) (λ k. cond (is_for n (section_of (take k lines))) (Some (get_or lines k nothing)) None) (range_with_len 0 (length lines))
      (λ k. picked (is_for n (section_of (take k lines))) (get_or lines k nothing) (get_in lines k h))

  -- ---- what they set

  last_set : {A : Type 0} (P : A → Type 0) (g : Line → Option A) (lines : List Line) → ((line : Line) → InRange profile line → IfSome (g line) P) → AllByRecursion (InRange profile) lines → IfSome (last_of (filter_map g lines)) P
  last_set P g lines h k = last_holds P None (filter_map g lines) tt (all_found (InRange profile) P g lines h k)

  word_small : (place : ℕ) (line : Line) → InRange profile line → IfSome (word_for place line) (λ w. w < 8 ^ 4)
  word_small place line h = grind (arith, among_in)

  central_small : (address : ℕ) (line : Line) → InRange profile line → IfSome (central_word_for address line) (λ w. w < 8 ^ 20)
  central_small address line h = grind (arith, among_in)

  -- P and A are in range
  abbrev IsStart : ℕ × ℕ → Type 0
  IsStart s = (s.0 < 8 ^ 4) × (s.1 < 8 ^ 6)

  start_small : (line : Line) → InRange profile line → IfSome (start_in line) IsStart
  start_small line h = grind arith

  memory_in_range : (lines : List Line) → AllByRecursion (InRange profile) lines → IsMemory (memory_of lines)
  unfolding memory_of
  memory_in_range lines h =
      let last : ℕ → Option ℕ = λ place. last_of (filter_map (word_for place) lines) in
      record {
        each_place = length-tabulate place_count (λ place. unwrap_or (last place) 0);
        each_word = λ place. let small = small_table (8 ^ 4) place_count last (omega arith) (λ k. last_set (λ w. w < 8 ^ 4) (word_for k) lines (word_small k) h) place in omega (arith, small);
      }

  with_start : (memory : List ℕ) (o : Option (ℕ × ℕ)) → IsMemory memory → IfSome o IsStart → IsProcessor (processor_with profile memory o)
  with_start memory o h s = grind arith

  -- a processor as lines leave it
  pub processor_in_range : (n : ℕ) (lines : List Line) → AllByRecursion (InRange profile) lines → IsProcessor (processor_loaded profile lines n)
  unfolding processor_loaded
  processor_in_range n lines h =
      let own = for_in_range n lines h in
      with_start (memory_of (lines_for n lines)) (last_of (filter_map start_in (lines_for n lines))) (memory_in_range (lines_for n lines) own) (last_set IsStart start_in (lines_for n lines) start_small own)

  -- and central memory
  pub central_in_range : (size : ℕ) (lines : List Line) → 1 ≤ size → size ≤ 0o400000 → AllByRecursion (InRange profile) lines → IsCentral (central_loaded size lines)
  unfolding central_loaded
  central_in_range size lines least most h = record {
    size = record { some = omega (arith, least, length-central_loaded size lines); most = omega (arith, most, length-central_loaded size lines) };
    small = λ a. let small = small_table (8 ^ 20) size (λ k. last_of (filter_map (central_word_for k) lines)) (omega arith) (λ k. last_set (λ w. w < 8 ^ 20) (central_word_for k) lines (central_small k) h) a in omega (arith, small);
  }
