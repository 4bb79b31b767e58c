-- Accesses that came after what dead start opened.
use Rattle.std.proofs.Common.{◌≡◌, ℕ, ◌≤◌, Bool, true, not, List, [], ◌∷◌, length, refl, sym, ap, ◌∙◌, subst, inl, inr, arith}
use Rattle.std.specs.List.{All, filter, range_with_len}
use Rattle.std.proofs.lemmas.Bool.{le-ltb}
use Rattle.std.proofs.lemmas.List.{append-nil}
use Rattle.std.proofs.lemmas.List.Elements.{All-cons, All-head, All-nil, All-tail}
use Rattle.pp_numbers.specs.Subsequence.{IsSubsequence}
use Rattle.pp_numbers.proofs.Subsequences.{stands_passed, stands_through}
use Rattle.pp_line.proofs.OrderLemmas.{entries_stand, is_later, stands_later_in}
use Rattle.pp_channel.specs.History.{history_on}
use Rattle.pp_channel.specs.Law.{IsPrefix}
use Rattle.pp_line.specs.LineState.{LineState}
use Rattle.pp_line.specs.Order.{entries_among, writes_among, words_after, times, AreMade, FindsWords, ExtendsEach, IsDrawnFrom}
use Rattle.pp_runner.specs.Types.{Access, Entry, Event, OnChannel, Read, Worker, Write}
use Rattle.pp_processor.specs.Processor.{Processor}
use Rattle.pp_runner.specs.Accesses.{HasAccessed}
use Rattle.pp_runner.specs.WorkerState.{HasMade, NoneOlder}

module _ {X : Type 0} where
  -- what holds of each item holds of each that stands among them
  all_standing : (P : X → Type 0) (xs ys : List X) → All P ys → IsSubsequence xs ys → All P xs
  all_standing P [] ys all h = All-nil P
  all_standing P (x ∷ xs) [] all h = absurd h
  all_standing P (x ∷ xs) (y ∷ ys) all (inl same) =
      All-cons P x xs (subst P (sym same.0) (All-head P y ys all)) (all_standing P xs ys (All-tail P y ys all) same.1)
  all_standing P (x ∷ xs) (y ∷ ys) all (inr rest) = all_standing P (x ∷ xs) ys (All-tail P y ys all) rest

module _ (opening : ℕ → List Event) (histories : List (List Event)) (begins : (c : ℕ) → IsPrefix (opening c) (history_on c histories)) where
  abbrev is_later_entry : Entry → Bool
  is_later_entry entry = is_later opening (λ c. history_on c histories) begins entry

  abbrev pub is_late : Access → Bool
  is_late (OnChannel entry) = is_later_entry entry
  is_late (Read address word) = true
  is_late (Write address word number) = true

  pub late_entries : (xs : List Access) → entries_among (filter is_late xs) ≡ filter is_later_entry (entries_among xs)
  late_entries [] = refl
  late_entries (OnChannel entry ∷ xs) = grind (arith, is_later_entry, is_late, late_entries xs)
  late_entries (Read address word ∷ xs) = late_entries xs
  late_entries (Write address word number ∷ xs) = late_entries xs

  pub late_writes : (xs : List Access) → writes_among (filter is_late xs) ≡ writes_among xs
  late_writes [] = refl
  late_writes (OnChannel entry ∷ xs) = grind (arith, is_later_entry, is_late, late_writes xs)
  late_writes (Read address word ∷ xs) = late_writes xs
  late_writes (Write address word number ∷ xs) = ap (λ l. number ∷ l) (late_writes xs)

  pub late_finds : (words : List ℕ) (xs : List Access) → FindsWords words xs → FindsWords words (filter is_late xs)
  late_finds words [] finds = tt
  late_finds words (OnChannel entry ∷ xs) finds = grind (arith, is_later_entry, is_late, late_finds words xs finds.1)
  late_finds words (Read address word ∷ xs) finds = (finds.0, late_finds words xs finds.1)
  late_finds words (Write address word number ∷ xs) finds = (tt, late_finds (words_after words (Write address word number)) xs finds.1)

  pub made_late : (made : List ℕ) (xs : List Access) → AreMade made xs → AreMade made (filter is_late xs)
  made_late made xs is =
      let same = late_writes xs in record {
        numbered = same ∙ (is.numbered ∙ ap (λ (ws : List ℕ). range_with_len 0 (length ws)) (sym same));
        each = λ n. is.each n ∙ ap (times n) (sym same);
      }

  abbrev IsLate : Access → Type 0
  IsLate access = is_late access ≡ true

  abbrev NotOlder : Entry → Type 0
  NotOlder entry = length (opening entry.channel) ≤ entry.number

  all_late : (xs : List Access) → All NotOlder (entries_among xs) → All IsLate xs
  all_late [] all = All-nil IsLate
  all_late (OnChannel entry ∷ xs) all =
      All-cons IsLate (OnChannel entry) xs (ap not (le-ltb entry.number (length (opening entry.channel)) (All-head NotOlder entry (entries_among xs) all))) (all_late xs (All-tail NotOlder entry (entries_among xs) all))
  all_late (Read address word ∷ xs) all = All-cons IsLate (Read address word) xs refl (all_late xs all)
  all_late (Write address word number ∷ xs) all = All-cons IsLate (Write address word number) xs refl (all_late xs all)

  -- a worker's accesses, in the order of those that came later
  pub late_accessed : {A : Type 0} (load : Processor) (order : List Access) (w : Worker A) (l : LineState) → (made : HasMade load w.answers.items l.log.entries l.view) → NoneOlder (λ c. length (opening c)) l.log.entries
      → ExtendsEach order l.view.program_orders → IsDrawnFrom l.view.program_orders l.log.entries → w.log.items ≡ l.log.entries → HasAccessed load (filter is_late order) w made.accesses
  late_accessed load order w l made none extends drawn same =
      let t = made.program_order in
      let within : IsSubsequence t order = All-head (λ (x : List Access). IsSubsequence x order) t [] (subst (ExtendsEach order) made.only extends) in
      let all : All NotOlder (entries_among made.accesses) = all_standing NotOlder (entries_among made.accesses) l.log.entries none made.logged in
      let from : IsSubsequence l.log.entries (entries_among t) = subst (IsSubsequence l.log.entries) (append-nil (entries_among t)) (subst (λ ts. IsDrawnFrom ts l.log.entries) made.only drawn) in
      let through : IsSubsequence l.log.entries (entries_among order) = stands_through l.log.entries (entries_among t) (entries_among order) from (entries_stand t order within) in
      let later : IsSubsequence l.log.entries (entries_among (filter is_late order)) = subst (IsSubsequence l.log.entries) (sym (late_entries order)) (stands_later_in opening histories l.log.entries (entries_among order) begins none through) in record {
        given = made.given;
        in_order = stands_passed is_late made.accesses order (all_late made.accesses all) (stands_through made.accesses t order made.accessed within);
        drawn = subst (λ (es : List Entry). IsSubsequence es (entries_among (filter is_late order))) (sym same) later;
        logged = subst (IsSubsequence (entries_among made.accesses)) (sym same) made.logged;
      }
