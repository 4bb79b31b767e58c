-- Lists of numbers, number by number.
use Rattle.std.proofs.Common.{◌≡◌, ℕ, suc, ◌+◌, ◌==◌, ◌<◌, ◌≤◌, Bool, true, false, List, [], ◌∷◌, length, drop, Option, None, Some, refl, sym, ap, ◌∙◌, subst, arith}
use Rattle.std.specs.Prelude.{◌&&◌, ◌||◌, All, IsSome, IsTrue, position, slice_index_or, slice_set, take}
use Rattle.std.proofs.lemmas.Bool.{cases_eq, eq-eqb, false≢true, ne_eqb}
use Rattle.std.specs.List.{position_or_len, slice_split}
use Rattle.std.proofs.lemmas.Grind.{common_steps}
use Rattle.std.proofs.lemmas.List.Splits.{slice_split_first, slice_split_none}
use Rattle.std.proofs.lemmas.List.Sums.{fails_before_first}
use Rattle.std.proofs.lemmas.List.{get_or-set_other, get_or-set_same, length-set}
use Rattle.std.proofs.lemmas.List.Elements.{All-cons, All-head, All-tail}
use Rattle.pp_numbers.specs.ChannelNo.{channel_count, channel_index, names_channel, channel_places}
use Rattle.pp_numbers.specs.PpNo.{is_named, names_processor, processor_count, processor_index, processor_places}
use Rattle.pp_command.specs.ChannelList.{is_flagged_channel}
use Rattle.pp_command.specs.NumberList.{AreFlagged, is_among, is_comma, numbered, numbers_of}

-- ---- the numbers of a list, from left to right

-- the first number ends at the first comma
pub parted : (text : List ℕ) (place : ℕ) → position is_comma text ≡ Some place → numbers_of text ≡ take place text ∷ numbers_of (drop (place + 1) text)
unfolding numbers_of
parted text place at =
    let place_is : position_or_len is_comma text ≡ place = grind (arith, common_steps) in
    let within : position_or_len is_comma text < length text = grind (arith, common_steps) in
    let first : slice_split is_comma text ≡ take (position_or_len is_comma text) text ∷ slice_split is_comma (drop (position_or_len is_comma text + 1) text) = slice_split_first is_comma text 0 within in
    rw place_is at first

pub one_number : (text : List ℕ) → position is_comma text ≡ None → numbers_of text ≡ text ∷ []
unfolding numbers_of
one_number text at =
    let long : length text ≤ position_or_len is_comma text = grind (arith, common_steps) in
    slice_split_none is_comma text (λ k d below. fails_before_first is_comma text k d (omega (arith, long, below)))

-- what of a text is left, in bytes
abbrev pub bytes_in : Option (List ℕ) → ℕ
bytes_in None = 0
bytes_in (Some text) = suc (length text)

-- ---- flags of the numbers so far

abbrev pub IsNumber : (ℕ → Bool) → List ℕ → Type 0
IsNumber names number = IsSome (numbered names number)

-- of a list of numbers all but some more are flagged
pub record HasFlagged (names : ℕ → Bool) (places : ℕ) (is_flagged : List Bool → ℕ → Bool) (numbers : List (List ℕ)) (flags : List Bool) (more : List (List ℕ)) : Type 0 where
  pub each_place : length flags ≡ places
  pub all_if_more : All (IsNumber names) more → All (IsNumber names) numbers
  pub more_if_all : All (IsNumber names) numbers → All (IsNumber names) more
  pub flagged : (n : ℕ) → (is_flagged flags n || is_among names n more) ≡ is_among names n numbers

or_assoc : (a b c : Bool) → ((a || b) || c) ≡ (a || (b || c))
or_assoc true b c = refl
or_assoc false b c = refl

or_true : (b : Bool) → (b || true) ≡ true
or_true true = refl
or_true false = refl

or_false : (b : Bool) → (b || false) ≡ b
or_false true = refl
or_false false = refl

among_more : (names : ℕ → Bool) (n m : ℕ) (number : List ℕ) (more : List (List ℕ)) → numbered names number ≡ Some m → is_among names n (number ∷ more) ≡ ((m == n) || is_among names n more)
among_more names n m number more is = rw is refl

some : (names : ℕ → Bool) (number : List ℕ) (m : ℕ) → numbered names number ≡ Some m → IsNumber names number
some names number m is = rw is refl

-- the next number is flagged
pub flag_more : (names : ℕ → Bool) (places : ℕ) (is_flagged : List Bool → ℕ → Bool) (numbers : List (List ℕ)) (flags : List Bool) (place : ℕ) (number : List ℕ) (more : List (List ℕ)) (m : ℕ) → HasFlagged names places is_flagged numbers flags (number ∷ more) → numbered names number ≡ Some m → ((n : ℕ) → is_flagged (slice_set flags place true) n ≡ (is_flagged flags n || (m == n))) → HasFlagged names places is_flagged numbers (slice_set flags place true) more
flag_more names places is_flagged numbers flags place number more m has is one_more = record {
  each_place = length-set flags place true ∙ has.each_place;
  all_if_more = λ all. has.all_if_more (All-cons (IsNumber names) number more (some names number m is) all);
  more_if_all = λ all. All-tail (IsNumber names) number more (has.more_if_all all);
  flagged = λ n.
      ap (λ (b : Bool). b || is_among names n more) (one_more n)
      ∙ or_assoc (is_flagged flags n) (m == n) (is_among names n more)
      ∙ ap (λ (b : Bool). is_flagged flags n || b) (sym (among_more names n m number more is))
      ∙ has.flagged n;
}

-- all are
pub all_flagged : (names : ℕ → Bool) (places : ℕ) (is_flagged : List Bool → ℕ → Bool) (text : List ℕ) (flags : List Bool) → HasFlagged names places is_flagged (numbers_of text) flags [] → AreFlagged names places is_flagged text flags
all_flagged names places is_flagged text flags has = grind (arith, or_false)

-- one that names nothing is in no list
pub no_list : (names : ℕ → Bool) (places : ℕ) (is_flagged : List Bool → ℕ → Bool) (text : List ℕ) (flags : List Bool) (number : List ℕ) (more : List (List ℕ)) → HasFlagged names places is_flagged (numbers_of text) flags (number ∷ more) → numbered names number ≡ None → (listed : List Bool) → AreFlagged names places is_flagged text listed → ⊥
no_list names places is_flagged text flags number more has none listed are = absurd (false≢true (subst IsSome none (All-head (IsNumber names) number more (has.more_if_all are.numbers))))

-- ---- flags in the order of places

-- one more is set
one_set : (index : ℕ → ℕ) (flags : List Bool) (m n : ℕ) → index m < length flags → (index n ≡ index m → n ≡ m) → slice_index_or (slice_set flags (index m) true) (index n) false ≡ (slice_index_or flags (index n) false || (m == n))
one_set index flags m n below own = grind (arith, cases_eq, get_or-set_same, eq-eqb, or_true, get_or-set_other, ne_eqb, or_false)

-- ---- channels

pub one_channel : (flags : List Bool) (d : ℕ) → length flags ≡ channel_count → IsTrue (names_channel d) → (c : ℕ) → is_flagged_channel (slice_set flags (channel_index d) true) c ≡ (is_flagged_channel flags c || (d == c))
one_channel flags d all names c = grind (arith, channel_places.place_below, one_set, channel_places.one_place)

-- ---- processors

-- a number that names none is not the one that names one
and_own : (a b c : Bool) → (c ≡ true → a ≡ true) → (a && (b || c)) ≡ ((a && b) || c)
and_own true b c own = refl
and_own false b false own = refl
and_own false b true own = absurd (false≢true (own refl))

pub one_processor : (flags : List Bool) (m : ℕ) → length flags ≡ processor_count → IsTrue (names_processor m) → (n : ℕ) → is_named (slice_set flags (processor_index m) true) n ≡ (is_named flags n || (m == n))
one_processor flags m all names n = grind (arith, processor_places.place_below, one_set, processor_places.one_place, and_own, cases_eq, false≢true, ne_eqb)
