-- An order is read as it is printed.
use Rattle.std.proofs.Common.{add-one, ◌≡◌, ℕ, zero, suc, ◌+◌, ◌-◌, ◌/◌, ◌%◌, ◌^◌, ◌<◌, ◌≤◌, Bool, true, false, cond, eqb, IsTrue, List, [], ◌∷◌, ◌++◌, append-nil, drop, length, length-append, map, replicate, Some, None, refl, sym, ap, ◌∙◌, inl, inr, arith}
use Rattle.std.specs.Prelude.{All, codes, nat_lt, not, position, take}
use Rattle.std.specs.List.{join_with_byte, list_all, position_or_len, slice_split}
use lib.Seq.{drop-append_seam, drop-drop, take-append-le, take_all}
use Rattle.std.proofs.Math.Nat.{pow-suc, pow-zero}
use Rattle.std.proofs.lemmas.Bool.{and_parts, cases_eq, eqb-true, le-leb, le-ltb, lt-ltb, ne_eqb}
use Rattle.std.proofs.lemmas.List.{length-drop, length-replicate}
use Rattle.std.proofs.lemmas.List.Elements.{All-append, All-drop, All-head, All-nil, All-push, All-tail}
use Rattle.std.proofs.lemmas.List.Splits.{slice_split_at, slice_split_none}
use Rattle.std.proofs.lemmas.List.Sums.{AllPass-from_list_all, prefix_len_is}
use Rattle.pp_word.specs.Numeral.{digit, is_digit, numeral, short_decimal, short_octal, unpadded}
use Rattle.pp_word.proofs.NumeralLemmas.{Pass, short_pass, short_read}
use Rattle.pp_text.proofs.Telling.{decimal_digit, short_decimal_pass, short_decimal_value}
use Rattle.pp_listing.proofs.OrderCommentLemmas.{row_pass}
use Rattle.pp_numbers.specs.Profile.{has_processor, processor_in_turn, processors_in}
use Rattle.pp_numbers.specs.declared.profile.Profile.{Profile}
use Rattle.pp_numbers.proofs.PpNoLemmas.{processor_fits}
use Rattle.pp_numbers.proofs.ProfileLemmas.{has_at, most_processors, processor_named, rest_within}
use Rattle.pp_machine.specs.Run.{barrel}
use Rattle.pp_machine.proofs.RunLemmas.{length-barrel}
use Rattle.pp_listing.specs.RestOfOrder.{order_left, turns_of_rounds}
use Rattle.pp_command.specs.NumberList.{is_comma, numbered, numbers_of}
use Rattle.pp_command.specs.OrderList.{all_steps, is_colon, item_steps, listed_steps, steps_of}
use Rattle.pp_text.specs.OrderText.{StepsInARow, order_text, row_text, rows_of, step_and_rows}

-- ---- counts

unpadded_short : (most k n : ℕ) → n < 10 ^ k → length (unpadded most n) ≤ k
unpadded_short zero k n h = omega arith
unpadded_short (suc most) zero n h = grind (arith, pow-zero)
unpadded_short (suc most) (suc k) n h =
    elim (cases_eq n 0) [
      | inl z ↦ rw z (omega arith)
      | inr some ↦
          let rest : n / 10 < 10 ^ k = omega (arith, h, pow-suc 10 k) in
          let short = unpadded_short most k (n / 10) rest in
          let all = length-append (unpadded most (n / 10)) (digit (n % 10)) in
          rw (ne_eqb n 0 some) (omega (arith, short, all))
    ]

decimal_length : (n : ℕ) → n ≤ 999999 → (1 ≤ length (short_decimal n)) × (length (short_decimal n) ≤ 6)
unfolding short_decimal
decimal_length n few = grind (arith, unpadded_short, length-append)

pub count_read : (n : ℕ) → n ≤ 999999 → numeral 10 6 (short_decimal n) ≡ Some n
unfolding numeral
count_read n few = let long = decimal_length n few in rw (le-leb 1 _ long.0, le-leb _ 6 long.1, short_decimal_pass (is_digit 10) decimal_digit n, short_decimal_value n (omega (arith, few))) refl

-- ---- what a text is cut at

-- no character is this one
pub Lacks : ℕ → List ℕ → Type 0
Lacks mark text = list_all (λ c. not (eqb c mark)) text ≡ true

each_lacks : (mark : ℕ) (text : List ℕ) → Lacks mark text → All (λ c. eqb c mark ≡ false) text
unfolding Lacks
each_lacks mark text lacks = λ k d lt. let is = AllPass-from_list_all (λ c. not (eqb c mark)) text lacks k d lt in grind (arith, is)

-- a mark that is no digit
digit_other : (mark : ℕ) → is_digit 10 mark ≡ false → Pass 10 (λ c. not (eqb c mark))
digit_other mark none d low = grind (arith, decimal_digit, cases_eq, ne_eqb)

pub octal_lacks : (mark n : ℕ) → Pass 10 (λ c. not (eqb c mark)) → Lacks mark (short_octal 2 n)
unfolding Lacks
octal_lacks mark n h = short_pass (λ c. not (eqb c mark)) (λ d low. h d (omega (arith, low))) 2 n

row_lacks : (row : StepsInARow) → Lacks 44 (row_text row)
unfolding Lacks
row_lacks row = row_pass (λ c. not (eqb c 44)) (digit_other 44 refl) refl row

rows_split : (row : StepsInARow) (rows : List StepsInARow) → slice_split is_comma (join_with_byte 44 (map row_text (row ∷ rows))) ≡ map row_text (row ∷ rows)
rows_split row [] = slice_split_none is_comma (row_text row) (each_lacks 44 (row_text row) (row_lacks row))
rows_split row (next ∷ rows) = grind (arith, slice_split_at, each_lacks, row_lacks, rows_split next rows)

-- ---- an item

position_at : (text : List ℕ) (n : ℕ) → position_or_len is_colon text ≡ n → position is_colon text ≡ cond (nat_lt n (length text)) (Some n) None
position_at text n e = ap (λ (k : ℕ). cond (nat_lt k (length text)) (Some k) None) e

pub no_colon : (text : List ℕ) → Lacks 58 text → position is_colon text ≡ None
unfolding Lacks
no_colon text lacks =
    let all : position_or_len is_colon text ≡ length text = prefix_len_is (λ c. not (is_colon c)) text (length text) 0 (omega arith) (λ k lt. AllPass-from_list_all (λ c. not (eqb c 58)) text lacks k 0 lt) (λ lt. absurd (omega (arith, lt))) in
    position_at text (length text) all ∙ ap (λ (b : Bool). cond b (Some (length text)) None) (le-ltb (length text) (length text) (omega arith))

colon_at : (text rest : List ℕ) → Lacks 58 text → position_or_len is_colon (text ++ 58 ∷ rest) ≡ length text
unfolding Lacks
colon_at [] rest lacks = refl
colon_at (c ∷ text) rest lacks =
    let parts = and_parts (not (eqb c 58)) (list_all (λ c. not (eqb c 58)) text) lacks in
    let further = colon_at text rest parts.1 in
    ap (λ (b : Bool). cond b (1 + position_or_len is_colon (text ++ 58 ∷ rest)) 0) parts.0 ∙ omega (arith, further)

pub first_colon : (text rest : List ℕ) → Lacks 58 text → position is_colon (text ++ 58 ∷ rest) ≡ Some (length text)
first_colon text rest lacks = grind (arith, length-append, position_at, colon_at, lt-ltb)

steps_some : (n k : ℕ) → 1 ≤ k → steps_of (Some n) (Some k) ≡ Some (replicate k n)
steps_some n k some = grind arith

module _ (profile : Profile) where
  number_read : (n : ℕ) → IsTrue (has_processor profile n) → numbered (has_processor profile) (short_octal 2 n) ≡ Some n
  unfolding numbered
  number_read n has = rw (short_read 2 n (omega arith) (omega (arith, processor_fits n (processor_named profile n has))), has) refl

  item_more : (n k : ℕ) → IsTrue (has_processor profile n) → 1 ≤ k → k ≤ 999999 → item_steps profile (short_octal 2 n ++ 58 ∷ short_decimal k) ≡ Some (replicate k n)
  unfolding item_steps
  item_more n k has some few =
      let number = short_octal 2 n in
      let count = short_decimal k in
      let place = length number in
      let before : take place (number ++ 58 ∷ count) ≡ number = take-append-le place number (58 ∷ count) (omega arith) ∙ take_all place number (omega arith) in
      let behind : drop (place + 1) (number ++ 58 ∷ count) ≡ count = sym (drop-drop 1 place (number ++ 58 ∷ count)) ∙ ap (drop 1) (drop-append_seam number (58 ∷ count)) in
      rw (first_colon number count (octal_lacks 58 n (digit_other 58 refl)), before, behind, number_read n has, count_read k few) (steps_some n k some)

  item_by_count : (n k : ℕ) (b : Bool) → eqb k 1 ≡ b → IsTrue (has_processor profile n) → 1 ≤ k → k ≤ 999999 → item_steps profile (short_octal 2 n ++ cond b [] (codes ":" ++ short_decimal k)) ≡ Some (replicate k n)
  unfolding item_steps
  item_by_count n k b one has some few = grind (arith, append-nil, no_colon, octal_lacks, digit_other, number_read, eqb-true, item_more)

  item_read : (row : StepsInARow) → IsTrue (has_processor profile row.processor) → 1 ≤ row.count → row.count ≤ 999999 → item_steps profile (row_text row) ≡ Some (replicate row.count row.processor)
  item_read row has some few = item_by_count row.processor row.count (eqb row.count 1) refl has some few

-- ---- all items

unfoldable pub steps_in : List StepsInARow → List ℕ
steps_in [] = []
steps_in (row ∷ rows) = replicate row.count row.processor ++ steps_in rows

-- rows of such processors, none of which is empty
unfoldable pub Exist : (ℕ → Type 0) → List StepsInARow → Type 0
Exist Is [] = Unit {0}
Exist Is (row ∷ rows) = (Is row.processor × (1 ≤ row.count)) × Exist Is rows

all_read : (profile : Profile) (rows : List StepsInARow) → Exist (λ n. IsTrue (has_processor profile n)) rows → length (steps_in rows) ≤ 999999 → all_steps profile (map row_text rows) ≡ Some (steps_in rows)
unfolding steps_in Exist
all_read profile [] exist few = refl
all_read profile (row ∷ rows) exist few =
    let long = length-append (replicate row.count row.processor) (steps_in rows) in
    let own = length-replicate row.count row.processor in
    rw (item_read profile row exist.0.0 exist.0.1 (omega (arith, few, long, own)), all_read profile rows exist.1 (omega (arith, few, long, own))) refl

-- what holds of one row more, and of one step more in the first row, if it is of the same processor
step_by : (P : List StepsInARow → Type 0) (n : ℕ) (row : StepsInARow) (rows : List StepsInARow) → (row.processor ≡ n → P (record row { count = row.count + 1 } ∷ rows)) → P (record { processor = n; count = 1 } ∷ row ∷ rows) → P (step_and_rows n (row ∷ rows))
step_by P n row rows same other = by (eqb row.processor n) refl
  where
    by : (b : Bool) → eqb row.processor n ≡ b → P (cond b (record row { count = row.count + 1 } ∷ rows) (record { processor = n; count = 1 } ∷ row ∷ rows))
    by true is = same (eqb-true row.processor n is)
    by false is = other

step_in : (n : ℕ) (rows : List StepsInARow) → steps_in (step_and_rows n rows) ≡ n ∷ steps_in rows
unfolding steps_in
step_in n rows = grind (arith, step_by, add-one)

pub steps_are : (ns : List ℕ) → steps_in (rows_of ns) ≡ ns
unfolding rows_of steps_in
steps_are [] = refl
steps_are (n ∷ ns) = step_in n (rows_of ns) ∙ ap (λ (ks : List ℕ). n ∷ ks) (steps_are ns)

step_exists : (Is : ℕ → Type 0) (n : ℕ) (rows : List StepsInARow) → Is n → Exist Is rows → Exist Is (step_and_rows n rows)
unfolding Exist
step_exists Is n rows has exist = grind (arith, step_by)

pub rows_exist : (Is : ℕ → Type 0) (ns : List ℕ) → All Is ns → Exist Is (rows_of ns)
unfolding rows_of Exist
rows_exist Is [] all = tt
rows_exist Is (n ∷ ns) all = step_exists Is n (rows_of ns) (All-head Is n ns all) (rows_exist Is ns (All-tail Is n ns all))

some_rows : (n : ℕ) (rows : List StepsInARow) → slice_split is_comma (join_with_byte 44 (map row_text (step_and_rows n rows))) ≡ map row_text (step_and_rows n rows)
some_rows n [] = rows_split (record { processor = n; count = 1 }) []
some_rows n (row ∷ rows) = step_by (λ all. slice_split is_comma (join_with_byte 44 (map row_text all)) ≡ map row_text all) n row rows (λ _. rows_split (record row { count = row.count + 1 }) rows) (rows_split (record { processor = n; count = 1 }) (row ∷ rows))

pub items_are : (n : ℕ) (ns : List ℕ) → numbers_of (order_text (n ∷ ns)) ≡ map row_text (rows_of (n ∷ ns))
unfolding numbers_of order_text rows_of
items_are n ns = some_rows n (rows_of ns)

pub read_back : (profile : Profile) (order : List ℕ) → 0 < length order → length order ≤ 999999 → All (λ n. IsTrue (has_processor profile n)) order → listed_steps profile (order_text order) ≡ Some order
unfolding listed_steps
read_back profile [] some few all = absurd (omega (arith, some))
read_back profile (n ∷ ns) some few all = grind (arith, steps_are, items_are, all_read, rows_exist, le-leb)

-- ---- what is left of an order

abbrev Has : Profile → ℕ → Type 0
Has profile n = IsTrue (has_processor profile n)

turn_has : (profile : Profile) (turn : ℕ) → Has profile (processor_in_turn profile turn)
turn_has profile turn =
    let place = turn % processors_in profile in
    let within = rest_within profile turn in
    let most = most_processors profile in
    has_at profile place (omega (arith, within, most)) ∙ lt-ltb place (processors_in profile) within

barrel_has : (profile : Profile) (turns : ℕ) → All (Has profile) (barrel profile turns)
barrel_has profile zero = All-nil (Has profile)
barrel_has profile (suc turns) = All-push (Has profile) (barrel profile turns) (processor_in_turn profile turns) (barrel_has profile turns) (turn_has profile turns)

left_has : (profile : Profile) (first : List ℕ) (steps : ℕ) → All (Has profile) first → All (Has profile) (order_left first profile steps)
unfolding order_left
left_has profile first steps all = All-drop (Has profile) steps (first ++ barrel profile (turns_of_rounds profile (steps - length first))) (All-append (Has profile) first (barrel profile (turns_of_rounds profile (steps - length first))) all (barrel_has profile (turns_of_rounds profile (steps - length first))))

few_left : (profile : Profile) (listed steps : ℕ) → listed ≤ 999999 → listed + turns_of_rounds profile (steps - listed) - steps ≤ 999999
few_left profile listed steps few = grind arith

left_few : (profile : Profile) (first : List ℕ) (steps : ℕ) → length first ≤ 999999 → length (order_left first profile steps) ≤ 999999
unfolding order_left
left_few profile first steps few = grind (arith, length-append, length-barrel, length-drop, few_left)

pub left_read : (profile : Profile) (first : List ℕ) (steps : ℕ) → length first ≤ 999999 → All (λ n. IsTrue (has_processor profile n)) first → 0 < length (order_left first profile steps)
    → listed_steps profile (order_text (order_left first profile steps)) ≡ Some (order_left first profile steps)
left_read profile first steps few all some = read_back profile (order_left first profile steps) some (left_few profile first steps few) (left_has profile first steps all)
