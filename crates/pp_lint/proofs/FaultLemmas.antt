-- Faults of lines, met field by field.
use Rattle.std.proofs.Common.{◌≡◌, ℕ, ◌+◌, ◌-◌, ◌<◌, zero, suc, Bool, true, false, [], ◌∷◌, ◌++◌, length, take, Option, Some, None, refl, sym, ap, ◌∙◌, arith, add-one, inl, inr}
use Rattle.std.specs.Prelude.{◌≢◌, filter, unwrap_or}
use Rattle.std.specs.List.{last_or, range_with_len}
use Rattle.std.proofs.lemmas.Bool.{cases_lt, eq-eqb, ne_eqb}
use Rattle.std.proofs.lemmas.List.{append-nil, take_all}
use Rattle.std.proofs.lemmas.List.Elements.{filter-append}
use Rattle.pp_numbers.proofs.GrowingLists.{range_more}
use Rattle.pp_numbers.proofs.LastElements.{last_or-push}
use Rattle.pp_deck.specs.DeckText.{Field, Fields}
use Rattle.pp_deck.specs.declared.deck_fault.DeckCode.{DeckCode}
use Rattle.pp_lint.specs.FieldAtFault.{differs_before, fault_number, field_at_fault}
use Rattle.pp_lint.specs.LineFault.{HasFault, IsFaultOf}
use Rattle.pp_lint.specs.declared.line_fault.Fault.{Fault}

-- what the first field says with some of those after it
begun : (fault_of later : Fields → Option DeckCode) (field : Field) (fields : Fields) (fault : Option DeckCode) (n : ℕ)
    → ((m : ℕ) → n ≡ suc m → fault_of (field ∷ take m fields) ≡ fault) → 0 < n → fault_of (take n (field ∷ fields)) ≡ fault
begun fault_of later field fields fault zero is some = absurd (omega (arith, some))
begun fault_of later field fields fault (suc m) is some = is m refl

-- the first field is at fault, whatever follows it
pub fault_here : (fault_of : Fields → Option DeckCode) (field : Field) (fields : Fields) (first : ℕ) (code : DeckCode)
    → ((more : Fields) → fault_of (field ∷ more) ≡ Some code) → fault_number (fault_of []) ≢ fault_number (Some code)
    → HasFault fault_of (field ∷ fields) first (record { code = code; field = first })
fault_here fault_of field fields first code is other =
    let none : first - first ≡ 0 = omega arith in
    record {
      not_before = omega arith;
      within = omega arith;
      from = λ n more. begun fault_of fault_of field fields (Some code) n (λ m e. is (take m fields)) (omega (arith, more));
      without = rw none other;
    }

-- what holds of the fields after the first holds of all
pub fault_later : (fault_of later : Fields → Option DeckCode) (field : Field) (fields : Fields) (first next : ℕ) (fault : Option Fault)
    → ((more : Fields) → fault_of (field ∷ more) ≡ later more) → next ≡ first + 1
    → IsFaultOf later fields next fault → IsFaultOf fault_of (field ∷ fields) first fault
fault_later fault_of later field fields first next None same is none = same fields ∙ none
fault_later fault_of later field fields first next (Some fault) same is has =
    let not_before = has.not_before in
    let within = has.within in
    let deeper : fault.field - first ≡ suc (fault.field - next) = omega (arith, is, not_before) in
    let without : fault_number (fault_of (field ∷ take (fault.field - next) fields)) ≢ fault_number (Some fault.code) = rw (same (take (fault.field - next) fields)) has.without in
    record {
      not_before = omega (arith, is, not_before);
      within = omega (arith, is, within);
      from = λ n more. begun fault_of later field fields (Some fault.code) n (λ m e. same (take m fields) ∙ has.from m (omega (arith, is, more, e))) (omega (arith, is, not_before, more));
      without = rw deeper without;
    }

-- the last number below a bound that passes
one_passes : (p : ℕ → Bool) (n : ℕ) → p n ≡ true → filter p (n ∷ []) ≡ n ∷ []
one_passes p n passes = grind (arith, passes)

one_fails : (p : ℕ → Bool) (n : ℕ) → p n ≡ false → filter p (n ∷ []) ≡ []
one_fails p n fails = grind (arith, fails)

last_more : (p : ℕ → Bool) (n : ℕ) → last_or None (filter p (range_with_len 0 (suc n))) ≡ last_or None (filter p (range_with_len 0 n) ++ filter p (n ∷ []))
last_more p n =
    ap (λ ks. last_or None (filter p (range_with_len 0 ks))) (sym (add-one n))
    ∙ ap (λ ks. last_or None (filter p ks)) (range_more 0 n)
    ∙ ap (λ k. last_or None (filter p (range_with_len 0 n ++ k ∷ []))) (omega arith)
    ∙ ap (last_or None) (filter-append p (range_with_len 0 n) (n ∷ []))

last_passing : (p : ℕ → Bool) (n i : ℕ) → i < n → p i ≡ true → ((j : ℕ) → i < j → j < n → p j ≡ false)
    → last_or None (filter p (range_with_len 0 n)) ≡ Some i
last_passing p zero i within passes fails = absurd (omega (arith, within))
last_passing p (suc n) i within passes fails = elim (cases_lt i n) [
  | inl less ↦ last_more p n ∙ ap (λ ks. last_or None (filter p (range_with_len 0 n) ++ ks)) (one_fails p n (fails n less (omega arith)))
      ∙ ap (last_or None) (append-nil (filter p (range_with_len 0 n))) ∙ last_passing p n i less passes (λ j later below. fails j later (omega (arith, below)))
  | inr late ↦ let same : i ≡ n = omega (arith, within, late) in
      last_more p n ∙ ap (λ ks. last_or None (filter p (range_with_len 0 n) ++ ks)) (one_passes p n (ap p (sym same) ∙ passes))
      ∙ last_or-push None (filter p (range_with_len 0 n)) n ∙ ap (λ k. Some k) (sym same)
]

-- the number of the field at fault
pub code_is : (fault_of : Fields → Option DeckCode) (fields : Fields) (fault : Fault)
    → HasFault fault_of fields 0 fault → fault_of fields ≡ Some fault.code
code_is fault_of fields fault has =
    let within = has.within in
    ap fault_of (sym (take_all (length fields) fields (omega arith))) ∙ has.from (length fields) within

pub field_is : (fault_of : Fields → Option DeckCode) (fields : Fields) (fault : Fault)
    → HasFault fault_of fields 0 fault → field_at_fault fault_of fields ≡ fault.field
unfolding field_at_fault
field_is fault_of fields fault has =
    let whole = code_is fault_of fields fault has in
    let deep : fault.field - 0 ≡ fault.field = omega arith in
    let other : differs_before fault_of fields fault.field ≡ true = grind (arith, ne_eqb, has.without, deep, whole) in
    ap (λ o. unwrap_or o 0) (last_passing (differs_before fault_of fields) (length fields) fault.field (omega (arith, has.within)) other
    (λ j more below. grind (arith, eq-eqb, has.from j (omega (arith, more)), whole)))

-- the same of fields that begin so
pub fault_first : (fault_of : Fields → Option DeckCode) (fields : Fields) (field : Field) (rest : Fields) (first : ℕ) (code : DeckCode)
    → fields ≡ field ∷ rest → ((more : Fields) → fault_of (field ∷ more) ≡ Some code) → fault_number (fault_of []) ≢ fault_number (Some code)
    → HasFault fault_of fields first (record { code = code; field = first })
fault_first fault_of fields field rest first code begins is other = rw begins (fault_here fault_of field rest first code is other)

pub fault_on : (fault_of later : Fields → Option DeckCode) (fields : Fields) (field : Field) (rest : Fields) (first next : ℕ) (fault : Option Fault)
    → fields ≡ field ∷ rest → ((more : Fields) → fault_of (field ∷ more) ≡ later more) → next ≡ first + 1
    → IsFaultOf later rest next fault → IsFaultOf fault_of fields first fault
fault_on fault_of later fields field rest first next fault begins same is has = rw begins (fault_later fault_of later field rest first next fault same is has)
