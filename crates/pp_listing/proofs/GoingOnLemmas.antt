-- The first of what a function gives for the numbers of a table.
use Rattle.std.proofs.Common.{◌≡◌, ℕ, ◌+◌, ◌-◌, ◌<◌, ◌≤◌, subst, List, [], ◌∷◌, ◌++◌, Option, Some, None, map, refl, sym, ap, ◌∙◌, arith}
use Rattle.std.specs.Prelude.{All, filter_map, slice_get}
use Rattle.std.specs.List.{cons_option, range_with_len}
use Rattle.std.proofs.lemmas.List.Elements.{All-nil}
use Rattle.pp_numbers.specs.ChannelNo.{all_channels}
use Rattle.pp_machine.specs.MachineState.{MachineState, processor_of}
use Rattle.pp_processor.specs.Processor.{Processor}
use Rattle.pp_numbers.specs.PpNo.{all_processors}
use Rattle.pp_numbers.specs.Tables.{tabulate}
use Rattle.pp_numbers.proofs.TableLemmas.{length-tabulate, get_or-tabulate}
use Rattle.pp_listing.specs.Dump.{all_busy, busy_processor, busy_channel, in_processor}
use Rattle.pp_listing.specs.declared.going_on.Busy.{Busy}

module _ {A : Type 0} (f : ℕ → Option A) (number : ℕ → ℕ) where
  -- what it gives for the numbers of the places from k on
  rest : ℕ → ℕ → List A
  rest k count = filter_map f (map number (range_with_len k (count - k)))

  rest_at : (k count : ℕ) → k < count → rest k count ≡ cons_option (f (number k)) (rest (k + 1) count)
  unfolding rest
  rest_at k count lt = grind arith

  -- the first of these is the first of all
  pub IsFirstFrom : ℕ → ℕ → Type 0
  IsFirstFrom k count = slice_get (rest k count) 0 ≡ slice_get (filter_map f (tabulate count number)) 0

  pub from_start : (count : ℕ) → IsFirstFrom 0 count
  unfolding IsFirstFrom rest tabulate
  from_start count = grind arith

  pub none_more : (k count : ℕ) → k < count → IsFirstFrom k count → f (number k) ≡ None → IsFirstFrom (k + 1) count
  unfolding IsFirstFrom
  none_more k count lt h e = sym (ap (λ (xs : List A). slice_get xs 0) (rest_at k count lt ∙ ap (λ (o : Option A). cons_option o (rest (k + 1) count)) e)) ∙ h

  pub first_found : (k count : ℕ) (x : A) → k < count → IsFirstFrom k count → f (number k) ≡ Some x → Some x ≡ slice_get (filter_map f (tabulate count number)) 0
  unfolding IsFirstFrom
  first_found k count x lt h e = sym (ap (λ (xs : List A). slice_get xs 0) (rest_at k count lt ∙ ap (λ (o : Option A). cons_option o (rest (k + 1) count)) e)) ∙ h

  pub none_found : (k count : ℕ) → count ≤ k → IsFirstFrom k count → None ≡ slice_get (filter_map f (tabulate count number)) 0
  unfolding IsFirstFrom rest
  none_found k count past h = grind arith

no_first : {A : Type 0} (xs ys : List A) → slice_get (xs ++ ys) 0 ≡ None → xs ≡ []
no_first [] ys e = refl
no_first (x ∷ xs) ys e = absurd (cc)

none_of : {A : Type 0} (f : ℕ → Option A) (xs : List ℕ) → filter_map f xs ≡ [] → All (λ x. f x ≡ None) xs
none_of f [] e = All-nil (λ x. f x ≡ None)
none_of {A} f (x ∷ xs) e = grind (arith, none_of f xs)

-- where nothing is given first, nothing is given for any number
pub none_given : {A : Type 0} (f : ℕ → Option A) (number : ℕ → ℕ) (k count : ℕ) (others : List A) → k < count → slice_get (filter_map f (tabulate count number) ++ others) 0 ≡ None → f (number k) ≡ None
none_given f number k count others lt none =
    let all = none_of f (tabulate count number) (no_first (filter_map f (tabulate count number)) others none) in
    subst (λ (i : ℕ). f i ≡ None) (get_or-tabulate count number k 0 lt) (all k 0 (omega (arith, lt, length-tabulate count number)))

first_in : {A : Type 0} (xs ys : List A) (x : A) → slice_get xs 0 ≡ Some x → slice_get (xs ++ ys) 0 ≡ Some x
first_in [] ys x e = absurd (cc)
first_in (z ∷ xs) ys x e = e

first_behind : {A : Type 0} (xs ys : List A) → slice_get xs 0 ≡ None → slice_get (xs ++ ys) 0 ≡ slice_get ys 0
first_behind [] ys e = refl
first_behind (z ∷ xs) ys e = absurd (cc)

-- what a processor or a channel gives, from its parts
pub in_processor_there : (m : MachineState) (k n : ℕ) (pp : Processor) (o : Option Busy) → n ≡ k → pp ≡ processor_of n m → o ≡ in_processor n pp.block pp.state → busy_processor m k ≡ o
in_processor_there m k n pp o is its gives = grind arith

pub first_of_processors : (m : MachineState) (going_on : Busy) → Some going_on ≡ slice_get (filter_map (busy_processor m) all_processors) 0 → Some going_on ≡ slice_get (all_busy m) 0
unfolding all_busy
first_of_processors m going_on e = sym (first_in (filter_map (busy_processor m) all_processors) (filter_map (busy_channel m) all_channels) going_on (sym e))

pub first_of_channels : (m : MachineState) (first : Option Busy) → None ≡ slice_get (filter_map (busy_processor m) all_processors) 0 → first ≡ slice_get (filter_map (busy_channel m) all_channels) 0 → first ≡ slice_get (all_busy m) 0
unfolding all_busy
first_of_channels m first none e = e ∙ sym (first_behind (filter_map (busy_processor m) all_processors) (filter_map (busy_channel m) all_channels) (sym none))
