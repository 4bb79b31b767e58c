-- What has changed in a memory, looked for at some places alone.
use Rattle.std.proofs.Common.{get_or-set_other, ◌≡◌, ◌≢◌, ℕ, zero, suc, ◌+◌, ◌-◌, ◌<◌, ◌≤◌, true, eqb, List, [], ◌++◌, length, slice_index, slice_set, get_or, refl, sym, ap, ◌∙◌, subst, arith}
use Rattle.std.specs.Prelude.{codes}
use Rattle.std.specs.List.{flat_map, range_with_len}
use Rattle.std.proofs.lemmas.Bool.{eq-eqb, ne_eqb}
use Rattle.std.proofs.lemmas.List.{append-nil, length-set, set_past}
use Rattle.std.proofs.lemmas.List.Concat.{flat_map-append}
use mathlib.Core.Logic.{dite}
use native.Mathlib.Decide.{dec_lt}
use Rattle.pp_word.specs.Address.{place_count}
use Rattle.pp_numbers.proofs.GrowingLists.{range_append}
use Rattle.pp_machine.specs.MachineState.{MachineState}
use Rattle.pp_machine.specs.MachineStep.{central_after}
use Rattle.pp_processor.specs.declared.need.Need.{Need}
use Rattle.pp_processor.specs.declared.need.Need.TheVariants.{Write}
use Rattle.pp_word.specs.Numeral.{octal}
use Rattle.pp_text.specs.Differences.{places}
use Rattle.pp_steps.specs.StepLine.{central_text, centrals_text, place_text, places_text}
use Rattle.pp_processor.specs.Stores.{IsApart}

-- a stretch of numbers of which nothing is said
nothing : (f : ℕ → List ℕ) (a n : ℕ) → ((k : ℕ) → k < n → f (a + k) ≡ []) → flat_map f (range_with_len a n) ≡ []
nothing f a zero none = refl
nothing f a (suc n) none =
    let here : f a ≡ [] = subst (λ (i : ℕ). f i ≡ []) (omega arith) (none 0 (omega arith)) in
    ap (λ (text : List ℕ). text ++ flat_map f (range_with_len (a + 1) n)) here
    ∙ nothing f (a + 1) n (λ k below. subst (λ (i : ℕ). f i ≡ []) (omega arith) (none (suc k) (omega (arith, below))))

-- three stretches, one behind another
three_stretches : (f : ℕ → List ℕ) (a b c : ℕ) → flat_map f (range_with_len 0 (a + (b + c))) ≡ flat_map f (range_with_len 0 a) ++ (flat_map f (range_with_len a b) ++ flat_map f (range_with_len (a + b) c))
three_stretches f a b c = grind (arith, range_append, flat_map-append)

-- something is said of the second alone
middle : (f : ℕ → List ℕ) (a b c : ℕ) → ((k : ℕ) → k < a → f k ≡ []) → ((k : ℕ) → k < c → f (a + b + k) ≡ []) → flat_map f (range_with_len 0 (a + (b + c))) ≡ flat_map f (range_with_len a b)
middle f a b c before behind = grind (arith, nothing, three_stretches, append-nil)

-- or of the first and the third
ends : (f : ℕ → List ℕ) (a b c : ℕ) → ((k : ℕ) → k < b → f (a + k) ≡ []) → flat_map f (range_with_len 0 (a + (b + c))) ≡ flat_map f (range_with_len 0 a) ++ flat_map f (range_with_len (a + b) c)
ends f a b c between = let gap : flat_map f (range_with_len a b) ≡ [] = nothing f a b between in three_stretches f a b c ∙ rw gap refl

-- nothing is said of a word that stays
pub same_place : (before after : List ℕ) (place : ℕ) → slice_index after place ≡ slice_index before place → place_text before after place ≡ []
same_place before after place same = let is : eqb (get_or before place 0) (get_or after place 0) ≡ true = eq-eqb _ _ (sym same) in rw is refl

pub same_central : (before after : List ℕ) (a : ℕ) → slice_index after a ≡ slice_index before a → central_text before after a ≡ []
same_central before after a same = let is : eqb (get_or before a 0) (get_or after a 0) ≡ true = eq-eqb _ _ (sym same) in rw is refl

-- all words stay but those at places one behind another
pub places_here : (before after : List ℕ) (first : ℕ) → first + 5 ≤ place_count → ((place : ℕ) → IsApart place first → slice_index after place ≡ slice_index before place)
    → places_text before after ≡ flat_map (place_text before after) (range_with_len first 5)
unfolding places
places_here before after first within same =
    let f = place_text before after in
    let all : place_count ≡ first + (5 + (place_count - (first + 5))) = omega (arith, within) in
    ap (λ (n : ℕ). flat_map f (range_with_len 0 n)) all
    ∙ middle f first 5 (place_count - (first + 5))
    (λ k below. same_place before after k (same k (λ i lt e. omega (arith, e, lt, below, within))))
    (λ k below. same_place before after (first + 5 + k) (same (first + 5 + k) (λ i lt e. omega (arith, e, lt, below, within))))

-- the same where they go on at place 0000
pub places_round : (before after : List ℕ) (first : ℕ) → first < place_count → place_count < first + 5 → ((place : ℕ) → IsApart place first → slice_index after place ≡ slice_index before place)
    → places_text before after ≡ flat_map (place_text before after) (range_with_len 0 (first + 5 - place_count)) ++ flat_map (place_text before after) (range_with_len first (place_count - first))
unfolding places
places_round before after first low past same =
    let f = place_text before after in
    let a = first + 5 - place_count in
    let b = first - a in
    let c = place_count - first in
    let all : place_count ≡ a + (b + c) = omega (arith, low, past) in
    let there : a + b ≡ first = omega (arith, low, past) in
    ap (λ (n : ℕ). flat_map f (range_with_len 0 n)) all
    ∙ ends f a b c (λ k below. same_place before after (a + k) (same (a + k) (λ i lt e. omega (arith, e, lt, below, low, past))))
    ∙ ap (λ (i : ℕ). flat_map f (range_with_len 0 a) ++ flat_map f (range_with_len i c)) there

-- a central memory that stays
pub centrals_same : (central : List ℕ) → centrals_text central central ≡ []
centrals_same central = nothing (central_text central central) 0 (length central) (λ k below. same_central central central (0 + k) refl)

-- one word of it was written
pub central_one : (central : List ℕ) (a w : ℕ) → centrals_text central (slice_set central a w) ≡ central_text central (slice_set central a w) a
central_one central a w = dite (dec_lt a (length central)) inside outside
  where
    after : List ℕ
    after = slice_set central a w

    f : ℕ → List ℕ
    f = central_text central after

    inside : a < length central → centrals_text central after ≡ f a
    inside below =
        let all : length after ≡ a + (1 + (length central - (a + 1))) = length-set central a w ∙ omega (arith, below) in
        ap (λ (n : ℕ). flat_map f (range_with_len 0 n)) all
        ∙ middle f a 1 (length central - (a + 1))
        (λ k lt. same_central central after k (get_or-set_other central a k w 0 (λ e. omega (arith, e, lt))))
        (λ k lt. same_central central after (a + 1 + k) (get_or-set_other central a (a + 1 + k) w 0 (λ e. omega (arith, e))))
        ∙ append-nil (f a)

    outside : (a < length central → ⊥) → centrals_text central after ≡ f a
    outside past = grind (arith, after, set_past, centrals_same, same_central)

-- a step that writes no central word leaves them all
pub centrals_stay : (x : Need) (m : MachineState) (before after : List ℕ) → ((a w : ℕ) → x ≡ Write a w → ⊥) → before ≡ m.central → after ≡ central_after x m → centrals_text before after ≡ []
centrals_stay x m before after other old new = grind (arith, centrals_same)

-- and one that writes changes one at most
pub centrals_go : (x : Need) (m : MachineState) (before after : List ℕ) (a w : ℕ) → x ≡ Write a w → before ≡ m.central → after ≡ central_after x m → centrals_text before after ≡ central_text before after a
centrals_go x m before after a w is old new = rw (new, old, is) (central_one m.central a w)

-- a central word that differs
pub central_changed : (before after : List ℕ) (a word old : ℕ) → word ≡ slice_index after a → old ≡ slice_index before a → word ≢ old → codes " CM " ++ octal 6 a ++ codes "=" ++ octal 20 word ≡ central_text before after a
central_changed before after a word old is was differ = grind (arith, ne_eqb)
