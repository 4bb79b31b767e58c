-- Lists of steps, item by item.
use Rattle.std.proofs.Common.{◌≡◌, ℕ, zero, suc, ◌+◌, ◌-◌, ◌<◌, ◌≤◌, Bool, cond, List, [], ◌∷◌, ◌++◌, append-nil, length, replicate, Option, Some, None, refl, sym, ap, ◌∙◌, arith}
use Rattle.std.specs.Prelude.{drop, nat_le, position, take}
use Rattle.std.specs.Option.{option_and_then, option_map}
use Rattle.std.proofs.lemmas.Bool.{le-leb, lt-leb}
use Rattle.std.proofs.lemmas.List.{append_assoc, length-append, take_all}
use Rattle.pp_numbers.specs.declared.profile.Profile.{Profile}
use Rattle.pp_numbers.specs.Profile.{has_processor}
use Rattle.pp_word.specs.Numeral.{numeral}
use Rattle.pp_command.specs.NumberList.{numbered, numbers_of}
use Rattle.pp_command.specs.OrderList.{all_steps, is_colon, item_by, item_steps, listed_steps, steps_of}

-- ---- an item

pub no_count : (n : Option ℕ) → steps_of n None ≡ None
no_count None = refl
no_count (Some n) = refl

pub count_of_none : (n : Option ℕ) → steps_of n (Some 0) ≡ None
count_of_none None = refl
count_of_none (Some n) = refl

pub counted : (n k : ℕ) → 0 < k → steps_of (Some n) (Some k) ≡ Some (replicate k n)
counted n zero some = absurd (omega (arith, some))
counted n (suc k) some = refl

-- by the place of its first colon
pub by_colon : (profile : Profile) (text number count : List ℕ) (place : ℕ) → position is_colon text ≡ Some place → number ≡ take place text → count ≡ drop (place + 1) text
    → steps_of (numbered (has_processor profile) number) (numeral 10 6 count) ≡ item_steps profile text
unfolding item_steps
by_colon profile text number count place at before behind =
    ap (λ (ns : List ℕ). steps_of (numbered (has_processor profile) ns) (numeral 10 6 count)) before
    ∙ ap (λ (ns : List ℕ). steps_of (numbered (has_processor profile) (take place text)) (numeral 10 6 ns)) behind
    ∙ ap (item_by profile text) (sym at)

pub without_colon : (profile : Profile) (text : List ℕ) → position is_colon text ≡ None → steps_of (numbered (has_processor profile) text) (Some 1) ≡ item_steps profile text
unfolding item_steps
without_colon profile text at = ap (item_by profile text) (sym at)

-- ---- items, from left to right

-- so far a text lists these steps, and more items follow
pub record ListsSoFar (profile : Profile) (text : List ℕ) (steps : List ℕ) (items : List (List ℕ)) : Type 0 where
  pub all : all_steps profile (numbers_of text) ≡ option_map (λ more. steps ++ more) (all_steps profile items)
  pub few : length steps ≤ 999999

same : (o : Option (List ℕ)) → o ≡ option_map (λ (more : List ℕ). [] ++ more) o
same None = refl
same (Some steps) = refl

pub none_so_far : (profile : Profile) (text : List ℕ) → ListsSoFar profile text [] (numbers_of text)
none_so_far profile text = record { all = same (all_steps profile (numbers_of text)); few = omega arith }

both : (steps own : List ℕ) (o : Option (List ℕ)) → option_map (λ more. steps ++ more) (option_map (λ more. own ++ more) o) ≡ option_map (λ more. (steps ++ own) ++ more) o
both steps own None = refl
both steps own (Some more) = ap (λ (ns : List ℕ). Some ns) (sym (append_assoc steps own more))

of_item : (profile : Profile) (item : List ℕ) (items : List (List ℕ)) (steps : List ℕ) (own : Option (List ℕ)) → item_steps profile item ≡ own
    → option_map (λ more. steps ++ more) (all_steps profile (item ∷ items)) ≡ option_map (λ more. steps ++ more) (option_and_then (λ (ns : List ℕ). option_map (λ more. ns ++ more) (all_steps profile items)) own)
of_item profile item items steps own is = ap (λ (o : Option (List ℕ)). option_map (λ more. steps ++ more) (option_and_then (λ (ns : List ℕ). option_map (λ more. ns ++ more) (all_steps profile items)) o)) is

-- more room, filled with one processor
pub filled : (order : List ℕ) (n k len end : ℕ) → len ≡ length order → end ≡ len + k → take end order ++ replicate (end - len) n ≡ order ++ replicate k n
filled order n k len end is more =
    let few : end - len ≡ k = omega (arith, more) in
    rw (take_all end order (omega (arith, is, more)), few) refl

-- with the steps of the next item
pub one_item_more : (profile : Profile) (text steps item own : List ℕ) (items : List (List ℕ)) → ListsSoFar profile text steps (item ∷ items) → item_steps profile item ≡ Some own → length steps + length own ≤ 999999
    → ListsSoFar profile text (steps ++ own) items
one_item_more profile text steps item own items so_far is few = record {
  all = so_far.all ∙ of_item profile item items steps (Some own) is ∙ both steps own (all_steps profile items);
  few = omega (arith, few, length-append steps own);
}

abbrev at_most : Option (List ℕ) → Option (List ℕ)
at_most o = option_and_then (λ (steps : List ℕ). cond (nat_le (length steps) 999999) (Some steps) None) o

listed_by : (profile : Profile) (text : List ℕ) (o : Option (List ℕ)) → all_steps profile (numbers_of text) ≡ o → listed_steps profile text ≡ at_most o
unfolding listed_steps numbers_of
listed_by profile text o is = ap at_most is

-- one that is none: the text lists nothing
pub no_item : (profile : Profile) (text steps item : List ℕ) (items : List (List ℕ)) → ListsSoFar profile text steps (item ∷ items) → item_steps profile item ≡ None → listed_steps profile text ≡ None
no_item profile text steps item items so_far none = listed_by profile text None (so_far.all ∙ of_item profile item items steps None none)

-- nor does it list more steps than a run has
long_by : (steps own : List ℕ) (o : Option (List ℕ)) → 999999 < length steps + length own → at_most (option_map (λ more. (steps ++ own) ++ more) o) ≡ None
long_by steps own None long = refl
long_by steps own (Some more) long =
    ap (λ (b : Bool). cond b (Some ((steps ++ own) ++ more)) None)
    (lt-leb (length ((steps ++ own) ++ more)) 999999 (omega (arith, long, length-append (steps ++ own) more, length-append steps own)))

pub too_many : (profile : Profile) (text steps item own : List ℕ) (items : List (List ℕ)) → ListsSoFar profile text steps (item ∷ items) → item_steps profile item ≡ Some own → 999999 < length steps + length own
    → listed_steps profile text ≡ None
too_many profile text steps item own items so_far is long =
    listed_by profile text _ (so_far.all ∙ of_item profile item items steps (Some own) is ∙ both steps own (all_steps profile items))
    ∙ long_by steps own (all_steps profile items) long

pub all_listed : (profile : Profile) (text steps : List ℕ) → ListsSoFar profile text steps [] → listed_steps profile text ≡ Some steps
all_listed profile text steps so_far =
    listed_by profile text _ (so_far.all ∙ ap (λ (ns : List ℕ). Some ns) (append-nil steps))
    ∙ ap (λ (b : Bool). cond b (Some steps) None) (le-leb (length steps) 999999 so_far.few)
