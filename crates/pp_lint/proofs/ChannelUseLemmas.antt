-- Channels that one processor alone uses.
use Rattle.std.proofs.Common.{◌≡◌, ℕ, ◌+◌, ◌-◌, ◌%◌, ◌^◌, ◌<◌, ◌≤◌, Bool, true, false, List, [], ◌∷◌, ◌++◌, Option, Some, None, get_or, length, map, replicate, take, refl, sym, ap, ◌∙◌, arith}
use Rattle.std.specs.Prelude.{◌&&◌, ◌||◌, ◌==◌, filter_map, is_some, not, option_to_list, slice_index_or, slice_set}
use Rattle.std.specs.List.{list_any, range_with_len}
use Rattle.std.proofs.lemmas.Bool.{eq-eqb, eqb-true}
use Rattle.std.proofs.lemmas.Grind.{get_or-set_at}
use Rattle.std.proofs.lemmas.List.Folds.{list_any-append, list_any_at}
use Rattle.pp_word.specs.Address.{place_count}
use Rattle.std.proofs.lemmas.List.{append-nil, get_or-replicate, get_or-set_other, map-append, take_all, take_more}
use Rattle.std.proofs.lemmas.List.Elements.{filter_map-append}
use Rattle.pp_numbers.proofs.GrowingLists.{filter_map_more, range_append, range_more}
use Rattle.pp_numbers.specs.PpNo.{processor_number}
use Rattle.pp_numbers.specs.Tables.{tabulate}
use Rattle.pp_numbers.specs.declared.profile.Profile.{Profile}
use Rattle.pp_deck.specs.DeckMeaning.{LoadedDeck}
use Rattle.pp_instructions.specs.InstructionEffect.{channel_named, sends_function}
use Rattle.pp_listing.specs.ListedLine.{ListedLine, listed_line}
use Rattle.pp_listing.specs.declared.listed_instructions.ListedInstruction.{ListedInstruction}
use Rattle.pp_instructions.specs.declared.instruction.Instruction.{Instruction}
use Rattle.pp_lint.specs.ChannelUse.{alone_finding, found_for, is_alone, is_first, is_for, is_listed_for, use_of_one, user}
use Rattle.pp_lint.specs.SeenChannels.{ShowsChannels}
use Rattle.pp_lint.specs.Given.{Note}
use Rattle.pp_lint.specs.declared.channel_use.ChannelUse.{ChannelUse}
use Rattle.pp_lint.specs.StraightLine.{is_at}

-- ---- what there is of some numbers, one after another

module _ {A : Type 0} (of : ℕ → Option A) (number : ℕ → ℕ) where
  pub one_more : (k : ℕ) → filter_map of (tabulate (k + 1) number) ≡ filter_map of (tabulate k number) ++ option_to_list (of (number k))
  unfolding tabulate
  one_more k = let here : 0 + k ≡ k = omega arith in
      ap (λ ks. filter_map of (map number ks)) (range_more 0 k ∙ ap (λ i. range_with_len 0 k ++ i ∷ []) here) ∙ ap (filter_map of) (map-append number (range_with_len 0 k) (k ∷ [])) ∙ filter_map_more of (map number (range_with_len 0 k)) (number k)

  pub none_yet : filter_map of (tabulate 0 number) ≡ []
  unfolding tabulate
  none_yet = refl

  and_others : (k n : ℕ) → filter_map of (tabulate (k + n) number) ≡ filter_map of (tabulate k number) ++ filter_map of (map number (range_with_len (0 + k) n))
  unfolding tabulate
  and_others k n = ap (λ ks. filter_map of (map number ks)) (range_append 0 k n) ∙ ap (filter_map of) (map-append number (range_with_len 0 k) (range_with_len (0 + k) n)) ∙ filter_map-append of (map number (range_with_len 0 k)) (map number (range_with_len (0 + k) n))

  pub none_here : (k : ℕ) (so_far : List A) → filter_map of (tabulate k number) ≡ so_far → None ≡ of (number k) → filter_map of (tabulate (k + 1) number) ≡ so_far
  none_here k so_far are none = one_more k ∙ ap (λ o. filter_map of (tabulate k number) ++ option_to_list o) (sym none) ∙ append-nil _ ∙ are

  pub one_here : (k : ℕ) (so_far : List A) (x : A) → filter_map of (tabulate k number) ≡ so_far → Some x ≡ of (number k) → filter_map of (tabulate (k + 1) number) ≡ so_far ++ x ∷ []
  one_here k so_far x are is = one_more k ∙ ap (λ o. filter_map of (tabulate k number) ++ option_to_list o) (sym is) ∙ ap (λ xs. xs ++ x ∷ []) are

-- ---- the only processor

not_alone_after : (deck : LoadedDeck) (c k n first second : ℕ) → k < n → filter_map (user deck c) (tabulate k processor_number) ≡ first ∷ [] → Some second ≡ user deck c (processor_number k)
    → None ≡ use_of_one deck c (filter_map (user deck c) (tabulate n processor_number))
not_alone_after deck c k n first second within one is =
    let of = user deck c in
    let n_is : n ≡ (k + 1) + (n - (k + 1)) = omega (arith, within) in
    let rest = filter_map of (map processor_number (range_with_len (0 + (k + 1)) (n - (k + 1)))) in
    sym (ap (λ i. use_of_one deck c (filter_map of (tabulate i processor_number))) n_is
    ∙ ap (use_of_one deck c) (and_others of processor_number (k + 1) (n - (k + 1)) ∙ ap (λ us. us ++ rest) (one_here of processor_number k (first ∷ []) second one is)))

-- by the one found so far, if there is one
pub not_alone : (deck : LoadedDeck) (c k n : ℕ) (found : Option ℕ) (second : ℕ) → k < n → is_some found ≡ true → filter_map (user deck c) (tabulate k processor_number) ≡ option_to_list found → Some second ≡ user deck c (processor_number k)
    → None ≡ use_of_one deck c (filter_map (user deck c) (tabulate n processor_number))
not_alone deck c k n (Some first) second within some one is = not_alone_after deck c k n first second within one is
not_alone deck c k n None second within some one is = absurd (cc)

pub first_found : (deck : LoadedDeck) (c k : ℕ) (found : Option ℕ) (first : ℕ) → is_some found ≡ false → filter_map (user deck c) (tabulate k processor_number) ≡ option_to_list found → Some first ≡ user deck c (processor_number k)
    → filter_map (user deck c) (tabulate (k + 1) processor_number) ≡ first ∷ []
first_found deck c k None first none so_far is = one_here (user deck c) processor_number k [] first so_far is
first_found deck c k (Some other) first none so_far is = absurd (cc)

-- ---- words one by one

module _ (p : ℕ → Bool) (ws : List ℕ) (k at w : ℕ) (long : length ws ≡ place_count) (within : k < place_count) (at_is : at ≡ k % 2 ^ 12) (is : w ≡ get_or ws at 0) where
  word_is : w ≡ get_or ws k 0
  word_is = let same : at ≡ k = omega (arith, at_is, within) in is ∙ ap (λ i. get_or ws i 0) same

  pub none_among_more : list_any p (take k ws) ≡ false → false ≡ p w → list_any p (take (k + 1) ws) ≡ false
  none_among_more none here =
      ap (list_any p) (take_more ws k 0 (omega (arith, within, long)) ∙ ap (λ x. take k ws ++ x ∷ []) (sym word_is)) ∙ list_any-append p (take k ws) (w ∷ [])
      ∙ ap (λ b. b || (p w || false)) none ∙ ap (λ b. b || false) (sym here)

  pub one_among : true ≡ p w → true ≡ list_any p ws
  one_among here = sym (list_any_at p ws k 0 (omega (arith, within, long)) (ap p (sym word_is) ∙ sym here))

pub none_among : (p : ℕ → Bool) (ws : List ℕ) (k : ℕ) → length ws ≤ k → list_any p (take k ws) ≡ false → false ≡ list_any p ws
none_among p ws k all none = sym none ∙ ap (list_any p) (take_all k ws all)

-- ---- instructions that a listing shows

listed_for : (profile : Profile) (c : ℕ) (i : ListedInstruction) (second : Bool) → i.has_second ≡ second → is_listed_for profile c (listed_line i) ≡ is_for profile c i.word
listed_for profile c i true long = rw long refl
listed_for profile c i false long = rw long refl

module _ (profile : Profile) (c : ℕ) (i : ListedInstruction) (old new : List ListedLine) (taken : old ≡ listed_line i ∷ new) where
  pub listed_here : true ≡ is_for profile c i.word → true ≡ list_any (is_listed_for profile c) old
  listed_here here = rw (taken, listed_for profile c i i.has_second refl, ← here) refl

  pub listed_later : false ≡ is_for profile c i.word → list_any (is_listed_for profile c) new ≡ list_any (is_listed_for profile c) old
  listed_later other = rw (taken, listed_for profile c i i.has_second refl, ← other) refl

-- ---- what is found

-- in an instruction for channel c, by what decides it
pub alone_is : (profile : Profile) (k : ℕ) (line : List ℕ) (notes : List Note) (uses : List ChannelUse) (n first : ℕ) (before : List Instruction) (i : Instruction) (c : ℕ) (is_here is_its sends told : Bool)
    → Some c ≡ channel_named profile i.word → is_here ≡ is_first profile k notes n before c → is_its ≡ is_alone uses n c → sends ≡ sends_function i.word → (is_here && is_its && not sends) ≡ told
    → alone_finding profile k line notes uses n first before i ≡ found_for k line (λ c. told) n first i (Some c)
unfolding alone_finding
alone_is profile k line notes uses n first before i c is_here is_its sends told named here its sent is = rw (← named, ← here, ← its, ← sent, is) refl

-- ---- the channels of a line

pub none_seen : (profile : Profile) → ShowsChannels profile (replicate 64 false) []
none_seen profile = λ c small. get_or-replicate 64 c false false small

apart : true ≡ false → ⊥
apart same = cc

or_none : (b : Bool) → (b || (false || false)) ≡ b
or_none true = refl
or_none false = refl

or_one : (b : Bool) → (b || (true || false)) ≡ true
or_one true = refl
or_one false = refl

-- before and behind an instruction, by the channel that it is for
module _ (profile : Profile) (table : List Bool) (before : List Instruction) (i : Instruction) (long : length table ≡ 64) (names : ShowsChannels profile table before) where
  with_named : (named : Option ℕ) (d : ℕ) → named ≡ channel_named profile i.word → list_any (λ (i : Instruction). is_for profile d i.word) (before ++ i ∷ []) ≡ (list_any (λ (i : Instruction). is_for profile d i.word) before || (is_at d named || false))
  with_named named d is = list_any-append (λ (i : Instruction). is_for profile d i.word) before (i ∷ []) ∙ ap (λ (c : Option ℕ). list_any (λ (i : Instruction). is_for profile d i.word) before || (is_at d c || false)) (sym is)

  pub nothing_seen : None ≡ channel_named profile i.word → ShowsChannels profile table (before ++ i ∷ [])
  nothing_seen is = λ d small. names d small ∙ sym (with_named None d is ∙ or_none (list_any (λ (i : Instruction). is_for profile d i.word) before))

  pub one_seen : (c : ℕ) → Some c ≡ channel_named profile i.word → ShowsChannels profile (slice_set table c true) (before ++ i ∷ [])
  one_seen c is = λ d small. by d small (c == d) refl ∙ sym (with_named (Some c) d is)
    where
      by : (d : ℕ) → d < 64 → (b : Bool) → (c == d) ≡ b → slice_index_or (slice_set table c true) d false ≡ (list_any (λ (i : Instruction). is_for profile d i.word) before || ((c == d) || false))
      by d small true same = get_or-set_at table c d true false (sym (eqb-true c d same)) (omega (arith, long, small, eqb-true c d same)) ∙ sym (rw same (or_one (list_any (λ (i : Instruction). is_for profile d i.word) before)))
      by d small false other = get_or-set_other table c d true false (λ same. apart (sym (eq-eqb c d (sym same)) ∙ other)) ∙ names d small ∙ sym (rw other (or_none (list_any (λ (i : Instruction). is_for profile d i.word) before)))
