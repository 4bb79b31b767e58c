-- Block transfers, a word at a time: what several words leave.
use Rattle.std.proofs.Common.{◌≡◌, ℕ, zero, suc, ◌+◌, ◌-◌, ◌*◌, ◌%◌, ◌^◌, ◌<◌, ◌≤◌, ◌==◌, Bool, true, false, List, [], ◌∷◌, None, Some, map, replicate, length, slice_index, slice_set, refl, ap, ◌∙◌, sym, arith, if◌then◌else◌}
use Rattle.std.proofs.lemmas.Grind.{common_steps}
use Rattle.pp_word.specs.Address.{place_count, place_after, next_place}
use Rattle.pp_word.specs.CentralWord.{parts_of}
use Rattle.pp_word.specs.OnesComplement.{all_ones, sum, difference}
use Rattle.pp_channel.specs.declared.chan_op.ChanOp.TheVariants.{Put, Take}
use Rattle.pp_channel.specs.declared.reply.Reply.TheVariants.{Done, Word}
use Rattle.pp_processor.specs.Block.{central_from, stored_from}
use Rattle.pp_processor.specs.BlockResults.{inactive, address_of}
use Rattle.pp_processor.specs.NeedAndEffect.{need, processor_after}
use Rattle.pp_processor.specs.Processor.{Processor}
use Rattle.pp_processor.specs.Replay.{fits}
use Rattle.pp_processor.specs.declared.answer.Answer.TheVariants.{Channel, Read, Wrote}
use Rattle.pp_processor.specs.declared.block.BlockKind.{BlockKind}
use Rattle.pp_processor.specs.declared.block.BlockKind.TheVariants.{CentralIn, CentralOut, Input, Output}
use Rattle.pp_processor.specs.declared.need.Need.TheVariants as needs
use Rattle.pp_processor.specs.declared.pp_state.PpState.TheVariants.{Running}
use Rattle.pp_numbers.specs.declared.profile.Profile.{Profile}
use Rattle.pp_processor.proofs.ReplayLemmas.{Gives, Gives-cons, Gives-to}
use Rattle.pp_processor.proofs.StoredLemmas.{stored, stored-nil, stored-cons, next-place_from, parts_of_all, stored-parts, stored-no_parts}

-- A falls by 1
difference-one : (a : ℕ) → 0 < a → a < 2 ^ 18 → difference a 1 ≡ a - 1
difference-one a h k = grind (arith, common_steps)

-- A rises by 1
sum-small : (a n : ℕ) → 0 < n → n < 2 ^ 12 → sum a n ≡ (a + n) % all_ones
sum-small a n h k = let other : (n == all_ones) ≡ false = grind (arith, common_steps) in grind (arith, common_steps)

sum-sum : (a n : ℕ) → 0 < n → n + 1 < 2 ^ 12 → sum (sum a 1) n ≡ sum a (n + 1)
sum-sum a n h k = grind (arith, sum-small)

pub address_of-some : (a n : ℕ) → 0 < n → address_of a n ≡ sum a n
address_of-some a n h = let some : (n == 0) ≡ false = grind (arith, common_steps) in rw some refl

address_of-more : (n a : ℕ) → n + 1 < 2 ^ 12 → address_of (sum a 1) n ≡ address_of a (suc n)
address_of-more zero a h = refl
address_of-more (suc n) a h =
    let next : suc n + 1 ≡ suc (suc n) = omega arith in
    address_of-some (sum a 1) (suc n) (omega arith) ∙ sum-sum a (suc n) (omega arith) h ∙ ap (λ x. sum a x) next ∙ sym (address_of-some a (suc (suc n)) (omega arith))

five_on : (m i : ℕ) → (place_after m i + 5) % place_count ≡ place_after m (i + 5)
five_on m i = omega arith

module _ (profile : Profile) where
  -- a running processor without a block
  abbrev pub idle : List ℕ → ℕ → ℕ → Processor
  idle memory a p = record { profile = profile; memory = memory; a = a; p = p; state = Running; block = None }

  -- in the middle of a block
  abbrev pub midway : List ℕ → ℕ → ℕ → BlockKind → ℕ → Processor
  midway memory a p kind place = record { profile = profile; memory = memory; a = a; p = p; state = Running; block = Some (record { kind = kind; place = place }) }

  -- behind a block
  abbrev pub over : List ℕ → ℕ → Processor
  over memory a = record { profile = profile; memory = memory; a = a; p = next_place (slice_index memory 0); state = Running; block = None }

  -- a block with some words left: midway, or over
  abbrev pub position : ℕ → List ℕ → ℕ → ℕ → BlockKind → ℕ → Processor
  position left memory a p kind place = if left == 0 then over memory a else midway memory a p kind place

  pub position-some : (left : ℕ) (memory : List ℕ) (a p : ℕ) (kind : BlockKind) (place : ℕ) → 0 < left →
      position left memory a p kind place ≡ midway memory a p kind place
  position-some left memory a p kind place h = let some : (left == 0) ≡ false = grind (arith, common_steps) in rw some refl

  input_word : (memory : List ℕ) (a p channel place word : ℕ) → 0 < a → a < 2 ^ 18 →
      processor_after (midway memory a p (Input channel) place) (Channel (Word word)) ≡ position (a - 1) (slice_set memory place word) (a - 1) p (Input channel) (next_place place)
  unfolding processor_after
  input_word memory a p channel place word h k = rw (difference-one a h k) refl

  input_fits : (memory : List ℕ) (a p channel place word : ℕ) →
      fits (need (midway memory a p (Input channel) place)) (Channel (Word word)) ≡ true
  unfolding need
  input_fits memory a p channel place word = refl

  -- words that come in, up to as many as A says
  pub inputs : (words memory : List ℕ) (a p channel m i : ℕ) → length words ≤ a → a < 2 ^ 18 →
      Gives (position a memory a p (Input channel) (place_after m i)) (map (λ word. Channel (Word word)) words) (position (a - length words) (stored memory m i words) (a - length words) p (Input channel) (place_after m (i + length words)))
  inputs [] memory a p channel m i h k = grind (arith, stored-nil)
  inputs (word ∷ words) memory a p channel m i h k =
      let place = place_after m i in
      let memory' = slice_set memory place word in
      let some : 0 < a = omega arith in
      let middle = position (a - 1) memory' (a - 1) p (Input channel) (place_after m (i + 1)) in
      let after : processor_after (midway memory a p (Input channel) place) (Channel (Word word)) ≡ middle = input_word memory a p channel place word some k ∙ ap (λ x. position (a - 1) memory' (a - 1) p (Input channel) x) (next-place_from m i) in
      let rest = inputs words memory' (a - 1) p channel m (i + 1) (omega arith) (omega arith) in
      let fewer : a - 1 - length words ≡ a - length (word ∷ words) = omega arith in
      let further : i + 1 + length words ≡ i + length (word ∷ words) = omega arith in
      let same = ap (λ n. position n (stored memory' m (i + 1) words) n p (Input channel) (place_after m (i + 1 + length words))) fewer
      ∙ ap (λ n. position (a - length (word ∷ words)) (stored memory' m (i + 1) words) (a - length (word ∷ words)) p (Input channel) (place_after m n)) further
      ∙ ap (λ new. position (a - length (word ∷ words)) new (a - length (word ∷ words)) p (Input channel) (place_after m (i + length (word ∷ words)))) (sym (stored-cons memory m i word words)) in
      rw (position-some a memory a p (Input channel) place some)
      (Gives-cons (midway memory a p (Input channel) place) middle _ (Channel (Word word)) (map (λ w. Channel (Word w)) words) (input_fits memory a p channel place word) after (Gives-to middle _ _ (map (λ w. Channel (Word w)) words) rest same))

  -- a closing word, and a disconnect
  pub input_closed : (left : ℕ) (memory : List ℕ) (a p channel place : ℕ) (full : Bool) → 0 < left →
      Gives (position left memory a p (Input channel) place) (inactive full ∷ []) (over (slice_set memory place 0) a)
  unfolding need processor_after
  input_closed left memory a p channel place full h = rw (position-some left memory a p (Input channel) place h) (refl, refl)

  pub output_cut : (left : ℕ) (memory : List ℕ) (a p channel place : ℕ) (full : Bool) → 0 < left →
      Gives (position left memory a p (Output channel) place) (inactive full ∷ []) (over memory a)
  unfolding need processor_after
  output_cut left memory a p channel place full h = rw (position-some left memory a p (Output channel) place h) (refl, refl)

  output_word : (memory : List ℕ) (a p channel place : ℕ) → 0 < a → a < 2 ^ 18 →
      processor_after (midway memory a p (Output channel) place) (Channel Done) ≡ position (a - 1) memory (a - 1) p (Output channel) (next_place place)
  unfolding processor_after
  output_word memory a p channel place h k = rw (difference-one a h k) refl

  output_fits : (memory : List ℕ) (a p channel place : ℕ) →
      fits (need (midway memory a p (Output channel) place)) (Channel Done) ≡ true
  unfolding need
  output_fits memory a p channel place = refl

  -- words that go out, up to as many as A says
  pub outputs : (count : ℕ) (memory : List ℕ) (a p channel m i : ℕ) → count ≤ a → a < 2 ^ 18 →
      Gives (position a memory a p (Output channel) (place_after m i)) (replicate count (Channel Done)) (position (a - count) memory (a - count) p (Output channel) (place_after m (i + count)))
  outputs zero memory a p channel m i h k = grind arith
  outputs (suc count) memory a p channel m i h k = grind (arith, position, midway, output_word, next-place_from, position-some, output_fits, outputs count memory (a - 1) p channel m (i + 1) (omega arith) (omega arith))

  central_in_word : (left : ℕ) (memory : List ℕ) (a p place central : ℕ) →
      processor_after (midway memory a p (CentralIn left) place) (Read (Some central)) ≡ position (left - 1) (stored_from memory place (parts_of central)) (sum a 1) p (CentralIn (left - 1)) ((place + 5) % place_count)
  unfolding processor_after
  central_in_word left memory a p place central = refl

  central_in_fits : (left : ℕ) (memory : List ℕ) (a p place central : ℕ) →
      fits (need (midway memory a p (CentralIn left) place)) (Read (Some central)) ≡ true
  unfolding need
  central_in_fits left memory a p place central = refl

  -- central words that come in, up to as many as are left
  pub centrals_in : (centrals : List ℕ) (left : ℕ) (memory : List ℕ) (a p m i : ℕ) → length centrals ≤ left →
      length centrals < 2 ^ 12 →
      Gives (position left memory a p (CentralIn left) (place_after m i)) (map (λ central. Read (Some central)) centrals) (position (left - length centrals) (stored memory m i (parts_of_all centrals)) (address_of a (length centrals)) p (CentralIn (left - length centrals)) (place_after m (i + 5 * length centrals)))
  centrals_in [] left memory a p m i h k = grind (arith, stored-no_parts)
  centrals_in (central ∷ centrals) left memory a p m i h k =
      let place = place_after m i in
      let n = length centrals in
      let memory' = stored_from memory place (parts_of central) in
      let some : 0 < left = omega arith in
      let middle = position (left - 1) memory' (sum a 1) p (CentralIn (left - 1)) (place_after m (i + 5)) in
      let after : processor_after (midway memory a p (CentralIn left) place) (Read (Some central)) ≡ middle = central_in_word left memory a p place central ∙ ap (λ x. position (left - 1) memory' (sum a 1) p (CentralIn (left - 1)) x) (five_on m i) in
      let rest = centrals_in centrals (left - 1) memory' (sum a 1) p m (i + 5) (omega arith) (omega arith) in
      let fewer : left - 1 - n ≡ left - suc n = omega arith in
      let further : i + 5 + 5 * n ≡ i + 5 * suc n = omega arith in
      let same = ap (λ x. position x (stored memory' m (i + 5) (parts_of_all centrals)) (address_of (sum a 1) n) p (CentralIn x) (place_after m (i + 5 + 5 * n))) fewer
      ∙ ap (λ x. position (left - suc n) (stored memory' m (i + 5) (parts_of_all centrals)) (address_of (sum a 1) n) p (CentralIn (left - suc n)) (place_after m x)) further
      ∙ ap (λ x. position (left - suc n) (stored memory' m (i + 5) (parts_of_all centrals)) x p (CentralIn (left - suc n)) (place_after m (i + 5 * suc n))) (address_of-more n a (omega arith))
      ∙ ap (λ x. position (left - suc n) x (address_of a (suc n)) p (CentralIn (left - suc n)) (place_after m (i + 5 * suc n))) (sym (stored-parts central centrals memory m i)) in
      rw (position-some left memory a p (CentralIn left) place some)
      (Gives-cons (midway memory a p (CentralIn left) place) middle _ (Read (Some central)) (map (λ x. Read (Some x)) centrals) (central_in_fits left memory a p place central) after (Gives-to middle _ _ (map (λ x. Read (Some x)) centrals) rest same))

  central_out_word : (left : ℕ) (memory : List ℕ) (a p place : ℕ) →
      processor_after (midway memory a p (CentralOut left) place) (Wrote true) ≡ position (left - 1) memory (sum a 1) p (CentralOut (left - 1)) ((place + 5) % place_count)
  unfolding processor_after
  central_out_word left memory a p place = refl

  central_out_fits : (left : ℕ) (memory : List ℕ) (a p place : ℕ) →
      fits (need (midway memory a p (CentralOut left) place)) (Wrote true) ≡ true
  unfolding need
  central_out_fits left memory a p place = refl

  -- central words that go out, up to as many as are left
  pub centrals_out : (count left : ℕ) (memory : List ℕ) (a p m i : ℕ) → count ≤ left → count < 2 ^ 12 →
      Gives (position left memory a p (CentralOut left) (place_after m i)) (replicate count (Wrote true)) (position (left - count) memory (address_of a count) p (CentralOut (left - count)) (place_after m (i + 5 * count)))
  centrals_out zero left memory a p m i h k = grind arith
  centrals_out (suc n) left memory a p m i h k = grind (arith, position, midway, central_out_word, five_on, address_of-more, position-some, central_out_fits, centrals_out n (left - 1) memory (sum a 1) p m (i + 5) (omega arith) (omega arith))

  -- what a block needs midway
  pub input_need : (left : ℕ) (memory : List ℕ) (a p channel place : ℕ) → 0 < left →
      need (position left memory a p (Input channel) place) ≡ needs.Channel channel Take
  unfolding need
  input_need left memory a p channel place h = rw (position-some left memory a p (Input channel) place h) refl

  pub output_need : (left : ℕ) (memory : List ℕ) (a p channel place : ℕ) → 0 < left →
      need (position left memory a p (Output channel) place) ≡ needs.Channel channel (Put (slice_index memory place))
  unfolding need
  output_need left memory a p channel place h = rw (position-some left memory a p (Output channel) place h) refl

  pub central_in_need : (left : ℕ) (memory : List ℕ) (a p place : ℕ) → 0 < left →
      need (position left memory a p (CentralIn left) place) ≡ needs.Read a
  unfolding need
  central_in_need left memory a p place h = rw (position-some left memory a p (CentralIn left) place h) refl

  central_out_need_midway : (left : ℕ) (memory : List ℕ) (a p place : ℕ) →
      need (midway memory a p (CentralOut left) place) ≡ needs.Write a (central_from (midway memory a p (CentralOut left) place) place)
  unfolding need
  central_out_need_midway left memory a p place = refl

  pub central_out_need : (left : ℕ) (memory : List ℕ) (a p place : ℕ) → 0 < left →
      need (position left memory a p (CentralOut left) place) ≡ needs.Write a (central_from (midway memory a p (CentralOut left) place) place)
  central_out_need left memory a p place h = grind (arith, position-some, central_out_need_midway)
