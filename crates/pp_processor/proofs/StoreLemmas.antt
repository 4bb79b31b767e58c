-- Places that a step does not store to.
use Rattle.std.proofs.Common.{get_or-set_other, ◌≡◌, ◌≢◌, ℕ, suc, ◌+◌, ◌-◌, ◌%◌, ◌<◌, ◌==◌, List, [], ◌∷◌, length, slice_index, slice_set, refl, ap, ◌∙◌, arith}
use Rattle.pp_word.specs.Address.{next_place, place_count}
use Rattle.pp_word.specs.CentralWord.{parts_of}
use Rattle.pp_word.specs.OnesComplement.{difference}
use Rattle.pp_processor.specs.Block.{block_word, cut_short, stored_from}
use Rattle.pp_processor.specs.Processor.{Processor}
use Rattle.pp_processor.specs.declared.{block.BlockKind.BlockKind}
use Rattle.pp_processor.specs.declared.block.BlockKind.TheVariants.{CentralIn, CentralOut, Input, Output}
use Rattle.pp_processor.proofs.EachStep.{Leaves, Steps, either, leaves}
use Rattle.pp_processor.specs.Stores.{IsApart, KeepsOthers, first_stored}

-- the word at a place is as before
abbrev Same : ℕ → Processor → Processor → Type 0
Same place old new = slice_index new.memory place ≡ slice_index old.memory place

-- a word stored at another place
stored_one : (memory : List ℕ) (place x word : ℕ) → x < place_count → IsApart place x → slice_index (slice_set memory x word) place ≡ slice_index memory place
stored_one memory place x word low apart = get_or-set_other memory x place word 0 (λ e. apart 0 (omega arith) (omega (arith, e, low)))

-- words stored at other places
stored_words : (words memory : List ℕ) (first i place : ℕ) → ((j : ℕ) → j < length words → place ≢ (first + (i + j)) % place_count)
    → slice_index (stored_from memory ((first + i) % place_count) words) place ≡ slice_index memory place
stored_words [] memory first i place apart = refl
stored_words (word ∷ words) memory first i place apart =
    let here = (first + i) % place_count in
    let next : next_place here ≡ (first + (i + 1)) % place_count = omega arith in
    let not_here : place ≢ here = λ e. apart 0 (omega arith) (omega (arith, e)) in
    ap (λ (p : ℕ). slice_index (stored_from (slice_set memory here word) p words) place) next
    ∙ stored_words words (slice_set memory here word) first (i + 1) place (λ j k e. apart (suc j) (omega (arith, k)) (omega (arith, e)))
    ∙ get_or-set_other memory here place word 0 not_here

stored_five : (memory : List ℕ) (place x central : ℕ) → x < place_count → IsApart place x → slice_index (stored_from memory x (parts_of central)) place ≡ slice_index memory place
stored_five memory place x central low apart =
    let here : x ≡ (x + 0) % place_count = omega (arith, low) in
    ap (λ (p : ℕ). slice_index (stored_from memory p (parts_of central)) place) here
    ∙ stored_words (parts_of central) memory x 0 place (λ j k e. apart j (omega (arith, k)) (omega (arith, e)))

block_same : (pp : Processor) (place : ℕ) (kind : BlockKind) (at : ℕ) → at < place_count → IsApart place at → Leaves (Same place pp) (block_word kind at pp)
block_same pp place (CentralIn left) at low apart = λ central. either (Same place pp) (left - 1 == 0) (stored_five pp.memory place at central low apart) (stored_five pp.memory place at central low apart)
block_same pp place (CentralOut left) at low apart = either (Same place pp) (left - 1 == 0) refl refl
block_same pp place (Input channel) at low apart = λ word. either (Same place pp) (difference pp.a 1 == 0) (stored_one pp.memory place at word low apart) (stored_one pp.memory place at word low apart)
block_same pp place (Output channel) at low apart = either (Same place pp) (difference pp.a 1 == 0) refl refl

cut_same : (pp : Processor) (place : ℕ) (kind : BlockKind) (at : ℕ) → at < place_count → IsApart place at → Same place pp (cut_short kind at pp)
cut_same pp place (Input channel) at low apart = stored_one pp.memory place at 0 low apart
cut_same pp place other at low apart = refl

steps_same : (pp : Processor) (place : ℕ) → Steps pp (λ first. (first < place_count) × IsApart place first) (Same place pp)
steps_same pp place = record {
  faults = λ number. refl;
  instruction = λ free. record {
    stops = refl;
    goes_to = λ target. refl;
    loads = λ a n some few. refl;
    stores = λ at word a n may some few. stored_one pp.memory place at word may.0 may.1;
    calls = λ target word may. stored_one pp.memory place target word may.0 may.1;
    receives = λ at central may. stored_five pp.memory place at central may.0 may.1;
    starts = λ count kind may. either (Same place pp) (count == 0) (stored_one pp.memory place 0 _ may.0 may.1) (stored_one pp.memory place 0 _ may.0 may.1);
  };
  word = λ block is may. block_same pp place block.kind block.place may.0 may.1;
  cut = λ block is may. cut_same pp place block.kind block.place may.0 may.1;
}

pub others_kept : (pp : Processor) → first_stored pp.block pp < place_count → KeepsOthers pp (first_stored pp.block pp)
others_kept pp low = λ answer place apart. leaves pp _ (Same place pp) refl answer (λ runs. steps_same pp place) (low, apart)
