-- The instructions of words, one after another.
use Rattle.std.proofs.Common.{◌≡◌, ℕ, Bool, true, false, List, [], ◌∷◌, Option, Some, None, refl, sym, ap, ◌∙◌}
use Rattle.std.specs.Prelude.{if◌then◌else◌, IfNone, IfSome, is_some, not}
use Rattle.pp_word.specs.Address.{next_place}
use Rattle.pp_deck.specs.DeckText.{Fields}
use Rattle.pp_text.specs.InstructionText.{is_long}
use Rattle.pp_instructions.specs.Instruction.{instructions}
use Rattle.pp_instructions.specs.WordsInFields.{word_in, words_in_fields}
use Rattle.pp_instructions.specs.declared.instruction.Instruction.{Instruction}

pub no_instruction : (place : ℕ) → instructions place [] ≡ []
unfolding instructions
no_instruction place = refl

pub short_first : (place word : ℕ) (ws : List ℕ) → is_long word ≡ false
    → instructions place (word ∷ ws) ≡ record { place = place; word = word; second = None } ∷ instructions (next_place place) ws
unfolding instructions
short_first place word [] short = refl
short_first place word (m ∷ ws) short = rw short refl

pub long_first : (place word m : ℕ) (ws : List ℕ) → is_long word ≡ true
    → instructions place (word ∷ m ∷ ws) ≡ record { place = place; word = word; second = Some m } ∷ instructions (next_place (next_place place)) ws
unfolding instructions
long_first place word m ws long = rw long refl

cut_first : (place word : ℕ) → instructions place (word ∷ []) ≡ record { place = place; word = word; second = None } ∷ []
unfolding instructions
cut_first place word = refl

-- what is left, unless it is ended
pub left_is : (ended : Bool) (all now : List Instruction) → (if ended then [] else all) ≡ now → ended ≡ false → now ≡ all
left_is false all now is goes = sym is
left_is true all now is goes = absurd (cc)

-- a field of the line, and its word
abbrev pub TakesWord : Fields → Fields → ℕ → Type 0
TakesWord old new word = (field : List ℕ) × ((old ≡ field ∷ new) × (word_in field ≡ word))

first_word : (old new : Fields) (word : ℕ) → TakesWord old new word → words_in_fields old ≡ word ∷ words_in_fields new
first_word old new word taken = ap words_in_fields taken.1.0 ∙ ap (λ w. w ∷ words_in_fields new) taken.1.1

pub short_step : (place next word : ℕ) (ended : Bool) (left rest : Fields) → is_long word ≡ false → next ≡ next_place place → ended ≡ false → TakesWord left rest word
    → instructions place (words_in_fields left) ≡ record { place = place; word = word; second = None } ∷ (if ended then [] else instructions next (words_in_fields rest))
short_step place next word ended left rest short after goes taken =
    ap (instructions place) (first_word left rest word taken) ∙ short_first place word (words_in_fields rest) short ∙ rw (after, goes) refl

on : (ended : Bool) → true ≡ not ended → ended ≡ false
on false goes = refl
on true goes = absurd (cc)

over : (ended : Bool) → false ≡ not ended → ended ≡ true
over true goes = refl
over false goes = absurd (cc)

pub long_step : (place next after word : ℕ) (ended : Bool) (fields left rest : Fields) (o : Option ℕ) → is_long word ≡ true → next ≡ next_place place → after ≡ next_place next → is_some o ≡ not ended
    → TakesWord fields left word → IfSome o (TakesWord left rest) → IfNone o (left ≡ [])
    → instructions place (words_in_fields fields) ≡ record { place = place; word = word; second = o } ∷ (if ended then [] else instructions after (words_in_fields rest))
long_step place next after word ended fields left rest (Some m) long is1 is2 goes taken some none =
    ap (instructions place) (first_word fields left word taken ∙ ap (λ ws. word ∷ ws) (first_word left rest m some)) ∙ long_first place word m (words_in_fields rest) long ∙ rw (is2, is1, on ended goes) refl
long_step place next after word ended fields left rest None long is1 is2 goes taken some none =
    ap (instructions place) (first_word fields left word taken ∙ ap (λ fs. word ∷ words_in_fields fs) none) ∙ cut_first place word ∙ rw (over ended goes) refl
