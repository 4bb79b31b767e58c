-- Lines of words, in the pieces in which they are printed.
use Rattle.std.proofs.Common.{◌≡◌, ◌≢◌, ℕ, ◌+◌, ◌-◌, ◌/◌, ◌%◌, true, List, [], ◌∷◌, ◌++◌, refl, sym, ap, ◌∙◌, append_assoc, arith, codes}
use Rattle.pp_processor.specs.Processor.{Processor, word_at}
use Rattle.pp_word.specs.Numeral.{octal}
use Rattle.pp_text.specs.PrintedText.{each_below, line_end}
use Rattle.pp_state.proofs.MemoryLawLemmas.{trim_after}
use Rattle.pp_state.specs.DisplayCode.{display_character, displayed}
use Rattle.pp_numbers.specs.Bounds.{meets}
use Rattle.pp_state.specs.MemoryText.{displayed_words, has_words, memory_line, octal_words, padded_line, shown_line, trimmed}
use Rattle.pp_numbers.specs.declared.bounds.Bounds.{Bounds}

-- one character more of a word
pub displayed_more : (width word : ℕ) → width ≢ 0 → displayed (width - 1) (word / 0o100) ++ display_character (word % 0o100) ∷ [] ≡ displayed width word
displayed_more width word some = grind arith

-- eight words in display code
pub eight_words : (pp : Processor) (place : ℕ)
    → displayed 2 (word_at pp place) ++ displayed 2 (word_at pp (place + 1)) ++ displayed 2 (word_at pp (place + 2)) ++ displayed 2 (word_at pp (place + 3))
    ++ displayed 2 (word_at pp (place + 4)) ++ displayed 2 (word_at pp (place + 5)) ++ displayed 2 (word_at pp (place + 6)) ++ displayed 2 (word_at pp (place + 7))
    ≡ displayed_words pp place
unfolding displayed_words each_below
eight_words pp place = grind arith

-- eight words in octal end with the last digit of the last
last_digit : (pp : Processor) (place : ℕ)
    → let w = word_at pp (place + 7) in
    octal_words pp place ≡ (each_below 7 (λ k. codes " " ++ octal 4 (word_at pp (place + k))) ++ (codes " " ++ octal 3 (w / 8))) ++ (48 + w % 8) ∷ []
unfolding octal_words each_below
last_digit pp place = grind (arith, append_assoc, codes)

-- so no more than the characters, and the spaces before them, lose their spaces
pub line_trimmed : (pp : Processor) (place : ℕ) (shown : List ℕ) → shown ≡ trimmed (codes "  " ++ displayed_words pp place)
    → octal 4 place ++ codes " " ++ octal_words pp place ++ shown ≡ memory_line pp place
unfolding padded_line
line_trimmed pp place shown is =
    let w = word_at pp (place + 7) in
    let start = octal 4 place ++ codes " " in
    let tail = codes "  " ++ displayed_words pp place in
    let front = each_below 7 (λ k. codes " " ++ octal 4 (word_at pp (place + k))) ++ (codes " " ++ octal 3 (w / 8)) in
    ap (λ (t : List ℕ). (start ++ octal_words pp place) ++ t) is
    ∙ ap (λ (t : List ℕ). (start ++ t) ++ trimmed tail) (last_digit pp place)
    ∙ sym (trim_after start front tail (48 + w % 8) (omega arith))
    ∙ ap (λ (t : List ℕ). trimmed ((start ++ t) ++ tail)) (sym (last_digit pp place))
    ∙ ap trimmed (sym (append_assoc (start ++ octal_words pp place) (codes "  ") (displayed_words pp place)))

-- a line that is shown
pub line_shown : (bounds : Bounds) (pp : Processor) (place : ℕ) → meets bounds place (place + 7) ≡ true → has_words pp place ≡ true
    → memory_line pp place ++ line_end ≡ shown_line bounds pp place
unfolding shown_line
line_shown bounds pp place met some = rw (met, some) refl
