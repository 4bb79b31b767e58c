-- The words of a processor's memory, eight a line, in octal and in display code.
use Rattle.std.specs.Prelude.{ℕ, ◌+◌, ◌-◌, ◌*◌, ◌==◌, ◌&&◌, Bool, not, List, [], ◌++◌, codes, length, take, if◌then◌else◌}
use Rattle.std.specs.Char.{is_ascii_whitespace}
use Rattle.std.specs.List.{list_any, range_with_len, suffix_len}
use Rattle.pp_processor.specs.Processor.{Processor, word_at}
use Rattle.pp_word.specs.Numeral.{octal}
use Rattle.pp_text.specs.PrintedText.{each_below, line_end}
use Rattle.pp_state.specs.DisplayCode.{displayed}
use Rattle.pp_numbers.specs.Bounds.{meets}
use Rattle.pp_numbers.specs.declared.bounds.Bounds.{Bounds}

-- a line without the spaces at its end
unfoldable pub trimmed : List ℕ → List ℕ
trimmed line = take (length line - suffix_len is_ascii_whitespace line) line

-- eight words from a place on, in octal digits, with a space before each
unfoldable pub octal_words : Processor → ℕ → List ℕ
octal_words pp place = each_below 8 (λ k. codes " " ++ octal 4 (word_at pp (place + k)))

-- the same words in display code, two characters each
unfoldable pub displayed_words : Processor → ℕ → List ℕ
displayed_words pp place = each_below 8 (λ k. displayed 2 (word_at pp (place + k)))

-- the line of eight places, with spaces at its end
unfoldable pub padded_line : Processor → ℕ → List ℕ
padded_line pp place =
    octal 4 place ++ codes " " ++ octal_words pp place ++ codes "  " ++ displayed_words pp place

-- `0020  0004 0000 0017 0000 0000 0000 0000 0000   D   O`
abbrev pub memory_line : Processor → ℕ → List ℕ
memory_line pp place = trimmed (padded_line pp place)

-- one of eight words from a place on is not 0
abbrev pub has_words : Processor → ℕ → Bool
has_words pp place = list_any (λ p. not (word_at pp p == 0)) (range_with_len place 8)

-- the line of eight places, where one of them is shown and one of their words is not 0
unfoldable pub shown_line : Bounds → Processor → ℕ → List ℕ
shown_line bounds pp place = if meets bounds place (place + 7) && has_words pp place
    then memory_line pp place ++ line_end else []

-- THE TEXT of a processor's memory. Lines begin at multiples of 10 (octal), and are whole
unfoldable pub memory_text : Bounds → Processor → List ℕ
memory_text bounds pp = each_below 0o1000 (λ n. shown_line bounds pp (n * 8))
