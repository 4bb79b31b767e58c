-- The central words that are not 0, in octal and in display code.
use Rattle.std.specs.Prelude.{ℕ, ◌==◌, ◌&&◌, not, List, [], ◌++◌, codes, length, slice_index, if◌then◌else◌}
use Rattle.pp_word.specs.Numeral.{octal}
use Rattle.pp_text.specs.PrintedText.{each_below, line_end}
use Rattle.pp_state.specs.DisplayCode.{displayed}
use Rattle.pp_numbers.specs.Bounds.{meets}
use Rattle.pp_numbers.specs.declared.bounds.Bounds.{Bounds}

-- `000010  00010002000300040005   A B C D E`, the line of a word at an address
unfoldable pub central_line : ℕ → ℕ → List ℕ
central_line a word = octal 6 a ++ codes "  " ++ octal 20 word ++ codes "  " ++ displayed 10 word

-- this line, where the address is within the bounds and the word is not 0
unfoldable pub shown_word : Bounds → List ℕ → ℕ → List ℕ
shown_word bounds central a =
    let word = slice_index central a in
    if meets bounds a a && not (word == 0) then central_line a word ++ line_end else []

-- THE TEXT of central memory
unfoldable pub central_text : Bounds → List ℕ → List ℕ
central_text bounds central = each_below (length central) (shown_word bounds central)
