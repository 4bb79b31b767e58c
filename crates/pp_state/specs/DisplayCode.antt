-- Display code: each six bits of a word stand for a character.
use Rattle.std.specs.Prelude.{ℕ, zero, suc, ◌/◌, ◌%◌, List, [], ◌∷◌, ◌++◌, codes, slice_index}

-- the characters of 00 to 77 (octal), in ASCII; 00, which ends a line, and 55 are shown as spaces
unfoldable pub display_characters : List ℕ
display_characters = codes " ABCDEFGHIJKLMNOPQRSTUVWXYZ0123456789+-*/()$= ,.#[]%\"_!&'?<>@\\^;"

abbrev pub display_character : ℕ → ℕ
display_character code = slice_index display_characters code

-- the last characters of a word, as many as asked for
abbrev pub displayed : ℕ → ℕ → List ℕ
displayed zero word = []
displayed (suc width) word = displayed width (word / 0o100) ++ display_character (word % 0o100) ∷ []
