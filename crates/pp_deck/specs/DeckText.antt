-- The lines of a deck's text, and the fields of a line. Bytes are ASCII codes in decimal: a tab is
-- 9, LF is 10, a space is 32, `*` is 42; a CR, 13, at the end of a line is no part of it.
use Rattle.std.specs.Prelude.{ℕ, ◌==◌, Bool, true, false, not, ◌||◌, List, [], ◌∷◌, map, filter, slice_index}
use Rattle.std.specs.List.{slice_split, take_while}
use Rattle.std.specs.Str.Lines.{strip_carriage_return}

-- the characters of a field, and the fields of a line from left to right
abbrev pub Field : Type 0
Field = List ℕ

abbrev pub Fields : Type 0
Fields = List Field

abbrev pub is_line_feed : ℕ → Bool
is_line_feed byte = byte == 10

-- what stands between fields: spaces and tabs
abbrev pub is_blank : ℕ → Bool
is_blank byte = byte == 32 || byte == 9

-- a comment begins with `*`
abbrev pub is_comment : Field → Bool
is_comment field = slice_index field 0 == 42

abbrev pub is_nonempty : List ℕ → Bool
is_nonempty [] = false
is_nonempty (character ∷ piece) = true

-- the fields in some text: what stands between blanks, up to a comment
unfoldable pub fields_in : List ℕ → Fields
fields_in text =
    take_while (λ field. not (is_comment field)) (filter is_nonempty (slice_split is_blank text))

-- the fields of a line, without the CR at its end
abbrev pub fields_of : List ℕ → Fields
fields_of line = fields_in (strip_carriage_return line)

-- the lines of a text, each as its fields. What comes after the last LF is a line too
unfoldable pub lines_of : List ℕ → List Fields
lines_of text = map fields_of (slice_split is_line_feed text)
