-- When a text is well-formed XML, of printed ASCII characters, with names of letters and values in
-- single quotes, and without comments and references. Read character by character, it is one
-- element; each tag and each quote ends; each attribute stands after a space, with a name that no
-- other of its tag has, `=` and a value; each element is closed by its name, the innermost first.
use Rattle.std.specs.Prelude.{◌≡◌, ℕ, ◌==◌, ◌&&◌, not, List, [], ◌∷◌, fold, nat_le, if◌then◌else◌}
use Rattle.std.specs.List.{list_any}
use Rattle.std.specs.Str.{bytes_eq}

-- what a character is to XML: `<`, `>`, `'`, `/`, `=`, a space, a line feed, a letter, another that
-- may stand in a text, or one that may not: `&`, and each that is not printed
pub data Sign : Type 0 where
  less greater quote slash equals space line_feed letter other forbidden : Sign

abbrev pub sign_of : ℕ → Sign
sign_of character = if character == 60 then less else if character == 62 then greater
    else if character == 39 then quote else if character == 47 then slash
    else if character == 61 then equals else if character == 32 then space
    else if character == 10 then line_feed
    else if nat_le 65 character && nat_le character 90 then letter
    else if nat_le 97 character && nat_le character 122 then letter
    else if nat_le 32 character && nat_le character 126 && not (character == 38) then other
    else forbidden

-- where a reader stands: before the first tag, or nowhere; between tags, after a `<`, after the
-- slash of a tag without content, in the name of an opening or of a closing tag; or in an opening
-- tag: after a space, after the `=` of an attribute, in its value, after it, or in its name.
-- `within` has the names of the open elements, the innermost first; it is empty after the last tag,
-- and past its name an opening tag's is among them. `name` and `attributes` are what is read of a
-- tag so far; a name's last character comes first
pub data Reader : Type 0 where
  before nowhere : Reader
  between opened slashed : (within : List (List ℕ)) → Reader
  opening closing : (name : List ℕ) (within : List (List ℕ)) → Reader
  inside assigned quoted unquoted : (attributes within : List (List ℕ)) → Reader
  naming : (name : List ℕ) (attributes within : List (List ℕ)) → Reader

-- where a character of each sign leads, which is nowhere if no line says it
abbrev pub read_at : Reader → Sign → ℕ → Reader
read_at reader forbidden character = nowhere
read_at before less character = opened []
read_at (between []) line_feed character = between []
read_at (between []) sign character = nowhere
read_at (between within) less character = opened within
read_at (between within) greater character = nowhere
read_at (between within) sign character = between within
read_at (opened within) letter character = opening (character ∷ []) within
read_at (opened within) slash character = closing [] within
read_at (opening name within) letter character = opening (character ∷ name) within
read_at (opening name within) space character = inside [] (name ∷ within)
read_at (opening name within) greater character = between (name ∷ within)
read_at (opening name within) slash character = slashed (name ∷ within)
read_at (closing name within) letter character = closing (character ∷ name) within
read_at (closing name (innermost ∷ within)) greater character =
    if bytes_eq name innermost then between within else nowhere
read_at (inside attributes within) letter character = naming (character ∷ []) attributes within
read_at (inside attributes within) space character = inside attributes within
read_at (inside attributes within) greater character = between within
read_at (inside attributes within) slash character = slashed within
read_at (naming name attributes within) letter character =
    naming (character ∷ name) attributes within
read_at (naming name attributes within) equals character =
    if list_any (λ attribute. bytes_eq attribute name) attributes then nowhere
    else assigned (name ∷ attributes) within
read_at (assigned attributes within) quote character = quoted attributes within
read_at (quoted attributes within) quote character = unquoted attributes within
read_at (quoted attributes within) less character = nowhere
read_at (quoted attributes within) sign character = quoted attributes within
read_at (unquoted attributes within) space character = inside attributes within
read_at (unquoted attributes within) greater character = between within
read_at (unquoted attributes within) slash character = slashed within
read_at (slashed (innermost ∷ within)) greater character = between within
read_at reader sign character = nowhere

-- one character more
abbrev pub read_on : Reader → ℕ → Reader
read_on reader character = read_at reader (sign_of character) character

-- A TEXT IS WELL-FORMED where a reader comes through it, and has closed all elements at its end
abbrev pub IsWellFormed : List ℕ → Type 0
IsWellFormed text = fold read_on before text ≡ between []
