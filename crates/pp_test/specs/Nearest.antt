-- How near lines come to words that they have to begin with.
use Rattle.std.specs.Prelude.{ℕ, ◌==◌, Bool, List, [], ◌∷◌, bytes_eq, length, nat_lt}
use Rattle.std.specs.List.{best_of, common_prefix_len}
use Rattle.pp_deck.specs.DeckText.{Fields, fields_of}

-- how many words in front a line has in common with these
abbrev pub in_common : Fields → List ℕ → ℕ
in_common words line = common_prefix_len bytes_eq words (fields_of line)

-- whether these words begin a line, word by word
abbrev pub begin : Fields → List ℕ → Bool
begin words line = in_common words line == length words

-- whether a line has more words in front in common with these than another
abbrev pub is_nearer : Fields → List ℕ → List ℕ → Bool
is_nearer words line other = nat_lt (in_common words other) (in_common words line)

-- the line that has the most; of several the first
unfoldable pub nearest : Fields → List (List ℕ) → List ℕ
nearest words [] = []
nearest words (line ∷ lines) = best_of (is_nearer words) line lines
