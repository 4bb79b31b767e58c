-- Words that differ between two memories.
use Rattle.std.specs.Prelude.{ℕ, ◌==◌, Bool, not, List, slice_index}
use Rattle.std.specs.List.{range_with_len}
use Rattle.pp_word.specs.Address.{place_count}

-- whether the word at a place differs
abbrev pub differs : List ℕ → List ℕ → ℕ → Bool
differs before after place = not (slice_index before place == slice_index after place)

-- all places of a processor's memory
unfoldable pub places : List ℕ
places = range_with_len 0 place_count
