-- How many fields a line has.
use Rattle.std.proofs.Common.{ℕ, ◌+◌, ◌-◌, ◌≤◌, Bool, true, false, List, length, take, arith}
use Rattle.std.specs.Prelude.{◌==◌, filter, if◌then◌else◌, not, slice_index}
use Rattle.std.specs.List.{prefix_len, slice_split}
use Rattle.std.specs.Str.Lines.{strip_carriage_return}
use Rattle.std.proofs.lemmas.List.{length-take}
use Rattle.std.proofs.lemmas.List.Sums.{count_by-le-length, length-filter}
use Rattle.std.proofs.lemmas.List.Splits.{length-slice_split}
use Rattle.pp_deck.specs.DeckText.{fields_in, fields_of, is_blank, is_comment, is_nonempty}

fewer : {A : Type 0} (n : ℕ) (xs : List A) → length (take n xs) ≤ length xs
fewer n xs = omega (arith, length-take n xs)

no_longer : (line : List ℕ) (b : Bool) → length (if b then take (length line - 1) line else line) ≤ length line
no_longer line true = fewer (length line - 1) line
no_longer line false = omega arith

-- a line has no more fields than characters and one
pub few_fields : (line : List ℕ) → length (fields_of line) ≤ length line + 1
unfolding fields_in
few_fields line =
    let text = strip_carriage_return line in
    let pieces = slice_split is_blank text in
    let some = filter is_nonempty pieces in
    let shorter : length text ≤ length line = no_longer line (slice_index line (length line - 1) == 13) in
    omega (arith, shorter, length-slice_split is_blank text, count_by-le-length is_blank text, length-filter is_nonempty pieces, count_by-le-length is_nonempty pieces, fewer (prefix_len (λ field. not (is_comment field)) some) some)
