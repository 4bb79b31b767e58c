-- The orders that the text of all endings names, read back from its lines as `--order` reads a
-- list.
use Rattle.std.specs.Prelude.{◌≡◌, ℕ, ◌==◌, true, Bool, List, [], ◌∷◌, ◌++◌, Option, Some, bytes_eq, codes, drop, length, take, if◌then◌else◌}
use Rattle.std.specs.List.{slice_split}
use Rattle.std.specs.Option.{option_and_then, option_map}
use Rattle.pp_numbers.specs.declared.profile.Profile.{Profile}
use Rattle.pp_deck.specs.DeckText.{is_line_feed}
use Rattle.pp_command.specs.OrderList.{listed_steps}
use Rattle.pp_endings.specs.EndingsText.{head_line}

-- whether a line begins with `ORDER`
abbrev pub names_order : List ℕ → Bool
names_order line = bytes_eq (take 5 line) (codes "ORDER")

-- the order that such a line names: no step, if nothing follows; else the steps of a list behind a
-- blank, if it is one for a machine of this profile
abbrev pub order_named : Profile → List ℕ → Option (List ℕ)
order_named profile line =
    if length line == 5 then Some [] else listed_steps profile (drop 6 line)

-- the orders that lines name, if each is read
abbrev pub orders_on : Profile → List (List ℕ) → Option (List (List ℕ))
orders_on profile [] = Some []
orders_on profile (line ∷ lines) = if names_order line
    then option_and_then (λ order. option_map (λ more. order ∷ more) (orders_on profile lines))
    (order_named profile line)
    else orders_on profile lines

-- the orders that a text names, if each is read
unfoldable pub orders_read : Profile → List ℕ → Option (List (List ℕ))
orders_read profile text = orders_on profile (slice_split is_line_feed text)

-- the first line of a text says that there may be more endings
abbrev pub SaysMore : List ℕ → Type 0
SaysMore text = (count : ℕ) × (rest : List ℕ) × (text ≡ head_line count true ++ rest)
