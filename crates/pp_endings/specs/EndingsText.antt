-- All endings of a deck, in text: how many were found, and of each an order of steps that leads
-- into it, and how the machine stands after this order.
use Rattle.std.specs.Prelude.{◌≡◌, ℕ, Bool, false, List, [], ◌==◌, ◌++◌, codes, length, slice_index_or, All, if◌then◌else◌}
use Rattle.std.specs.List.{flat_map}
use Rattle.pp_numbers.specs.PpNo.{all_processors, is_named}
use Rattle.pp_word.specs.Numeral.{short_decimal}
use Rattle.pp_machine.specs.Headline.{IsMachine}
use Rattle.pp_machine.specs.MachineState.{MachineState, processor_of}
use Rattle.pp_machine.specs.Run.{run}
use Rattle.pp_deck.specs.DeckMeaning.{LoadedDeck}
use Rattle.pp_deck.specs.InUse.{in_use}
use Rattle.pp_text.specs.OrderText.{order_text}
use Rattle.pp_text.specs.PrintedText.{each_below, line_end, processor_line}
use Rattle.pp_text.specs.Standing.{standing}
use Rattle.pp_state.specs.StateText.{changes_text}
use Rattle.pp_orders.specs.Endings.{AreAllEndings, AreEndings, CanBeListed, TellGoing}

-- `ENDINGS 2`, or `ENDINGS 2 OR MORE`
abbrev pub head_line : ℕ → Bool → List ℕ
head_line count more = codes "ENDINGS " ++ short_decimal count
    ++ (if more then codes " OR MORE" else []) ++ line_end

-- `ORDER 0:3,1`, or `ORDER` for no step
abbrev pub order_line : List ℕ → List ℕ
order_line order = codes "ORDER"
    ++ (if length order == 0 then [] else codes " " ++ order_text order) ++ line_end

-- ` GOES ON`, of a processor that does
abbrev pub going_text : Bool → List ℕ
going_text goes_on = if goes_on then codes " GOES ON" else []

-- the line of processor n, if it is shown: as it stands, and whether it goes on
abbrev pub going_line : List Bool → List Bool → MachineState → ℕ → List ℕ
going_line shown going m n = if is_named shown n
    then processor_line n (processor_of n m)
    (standing n m 0 ++ going_text (is_named going n)) else []

-- an ending: an order that leads into it from the load, and how the machine stands after this
-- order: the processors in use, of which some may go on, what differs from the load, the channels
unfoldable pub ending_text : LoadedDeck → List ℕ → List Bool → List ℕ
ending_text deck order going = let after = run order deck.machine in
    order_line order ++ flat_map (going_line (in_use deck) going after) all_processors
    ++ changes_text deck.machine after

-- that of each of these orders, by its place
abbrev pub ending_at : LoadedDeck → List (List ℕ) → List (List Bool) → ℕ → List ℕ
ending_at deck orders going i =
    ending_text deck (slice_index_or orders i []) (slice_index_or going i [])

-- how many endings there are, and each of them
unfoldable pub endings_text : LoadedDeck → List (List ℕ) → List (List Bool) → Bool → List ℕ
endings_text deck orders going more =
    head_line (length orders) more ++ each_below (length orders) (ending_at deck orders going)

-- THE TEXT OF ALL ENDINGS of a loaded deck: orders of its steps that `--order` takes and that lead
-- to endings, no two to the same, each with flags that tell which processors go on there; and
-- unless it says that there may be more, every order of steps can go on into one of these endings
pub record IsEndingsText (deck : LoadedDeck) (text : List ℕ) : Type 0 where
  pub orders : List (List ℕ)
  pub going : List (List Bool)
  pub more : Bool
  pub text_is : text ≡ endings_text deck orders going more
  pub machine : IsMachine deck.machine
  pub listed : All (CanBeListed deck.machine.profile) orders
  pub endings : AreEndings deck.machine orders
  pub goes_on : TellGoing deck.machine orders going
  pub all : more ≡ false → AreAllEndings deck.machine orders
