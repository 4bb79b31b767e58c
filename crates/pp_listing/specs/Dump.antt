-- The dump of a deck that has run: the listing of a deck to go on from.
use Rattle.std.specs.Prelude.{◌≡◌, ◌≤◌, Result, Ok, Err, ℕ, List, [], ◌∷◌, ◌++◌, codes, length, map, Option, Some, None, slice_get, filter_map, if◌then◌else◌}
use Rattle.std.specs.Io.KnownBytes.{Appends, Keeps}
use Rattle.pp_numbers.specs.ChannelNo.{all_channels}
use Rattle.pp_channel.specs.History.{active}
use Rattle.pp_machine.specs.MachineState.{MachineState, new_machine, processor_of, history_of}
use Rattle.pp_processor.specs.Processor.{Processor, new_processor}
use Rattle.pp_numbers.specs.PpNo.{all_processors}
use Rattle.pp_machine.specs.Run.{run}
use Rattle.pp_word.specs.Numeral.{octal}
use Rattle.pp_processor.specs.declared.{block.Block.Block, pp_state.PpState.PpState}
use Rattle.pp_processor.specs.declared.pp_state.PpState.TheVariants.{Running, Fault}
use Rattle.pp_deck.specs.DeckMeaning.{LoadedDeck, deck_meaning}
use Rattle.pp_deck.specs.InUse.{in_use}
use Rattle.pp_text.specs.OrderText.{order_text}
use Rattle.pp_text.specs.PrintedText.{line_end}
use Rattle.pp_text.specs.Written.{AppendsFront}
use Rattle.pp_listing.specs.Listing.{listing}
use Rattle.pp_listing.specs.declared.{dumped_deck.DumpFault.DumpFault, going_on.Busy.Busy}
use Rattle.pp_listing.specs.declared.dumped_deck.DumpFault.TheVariants.{NotBetweenPrograms, Write}
use Rattle.pp_listing.specs.declared.going_on.Busy.TheVariants.{WithinBlock, AtFault, Active}

-- ---- why a machine is not between programs

-- a block in progress, or a fault
abbrev pub in_processor : ℕ → Option Block → PpState → Option Busy
in_processor n (Some block) state = Some (WithinBlock n)
in_processor n None (Fault number) = Some (AtFault n)
in_processor n None state = None

-- in processor n
abbrev pub busy_processor : MachineState → ℕ → Option Busy
busy_processor m n = let pp = processor_of n m in in_processor n pp.block pp.state

-- on channel c, if it is active
abbrev pub busy_channel : MachineState → ℕ → Option Busy
busy_channel m c = if active (history_of c m) then Some (Active c) else None

-- all reasons, by number of processor, and then by number of channel
unfoldable pub all_busy : MachineState → List Busy
all_busy m =
    filter_map (busy_processor m) all_processors ++ filter_map (busy_channel m) all_channels

-- the first reason: a machine is between programs if there is none
abbrev pub first_busy : MachineState → Option Busy
first_busy m = slice_get (all_busy m) 0

-- `PP01 within a block`, `PP01 at fault`, `CH05 active`
abbrev pub busy_text : Busy → List ℕ
busy_text (WithinBlock n) = codes "PP" ++ octal 2 n ++ codes " within a block"
busy_text (AtFault n) = codes "PP" ++ octal 2 n ++ codes " at fault"
busy_text (Active c) = codes "CH" ++ octal 2 c ++ codes " active"

-- ---- what is left between programs

-- a processor that is running stays as it is; of any other only the memory is left
abbrev pub left_of : PpState → Processor → Processor
left_of Running pp = pp
left_of state pp = record (new_processor pp.profile) { memory = pp.memory }

-- the deck to go on from: no history, turn, trace or opened channel; each processor in use is named
abbrev pub deck_to_go_on : LoadedDeck → LoadedDeck
deck_to_go_on deck = let m = deck.machine in record {
  machine = record (new_machine m.profile (length m.central)) {
    processors = map (λ pp. left_of pp.state pp) m.processors;
    central = m.central;
  };
  named = in_use deck;
}

-- `* GO ON WITH --order 1,2,3`: a comment that names an order to go on with, if it has steps
abbrev pub order_comment : List ℕ → List ℕ
order_comment [] = []
order_comment (n ∷ ns) = codes "* GO ON WITH --order " ++ order_text (n ∷ ns) ++ line_end

-- THE DUMP, if the machine is between programs: the listing, behind an order to go on with
unfoldable pub dump : List ℕ → LoadedDeck → List ℕ
dump order deck = order_comment order ++ listing (deck_to_go_on deck)

-- writing it: all or a first part is written, or nothing if the machine is not between programs
abbrev pub IsDumped : List ℕ → LoadedDeck → Result (Unit {0}) DumpFault
    → Option (List ℕ) → Option (List ℕ) → Type 0
IsDumped order deck (Ok done) old new =
    (first_busy deck.machine ≡ None) × Appends old new (dump order deck)
IsDumped order deck (Err Write) old new =
    (first_busy deck.machine ≡ None) × AppendsFront old new (dump order deck)
IsDumped order deck (Err (NotBetweenPrograms going_on)) old new =
    (first_busy deck.machine ≡ Some going_on) × Keeps old new

-- a deck after some steps
abbrev pub after : List ℕ → LoadedDeck → LoadedDeck
after steps deck = record deck { machine = run steps deck.machine }

-- a text no longer than a deck may be means the deck to go on from, if this deck has come by steps
-- from one that some text means
abbrev pub GoesOnFrom : List ℕ → LoadedDeck → Type 0
GoesOnFrom text deck = (source : List ℕ) (loaded : LoadedDeck) (steps : List ℕ)
    → deck_meaning deck.machine.profile source ≡ Ok loaded → deck ≡ after steps loaded
    → length text ≤ 1048576 → deck_meaning deck.machine.profile text ≡ Ok (deck_to_go_on deck)
