-- A loaded deck before its first step.
use Rattle.std.proofs.Common.{ℕ, ◌≤◌, List, arith}
use Rattle.std.proofs.lemmas.Bool.{cases_lt}
use Rattle.std.proofs.lemmas.List.{get_or_default, get_or_past}
use Rattle.pp_machine.specs.MachineState.{processor_of}
use Rattle.pp_numbers.specs.PpNo.{processor_index, processor_places}
use Rattle.pp_processor.specs.Processor.{IsAtRest}
use Rattle.pp_numbers.specs.Profile.{has_processor, processors_in}
use Rattle.pp_deck.specs.DeckLaw.{KeepsDeckLaw, NamesWithin}
use Rattle.pp_deck.specs.DeckLine.{Line}
use Rattle.pp_deck.specs.DeckMeaning.{LoadedDeck}
use Rattle.pp_report.specs.Serial.{HasNotRun}

pub not_run : (lines : List Line) (deck : LoadedDeck) → KeepsDeckLaw lines deck → HasNotRun deck.machine
not_run lines deck holds = record { processors = holds.each_processor; channels = holds.each_channel; histories = holds.history }

pub lacked_rests : (lines : List Line) (deck : LoadedDeck) → KeepsDeckLaw lines deck → NamesWithin deck.machine.profile deck.named → (n : ℕ) → processors_in deck.machine.profile ≤ processor_index n
    → IsAtRest (processor_of n deck.machine)
unfolding has_processor
lacked_rests lines deck holds names n past = grind (arith, processor_places.named_below, get_or_default, cases_lt, get_or_past)
