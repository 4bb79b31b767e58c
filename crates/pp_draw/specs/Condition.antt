-- How channels and processors stand, in phases, and how that is shown.
use Rattle.std.specs.Prelude.{ℕ, Bool, true, false, ◌==◌, List, [], ◌∷◌, ◌++◌, Option, None, Some, codes, slice_index_or, if◌then◌else◌}
use Rattle.std.specs.List.{filter_map}
use Rattle.std.specs.Option.{option_to_list}
use Rattle.pp_numbers.specs.PpNo.{processor_index}
use Rattle.pp_word.specs.Numeral.{octal}
use Rattle.pp_channel.specs.declared.event.Event.TheVariants.{Activate, Disconnect, Put, Take, Function}
use Rattle.pp_machine.specs.MachineState.{MachineState, is_opened}
use Rattle.pp_machine.specs.declared.trace.Trace.{Trace}
use Rattle.pp_draw.specs.declared.condition.Condition.TheVariants.{Running, InBlock, HeldBy, Stopped, Faulted}
use Rattle.pp_draw.specs.declared.condition.Look.TheVariants.{Channel, Processor}
use Rattle.pp_draw.specs.declared.{condition.Look.Look, condition.Phase.Phase, seen_step.SeenStep.SeenStep}

-- whether the next look continues a phase. Of a channel none does: each event begins another
abbrev pub continues : Look → Look → Bool
continues (Processor Running) (Processor Running) = true
continues (Processor InBlock) (Processor InBlock) = true
continues (Processor (HeldBy c)) (Processor (HeldBy other)) = other == c
continues (Processor Stopped) (Processor Stopped) = true
continues (Processor Faulted) (Processor Faulted) = true
continues look next = false

-- whether a function code went out
abbrev pub is_sent : Look → Bool
is_sent (Channel (Function code)) = true
is_sent look = false

-- whether the word that waits is lost: a Disconnect comes before it is taken
abbrev pub loses_word : Look → Look → Bool
loses_word (Channel (Put word)) (Channel Disconnect) = true
loses_word look next = false

-- how a look is shown: the letter of its class, which has its colour in the style sheet, and in
-- words, with a label after them that also stands above the band
pub record Face : Type 0 where
  pub class : List ℕ
  pub words : List ℕ
  pub label : Option (List ℕ)

abbrev pub in_words : List ℕ → List ℕ → Option (List ℕ) → Face
in_words class words label = record { class = class; words = words; label = label }

abbrev pub face_of : Look → Face
face_of (Channel Disconnect) = in_words (codes "i") (codes "inactive") None
face_of (Channel Activate) = in_words (codes "a") (codes "active") None
face_of (Channel (Take word)) = in_words (codes "a") (codes "active") None
face_of (Channel (Put word)) = in_words (codes "f") (codes "full ") (Some (octal 4 word))
face_of (Channel (Function code)) = in_words (codes "c") (codes "function ") (Some (octal 4 code))
face_of (Processor Running) = in_words (codes "r") (codes "running") None
face_of (Processor InBlock) = in_words (codes "b") (codes "in a block") None
face_of (Processor (HeldBy c)) =
    in_words (codes "h") (codes "held by ") (Some (codes "CH" ++ octal 2 c))
face_of (Processor Stopped) = in_words (codes "s") (codes "stopped") None
face_of (Processor Faulted) = in_words (codes "x") (codes "at fault") None

-- the phase that an entry of the trace begins on channel c
abbrev pub phase_on : ℕ → Trace → Option Phase
phase_on c entry = if entry.channel == c
    then Some (record { since = entry.turn; look = Channel entry.event }) else None

-- all phases of channel c, which stands from turn 0 on if dead start opened it
abbrev pub channel_phases : ℕ → MachineState → List Phase
channel_phases c m =
    (if is_opened c m then record { since = 0; look = Channel Activate } ∷ [] else [])
    ++ filter_map (phase_on c) m.trace

-- processor n in a step, if it is its own, and in each of its steps
abbrev pub phase_for : ℕ → SeenStep → Option Phase
phase_for n step = if step.pp == n
    then Some (record { since = step.turn; look = Processor step.condition }) else None

abbrev pub processor_phases : ℕ → List SeenStep → List Phase
processor_phases n steps = filter_map (phase_for n) steps

-- its step of the last steps before those that are shown, if it has one
abbrev pub own_earlier : ℕ → List (Option SeenStep) → List SeenStep
own_earlier n earlier = option_to_list (slice_index_or earlier (processor_index n) None)

-- those of these phases, after a look, that do not go on under the look before them
abbrev pub changes : Look → List Phase → List Phase
changes look [] = []
changes look (next ∷ more) =
    if continues look next.look then changes next.look more else next ∷ changes next.look more

-- the same from the start, or from the phase that is going on
abbrev pub phases_from : Option Phase → List Phase → List Phase
phases_from None [] = []
phases_from None (first ∷ more) = first ∷ changes first.look more
phases_from (Some current) more = current ∷ changes current.look more
