-- What an operation would have done on a channel that stood otherwise.
-- (Manual 60100000, data channels: a channel is inactive, or active and empty, or active and full.)
use Rattle.std.specs.Prelude.{Bool, true, false, not, ◌||◌, ◌&&◌, if◌then◌else◌}
use Rattle.pp_channel.specs.Answer.{only_looks, ready_at}
use Rattle.pp_channel.specs.declared.{chan_op.ChanOp.ChanOp, flags.Flags.Flags}
use Rattle.pp_processor.specs.Positions.{is_same, position_at, position_of}
use Rattle.pp_processor.specs.Processor.{Processor}
use Rattle.pp_races.specs.declared.found.Found.{Found}
use Rattle.pp_races.specs.declared.found.Found.TheVariants.{Alike, Waits, Races}

-- whether an operation makes no event on a channel with these flags
abbrev pub makes_none : ChanOp → Flags → Bool
makes_none op flags = only_looks op || not (ready_at op flags)

-- if the channel has these flags, the processor waits: it makes no event, and stays as it is
abbrev pub waits_at : ChanOp → Processor → Flags → Bool
waits_at op pp flags = makes_none op flags && is_same (position_at op pp flags) (position_of pp)

-- what an operation that made no event, and found the flags `now`, would have done at others: the
-- same, or wait, or else it races
abbrev pub found_at : ChanOp → Processor → Flags → Flags → Found
found_at op pp now flags =
    if not (makes_none op flags) then Races
    else if is_same (position_at op pp flags) (position_at op pp now) then Alike
    else if is_same (position_at op pp flags) (position_of pp) then Waits else Races

abbrev pub is_alike : Found → Bool
is_alike Alike = true
is_alike _ = false

abbrev pub is_race : Found → Bool
is_race Races = true
is_race _ = false
