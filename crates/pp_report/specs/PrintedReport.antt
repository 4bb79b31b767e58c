-- The text of a report of a run by threads: for each channel a line for each of its events, then a
-- line for each processor that the deck names, and for each channel that has a history.
use Rattle.std.specs.Prelude.{ℕ, Bool, List, [], ◌++◌, Option, Some, None, codes, nat_lt, position, slice_get, if◌then◌else◌}
use Rattle.std.specs.List.{enumerate_from, flat_map}
use Rattle.pp_numbers.specs.ChannelNo.{all_channels}
use Rattle.pp_line.specs.Merge.{times_logged}
use Rattle.pp_channel.specs.History.{history_on}
use Rattle.pp_report.specs.Types.{End, Event, Report, Worker}
use Rattle.pp_numbers.specs.PpNo.{all_processors, processor_index, processor_number, is_named}
use Rattle.pp_word.specs.Numeral.{decimal, octal}
use Rattle.pp_text.specs.PrintedText.{event_text, line_end, processor_line, used_channel_line}

-- the place of the worker in whose log the event stands: if the logs merge, an opening event has
-- none, and any other exactly one
abbrev pub author_place : {Z : Type 0} → ℕ → List (Worker Z) → ℕ → Option ℕ
author_place {Z} c workers number =
    position (λ (worker : Worker Z). nat_lt 0 (times_logged c number worker.log.items)) workers

-- `CH05 000001 PP00 PUT 0007`, with its number in the history; an opening event has no line
abbrev pub line_by : ℕ → ℕ → Event → Option ℕ → List ℕ
line_by c number event None = []
line_by c number event (Some place) = codes "CH" ++ octal 2 c ++ codes " " ++ decimal number
    ++ codes " PP" ++ octal 2 (processor_number place) ++ codes " " ++ event_text event ++ line_end

unfoldable pub numbered_event_line : {Z : Type 0} → ℕ → List (Worker Z) → ℕ × Event → List ℕ
numbered_event_line c workers (number, event) =
    line_by c number event (author_place c workers number)

-- the lines of the events of channel c
abbrev pub channel_events : {Z : Type 0} → List (Worker Z) → List (List Event) → ℕ → List ℕ
channel_events workers histories c =
    flat_map (numbered_event_line c workers) (enumerate_from 0 (history_on c histories))

abbrev pub end_text : End → List ℕ
end_text End.Stopped = codes "STOPPED"
end_text (End.Fault number) = codes "FAULT " ++ octal 1 number
end_text End.Steps = codes "STEPS"
end_text End.Patience = codes "PATIENCE"
end_text End.Memory = codes "MEMORY"
end_text End.Worn = codes "WORN"

abbrev pub worker_line : {Z : Type 0} → ℕ → Option (Worker Z) → List ℕ
worker_line n None = []
worker_line n (Some worker) = processor_line n worker.pp (end_text worker.finish)

-- the line of processor n, if the deck names it
abbrev pub named_worker_line : {Z : Type 0} → List Bool → List (Worker Z) → ℕ → List ℕ
named_worker_line named workers n =
    if is_named named n then worker_line n (slice_get workers (processor_index n)) else []

unfoldable pub printed_report : {Z : Type 0} → List Bool → Report Z → List ℕ
printed_report named report =
    flat_map (channel_events report.ends.items report.channels) all_channels
    ++ flat_map (named_worker_line named report.ends.items) all_processors
    ++ flat_map (used_channel_line report.channels) all_channels
