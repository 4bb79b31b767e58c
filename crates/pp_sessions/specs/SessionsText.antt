-- The text of the sessions of a run: for each stretch of each channel a line, and its words if they
-- are asked for; and for each processor that is shown a line with the counts of its steps.
use Rattle.std.specs.Prelude.{ℕ, ◌+◌, ◌%◌, ◌==◌, Bool, List, [], ◌∷◌, ◌++◌, Option, None, Some, codes, slice_index_or, if◌then◌else◌}
use Rattle.std.specs.List.{flat_map}
use Rattle.pp_numbers.specs.ChannelNo.{all_channels}
use Rattle.pp_machine.specs.MachineState.{MachineState}
use Rattle.pp_numbers.specs.PpNo.{all_processors, processor_index, is_named}
use Rattle.pp_machine.specs.Run.{run}
use Rattle.pp_deck.specs.DeckMeaning.{LoadedDeck}
use Rattle.pp_deck.specs.InUse.{in_use}
use Rattle.pp_word.specs.Numeral.{decimal, octal, short_decimal}
use Rattle.pp_text.specs.PrintedText.{line_end}
use Rattle.pp_run.specs.RunSteps.{run_steps}
use Rattle.pp_run.specs.StepCounts.{each_step_counts, no_steps}
use Rattle.pp_sessions.specs.Stretches.{is_session, stretches, tally_of, words_in}
use Rattle.pp_sessions.specs.TimedEvents.{timed_events}
use Rattle.pp_sessions.specs.declared.{tally.Moment.Moment, tally.TimedEvent.TimedEvent, tally.Tally.Tally}
use Rattle.pp_sessions.specs.declared.tally.Moment.TheVariants.{DeadStart, Turn}
use Rattle.pp_run.specs.declared.step_counts.StepCounts.{StepCounts}

-- `000060`, a turn, or `DEAD START`
abbrev pub moment_text : Moment → List ℕ
moment_text DeadStart = codes "DEAD START"
moment_text (Turn turn) = decimal turn

-- `CH05 IDLE FUNCTIONS 2 FROM 000010 TO 000030`, of an idle stretch
unfoldable pub idle_line : ℕ → Tally → List ℕ
idle_line c idle = codes "CH" ++ octal 2 c ++ codes " IDLE FUNCTIONS " ++ short_decimal idle.events
    ++ codes " FROM " ++ moment_text idle.from ++ codes " TO " ++ moment_text idle.to ++ line_end

-- ` TO 000030`, the moment of its Disconnect, if a session has ended
abbrev pub end_text : Bool → Moment → List ℕ
end_text has_ended moment =
    if has_ended then codes " TO " ++ moment_text moment else codes " GOING ON"

-- ` LOST 0007`, a word untaken if a session has ended, else ` WAITING 0007`
abbrev pub word_text : Bool → Option ℕ → List ℕ
word_text has_ended None = []
word_text has_ended (Some word) =
    (if has_ended then codes " LOST " else codes " WAITING ") ++ octal 4 word

-- `CH05 SESSION 1 FROM 000000 TO 000030 PUT 1 TAKEN 0 LOST 0007`, of the session with this number
unfoldable pub session_line : ℕ → ℕ → Tally → List ℕ
session_line c number session = codes "CH" ++ octal 2 c ++ codes " SESSION " ++ short_decimal number
    ++ codes " FROM " ++ moment_text session.from ++ end_text session.has_ended session.to
    ++ codes " PUT " ++ short_decimal session.put ++ codes " TAKEN "
    ++ short_decimal session.taken ++ word_text session.has_ended session.untaken ++ line_end

-- the line of a stretch; if it is a session, it has this number
abbrev pub tally_line : ℕ → ℕ → Tally → List ℕ
tally_line c number stretch =
    if stretch.is_session then session_line c number stretch else idle_line c stretch

-- ` 0033`, after `count` words on its line, or `  0011` if it is first; the eighth ends the line
abbrev pub one_word : ℕ → ℕ → List ℕ
one_word count word = (if count == 0 then codes "  " else codes " ") ++ octal 4 word
    ++ (if count == 7 then line_end else [])

-- words, eight a line, after `count` others on the first line
abbrev pub words_from : ℕ → List ℕ → List ℕ
words_from count [] = if count == 0 then [] else line_end
words_from count (word ∷ words) = one_word count word ++ words_from ((count + 1) % 8) words

-- the line of a stretch, and if they are asked for its words
abbrev pub line_and_words : Bool → ℕ → ℕ → Tally → List ℕ → List ℕ
line_and_words with_words c number stretch words =
    tally_line c number stretch ++ (if with_words then words_from 0 words else [])

abbrev pub stretch_text : Bool → ℕ → ℕ → List TimedEvent → List ℕ
stretch_text with_words c number [] = []
stretch_text with_words c number (first ∷ others) =
    line_and_words with_words c number (tally_of first others) (words_in (first ∷ others))

-- the number of the next session after a stretch, if it was this before
abbrev pub next_number : ℕ → List TimedEvent → ℕ
next_number number stretch = if is_session stretch then number + 1 else number

-- the lines of stretches, if the first session among them has this number
abbrev pub lines_from : Bool → ℕ → ℕ → List (List TimedEvent) → List ℕ
lines_from with_words c number [] = []
lines_from with_words c number (stretch ∷ others) = stretch_text with_words c number stretch
    ++ lines_from with_words c (next_number number stretch) others

-- the lines of channel c
abbrev pub channel_lines : Bool → MachineState → ℕ → List ℕ
channel_lines with_words m c = lines_from with_words c 1 (stretches (timed_events c m))

-- `PP00 MOVED 24 HELD 376 REST 0`
unfoldable pub counts_line : ℕ → StepCounts → List ℕ
counts_line n counts = codes "PP" ++ octal 2 n ++ codes " MOVED " ++ short_decimal counts.moved
    ++ codes " HELD " ++ short_decimal counts.held
    ++ codes " REST " ++ short_decimal counts.at_rest ++ line_end

-- the line of processor n, if it is shown; `counts` has those of each, in the order of the barrel
abbrev pub shown_counts_line : List Bool → List StepCounts → ℕ → List ℕ
shown_counts_line shown counts n = if is_named shown n
    then counts_line n (slice_index_or counts (processor_index n) no_steps) else []

-- THE TEXT of the sessions of a machine, in order of channel and processor
unfoldable pub sessions_text : Bool → List Bool → MachineState → List StepCounts → List ℕ
sessions_text with_words shown m counts = flat_map (channel_lines with_words m) all_channels
    ++ flat_map (shown_counts_line shown counts) all_processors

-- the text of a loaded deck after these steps
abbrev pub sessions_after : Bool → List ℕ → LoadedDeck → List ℕ
sessions_after with_words steps deck = sessions_text with_words (in_use deck)
    (run steps deck.machine) (each_step_counts (run_steps steps deck.machine))
