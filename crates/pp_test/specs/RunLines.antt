-- What a run comes to, in lines that tell no turns but those of sessions.
use Rattle.std.specs.Prelude.{◌≡◌, ℕ, ◌-◌, Bool, true, List, [], ◌∷◌, ◌++◌, codes, length, slice_index, take, if◌then◌else◌}
use Rattle.std.specs.List.{flat_map}
use Rattle.pp_word.specs.Address.{place_count}
use Rattle.pp_word.specs.Numeral.{octal, short_octal}
use Rattle.pp_numbers.specs.ChannelNo.{all_channels}
use Rattle.pp_numbers.specs.PpNo.{all_processors, is_named}
use Rattle.pp_machine.specs.MachineState.{MachineState, processor_of}
use Rattle.pp_processor.specs.Processor.{Processor, word_at}
use Rattle.pp_machine.specs.Run.{run, run_order}
use Rattle.pp_machine.specs.declared.trace.Trace.{Trace}
use Rattle.pp_run.specs.RunSteps.{run_steps}
use Rattle.pp_run.specs.StepCounts.{each_step_counts}
use Rattle.pp_run.specs.declared.step_counts.StepCounts.{StepCounts}
use Rattle.pp_deck.specs.DeckLine.{central_words}
use Rattle.pp_deck.specs.DeckMeaning.{LoadedDeck}
use Rattle.pp_deck.specs.InUse.{in_use}
use Rattle.pp_listing.specs.ListedLine.{deck_line}
use Rattle.pp_text.specs.PrintedText.{each_below, event_text, line_end, used_channel_line}
use Rattle.pp_state.specs.StateText.{standing_line}
use Rattle.pp_ends.specs.Ending.{EndsWith}
use Rattle.pp_ends.specs.declared.ending.Ending.{Ending}
use Rattle.pp_ends.specs.declared.ending.Ending.TheVariants.{AtRest, GoingOn, Repeats, Stuck}
use Rattle.pp_sessions.specs.SessionsText.{sessions_text}

-- `PP 0 0050 0010`, the word of processor n at a place
unfoldable pub place_line : ℕ → Processor → ℕ → List ℕ
place_line n pp place = codes "PP " ++ short_octal 2 n ++ codes " " ++ octal 4 place ++ codes " "
    ++ octal 4 (word_at pp place) ++ line_end

-- those of all its places, if it is shown
abbrev pub place_lines : List Bool → MachineState → ℕ → List ℕ
place_lines shown m n =
    if is_named shown n then each_below place_count (place_line n (processor_of n m)) else []

-- `CM 20 00010002000300040005`, the central word at an address
abbrev pub central_line : List ℕ → ℕ → List ℕ
central_line central a = deck_line (central_words a (slice_index central a ∷ []))

-- `PP00 CH05 PUT 0007`, an event without its turn
unfoldable pub deed_line : Trace → List ℕ
deed_line e = codes "PP" ++ octal 2 e.pp ++ codes " CH" ++ octal 2 e.channel ++ codes " "
    ++ event_text e.event ++ line_end

-- the words for how a run ends
abbrev pub ending_words : Ending → List ℕ
ending_words (AtRest from) = codes "AT REST"
ending_words (Stuck from) = codes "STUCK"
ending_words (Repeats from every) = codes "REPEATS"
ending_words GoingOn = codes "GOING ON"

-- the lines of a machine that ends so: of `counts` see `state_text`
unfoldable pub machine_lines : List Bool → MachineState → List StepCounts → Ending → List ℕ
machine_lines shown m counts ending = flat_map (standing_line shown m counts) all_processors
    ++ flat_map (used_channel_line m.histories) all_channels
    ++ flat_map (place_lines shown m) all_processors
    ++ each_below (length m.central) (central_line m.central)
    ++ flat_map deed_line m.trace ++ ending_words ending ++ line_end

-- THE LINES of a loaded deck after these steps, if it ends so: those of its machine, and of its
-- sessions with their words
abbrev pub lines_after : List ℕ → LoadedDeck → Ending → List ℕ
lines_after steps deck ending = let after = run steps deck.machine in
    let counts = each_step_counts (run_steps steps deck.machine) in
    machine_lines (in_use deck) after counts ending
    ++ sessions_text true (in_use deck) after counts

-- how a run of N turns ends, in which these processors come first: as the turns of the barrel after
-- their steps do
abbrev pub EndsAfter : List ℕ → ℕ → MachineState → Ending → Type 0
EndsAfter first turns m ending =
    EndsWith ending (turns - length first) (run (take turns first) m)

-- the text of a loaded deck and of its run of N turns, in which these processors come first
pub record IsRunText (first : List ℕ) (turns : ℕ) (deck : LoadedDeck) (text : List ℕ) : Type 0
  where
    pub ending : Ending
    pub ends : EndsAfter first turns deck.machine ending
    pub text_is : text ≡ lines_after (run_order first deck.machine.profile turns) deck ending
