-- The texts of a deck: which text is each that is asked for.
use Rattle.std.specs.Prelude.{◌≡◌, ℕ, List, ◌≤◌, length, min, Ok, None, Some, Option, [], true, unwrap_or}
use Rattle.std.specs.List.{list_all}
use Rattle.pp_machine.specs.Headline.{HoldsOnEachChannel, IsMachine}
use Rattle.pp_machine.specs.MachineState.{MachineState, processor_of}
use Rattle.pp_machine.specs.Run.{run, run_order}
use Rattle.pp_numbers.specs.declared.{bounds.Bounds.Bounds}
use Rattle.pp_deck.specs.DeckMeaning.{LoadedDeck, deck_meaning}
use Rattle.pp_deck.specs.InUse.{in_use}
use Rattle.pp_listing.specs.Dump.{after, deck_to_go_on, dump, first_busy}
use Rattle.pp_listing.specs.Listing.{listing}
use Rattle.pp_listing.specs.RestOfOrder.{order_left}
use Rattle.pp_listing.specs.declared.going_on.Busy.{Busy}
use Rattle.pp_text.specs.PrintedText.{printed}
use Rattle.pp_text.specs.TextLaw.{FitsItsText}
use Rattle.pp_state.specs.CentralText.{central_text}
use Rattle.pp_state.specs.MemoryText.{memory_text}
use Rattle.pp_state.specs.StateText.{state_after}
use Rattle.pp_ends.specs.Ending.{EndsWith}
use Rattle.pp_ends.specs.EndsText.{ends_text_of}
use Rattle.pp_ends.specs.Loops.{AreLoops}
use Rattle.pp_ends.specs.declared.{ending.Ending.Ending, loops.Loop.Loop}
use Rattle.pp_endings.specs.EndingsText.{IsEndingsText}
use Rattle.pp_steps.specs.Choice.{chosen_steps}
use Rattle.pp_steps.specs.StepsText.{steps_text}
use Rattle.pp_steps.specs.StepsWhere.{HasLinesWhere}
use Rattle.pp_steps.specs.declared.choice.Choice.{Choice}
use Rattle.pp_races.specs.Findings.{findings}
use Rattle.pp_races.specs.RacesText.{is_going_on, races_text}
use Rattle.pp_sessions.specs.SessionsText.{sessions_after}
use Rattle.pp_draw.specs.DrawingText.{drawing_of_run}
use Rattle.pp_run.specs.Determinacy.{IsDeterminate, IsRaceFreeSoFar}
use Rattle.pp_condition.specs.Until.{IsEndOf}
use Rattle.pp_condition.specs.declared.{condition.Condition.Condition, until.Until.Until}
use Rattle.pp_command.specs.TextOf.{turns_of, with_turns}
use Rattle.pp_command.specs.declared.{text_of.TextOf.TextOf, view.ChosenSteps.ChosenSteps, view.View.View}
use Rattle.pp_sim.specs.TextAnswer.{NothingPrevents}

-- the order of a loaded deck's run of N steps, in which the processors of a list come first
abbrev pub run_of : List ℕ → ℕ → LoadedDeck → List ℕ
run_of first turns deck = run_order first deck.machine.profile turns

-- the text of a loaded deck after N steps, of which the headline holds; all that the machine then
-- shows fits its lines, so that the text shows it
pub record IsBarrelText (first : List ℕ) (turns : ℕ) (deck : LoadedDeck) (text : List ℕ) : Type 0
  where
    pub text_is : text ≡ printed deck.named (run (run_of first turns deck) deck.machine)
    pub headline : HoldsOnEachChannel (run (run_of first turns deck) deck.machine)
    pub fits : FitsItsText deck.named (run (run_of first turns deck) deck.machine)

-- the text of a loaded deck: its listing, which means the same deck for a machine of the same
-- profile, if it is no longer than a deck may be
pub record IsListText (deck : LoadedDeck) (text : List ℕ) : Type 0 where
  pub text_is : text ≡ listing deck
  pub reads_back : length text ≤ 1048576 → deck_meaning deck.machine.profile text ≡ Ok deck

-- a loaded deck that has run for `turns` steps
abbrev pub after_turns : List ℕ → ℕ → LoadedDeck → LoadedDeck
after_turns first turns deck = after (run_of first turns deck) deck

-- its text: the machine is between programs; the text is its dump, which names what is left of the
-- order, and means the deck to go on from, for a machine of the same profile, if it is no longer
-- than a deck may be
pub record IsDumpText (first : List ℕ) (turns : ℕ) (deck : LoadedDeck) (text : List ℕ) : Type 0
  where
    pub between : first_busy (after_turns first turns deck).machine ≡ None
    pub text_is : text
        ≡ dump (order_left first deck.machine.profile turns) (after_turns first turns deck)
    pub goes_on : length text ≤ 1048576
        → deck_meaning deck.machine.profile text ≡ Ok (deck_to_go_on (after_turns first turns deck))

-- it is not between programs, and this is the first that goes on
abbrev pub PreventsDump : List ℕ → ℕ → LoadedDeck → Busy → Type 0
PreventsDump first turns deck going_on =
    first_busy (after_turns first turns deck).machine ≡ Some going_on

-- a text of a loaded deck and of its run of N steps, of which the headline holds
pub record IsTextAfter (first : List ℕ) (turns : ℕ) (text_after : List ℕ → LoadedDeck → List ℕ)
    (deck : LoadedDeck) (text : List ℕ) : Type 0 where
  pub text_is : text ≡ text_after (run_of first turns deck) deck
  pub headline : HoldsOnEachChannel (run (run_of first turns deck) deck.machine)

-- the words of processor n after these steps
abbrev pub memory_after : ℕ → Bounds → List ℕ → LoadedDeck → List ℕ
memory_after n bounds steps deck = memory_text bounds (processor_of n (run steps deck.machine))

-- the central words after these steps
abbrev pub central_after : Bounds → List ℕ → LoadedDeck → List ℕ
central_after bounds steps deck = central_text bounds (run steps deck.machine).central

-- the text of a loaded deck: its ending in N turns of the barrel, and the loops of its processors
pub record IsEndsText (turns : ℕ) (deck : LoadedDeck) (text : List ℕ) : Type 0 where
  pub ending : Ending
  pub loops : List (Option Loop)
  pub ends : EndsWith ending turns deck.machine
  pub looped : AreLoops loops ending deck.machine
  pub text_is : text ≡ ends_text_of (in_use deck) ending turns deck.machine loops

-- the text of a loaded deck that has run for N steps; its machine is a whole one; if nothing is
-- found the run is determinate, and if nothing but processors that go on, no step of it races so
-- far
pub record IsRacesText (first : List ℕ) (turns : ℕ) (deck : LoadedDeck) (text : List ℕ) : Type 0
  where
    pub text_is : text ≡ races_text (run_of first turns deck) deck.machine
    pub machine : IsMachine deck.machine
    pub same : findings (run_of first turns deck) deck.machine ≡ []
        → IsDeterminate (run_of first turns deck) deck.machine
    pub no_race : list_all is_going_on (findings (run_of first turns deck) deck.machine) ≡ true
        → IsRaceFreeSoFar (run_of first turns deck) deck.machine

-- the text of the steps chosen of a run, or of those that meet a condition
abbrev pub IsStepsTextBy : Option Condition → Choice → List ℕ → MachineState → List ℕ → Type 0
IsStepsTextBy None choice steps m text = text ≡ steps_text choice steps m
IsStepsTextBy (Some condition) choice steps m text =
    HasLinesWhere condition (chosen_steps choice steps m) text

-- the steps chosen of a run of N steps, of the processors in use if no others are given
abbrev pub IsStepsText : List ℕ → ℕ → ChosenSteps → LoadedDeck → List ℕ → Type 0
IsStepsText first turns chosen deck text = let choice : Choice = record {
  processors = unwrap_or chosen.processors (in_use deck);
  channels = chosen.channels;
  from = chosen.from;
  to = chosen.to;
} in IsStepsTextBy chosen.condition choice (run_of first turns deck) deck.machine text

-- THE TEXT: which text of a loaded deck is each that is asked for, if these processors come first.
-- The ends are those of the barrel alone, and the endings those of every order. A drawing is of the
-- turns from one on, and ends with its run
abbrev pub IsTextOf : List ℕ → TextOf → LoadedDeck → List ℕ → Type 0
IsTextOf _ TextOf.List = IsListText
IsTextOf _ (TextOf.Orders states) = IsEndingsText
IsTextOf first (TextOf.Run turns View.Barrel) = IsBarrelText first turns
IsTextOf first (TextOf.Run turns View.Dump) = IsDumpText first turns
IsTextOf first (TextOf.Run turns View.State) = IsTextAfter first turns state_after
IsTextOf _ (TextOf.Run turns View.Ends) = IsEndsText turns
IsTextOf first (TextOf.Run turns (View.Memory n bounds)) =
    IsTextAfter first turns (memory_after n bounds)
IsTextOf first (TextOf.Run turns (View.Central bounds)) =
    IsTextAfter first turns (central_after bounds)
IsTextOf first (TextOf.Run turns (View.Sessions words)) =
    IsTextAfter first turns (sessions_after words)
IsTextOf first (TextOf.Run turns View.Races) = IsRacesText first turns
IsTextOf first (TextOf.Run turns (View.Steps chosen)) = IsStepsText first turns chosen
IsTextOf first (TextOf.Run turns (View.Draw from)) =
    IsTextAfter first turns (drawing_of_run (record { from = min from turns; to = turns }))

-- what stands in its way: of a dump what goes on in the machine, and of all others nothing
abbrev pub obstacle : List ℕ → TextOf → LoadedDeck → Busy → Type 0
obstacle first (TextOf.Run turns View.Dump) = PreventsDump first turns
obstacle first other = NothingPrevents

-- what a text and its deck tell, if the run goes on until then: the same as if the text were of as
-- many steps as such a run has
abbrev pub AtEnd : {X : Type 0} → List ℕ → Option Until → (TextOf → LoadedDeck → X → Type 0)
    → TextOf → LoadedDeck → X → Type 0
AtEnd first None Tells text deck x = Tells text deck x
AtEnd first (Some until) Tells text deck x = (turns : ℕ)
    × IsEndOf until (run_of first (turns_of text) deck) deck.machine turns
    × Tells (with_turns turns text) deck x

-- THE TEXT of a run that goes on until then, and what stands in its way
abbrev pub IsTextUntil : List ℕ → Option Until → TextOf → LoadedDeck → List ℕ → Type 0
IsTextUntil first until = AtEnd first until (IsTextOf first)

abbrev pub obstacle_until : List ℕ → Option Until → TextOf → LoadedDeck → Busy → Type 0
obstacle_until first until = AtEnd first until (obstacle first)
