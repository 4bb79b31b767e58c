-- THE FINDINGS of a run: the steps that race with others, the processors that are not settled at
-- its end, and the central words that one processor wrote and another used.
use Rattle.std.specs.Prelude.{ℕ, Bool, true, false, not, ◌&&◌, ◌==◌, nat_lt, List, [], ◌∷◌, ◌++◌, Option, Some, None, count_by, length, if◌then◌else◌}
use Rattle.std.specs.Str.{bytes_eq}
use Rattle.pp_channel.specs.Answer.{flags_of}
use Rattle.pp_machine.specs.MachineState.{MachineState, processor_of, history_of}
use Rattle.pp_processor.specs.NeedAndEffect.{need, processor_after}
use Rattle.pp_numbers.specs.PpNo.{each_processor}
use Rattle.pp_processor.specs.Positions.{is_same, position_of}
use Rattle.pp_processor.specs.Processor.{Processor, is_running}
use Rattle.pp_machine.specs.Run.{run}
use Rattle.pp_processor.specs.declared.{answer.Answer.Answer, need.Need.Need}
use Rattle.pp_machine.specs.declared.{trace.Trace.Trace}
use Rattle.pp_processor.specs.declared.need.Need.TheVariants.{Nothing, Local, Channel}
use Rattle.pp_numbers.specs.declared.profile.Profile.{Profile}
use Rattle.pp_races.specs.OtherFlags.{waits_at}
use Rattle.pp_races.specs.Watch.{Watch, asking_step, each_below, each_number, first_race, unwatched, watched}
use Rattle.pp_races.specs.declared.{asking_step.AskingStep.AskingStep, finding.Finding.Finding}
use Rattle.pp_races.specs.declared.finding.Finding.TheVariants.{GoingOn, HeldBefore, Shared}

-- ---- processors at the end

abbrev pub same_profile : Profile → Profile → Bool
same_profile Profile.Ten Profile.Ten = true
same_profile Profile.Twenty Profile.Twenty = true
same_profile one other = false

-- whether a running processor is the same after a step that needs nothing from outside: it runs on,
-- and P, A, the block and memory stay
abbrev pub stays_running : Processor → Processor → Bool
stays_running pp after =
    same_profile after.profile pp.profile && (is_running after.state && (after.a == pp.a
    && (is_same (position_of after) (position_of pp) && bytes_eq after.memory pp.memory)))

-- whether it turns in place by such a step
abbrev pub turns_in_place : Processor → Bool
turns_in_place pp = stays_running pp (processor_after pp Answer.Local)

-- the first event before which a held processor would have gone on
abbrev pub held_before : AskingStep → Option Trace → List Finding
held_before step None = []
held_before step (Some entry) = HeldBefore step entry ∷ []

abbrev pub end_by_need : Need → ℕ → MachineState → Watch → List Finding
end_by_need Nothing q m w = []
end_by_need Local q m w = if turns_in_place (processor_of q m) then [] else GoingOn q ∷ []
end_by_need (Channel c op) q m w =
    let pp = processor_of q m in
    if waits_at op pp (flags_of (history_of c m))
    then held_before (asking_step q c m) (first_race (λ f. not (waits_at op pp f)) (w.missed q c))
    else GoingOn q ∷ []
end_by_need _ q m w = GoingOn q ∷ []

-- a processor after the last step: it goes on, or it might have gone on
abbrev pub end_of : MachineState → Watch → ℕ → List Finding
end_of m w q = end_by_need (need (processor_of q m)) q m w

-- ---- central words

-- whether one wrote and another used: all that wrote are among those that used
abbrev pub is_shared : List Bool → List Bool → Bool
is_shared writers users =
    nat_lt 0 (count_by (λ flag. flag) writers) && nat_lt 1 (count_by (λ flag. flag) users)

abbrev pub sharing_of : Watch → ℕ → List Finding
sharing_of w a =
    let writers = each_processor (w.wrote a) in
    let users = each_processor (w.used a) in
    if is_shared writers users then Shared a writers users ∷ [] else []

-- ---- all

abbrev pub findings_at_end : MachineState → Watch → List Finding
findings_at_end m w =
    w.findings ++ each_number (end_of m w)
    ++ each_below (length m.central) (sharing_of w)

unfoldable pub findings : List ℕ → MachineState → List Finding
findings ns m = findings_at_end (run ns m) (watched ns m unwatched)
