-- Findings that are all of processors that go on: none is of a step, and none of a central word.
use Rattle.std.proofs.Common.{◌≡◌, ◌∙◌, ℕ, zero, suc, Bool, true, false, List, [], ◌∷◌, ◌++◌, Option, None, Some, length, refl, sym, ap}
use Rattle.std.specs.Prelude.{not, ◌==◌, if◌then◌else◌}
use Rattle.std.specs.List.{list_all}
use Rattle.std.proofs.lemmas.Bool.{and_from, and_parts}
use Rattle.std.proofs.lemmas.List.Folds.{list_all-append}
use Rattle.pp_channel.specs.Answer.{event_of, flags_of}
use Rattle.pp_channel.specs.declared.{chan_op.ChanOp.ChanOp, event.Event.Event}
use Rattle.pp_machine.specs.MachineState.{MachineState, history_of, processor_of}
use Rattle.pp_machine.specs.MachineStep.{stepped}
use Rattle.pp_processor.specs.NeedAndEffect.{need}
use Rattle.pp_machine.specs.Run.{run}
use Rattle.pp_processor.specs.declared.{need.Need.Need}
use Rattle.pp_machine.specs.declared.{trace.Trace.Trace}
use Rattle.pp_processor.specs.declared.need.Need.TheVariants.{Channel}
use Rattle.pp_numbers.specs.PpNo.{each_processor, processor_count, processor_number}
use Rattle.pp_races.specs.Findings.{end_of, findings_at_end, is_shared, sharing_of}
use Rattle.pp_races.specs.OtherFlags.{waits_at}
use Rattle.pp_races.specs.RacesText.{is_going_on, verdict_of}
use Rattle.pp_races.specs.Watch.{Watch, asked, each_below, each_number, looked, race_after, race_before, unwatched, watched, watched_need, watched_step}
use Rattle.pp_races.specs.declared.{asking_step.AskingStep.AskingStep, finding.Finding.Finding}
use Rattle.pp_races.specs.declared.finding.Finding.TheVariants.{Shared}
use Rattle.pp_races.specs.declared.verdict.Verdict.TheVariants.{NoRaceSoFar, Same}
use Rattle.pp_races.proofs.VerdictLemmas.{so_far_going}

record NoneGoesOn (findings : List Finding) : Type 0 where
  none : list_all (λ f. not (is_going_on f)) findings ≡ true

none_and : (xs ys : List Finding) → NoneGoesOn xs → NoneGoesOn ys → NoneGoesOn (xs ++ ys)
none_and xs ys one other = record { none = list_all-append (λ f. not (is_going_on f)) xs ys ∙ and_from _ _ one.none other.none }

none_at_all : NoneGoesOn []
none_at_all = record { none = refl }

none_before : (step : AskingStep) (race : Option Trace) → NoneGoesOn (race_before step race)
none_before step None = none_at_all
none_before step (Some entry) = record { none = refl }

none_after : (look : Option AskingStep) (entry : Trace) → NoneGoesOn (race_after look entry)
none_after None entry = none_at_all
none_after (Some look) entry = record { none = refl }

none_below : (k : ℕ) (of : ℕ → List Finding) → ((n : ℕ) → NoneGoesOn (of n)) → NoneGoesOn (each_below k of)
unfolding each_below
none_below zero of each = none_at_all
none_below (suc k) of each = none_and (each_below k of) (of k) (none_below k of each) (each k)

none_if : (b : Bool) (xs : List Finding) → NoneGoesOn xs → NoneGoesOn (if b then [] else xs)
none_if true xs none = none_at_all
none_if false xs none = none

none_asked : (n c : ℕ) (op : ChanOp) (o : Option Event) (m : MachineState) (w : Watch) → NoneGoesOn w.findings → NoneGoesOn (asked n c op o m w).findings
none_asked n c op (Some event) m w none =
    none_and _ _ (none_and w.findings _ none (none_before _ _)) (none_below processor_count _ (λ place. none_if (processor_number place == n) _ (none_after _ _)))
none_asked n c op None m w none = by_wait (waits_at op (processor_of n m) (flags_of (history_of c m)))
  where
    by_wait : (b : Bool) → NoneGoesOn (if b then w else looked n c op m w).findings
    by_wait true = none
    by_wait false = none_and w.findings _ none (none_before _ _)

none_needed : (x : Need) (n : ℕ) (m : MachineState) (w : Watch) → NoneGoesOn w.findings → NoneGoesOn (watched_need x n m w).findings
none_needed (Channel c op) n m w none = none_asked n c op (event_of op (history_of c m)) m w none
none_needed other n m w none = none

none_watched : (ns : List ℕ) (m : MachineState) (w : Watch) → NoneGoesOn w.findings → NoneGoesOn (watched ns m w).findings
unfolding watched_step
none_watched [] m w none = none
none_watched (n ∷ ns) m w none = none_watched ns (stepped n m) (watched_step n m w) (none_needed (need (processor_of n m)) n m w none)

none_shared : (w : Watch) (count : ℕ) → NoneGoesOn (each_below count (sharing_of w))
none_shared w count = none_below count (sharing_of w) (λ a. of_word a)
  where
    of_word : (a : ℕ) → NoneGoesOn (sharing_of w a)
    of_word a = shared (is_shared (each_processor (w.wrote a)) (each_processor (w.used a)))
      where
        shared : (b : Bool) → NoneGoesOn (if b then Shared a (each_processor (w.wrote a)) (each_processor (w.used a)) ∷ [] else [])
        shared true = record { none = refl }
        shared false = none_at_all

-- what goes on and does not is nothing
nothing : (xs : List Finding) → NoneGoesOn xs → list_all is_going_on xs ≡ true → xs ≡ []
nothing [] none all = refl
nothing (f ∷ fs) none all = by_test (is_going_on f) (and_parts _ _ none.none).0 (and_parts _ _ all).0
  where
    by_test : (b : Bool) → not b ≡ true → b ≡ true → f ∷ fs ≡ []
    by_test true is so = absurd cc
    by_test false is so = absurd cc

-- where all findings go on, none is of a step, and none of a central word
pub no_race : (ns : List ℕ) (m : MachineState) → list_all is_going_on (findings_at_end (run ns m) (watched ns m unwatched)) ≡ true
    → ((watched ns m unwatched).findings ≡ []) × (each_below (length (run ns m).central) (sharing_of (watched ns m unwatched)) ≡ [])
no_race ns m all =
    let w : Watch = watched ns m unwatched in
    let ends = each_number (end_of (run ns m) w) in
    let shares = each_below (length (run ns m).central) (sharing_of w) in
    let both = and_parts (list_all is_going_on (w.findings ++ ends)) (list_all is_going_on shares) (sym (list_all-append is_going_on (w.findings ++ ends) shares) ∙ all) in
    let first = and_parts (list_all is_going_on w.findings) (list_all is_going_on ends) (sym (list_all-append is_going_on w.findings ends) ∙ both.0) in
    (nothing w.findings (none_watched ns m unwatched none_at_all) first.0, nothing shares (none_shared w (length (run ns m).central)) both.1)

-- what is found of steps comes to nothing, or to something else than processors that go on
pub never_so_far : (ns : List ℕ) (m : MachineState) → verdict_of (watched ns m unwatched).findings ≡ NoRaceSoFar → ⊥
never_so_far ns m is =
    let none = nothing (watched ns m unwatched).findings (none_watched ns m unwatched none_at_all) (so_far_going (watched ns m unwatched).findings is) in
    let bad : Same ≡ NoRaceSoFar = ap verdict_of (sym none) ∙ is in
    cc
