-- What is found of a run only grows, and what is found of a step does not depend on it.
use Rattle.std.proofs.Common.{◌≡◌, ℕ, Bool, true, false, List, [], ◌∷◌, ◌++◌, length, take, Option, Some, None, refl, sym, ap, ◌∙◌, subst, append-nil, append_assoc}
use Rattle.std.proofs.lemmas.List.{take-append-drop}
use Rattle.std.specs.Prelude.{drop, if◌then◌else◌}
use Rattle.pp_channel.specs.Answer.{event_of, flags_of}
use Rattle.pp_channel.specs.declared.{chan_op.ChanOp.ChanOp, event.Event.Event}
use Rattle.pp_machine.specs.MachineState.{MachineState, processor_of, history_of}
use Rattle.pp_machine.specs.MachineStep.{stepped}
use Rattle.pp_processor.specs.NeedAndEffect.{need}
use Rattle.pp_machine.specs.Run.{run}
use Rattle.pp_processor.specs.declared.need.Need.{Need}
use Rattle.pp_races.specs.Findings.{end_of, findings, findings_at_end, sharing_of}
use Rattle.pp_races.specs.OtherFlags.{waits_at}
use Rattle.pp_races.specs.Tables.{Looks}
use Rattle.pp_races.specs.Watch.{Watch, asked, each_below, each_number, looked, unwatched, watched, watched_need, watched_step}
use Rattle.pp_races.specs.WatchTables.{AreKept}
use Rattle.pp_races.specs.declared.{cursor.Cursor.Cursor, finding.Finding.Finding, missed.Missed.Missed, word_use.WordUse.WordUse}

-- ---- one step more

pub watched_push : (ns : List ℕ) (n : ℕ) (m : MachineState) (w : Watch) → watched (ns ++ n ∷ []) m w ≡ watched_need (need (processor_of n (run ns m))) n (run ns m) (watched ns m w)
unfolding watched_step
watched_push [] n m w = refl
watched_push (k ∷ ns) n m w = watched_push ns n (stepped k m) (watched_step k m w)

-- ---- what is found of a step

-- a watch without what was found
abbrev pub forgotten : Watch → Watch
forgotten w = record w { findings = [] }

-- what one watch keeps is what another does, and its findings are some and then those of the other
pub record IsBehind (some : List Finding) (now other : Watch) : Type 0 where
  pub missed : now.missed ≡ other.missed
  pub looks : now.looks ≡ other.looks
  pub wrote : now.wrote ≡ other.wrote
  pub used : now.used ≡ other.used
  pub findings : now.findings ≡ some ++ other.findings

behind_asked : (n c : ℕ) (op : ChanOp) (o : Option Event) (m : MachineState) (w : Watch) → IsBehind w.findings (asked n c op o m w) (asked n c op o m (forgotten w))
behind_asked n c op (Some event) m w = record { missed = refl; looks = refl; wrote = refl; used = refl; findings = append_assoc w.findings _ _ }
behind_asked n c op None m w = by_wait (waits_at op (processor_of n m) (flags_of (history_of c m)))
  where
    by_wait : (b : Bool) → IsBehind w.findings (if b then w else looked n c op m w) (if b then forgotten w else looked n c op m (forgotten w))
    by_wait true = record { missed = refl; looks = refl; wrote = refl; used = refl; findings = sym (append-nil w.findings) }
    by_wait false = record { missed = refl; looks = refl; wrote = refl; used = refl; findings = refl }

pub behind : (x : Need) (n : ℕ) (m : MachineState) (w : Watch) → IsBehind w.findings (watched_need x n m w) (watched_need x n m (forgotten w))
behind (Need.Channel c op) n m w = behind_asked n c op (event_of op (history_of c m)) m w
behind other n m w = record { missed = refl; looks = refl; wrote = refl; used = refl; findings = sym (append-nil w.findings) }

-- the tables after a step, of which the findings are taken away
pub forgets : (some : List Finding) (now other : Watch) (events : List (List Missed)) (cursors : List Cursor) (looks : List Looks) (uses : List WordUse) (found : List Finding) (words : ℕ) → IsBehind some now other
    → AreKept events cursors looks uses found words other → AreKept events cursors looks uses [] words (forgotten now)
forgets some now other events cursors looks uses found words is are = record {
  cursors_are = rw is.missed are.cursors_are;
  looks_are = rw is.looks are.looks_are;
  words_are = are.words_are;
  uses_are = rw (is.wrote, is.used) are.uses_are;
  found_are = refl;
}

-- ---- what is found of a run so far

-- a list begins with another
abbrev pub BeginsWith : List Finding → List Finding → Type 0
BeginsWith all first = (others : List Finding) × (all ≡ first ++ others)

begins_on : (all middle first : List Finding) → BeginsWith all middle → BeginsWith middle first → BeginsWith all first
begins_on all middle first (others, is) (more, also) = (more ++ others, is ∙ ap (λ x. x ++ others) also ∙ append_assoc first more others)

-- with more steps than these
grows_by : (ns more : List ℕ) (m : MachineState) → BeginsWith (watched (ns ++ more) m unwatched).findings (watched ns m unwatched).findings
grows_by ns [] m = ([], ap (λ ks. (watched ks m unwatched).findings) (append-nil ns) ∙ sym (append-nil (watched ns m unwatched).findings))
grows_by ns (n ∷ more) m =
    let now = run ns m in
    let w = watched ns m unwatched in
    let next = behind (need (processor_of n now)) n now w in
    begins_on _ (watched (ns ++ n ∷ []) m unwatched).findings _
    (subst (λ ks. BeginsWith (watched ks m unwatched).findings (watched (ns ++ n ∷ []) m unwatched).findings) (append_assoc ns (n ∷ []) more) (grows_by (ns ++ n ∷ []) more m))
    (_, ap (λ (x : Watch). x.findings) (watched_push ns n m unwatched) ∙ next.findings)

pub findings_are : (ns : List ℕ) (m : MachineState) → findings ns m ≡ findings_at_end (run ns m) (watched ns m unwatched)
unfolding findings
findings_are ns m = refl

-- all findings begin with those of the first steps
pub begins_so_far : (ns : List ℕ) (t : ℕ) (m : MachineState) → BeginsWith (findings ns m) (watched (take t ns) m unwatched).findings
begins_so_far ns t m =
    let w = watched ns m unwatched in
    let now = run ns m in
    begins_on _ w.findings _
    (each_number (end_of now w) ++ each_below (length now.central) (sharing_of w), findings_are ns m ∙ append_assoc w.findings (each_number (end_of now w)) (each_below (length now.central) (sharing_of w)))
    (subst (λ ks. BeginsWith (watched ks m unwatched).findings (watched (take t ns) m unwatched).findings) (take-append-drop t ns) (grows_by (take t ns) (drop t ns) m))
