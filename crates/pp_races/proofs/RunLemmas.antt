-- A run that is watched to its end.
use Rattle.std.proofs.Common.{◌≡◌, ℕ, zero, suc, ◌+◌, ◌<◌, true, IsTrue, List, [], ◌++◌, length, take, get_or, refl, sym, ap, ◌∙◌, subst, arith}
use Rattle.std.proofs.lemmas.List.{take_all, take_more}
use Rattle.std.proofs.lemmas.Bool.{and_from, cases_lt, eq-eqb, or_left, or_right}
use Rattle.pp_numbers.specs.ChannelNo.{channel_count}
use Rattle.pp_machine.specs.MachineState.{MachineState, processor_of, history_of}
use Rattle.pp_machine.specs.MachineStep.{stepped}
use Rattle.pp_processor.specs.NeedAndEffect.{need}
use Rattle.pp_numbers.specs.PpNo.{names_processor, processor_count, processor_number}
use Rattle.pp_machine.specs.Run.{run}
use Rattle.pp_machine.proofs.RunLemmas.{run_more}
use Rattle.pp_processor.specs.declared.need.Need.{Need}
use Rattle.pp_run.specs.Determinacy.{IsDeterminate, IsRaceFreeSoFar, UsesAt, WritesAt, at_moment, need_at}
use Rattle.pp_run.proofs.Moments.{moment_next, moment_each, mono, run_central, run_processors}
use Rattle.pp_races.specs.Findings.{end_of, findings, findings_at_end, sharing_of}
use Rattle.pp_races.specs.OnePass.{Watched}
use Rattle.pp_races.specs.Soundness.{AreLastOf, AsksLawfulChannel, IsSound, TurnTestIsExact, least_of, open_of}
use Rattle.pp_races.specs.Watch.{Watch, asked, each_below, each_number, unwatched, watched, watched_need}
use Rattle.pp_races.specs.Tables.{Looks}
use Rattle.pp_races.specs.WatchTables.{AreKept}
use Rattle.pp_races.specs.declared.{cursor.Cursor.Cursor, finding.Finding.Finding, missed.Missed.Missed, word_use.WordUse.WordUse}
use Rattle.pp_races.proofs.FinalLemmas.{determinate, free}
use Rattle.pp_races.proofs.GoingOnLemmas.{no_race}
use Rattle.pp_races.specs.RacesText.{is_going_on}
use Rattle.std.specs.List.{list_all}
use Rattle.pp_races.proofs.GrowLemmas.{behind, findings_are, forgets, forgotten, watched_push}
use Rattle.pp_races.proofs.EndLemmas.{end_apart}
use Rattle.pp_races.proofs.EventLemmas.{each_same}
use Rattle.pp_races.proofs.MissedLemmas.{none_missed}
use Rattle.pp_races.proofs.UseLemmas.{same_asked}
use Rattle.pp_races.proofs.SoundLemmas.{none_first, none_second, open_where, step_sound}
use Rattle.pp_races.proofs.Watching.{watched_checked}

-- ---- one step more

pub found_before : (x : Need) (n : ℕ) (m : MachineState) (w : Watch) → (watched_need x n m w).findings ≡ [] → w.findings ≡ []
found_before x n m w is = grind (arith, none_first)

used_still : (x : Need) (n : ℕ) (m : MachineState) (w : Watch) (a q : ℕ) → w.used a q ≡ true → (watched_need x n m w).used a q ≡ true
used_still x n m w a q is = grind (arith, same_asked, or_left)

wrote_still : (x : Need) (n : ℕ) (m : MachineState) (w : Watch) (a q : ℕ) → w.wrote a q ≡ true → (watched_need x n m w).wrote a q ≡ true
wrote_still x n m w a q is = grind (arith, same_asked, or_left)

used_now : (x : Need) (n : ℕ) (m : MachineState) (w : Watch) (a : ℕ) → UsesAt a x → (watched_need x n m w).used a n ≡ true
used_now x n m w a h = grind (arith, or_right, and_from, eq-eqb)

wrote_now : (x : Need) (n : ℕ) (m : MachineState) (w : Watch) (a : ℕ) → WritesAt a x → (watched_need x n m w).wrote a n ≡ true
wrote_now x n m w a is = grind (arith, or_right, and_from, eq-eqb)

module _ (ns : List ℕ) (m : MachineState) (each : length m.histories ≡ channel_count) (t : ℕ) (within : t < length ns) (w : Watch) (named : IsTrue (names_processor (get_or ns t 0))) where
  pub sound_next : IsSound ns m t w → AsksLawfulChannel (need_at ns m t) (at_moment ns m t) → (watched_need (need_at ns m t) (get_or ns t 0) (at_moment ns m t) w).findings ≡ []
      → IsSound ns m (suc t) (watched_need (need_at ns m t) (get_or ns t 0) (at_moment ns m t) w)
  sound_next s well found =
      let now : MachineState = at_moment ns m t in
      let n : ℕ = get_or ns t 0 in
      let one = step_sound (at_moment ns m t) (get_or ns t 0) w (moment_each ns m each t) named s.missed s.watched.stands_open well found in
      let step = moment_next ns m t within in
      record {
        watched = subst (λ (k : MachineState). Watched ns m (suc t) (least_of (watched_need (need_at ns m t) (get_or ns t 0) (at_moment ns m t) w) k) (open_of (watched_need (need_at ns m t) (get_or ns t 0) (at_moment ns m t) w))) (sym step)
            (watched_checked ns m each t within (least_of w (at_moment ns m t)) _ (open_of w) _ s.watched one.checked);
        missed = λ q c. subst (λ (k : MachineState). AreLastOf (history_of c k) ((watched_need (need_at ns m t) (get_or ns t 0) (at_moment ns m t) w).missed q c)) (sym step) (one.missed q c);
        used = grind (arith, cases_lt, used_still, used_now);
        wrote = grind (arith, cases_lt, wrote_still, wrote_now);
      }

-- what is known of a run after t of its steps
pub record IsWatchedRun (ns : List ℕ) (t : ℕ) (m now : MachineState) : Type 0 where
  pub ran : now ≡ run (take t ns) m
  pub sound : (watched (take t ns) m unwatched).findings ≡ [] → IsSound ns m t (watched (take t ns) m unwatched)

-- ---- the loop

pub run_begins : (ns : List ℕ) (m : MachineState) → length m.histories ≡ channel_count → IsWatchedRun ns 0 m m
run_begins ns m each = record {
  ran = refl;
  sound = λ none. (record {
    watched = record {
      lower = λ q c s may. omega (arith, mono ns m each c zero s (omega arith));
      stands_open = λ q c. open_where (names_processor q) _ (λ named. refl);
      passed = λ u h. absurd (omega arith);
    };
    missed = λ q c. none_missed (history_of c m);
    used = λ u a h uses_it. absurd (omega arith);
    wrote = λ u a h writes. absurd (omega arith);
  });
}

-- the watch goes on soundly, of values that are those of a moment
sound_on : (ns : List ℕ) (m now : MachineState) (n : ℕ) (asked : Need) (t : ℕ) (w : Watch) → length m.histories ≡ channel_count → t < length ns → IsTrue (names_processor n)
    → get_or ns t 0 ≡ n → at_moment ns m t ≡ now → need (processor_of n now) ≡ asked → AsksLawfulChannel asked now → (watched_need asked n now w).findings ≡ []
    → IsSound ns m t w → IsSound ns m (suc t) (watched_need asked n now w)
sound_on ns m now n asked t w each within named n_is now_is asked_is well found s =
    let need_is : need_at ns m t ≡ asked = ap (λ k. need (processor_of k (at_moment ns m t))) n_is ∙ ap (λ (x : MachineState). need (processor_of n x)) now_is ∙ asked_is in
    let same : watched_need (need_at ns m t) (get_or ns t 0) (at_moment ns m t) w ≡ watched_need asked n now w =
    ap (λ (x : Need). watched_need x (get_or ns t 0) (at_moment ns m t) w) need_is ∙ ap (λ k. watched_need asked k (at_moment ns m t) w) n_is ∙ ap (λ (x : MachineState). watched_need asked n x w) now_is in
    subst (λ (x : Watch). IsSound ns m (suc t) x) same
    (sound_next ns m each t within w (subst (λ (k : ℕ). IsTrue (names_processor k)) (sym n_is) named) s
    (subst (λ (x : Need). AsksLawfulChannel x (at_moment ns m t)) (sym need_is) (subst (λ (x : MachineState). AsksLawfulChannel asked x) (sym now_is) well))
    (ap (λ (x : Watch). x.findings) same ∙ found))

-- after one step more
module _ (ns : List ℕ) (t : ℕ) (m now : MachineState) (n : ℕ) (before : t < length ns) (n_is : n ≡ get_or ns t 0) (r : IsWatchedRun ns t m now) where
  watch_is : watched (take (t + 1) ns) m unwatched ≡ watched_need (need (processor_of n now)) n now (watched (take t ns) m unwatched)
  watch_is =
      ap (λ ks. watched ks m unwatched) (take_more ns t 0 before) ∙ watched_push (take t ns) (get_or ns t 0) m unwatched
      ∙ ap (λ k. watched_need (need (processor_of k (run (take t ns) m))) k (run (take t ns) m) (watched (take t ns) m unwatched)) (sym n_is)
      ∙ ap (λ (x : MachineState). watched_need (need (processor_of n x)) n x (watched (take t ns) m unwatched)) (sym r.ran)

  pub run_goes_on : (next : MachineState) → length m.histories ≡ channel_count → IsTrue (names_processor n) → next ≡ stepped n now → AsksLawfulChannel (need (processor_of n now)) now → IsWatchedRun ns (t + 1) m next
  run_goes_on next each named next_is well = record {
    ran = next_is ∙ ap (λ x. stepped n x) r.ran ∙ ap (λ k. stepped k (run (take t ns) m)) n_is ∙ sym (run_more ns t m before);
    sound = λ none.
        let one : t + 1 ≡ suc t = omega arith in
        let found_none : (watched_need (need (processor_of n now)) n now (watched (take t ns) m unwatched)).findings ≡ [] = ap (λ (x : Watch). x.findings) (sym watch_is) ∙ none in
        let now_is : at_moment ns m t ≡ now = sym r.ran in
        subst (λ (x : Watch). IsSound ns m (t + 1) x) (sym watch_is)
        (subst (λ (k : ℕ). IsSound ns m k (watched_need (need (processor_of n now)) n now (watched (take t ns) m unwatched))) (sym one)
        (sound_on ns m now n (need (processor_of n now)) t (watched (take t ns) m unwatched) each before named (sym n_is) now_is refl well found_none
        (r.sound (found_before (need (processor_of n now)) n now (watched (take t ns) m unwatched) found_none))));
  }

  -- the tables, whose findings are taken away, and what these are
  pub run_keeps : (events : List (List Missed)) (cursors : List Cursor) (looks : List Looks) (uses : List WordUse) (found : List Finding) (words : ℕ)
      → AreKept events cursors looks uses found words (watched_need (need (processor_of n now)) n now (forgotten (watched (take t ns) m unwatched)))
      → AreKept events cursors looks uses [] words (forgotten (watched (take (t + 1) ns) m unwatched)) × ((watched (take (t + 1) ns) m unwatched).findings ≡ (watched (take t ns) m unwatched).findings ++ found)
  run_keeps events cursors looks uses found words kept = grind (arith, behind, forgotten, watch_is, forgets)

-- ---- the end

pub run_finds : (ns : List ℕ) (t : ℕ) (m now : MachineState) (ends : List Finding) (words : ℕ)
    → t ≡ length ns → IsWatchedRun ns t m now → words ≡ length m.central
    → ends ≡ each_number (end_of now (forgotten (watched (take t ns) m unwatched)))
    → ((watched (take t ns) m unwatched).findings ++ ends) ++ each_below words (sharing_of (forgotten (watched (take t ns) m unwatched))) ≡ findings ns m
run_finds ns t m now ends words end r words_is ends_are =
    let whole : take t ns ≡ ns = take_all t ns (omega (arith, end)) in
    let now_is : now ≡ run ns m = r.ran ∙ ap (λ ks. run ks m) whole in
    let w : Watch = watched (take t ns) m unwatched in
    let ends_same : ends ≡ each_number (end_of now w) =
    ends_are ∙ sym (each_same (λ k. end_of now w (processor_number k)) (λ k. end_of now (forgotten w) (processor_number k)) processor_count (λ k low. end_apart (need (processor_of (processor_number k) now)) (processor_number k) now (forgotten w) w.findings)) in
    ap (λ x. (w.findings ++ x) ++ each_below words (sharing_of w)) ends_same
    ∙ ap (λ (x : Watch). (x.findings ++ each_number (end_of now x)) ++ each_below words (sharing_of x)) (ap (λ ks. watched ks m unwatched) whole)
    ∙ ap (λ (x : MachineState). ((watched ns m unwatched).findings ++ each_number (end_of x (watched ns m unwatched))) ++ each_below words (sharing_of (watched ns m unwatched))) now_is
    ∙ ap (λ k. ((watched ns m unwatched).findings ++ each_number (end_of (run ns m) (watched ns m unwatched))) ++ each_below k (sharing_of (watched ns m unwatched))) (words_is ∙ sym (run_central ns m))
    ∙ sym (findings_are ns m)

-- after the last step, where no step raced, the watch is sound
sound_at_end : (ns : List ℕ) (t : ℕ) (m now : MachineState) → t ≡ length ns → IsWatchedRun ns t m now
    → (watched ns m unwatched).findings ≡ [] → IsSound ns m (length ns) (watched ns m unwatched)
sound_at_end ns t m now end r none = grind (arith, watch_is, take_all)

pub run_is_free : (ns : List ℕ) (t : ℕ) (m now : MachineState) → length m.processors ≡ processor_count → length m.histories ≡ channel_count
    → t ≡ length ns → IsWatchedRun ns t m now → list_all is_going_on (findings ns m) ≡ true → IsRaceFreeSoFar ns m
run_is_free ns t m now all each end r going =
    let none = no_race ns m (sym (ap (list_all is_going_on) (findings_are ns m)) ∙ going) in
    free ns m (watched ns m unwatched) each (λ k. run_processors (take k ns) m ∙ all) (sound_at_end ns t m now end r none.0) none.1

pub run_tells : (ns : List ℕ) (t : ℕ) (m now : MachineState) → length m.processors ≡ processor_count → length m.histories ≡ channel_count
    → t ≡ length ns → IsWatchedRun ns t m now → ((q : ℕ) → IsTrue (names_processor q) → TurnTestIsExact now q)
    → findings ns m ≡ [] → IsDeterminate ns m
run_tells ns t m now all each end r turn_well none =
    let whole : take t ns ≡ ns = take_all t ns (omega (arith, end)) in
    let now_is : now ≡ run ns m = r.ran ∙ ap (λ ks. run ks m) whole in
    let none_there : findings_at_end (run ns m) (watched ns m unwatched) ≡ [] = sym (findings_are ns m) ∙ none in
    let first = none_first ((watched ns m unwatched).findings ++ each_number (end_of (run ns m) (watched ns m unwatched))) _ none_there in
    determinate ns m (watched ns m unwatched) all each
    (λ k. run_processors (take k ns) m ∙ all) (run_processors ns m ∙ all)
    (sound_at_end ns t m now end r (none_first (watched ns m unwatched).findings _ first))
    (none_second (watched ns m unwatched).findings _ first)
    (none_second ((watched ns m unwatched).findings ++ each_number (end_of (run ns m) (watched ns m unwatched))) _ none_there)
    (λ q named. subst (λ (x : MachineState). TurnTestIsExact x q) now_is (turn_well q named))
