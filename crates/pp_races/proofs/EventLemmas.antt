-- What an event leaves in the tables.
use Rattle.std.proofs.Common.{◌≡◌, ◌≢◌, ℕ, zero, suc, ◌<◌, Bool, IsTrue, List, [], ◌∷◌, ◌++◌, length, slice_set, Option, None, refl, sym, ap, ◌∙◌, subst, inl, inr, arith}
use Rattle.std.specs.Prelude.{◌==◌, ◌||◌, is_some, not, if◌then◌else◌}
use Rattle.std.proofs.lemmas.Bool.{cases_eq, eq-eqb, ne_eqb}
use Rattle.std.proofs.lemmas.List.{get_or-set_other, get_or-set_same}
use Rattle.pp_channel.specs.Answer.{flags_of, flags_after}
use Rattle.pp_numbers.specs.ChannelNo.{channel_index, channel_places, names_channel}
use Rattle.pp_channel.specs.declared.{chan_op.ChanOp.ChanOp, event.Event.Event, flags.Flags.Flags}
use Rattle.pp_machine.specs.MachineState.{MachineState, processor_of, history_of}
use Rattle.pp_numbers.specs.PpNo.{names_processor, processor_count, processor_number, processor_places}
use Rattle.pp_machine.specs.declared.trace.Trace.{Trace}
use Rattle.pp_races.specs.ByFlags.{at}
use Rattle.pp_races.specs.Cursor.{IsCursor}
use Rattle.pp_races.specs.OtherFlags.{waits_at}
use Rattle.pp_races.specs.Tables.{AreClosed, AreLooks, Looks, closing_findings, cursor_of, entry_place, events_of, no_looks}
use Rattle.pp_races.specs.Watch.{Watch, asking_step, each_below, each_number, entry_of, first_race, made, missed_event, race_after, race_before}
use Rattle.pp_races.specs.WatchTables.{AreKept}
use Rattle.pp_races.specs.declared.{asking_step.AskingStep.AskingStep, by_flags.ByFlags.ByFlags, cursor.Cursor.Cursor, finding.Finding.Finding, missed.Missed.Missed, word_use.WordUse.WordUse}
use Rattle.pp_races.proofs.ByFlagsLemmas.{each_flags}
use Rattle.pp_races.proofs.CursorLemmas.{first_race_same, one_more}
use Rattle.pp_races.proofs.EntryLemmas.{cursors_set}

-- ---- the watch after an event, case by case

pub missed_elsewhere : (m : MachineState) (w : Watch) (n c : ℕ) (op : ChanOp) (event : Event) (q e : ℕ) → e ≢ c → (made n c op event m w).missed q e ≡ w.missed q e
missed_elsewhere m w n c op event q e apart = grind (arith, ne_eqb)

pub missed_own : (m : MachineState) (w : Watch) (n c : ℕ) (op : ChanOp) (event : Event) → (made n c op event m w).missed n c ≡ []
missed_own m w n c op event = grind (arith, eq-eqb)

pub missed_others : (m : MachineState) (w : Watch) (n c : ℕ) (op : ChanOp) (event : Event) (q : ℕ) → q ≢ n → (made n c op event m w).missed q c ≡ w.missed q c ++ missed_event (flags_of (history_of c m)) (entry_of n c event m) ∷ []
missed_others m w n c op event q other = grind (arith, eq-eqb, ne_eqb)

pub looks_elsewhere : (m : MachineState) (w : Watch) (n c : ℕ) (op : ChanOp) (event : Event) (q e : ℕ) (f : Flags) → e ≢ c → (made n c op event m w).looks q e f ≡ w.looks q e f
looks_elsewhere m w n c op event q e f apart = grind (arith, ne_eqb)

pub looks_there : (m : MachineState) (w : Watch) (n c : ℕ) (op : ChanOp) (event : Event) (q : ℕ) (f : Flags) → (made n c op event m w).looks q c f ≡ (if q == n || is_some (w.looks q c (flags_after event)) then None else w.looks q c f)
looks_there m w n c op event q f = grind (arith, eq-eqb)

pub each_same : (f g : ℕ → List Finding) (count : ℕ) → ((k : ℕ) → k < count → f k ≡ g k) → each_below count f ≡ each_below count g
unfolding each_below
each_same f g zero same = refl
each_same f g (suc k) same = ap (λ x. x ++ f k) (each_same f g k (λ j low. same j (omega arith))) ∙ ap (λ x. each_below k g ++ x) (same k (omega arith))

-- ---- the tables

module _ (m : MachineState) (w : Watch) (n c : ℕ) (op : ChanOp) (event : Event) (n_named : IsTrue (names_processor n)) (c_named : IsTrue (names_channel c)) where
  look_closed : (b : Bool) (l : Looks) (f : Flags) (o : Option AskingStep) → at l f ≡ o → at (if b then no_looks else l) f ≡ (if b then None else o)
  look_closed b l f o same = grind (arith, each_flags)

  pub event_looks : (looks new : List Looks) → AreClosed (entry_of n c event m) (flags_after event) looks new → AreLooks w looks → AreLooks (made n c op event m w) new
  event_looks looks new closed are q k q_named k_named f = elim (cases_eq k c) [
    | inr off ↦ ap (λ (l : Looks). at l f) (closed.elsewhere q k q_named k_named off) ∙ are q k q_named k_named f ∙ sym (looks_elsewhere m w n c op event q k f off)
    | inl on ↦ grind (arith, look_closed, looks_there)
  ]

  closing_same : (looks : List Looks) → AreLooks w looks → (q : ℕ) → IsTrue (names_processor q)
      → closing_findings (entry_of n c event m) (flags_after event) looks q ≡ (if q == n then [] else race_after (w.looks q c (flags_after event)) (entry_of n c event m))
  closing_same looks are q q_named = grind arith

  -- the cursors of others and of other channels, after the event
  cursor_kept : (events : List (List Missed)) (cursor : Cursor) (q e : ℕ) → channel_index c < length events → IsTrue (names_channel e) → (q ≡ n → e ≡ c → ⊥)
      → IsCursor (events_of events e) (w.missed q e) cursor
      → IsCursor (events_of (slice_set events (channel_index c) (events_of events c ++ missed_event (flags_of (history_of c m)) (entry_of n c event m) ∷ [])) e) ((made n c op event m w).missed q e) cursor
  cursor_kept events cursor q e below e_named apart is = elim (cases_eq e c) [
    | inr off ↦ rw (get_or-set_other events (channel_index c) (channel_index e) _ [] (λ same. off (channel_places.one_place c e c_named same)), missed_elsewhere m w n c op event q e off) is
    | inl on ↦ subst (λ (x : ℕ). IsCursor (events_of (slice_set events (channel_index c) (events_of events c ++ missed_event (flags_of (history_of c m)) (entry_of n c event m) ∷ [])) x) ((made n c op event m w).missed q x) cursor) (sym on)
        (rw (get_or-set_same events (channel_index c) (events_of events c ++ missed_event (flags_of (history_of c m)) (entry_of n c event m) ∷ []) [] below, missed_others m w n c op event q (λ mine. apart mine on))
        (one_more (events_of events c) (w.missed q c) cursor (subst (λ (x : ℕ). IsCursor (events_of events x) (w.missed q x) cursor) on is) (missed_event (flags_of (history_of c m)) (entry_of n c event m))))
  ]

  pub event_kept : (words : ℕ) (events : List (List Missed)) (cursors : List Cursor) (looks new : List Looks) (uses : List WordUse) (found middle next : List Finding) (cursor : Cursor) (goes_on : ByFlags Bool) (race : Option Trace) (step : AskingStep) (entry : Trace)
      → channel_index c < length events → entry_place n c < length cursors
      → ((f : Flags) → at goes_on f ≡ not (waits_at op (processor_of n m) f))
      → step ≡ asking_step n c m
      → race ≡ first_race (at goes_on) (w.missed n c)
      → middle ≡ found ++ race_before step race
      → entry ≡ entry_of n c event m
      → AreClosed entry (flags_after event) looks new
      → next ≡ middle ++ each_number (closing_findings entry (flags_after event) looks)
      → IsCursor (events_of events c ++ missed_event (flags_of (history_of c m)) entry ∷ []) [] cursor
      → AreKept events cursors looks uses found words w
      → AreKept (slice_set events (channel_index c) (events_of events c ++ missed_event (flags_of (history_of c m)) entry ∷ [])) (slice_set cursors (entry_place n c) cursor) new uses next words (made n c op event m w)
  event_kept words events cursors looks new uses found middle next cursor goes_on race step entry below within goes_are step_is race_is middle_is entry_is closed next_is cursor_is are =
      let now : Trace = entry_of n c event m in
      let missed : Missed = missed_event (flags_of (history_of c m)) now in
      let before : List Finding = race_before (asking_step n c m) (first_race (λ f. not (waits_at op (processor_of n m) f)) (w.missed n c)) in
      let others : ℕ → List Finding = λ q. if q == n then [] else race_after (w.looks q c (flags_after event)) now in
      let one : race_before step race ≡ before =
      ap (λ (s : AskingStep). race_before s race) step_is ∙ ap (λ (r : Option Trace). race_before (asking_step n c m) r) (race_is ∙ first_race_same (at goes_on) (λ f. not (waits_at op (processor_of n m) f)) goes_are (w.missed n c)) in
      rw entry_is (record {
        cursors_are = cursors_set (slice_set events (channel_index c) (events_of events c ++ missed ∷ [])) (made n c op event m w) cursors n c cursor n_named c_named within
            (rw (get_or-set_same events (channel_index c) (events_of events c ++ missed ∷ []) [] below, missed_own m w n c op event) (rw entry_is at cursor_is))
            (λ q e q_named e_named apart. cursor_kept events (cursor_of cursors q e) q e below e_named apart (are.cursors_are q e q_named e_named));
        looks_are = event_looks looks new (rw entry_is at closed) are.looks_are;
        words_are = are.words_are;
        uses_are = are.uses_are;
        found_are = next_is ∙ ap (λ t. middle ++ each_number (closing_findings t (flags_after event) looks)) entry_is
            ∙ ap (λ x. x ++ each_number (closing_findings now (flags_after event) looks)) (middle_is ∙ ap (λ x. x ++ race_before step race) are.found_are ∙ ap (λ x. w.findings ++ x) one)
            ∙ ap (λ x. (w.findings ++ before) ++ x) (each_same (λ place. closing_findings now (flags_after event) looks (processor_number place)) (λ place. others (processor_number place)) processor_count
            (λ place low. closing_same looks are.looks_are (processor_number place) (processor_places.number_named place low)));
      })
