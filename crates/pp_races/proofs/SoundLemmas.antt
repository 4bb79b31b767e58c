-- Where a step adds no finding, it is checked, and the watch stays sound.
use mathlib.Core.List.{append-eq-nil_iff}
use Rattle.std.proofs.Common.{◌≡◌, ◌≢◌, ℕ, zero, suc, ◌+◌, ◌-◌, ◌<◌, ◌≤◌, Bool, true, false, IsTrue, List, [], ◌∷◌, ◌++◌, length, get_or, Option, Some, None, refl, sym, ap, ◌∙◌, subst, inl, inr, arith}
use Rattle.std.specs.Prelude.{◌==◌, ◌⊎◌, not, is_none, if◌then◌else◌}
use Rattle.std.specs.Option.{option_or, option_to_list}
use Rattle.std.proofs.lemmas.Bool.{and_parts, and_from, cases_eq, cases_lt, eq-eqb, ne_eqb, cases_Bool, or_from, not-false, cond-true}
use Rattle.std.proofs.lemmas.List.{length_push}
use Rattle.pp_channel.specs.Answer.{event_of, flags_of, flags_after}
use Rattle.pp_numbers.specs.ChannelNo.{channel_count, channel_index, names_channel}
use Rattle.pp_channel.specs.History.{IsLawful, HasTwelveBitWords}
use Rattle.pp_channel.specs.declared.{chan_op.ChanOp.ChanOp, event.Event.Event, flags.Flags.Flags}
use Rattle.pp_channel.proofs.AnswerLemmas.{flags_by_table, lawful_with_event}
use Rattle.pp_machine.specs.MachineState.{MachineState, processor_of, history_of}
use Rattle.pp_machine.specs.MachineStep.{stepped}
use Rattle.pp_processor.specs.NeedAndEffect.{need}
use Rattle.pp_numbers.specs.PpNo.{names_processor, processor_count, processor_index, processor_number, processor_places}
use Rattle.pp_processor.specs.Processor.{Processor}
use Rattle.pp_processor.specs.declared.{need.Need.Need}
use Rattle.pp_machine.specs.declared.{trace.Trace.Trace}
use Rattle.pp_processor.specs.declared.need.Need.TheVariants.{Channel}
use Rattle.pp_run.specs.Determinacy.{Stays}
use Rattle.pp_run.proofs.StepFacts.{central_by, event_by_need, histories_none, history_elsewhere, history_here, history_unless, own_step}
use Rattle.pp_processor.specs.Positions.{is_same, position_at, position_of, shown_to}
use Rattle.pp_races.specs.OtherFlags.{found_at, is_alike, is_race, makes_none, waits_at}
use Rattle.pp_races.specs.OnePass.{DoesAsAt, IsChecked, WaitsAt, flags_at}
use Rattle.pp_races.specs.OnePass.IsChecked.{step_looks, step_makes}
use Rattle.pp_races.specs.Soundness.{AreLastOf, AsksLawfulChannel, least_of, open_of}
use Rattle.pp_races.specs.Watch.{Missed, Watch, asked, asking_step, each_below, each_number, entry_of, first_race, from_alike, looked, made, missed_event, race_after, race_before, watched_need}
use Rattle.pp_races.specs.declared.asking_step.AskingStep.{AskingStep}
use Rattle.pp_processor.proofs.PositionLemmas.{same_itself, agrees}
use Rattle.pp_races.proofs.FoundLemmas.{alike_is, alike_parts, none_made_makes_none, race_none, race_waits}
use Rattle.pp_races.proofs.EntryLemmas.{here_or_not, put_here, put_other}
use Rattle.pp_races.proofs.EventLemmas.{looks_elsewhere, looks_there, missed_elsewhere, missed_others, missed_own}
use Rattle.pp_races.proofs.MissedLemmas.{AreLeft, left_by, left_missed, none_missed, none_races, one_missed}
use Rattle.pp_races.proofs.Watching.{stays_at}

-- ---- findings that are none

pub none_first : {X : Type 0} (xs ys : List X) → xs ++ ys ≡ [] → xs ≡ []
none_first xs ys is = (append-eq-nil_iff.0 is).0

pub none_second : {X : Type 0} (xs ys : List X) → xs ++ ys ≡ [] → ys ≡ []
none_second xs ys is = (append-eq-nil_iff.0 is).1

no_race_before : (step : AskingStep) (entry : Option Trace) → race_before step entry ≡ [] → entry ≡ None
no_race_before step entry is = grind arith

pub none_below : {X : Type 0} (count : ℕ) (of : ℕ → List X) → each_below count of ≡ [] → (k : ℕ) → k < count → of k ≡ []
unfolding each_below
none_below zero of is k low = absurd (omega arith)
none_below (suc count) of is k low = elim (cases_lt k count) [
  | inl below ↦ none_below count of (none_first (each_below count of) (of count) is) k below
  | inr past ↦ (let here : k ≡ count = omega arith in ap of here ∙ none_second (each_below count of) (of count) is)
]

pub none_numbered : {X : Type 0} (of : ℕ → List X) → each_number of ≡ [] → (q : ℕ) → IsTrue (names_processor q) → of q ≡ []
none_numbered of is q named =
    ap of (sym (processor_places.number_of_place q named)) ∙ none_below processor_count (λ place. of (processor_number place)) is (processor_index q) (processor_places.place_below q named)

-- a step that makes no event leaves the histories
history_kept : (n c k : ℕ) (op : ChanOp) (m : MachineState) → need (processor_of n m) ≡ Channel c op → event_of op (history_of c m) ≡ None → history_of k (stepped n m) ≡ history_of k m
history_kept n c k op m e none = ap (λ (hs : List (List Event)). get_or hs (channel_index k) []) (histories_none n c op m e none)

-- ---- tests

never : (b : Bool) → b ≡ true → b ≡ false → ⊥
never b is fails = (let bad : true ≡ false = sym is ∙ fails in cc)

none_or : {X : Type 0} (o : Option X) (alike : Bool) (x : X) → is_none (option_or o (if alike then None else Some x)) ≡ true → (is_none o ≡ true) × (alike ≡ true)
none_or o alike x is = grind arith

none_or_from : {X : Type 0} (o : Option X) (alike : Bool) (x : X) → is_none o ≡ true → alike ≡ true → is_none (option_or o (if alike then None else Some x)) ≡ true
none_or_from o alike x is also = grind arith

pub open_where : (b c : Bool) → (b ≡ true → c ≡ true) → (if b then c else true) ≡ true
open_where b c is = grind arith

pub waits_there : (c : ℕ) (op : ChanOp) (pp : Processor) → need pp ≡ Channel c op → (f : Flags) → waits_at op pp f ≡ true → WaitsAt op pp f
waits_there c op pp e f is = grind (arith, and_parts, agrees)

-- ---- one step

-- what a step tells that adds no finding
pub record StepIsSound (now : MachineState) (n : ℕ) (w next : Watch) : Type 0 where
  pub checked : IsChecked now n (least_of w now) (least_of next (stepped n now)) (open_of w) (open_of next)
  pub missed : (q c : ℕ) → AreLastOf (history_of c (stepped n now)) (next.missed q c)

module _ (now : MachineState) (n : ℕ) (w : Watch) (each : length now.histories ≡ channel_count) (n_named : IsTrue (names_processor n))
    (missed : (q c : ℕ) → AreLastOf (history_of c now) (w.missed q c))
    (stands_open : (q c : ℕ) → open_of w q c (flags_of (history_of c now)) ≡ true) where
  -- a step that changes no history and nothing of the watch
  unchanged : ((c : ℕ) → history_of c (stepped n now) ≡ history_of c now) → (q c : ℕ) → AreLastOf (history_of c (stepped n now)) (w.missed q c)
  unchanged same q c = subst (λ (h : List Event). AreLastOf h (w.missed q c)) (sym (same c)) (missed q c)

  least_unchanged : ((c : ℕ) → history_of c (stepped n now) ≡ history_of c now) → (q c : ℕ) → least_of w (stepped n now) q c ≡ least_of w now q c
  least_unchanged same q c = ap (λ (h : List Event). length h - length (w.missed q c)) (same c)

  pub elsewhere_sound : (next : Watch) → ((c : ℕ) (op : ChanOp) → need (processor_of n now) ≡ Channel c op → ⊥) → next.missed ≡ w.missed → next.looks ≡ w.looks → StepIsSound now n w next
  elsewhere_sound next off missed_same looks_same =
      let same : (c : ℕ) → history_of c (stepped n now) ≡ history_of c now = λ c. history_unless n c now each (λ op e. absurd (off c op e)) in
      record {
        checked = grind (arith, least_unchanged, same);
        missed = λ q c. subst (λ (f : ℕ → ℕ → List Missed). AreLastOf (history_of c (stepped n now)) (f q c)) (sym missed_same) (unchanged same q c);
      }

  module _ (c : ℕ) (op : ChanOp) (e : need (processor_of n now) ≡ Channel c op) (c_named : IsTrue (names_channel c)) (lawful : IsLawful (history_of c now)) (twelve : HasTwelveBitWords (history_of c now)) where
    shown_alike : (f g : Flags) → is_same (position_at op (processor_of n now) f) (position_at op (processor_of n now) g) ≡ true → shown_to op (processor_of n now) f ≡ shown_to op (processor_of n now) g
    shown_alike f g is = (agrees c op (processor_of n now) e).alike f g is

    shown_still : (f : Flags) → is_same (position_at op (processor_of n now) f) (position_of (processor_of n now)) ≡ true → shown_to op (processor_of n now) f ≡ processor_of n now
    shown_still f is = (agrees c op (processor_of n now) e).still f is

    alike_there : (f : Flags) → is_alike (found_at op (processor_of n now) (flags_of (history_of c now)) f) ≡ true → DoesAsAt op (processor_of n now) f (flags_of (history_of c now))
    alike_there f is = grind (arith, alike_parts, shown_alike)

    no_race_there : (f : Flags) → is_race (found_at op (processor_of n now) (flags_of (history_of c now)) f) ≡ false → WaitsAt op (processor_of n now) f ⊎ DoesAsAt op (processor_of n now) f (flags_of (history_of c now))
    no_race_there f is = elim (cases_Bool (is_same (position_at op (processor_of n now) f) (position_at op (processor_of n now) (flags_of (history_of c now))))) [
      | inl same ↦ inr (record { none = race_none op (processor_of n now) (flags_of (history_of c now)) f is; alike = shown_alike f (flags_of (history_of c now)) same })
      | inr apart ↦ inl (record {
        none = race_none op (processor_of n now) (flags_of (history_of c now)) f is;
        waits = shown_still f (race_waits op (processor_of n now) (flags_of (history_of c now)) f is (λ same. never _ same apart));
      })
    ]

    -- the flags that the channel had when its history had p events, where the processor may find it so
    at_missed : (test : Flags → Bool) (b : Bool) → ((k : ℕ) (d : Missed) → k < length (w.missed n c) → test (get_or (w.missed n c) k d).found ≡ b)
        → (p : ℕ) → least_of w now n c ≤ p → p < length (history_of c now) → test (flags_at (history_of c now) p) ≡ b
    at_missed test b all p low high =
        let few : length (w.missed n c) ≤ length (history_of c now) = (missed n c).few in
        let k : ℕ = p + length (w.missed n c) - length (history_of c now) in
        let d : Missed = missed_event (flags_of (history_of c now)) (entry_of n c Event.Activate now) in
        ap test (sym ((missed n c).each p k d (omega arith) (omega arith))) ∙ all k d (omega arith)

    waiting_sound : event_of op (history_of c now) ≡ None → waits_at op (processor_of n now) (flags_of (history_of c now)) ≡ true → StepIsSound now n w w
    waiting_sound none waits =
        let same : (k : ℕ) → history_of k (stepped n now) ≡ history_of k now = λ k. history_kept n c k op now e none in
        let stay : Stays op (processor_of n now) (history_of c now) = stays_at op (processor_of n now) (history_of c now) (waits_there c op (processor_of n now) e (flags_of (history_of c now)) waits) in
        record {
          checked = grind (arith, own_step, event_by_need, central_by, least_unchanged, same);
          missed = unchanged same;
        }

    look_sound : event_of op (history_of c now) ≡ None → waits_at op (processor_of n now) (flags_of (history_of c now)) ≡ false → (looked n c op now w).findings ≡ [] → StepIsSound now n w (looked n c op now w)
    look_sound none moves found = record {
      checked = step_looks c op (record {
        needs = e;
        exists = c_named;
        none = quiet;
        moves = λ same. never (waits_at op (processor_of n now) (flags_of (history_of c now)))
            (and_from (makes_none op (flags_of (history_of c now))) (is_same (position_at op (processor_of n now) (flags_of (history_of c now))) (position_of (processor_of n now))) quiet
            (ap (λ p. is_same (position_of p) (position_of (processor_of n now))) same ∙ same_itself (position_of (processor_of n now)))) moves;
        before = λ p low high. no_race_there (flags_at (history_of c now) p) (at_missed (λ f. is_race (found_at op (processor_of n now) (flags_of (history_of c now)) f)) false (none_races _ (w.missed n c) no_race) p low high);
        least_most = omega (arith, least_is);
        skipped = λ p low high shown.
            let k : ℕ = p + length (w.missed n c) - length (history_of c now) in
            let d : Missed = missed_event (flags_of (history_of c now)) (entry_of n c Event.Activate now) in
            let few : length (w.missed n c) ≤ length (history_of c now) = (missed n c).few in
            let within : p < length (history_of c now) = omega (arith, least_is) in
            let below : k < left.dropped = omega (arith, least_is, left.sum, few) in
            let flags_are : (get_or (w.missed n c) k d).found ≡ flags_at (history_of c now) p = (missed n c).each p k d (omega (arith, left.sum)) (omega arith) in
            let apart : is_alike (found_at op (processor_of n now) (flags_of (history_of c now)) (flags_at (history_of c now) p)) ≡ false = ap (λ f. is_alike (found_at op (processor_of n now) (flags_of (history_of c now)) f)) (sym flags_are) ∙ left.not_alike k d below in
            let calm : is_race (found_at op (processor_of n now) (flags_of (history_of c now)) (flags_at (history_of c now) p)) ≡ false = at_missed (λ f. is_race (found_at op (processor_of n now) (flags_of (history_of c now)) f)) false (none_races _ (w.missed n c) no_race) p low within in
            never (is_alike (found_at op (processor_of n now) (flags_of (history_of c now)) (flags_at (history_of c now) p)))
            (alike_is op (processor_of n now) (flags_of (history_of c now)) (flags_at (history_of c now) p) (race_none op (processor_of n now) (flags_of (history_of c now)) (flags_at (history_of c now) p) calm)
            (ap (λ x. is_same (position_of x) (position_at op (processor_of n now) (flags_of (history_of c now)))) shown ∙ same_itself (position_at op (processor_of n now) (flags_of (history_of c now))))) apart;
        least_others = λ x k apart. ap (λ (l : List Missed). length (history_of k (stepped n now)) - length l) (put_other n c x k _ w.missed apart) ∙ least_unchanged same x k;
        open_here = λ f is.
            let parts = none_or (w.looks n c f) (is_alike (found_at op (processor_of n now) (flags_of (history_of c now)) f)) (asking_step n c now)
            (ap (λ (l : Flags → Option AskingStep). is_none (l f)) (sym (put_here n c _ w.looks)) ∙ sym (cond-true (names_processor n) _ true n_named) ∙ is) in
            (cond-true (names_processor n) (is_none (w.looks n c f)) true n_named ∙ parts.0, alike_there f parts.1);
        open_now = cond-true (names_processor n) _ true n_named
            ∙ ap (λ (l : Flags → Option AskingStep). is_none (l (flags_of (history_of c now)))) (put_here n c _ w.looks)
            ∙ none_or_from (w.looks n c (flags_of (history_of c now))) _ (asking_step n c now)
            (sym (cond-true (names_processor n) (is_none (w.looks n c (flags_of (history_of c now)))) true n_named) ∙ stands_open n c)
            (alike_is op (processor_of n now) (flags_of (history_of c now)) (flags_of (history_of c now)) quiet (same_itself (position_at op (processor_of n now) (flags_of (history_of c now)))));
        open_others = λ x k f apart. ap (λ (l : Flags → Option AskingStep). if names_processor x then is_none (l f) else true) (put_other n c x k _ w.looks apart);
      });
      missed = λ q k. elim (here_or_not n c q k) [
        | inl here ↦
            subst (λ (x : ℕ). AreLastOf (history_of k (stepped n now)) ((looked n c op now w).missed x k)) (sym here.0)
            (subst (λ (x : ℕ). AreLastOf (history_of x (stepped n now)) ((looked n c op now w).missed n x)) (sym here.1)
            (subst (λ (l : List Missed). AreLastOf (history_of c (stepped n now)) l) (sym (put_here n c _ w.missed))
            (subst (λ (x : List Event). AreLastOf x (from_alike (λ f. is_alike (found_at op (processor_of n now) (flags_of (history_of c now)) f)) (w.missed n c))) (sym (same c)) (left_missed _ (history_of c now) (w.missed n c) (from_alike (λ f. is_alike (found_at op (processor_of n now) (flags_of (history_of c now)) f)) (w.missed n c)) left (missed n c)))))
        | inr apart ↦ subst (λ (l : List Missed). AreLastOf (history_of k (stepped n now)) l) (sym (put_other n c q k _ w.missed apart)) (unchanged same q k)
      ];
    }
      where
        same : (k : ℕ) → history_of k (stepped n now) ≡ history_of k now
        same k = history_kept n c k op now e none

        quiet : makes_none op (flags_of (history_of c now)) ≡ true
        quiet = none_made_makes_none op (history_of c now) lawful twelve none

        no_race : first_race (λ f. is_race (found_at op (processor_of n now) (flags_of (history_of c now)) f)) (w.missed n c) ≡ None
        no_race = no_race_before (asking_step n c now) _ (none_second w.findings _ found)

        left : AreLeft (λ f. is_alike (found_at op (processor_of n now) (flags_of (history_of c now)) f)) (w.missed n c) (from_alike (λ f. is_alike (found_at op (processor_of n now) (flags_of (history_of c now)) f)) (w.missed n c))
        left = left_by (λ f. is_alike (found_at op (processor_of n now) (flags_of (history_of c now)) f)) (w.missed n c)

        least_is : least_of (looked n c op now w) (stepped n now) n c ≡ length (history_of c now) - length (from_alike (λ f. is_alike (found_at op (processor_of n now) (flags_of (history_of c now)) f)) (w.missed n c))
        least_is = ap (λ (l : List Missed). length (history_of c (stepped n now)) - length l) (put_here n c _ w.missed) ∙ ap (λ (x : List Event). length x - length (from_alike (λ f. is_alike (found_at op (processor_of n now) (flags_of (history_of c now)) f)) (w.missed n c))) (same c)

    event_sound : (event : Event) → event_of op (history_of c now) ≡ Some event → (made n c op event now w).findings ≡ [] → StepIsSound now n w (made n c op event now w)
    event_sound event is found = record {
      checked = step_makes c op event (record {
        needs = e;
        exists = c_named;
        made = is;
        before = λ p low high. waits_there c op (processor_of n now) e (flags_at (history_of c now) p)
            (not-false (waits_at op (processor_of n now) (flags_at (history_of c now) p)) (at_missed (λ f. not (waits_at op (processor_of n now) f)) false (none_races _ (w.missed n c) no_race) p low high));
        least_most = omega (arith, length_push (history_of c now) event, ap (λ (x : List Event). length x) history_made);
        least_others = λ x k apart. least_others x k apart;
        open_now = open_where (names_processor n) _ (λ named. ap is_none (looks_own (flags_of (history_of c now ++ event ∷ []))));
        open_to_others = λ x other. ap (λ f. open_of w x c f) flags_made ∙ open_where (names_processor x) _ (λ named. no_look x other named);
        open_others = λ x k f apart. open_others x k f apart;
      });
      missed = λ q k. missed_after q k;
    }
      where
        before_none : w.findings ++ race_before (asking_step n c now) (first_race (λ f. not (waits_at op (processor_of n now) f)) (w.missed n c)) ≡ []
        before_none = none_first _ (each_number (λ q. if q == n then [] else race_after (w.looks q c (flags_after event)) (entry_of n c event now))) found

        after_none : each_number (λ q. if q == n then [] else race_after (w.looks q c (flags_after event)) (entry_of n c event now)) ≡ []
        after_none = none_second (w.findings ++ race_before (asking_step n c now) (first_race (λ f. not (waits_at op (processor_of n now) f)) (w.missed n c))) _ found

        no_race : first_race (λ f. not (waits_at op (processor_of n now) f)) (w.missed n c) ≡ None
        no_race = no_race_before (asking_step n c now) _ (none_second w.findings _ before_none)

        flags_made : flags_of (history_of c now ++ event ∷ []) ≡ flags_after event
        flags_made = flags_by_table (history_of c now) event lawful (lawful_with_event (history_of c now) op event lawful is)

        history_made : history_of c (stepped n now) ≡ history_of c now ++ event ∷ []
        history_made = history_here n c op now each c_named e ∙ ap (λ (o : Option Event). history_of c now ++ option_to_list o) is

        no_look : (x : ℕ) → x ≢ n → names_processor x ≡ true → is_none (w.looks x c (flags_after event)) ≡ true
        no_look x other named = grind (arith, ne_eqb, none_numbered, after_none)

        looks_own : (f : Flags) → (made n c op event now w).looks n c f ≡ None
        looks_own f = grind (arith, eq-eqb)

        least_others : (x k : ℕ) → (x ≡ n → k ≡ c → ⊥) → least_of (made n c op event now w) (stepped n now) x k ≡ least_of w now x k
        least_others x k apart = grind (arith, cases_eq, missed_elsewhere, history_elsewhere, missed_others, history_made, length_push)

        open_there : (x : ℕ) (f : Flags) → x ≢ n → (b : Bool) → names_processor x ≡ b → open_of (made n c op event now w) x c f ≡ open_of w x c f
        open_there x f other b h2 = grind (arith, looks_there, or_from, ne_eqb, no_look)

        open_others : (x k : ℕ) (f : Flags) → (x ≡ n → k ≡ c → ⊥) → open_of (made n c op event now w) x k f ≡ open_of w x k f
        open_others x k f apart = grind (arith, cases_eq, looks_elsewhere, open_there)

        missed_after : (q k : ℕ) → AreLastOf (history_of k (stepped n now)) ((made n c op event now w).missed q k)
        missed_after q k = grind (arith, cases_eq, missed_elsewhere, history_elsewhere, history_made, missed_own, none_missed, missed_others, one_missed)

    asked_sound : (o : Option Event) → event_of op (history_of c now) ≡ o → (asked n c op o now w).findings ≡ [] → StepIsSound now n w (asked n c op o now w)
    asked_sound k is found = grind (arith, event_sound, waiting_sound, look_sound)

  by_need : (x : Need) → need (processor_of n now) ≡ x → AsksLawfulChannel x now → (watched_need x n now w).findings ≡ [] → StepIsSound now n w (watched_need x n now w)
  by_need (Need.Channel c op) e well found = asked_sound c op e well.0 well.1 well.2 (event_of op (history_of c now)) refl found
  by_need other e well found = elsewhere_sound (watched_need other n now w) (λ c op is. (let bad : other ≡ Channel c op = sym e ∙ is in cc)) refl refl

  pub step_sound : AsksLawfulChannel (need (processor_of n now)) now → (watched_need (need (processor_of n now)) n now w).findings ≡ [] → StepIsSound now n w (watched_need (need (processor_of n now)) n now w)
  step_sound well found = by_need (need (processor_of n now)) refl well found
