-- Where nothing is found of a run, it tells the result of every order.
use Rattle.std.proofs.Common.{◌≡◌, ◌≢◌, ℕ, zero, suc, ◌+◌, ◌-◌, ◌<◌, ◌≤◌, Bool, true, false, IsTrue, List, [], ◌∷◌, length, take, get_or, None, refl, sym, ap, ◌∙◌, inl, inr, arith}
use Rattle.std.specs.Prelude.{not, count_by, nat_lt, if◌then◌else◌}
use Rattle.std.proofs.lemmas.Bool.{and_from, cases_eq, cases_lt, lt-ltb, not-false}
use Rattle.std.proofs.lemmas.List.{get_or_past, take_all}
use Rattle.std.proofs.lemmas.List.Sums.{sum_by-cons}
use Rattle.pp_numbers.proofs.TableLemmas.{get_or-tabulate}
use Rattle.pp_channel.specs.Answer.{flags_of}
use Rattle.pp_numbers.specs.ChannelNo.{channel_count}
use Rattle.pp_channel.specs.declared.{chan_op.ChanOp.ChanOp, event.Event.Event}
use Rattle.pp_machine.specs.MachineState.{MachineState, processor_of, history_of}
use Rattle.pp_processor.specs.NeedAndEffect.{need}
use Rattle.pp_numbers.specs.PpNo.{each_processor, names_processor, processor_count, processor_index, processor_number, processor_places}
use Rattle.pp_processor.specs.Processor.{no_processor}
use Rattle.pp_machine.specs.Run.{run}
use Rattle.pp_processor.specs.declared.{need.Need.Need}
use Rattle.pp_processor.specs.declared.need.Need.TheVariants.{Channel}
use Rattle.pp_processor.proofs.StepLemmas.{nothing_at_rest}
use Rattle.pp_run.specs.Determinacy.{IsDeterminate, IsRaceFreeSoFar, IsSettled, UsesAt, at_moment, history_at, need_at}
use Rattle.pp_run.proofs.Moments.{moment_past, run_central}
use Rattle.pp_races.specs.Findings.{end_by_need, end_of, is_shared, sharing_of}
use Rattle.pp_races.specs.OtherFlags.{waits_at}
use Rattle.pp_races.specs.OnePass.{WaitsAt}
use Rattle.pp_races.specs.Soundness.{AreLastOf, IsSound, TurnTestIsExact, least_of, open_of}
use Rattle.pp_races.specs.Watch.{Missed, Watch, each_below, each_number, entry_of, first_race, missed_event}
use Rattle.pp_races.specs.declared.{finding.Finding.Finding}
use Rattle.pp_races.specs.declared.finding.Finding.TheVariants.{GoingOn, Shared}
use Rattle.pp_races.proofs.MissedLemmas.{none_races}
use Rattle.pp_races.proofs.SoundLemmas.{none_below, none_numbered, waits_there}
use Rattle.pp_races.proofs.Watching.{watched_settled, watched_steps}

-- ---- flags that are set

count_one : (xs : List Bool) (i : ℕ) → get_or xs i false ≡ true → 1 ≤ count_by (λ flag. flag) xs
count_one [] i is = absurd (cc)
count_one (true ∷ xs) i is = (let e : count_by (λ flag. flag) (true ∷ xs) ≡ 1 + count_by (λ flag. flag) xs = sum_by-cons (λ flag. if flag then 1 else 0) true xs in omega (arith, e))
count_one (false ∷ xs) zero is = absurd (cc)
count_one (false ∷ xs) (suc i) is = count_one xs i is

count_two : (xs : List Bool) (i j : ℕ) → i < j → get_or xs i false ≡ true → get_or xs j false ≡ true → 2 ≤ count_by (λ flag. flag) xs
count_two [] i j low is also = absurd (cc)
count_two (true ∷ xs) i zero low is also = absurd (omega arith)
count_two (true ∷ xs) i (suc j) low is also = (let e : count_by (λ flag. flag) (true ∷ xs) ≡ 1 + count_by (λ flag. flag) xs = sum_by-cons (λ flag. if flag then 1 else 0) true xs in omega (arith, e, count_one xs j also))
count_two (false ∷ xs) i zero low is also = absurd (omega arith)
count_two (false ∷ xs) zero (suc j) low is also = absurd (cc)
count_two (false ∷ xs) (suc i) (suc j) low is also = count_two xs i j (omega arith) is also

count_apart : (xs : List Bool) (i j : ℕ) → i ≢ j → get_or xs i false ≡ true → get_or xs j false ≡ true → 2 ≤ count_by (λ flag. flag) xs
count_apart xs i j apart is also = grind (arith, cases_lt, count_two)

flag_at : (test : ℕ → Bool) (q : ℕ) → IsTrue (names_processor q) → get_or (each_processor test) (processor_index q) false ≡ test q
flag_at test q named =
    get_or-tabulate processor_count (λ place. test (processor_number place)) (processor_index q) false (processor_places.place_below q named)
    ∙ ap test (processor_places.number_of_place q named)

shared_by : (w : Watch) (a n q : ℕ) → IsTrue (names_processor n) → IsTrue (names_processor q) → n ≢ q → w.wrote a n ≡ true → w.used a n ≡ true → w.used a q ≡ true → is_shared (each_processor (w.wrote a)) (each_processor (w.used a)) ≡ true
shared_by w a n q n_named q_named apart wrote used also =
    let places : processor_index n ≢ processor_index q = λ same. apart (processor_places.one_place q n q_named same) in
    let one : 1 ≤ count_by (λ flag. flag) (each_processor (w.wrote a)) = count_one (each_processor (w.wrote a)) (processor_index n) (flag_at (w.wrote a) n n_named ∙ wrote) in
    let two : 2 ≤ count_by (λ flag. flag) (each_processor (w.used a)) = count_apart (each_processor (w.used a)) (processor_index n) (processor_index q) places (flag_at (w.used a) n n_named ∙ used) (flag_at (w.used a) q q_named ∙ also) in
    and_from (nat_lt 0 (count_by (λ flag. flag) (each_processor (w.wrote a)))) (nat_lt 1 (count_by (λ flag. flag) (each_processor (w.used a))))
    (lt-ltb 0 (count_by (λ flag. flag) (each_processor (w.wrote a))) (omega arith)) (lt-ltb 1 (count_by (λ flag. flag) (each_processor (w.used a))) (omega arith))

no_sharing : (b : Bool) (finding : Finding) → (if b then finding ∷ [] else []) ≡ [] → b ≡ false
no_sharing b finding is = grind arith

-- ---- processors

no_need : need no_processor ≡ Need.Nothing
unfolding need
no_need = refl

pub named_by_need : (q : ℕ) (m : MachineState) → length m.processors ≡ processor_count → (need (processor_of q m) ≡ Need.Nothing → ⊥) → IsTrue (names_processor q)
named_by_need q m all some = elim (cases_lt (processor_index q) processor_count) [
  | inl below ↦ processor_places.named_below q below
  | inr past ↦ absurd (some (ap (λ p. need p) (get_or_past m.processors (processor_index q) no_processor (omega arith)) ∙ no_need))
]

held_apart : (b : Bool) (held : List Finding) (q : ℕ) → (if b then held else GoingOn q ∷ []) ≡ [] → (b ≡ true) × (held ≡ [])
held_apart b held q is = grind arith

-- ---- the steps so far

module _ (ns : List ℕ) (m : MachineState) (w : Watch) (each : length m.histories ≡ channel_count) (all_now : (t : ℕ) → length (at_moment ns m t).processors ≡ processor_count)
    (s : IsSound ns m (length ns) w) (shares : each_below (length (run ns m).central) (sharing_of w) ≡ []) where
  named_user : (u a : ℕ) → UsesAt a (need_at ns m u) → IsTrue (names_processor (get_or ns u 0))
  named_user u a h = grind (arith, named_by_need)

  pub free : IsRaceFreeSoFar ns m
  free = record {
    steps = watched_steps ns m each (least_of w (at_moment ns m (length ns))) (open_of w) s.watched;
    apart = λ u t a hu ht low writes uses. elim (cases_eq (get_or ns u 0) (get_or ns t 0)) [
      | inl same ↦ same
      | inr other ↦
          let sharing : sharing_of w a ≡ [] = none_below (length (run ns m).central) (sharing_of w) shares a (omega (arith, run_central ns m)) in
          let yes_shared = shared_by w a (get_or ns u 0) (get_or ns t 0) (named_user u a (inr writes)) (named_user t a uses) other (s.wrote u a hu writes) (s.used u a hu (inr writes)) (s.used t a ht uses) in
          let bad : true ≡ false = sym yes_shared ∙ no_sharing (is_shared (each_processor (w.wrote a)) (each_processor (w.used a))) (Shared a (each_processor (w.wrote a)) (each_processor (w.used a))) sharing in
          absurd (cc)
    ];
  }

-- ---- the whole

module _ (ns : List ℕ) (m : MachineState) (w : Watch) (all : length m.processors ≡ processor_count) (each : length m.histories ≡ channel_count) (all_now : (t : ℕ) → length (at_moment ns m t).processors ≡ processor_count)
    (all_end : length (run ns m).processors ≡ processor_count) (s : IsSound ns m (length ns) w)
    (ends : each_number (end_of (run ns m) w) ≡ []) (shares : each_below (length (run ns m).central) (sharing_of w) ≡ [])
    (turns : (q : ℕ) → IsTrue (names_processor q) → TurnTestIsExact (run ns m) q) where
  waits_all : (q c : ℕ) (op : ChanOp) → need (processor_of q (run ns m)) ≡ Channel c op → waits_at op (processor_of q (run ns m)) (flags_of (history_of c (run ns m))) ≡ true
      → first_race (λ f. not (waits_at op (processor_of q (run ns m)) f)) (w.missed q c) ≡ None
      → (p : ℕ) → least_of w (at_moment ns m (length ns)) q c ≤ p → p ≤ length (history_of c (run ns m)) → WaitsAt op (processor_of q (run ns m)) (flags_of (take p (history_of c (run ns m))))
  waits_all q c op e waits none p low high =
      let end : history_at ns m c (length ns) ≡ history_of c (run ns m) = ap (λ k. history_of c k) (moment_past ns m (length ns) (omega arith)) in
      waits_there c op (processor_of q (run ns m)) e (flags_of (take p (history_of c (run ns m)))) (elim (cases_lt p (length (history_of c (run ns m)))) [
        | inr past ↦ ap (λ h. waits_at op (processor_of q (run ns m)) (flags_of h)) (take_all p (history_of c (run ns m)) past) ∙ waits
        | inl below ↦
            let missed : AreLastOf (history_at ns m c (length ns)) (w.missed q c) = s.missed q c in
            let sizes : length (history_at ns m c (length ns)) ≡ length (history_of c (run ns m)) = ap (λ (h : List Event). length h) end in
            let few : length (w.missed q c) ≤ length (history_at ns m c (length ns)) = missed.few in
            let k : ℕ = p + length (w.missed q c) - length (history_of c (run ns m)) in
            let d : Missed = missed_event (flags_of (history_of c (run ns m))) (entry_of q c Event.Activate (run ns m)) in
            let within : k < length (w.missed q c) = omega arith in
            not-false (waits_at op (processor_of q (run ns m)) (flags_of (take p (history_of c (run ns m)))))
            (ap (λ h. not (waits_at op (processor_of q (run ns m)) (flags_of (take p h)))) (sym end)
            ∙ ap (λ f. not (waits_at op (processor_of q (run ns m)) f)) (sym (missed.each p k d within (omega arith)))
            ∙ none_races (λ f. not (waits_at op (processor_of q (run ns m)) f)) (w.missed q c) none k d within)
      ])

  settled_by : (q : ℕ) → IsTrue (names_processor q) → (x : Need) → need (processor_of q (run ns m)) ≡ x → end_by_need x q (run ns m) w ≡ [] → IsSettled ns m q
  settled_by q named x e none = grind (arith, nothing_at_rest, held_apart, watched_settled, waits_all)

  settled : (q : ℕ) → IsSettled ns m q
  settled q = elim (cases_lt (processor_index q) processor_count) [
    | inl below ↦
        let named = processor_places.named_below q below in
        settled_by q named (need (processor_of q (run ns m))) refl (none_numbered (end_of (run ns m) w) ends q named)
    | inr past ↦ inl ((nothing_at_rest (processor_of q (run ns m))).0 (ap (λ p. need p) (get_or_past (run ns m).processors (processor_index q) no_processor (omega arith)) ∙ no_need))
  ]

  pub determinate : IsDeterminate ns m
  determinate = record {
    race_free = free ns m w each all_now s shares;
    settled = settled;
  }
