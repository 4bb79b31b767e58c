-- Processors and channels along the moments of a list of steps.
use Rattle.std.proofs.Common.{◌≡◌, ℕ, zero, suc, ◌+◌, ◌<◌, ◌≤◌, IsTrue, List, [], ◌∷◌, ◌++◌, length, take, get_or, refl, sym, ap, ◌∙◌, subst, inl, inr, arith}
use Rattle.std.specs.Prelude.{◌⊎◌}
use Rattle.std.proofs.lemmas.Bool.{cases_lt}
use Rattle.std.proofs.lemmas.List.{take_all, length_push}
use Rattle.pp_numbers.specs.ChannelNo.{channel_count, names_channel}
use Rattle.pp_channel.specs.declared.event.Event.{Event}
use Rattle.pp_machine.specs.MachineState.{MachineState, history_of}
use Rattle.pp_machine.specs.MachineStep.{stepped}
use Rattle.pp_processor.specs.NeedAndEffect.{need}
use Rattle.pp_machine.specs.Run.{run}
use Rattle.pp_machine.proofs.RunLemmas.{run_more}
use Rattle.pp_run.specs.Determinacy.{at_moment, processor_at, history_at, made_on, AdvancesAlone, MayFind}
use Rattle.pp_run.specs.Determinacy.MayFind.{start, channel_advances, processor_advances, both_advance}
use Rattle.pp_run.proofs.StepFacts.{grows, made_as_history, history_unless, length_processors, length_histories, length_central}

pub run_processors : (ns : List ℕ) (m : MachineState) → length (run ns m).processors ≡ length m.processors
run_processors [] m = refl
run_processors (n ∷ ns) m = run_processors ns (stepped n m) ∙ length_processors n m

pub run_histories : (ns : List ℕ) (m : MachineState) → length (run ns m).histories ≡ length m.histories
run_histories [] m = refl
run_histories (n ∷ ns) m = run_histories ns (stepped n m) ∙ length_histories n m

pub run_central : (ns : List ℕ) (m : MachineState) → length (run ns m).central ≡ length m.central
run_central [] m = refl
run_central (n ∷ ns) m = run_central ns (stepped n m) ∙ length_central n m

module _ (ns : List ℕ) (m : MachineState) where
  pub moment_next : (t : ℕ) → t < length ns → at_moment ns m (suc t) ≡ stepped (get_or ns t 0) (at_moment ns m t)
  moment_next t h =
      let one : suc t ≡ t + 1 = omega arith in
      ap (λ k. at_moment ns m k) one ∙ run_more ns t m h

  pub moment_past : (t : ℕ) → length ns ≤ t → at_moment ns m t ≡ run ns m
  moment_past t h = ap (λ ks. run ks m) (take_all t ns h)

  pub moment_still : (t : ℕ) → length ns ≤ t → at_moment ns m (suc t) ≡ at_moment ns m t
  moment_still t h = moment_past (suc t) (omega arith) ∙ sym (moment_past t h)

module _ (ns : List ℕ) (m : MachineState) (each : length m.histories ≡ channel_count) where
  pub moment_each : (t : ℕ) → length (at_moment ns m t).histories ≡ channel_count
  moment_each t = run_histories (take t ns) m ∙ each

  -- over one step a history stays, or grows by an event
  pub history_step : (c t : ℕ) → (history_at ns m c (suc t) ≡ history_at ns m c t) ⊎ ((e : Event) × (history_at ns m c (suc t) ≡ history_at ns m c t ++ e ∷ []))
  history_step c t = elim (cases_lt t (length ns)) [
    | inl within ↦
        let next : history_at ns m c (suc t) ≡ history_of c (stepped (get_or ns t 0) (at_moment ns m t)) = ap (λ n. history_of c n) (moment_next ns m t within) in
        elim (grows (get_or ns t 0) c (at_moment ns m t) (moment_each t)) [
          | inl same ↦ inl (next ∙ same)
          | inr more ↦ inr (more.0, next ∙ more.1)
        ]
    | inr past ↦ inl (ap (λ n. history_of c n) (moment_still ns m t past))
  ]

  longer : (c t : ℕ) → length (history_at ns m c t) ≤ length (history_at ns m c (suc t))
  longer c t = grind (arith, history_step, length_push)

  -- histories never shrink
  pub mono : (c s t : ℕ) → s ≤ t → length (history_at ns m c s) ≤ length (history_at ns m c t)
  mono c s zero h = grind arith
  mono c s (suc t) h = elim (cases_lt s (suc t)) [
    | inl below ↦ omega (arith, mono c s t (omega arith), longer c t)
    | inr past ↦
        let there : s ≡ suc t = omega arith in
        let P : ℕ → Type 0 = λ k. length (history_at ns m c s) ≤ length (history_at ns m c k) in
        subst P there (omega arith)
  ]

  -- where no step between changes it, it is the same
  pub still : (c s t : ℕ) → s ≤ t → ((u : ℕ) → s ≤ u → u < t → history_at ns m c (suc u) ≡ history_at ns m c u) → history_at ns m c t ≡ history_at ns m c s
  still c s zero h none = grind arith
  still c s (suc t) h none = elim (cases_lt s (suc t)) [
    | inl below ↦ none t (omega arith) (omega arith) ∙ still c s t (omega arith) (λ u low high. none u low (omega arith))
    | inr past ↦
        let there : suc t ≡ s = omega arith in
        ap (λ k. history_at ns m c k) there
  ]

  -- where it is the same, no step between changes it
  pub flat : (c s t u : ℕ) → history_at ns m c s ≡ history_at ns m c t → s ≤ u → u < t → history_at ns m c (suc u) ≡ history_at ns m c u
  flat c s t u same low high = elim (history_step c u) [
    | inl stays ↦ stays
    | inr more ↦ absurd (omega (arith, ap (λ (h : List Event). length h) same, ap (λ (h : List Event). length h) more.1, length_push (history_at ns m c u) more.0, mono c s u low, mono c (suc u) t (omega arith)))
  ]

  alone_changes_none : (q c t s : ℕ) → AdvancesAlone ns m q c t s → get_or ns t 0 ≡ q → history_at ns m c (suc t) ≡ history_at ns m c t
  alone_changes_none q c t s alone mine = elim (cases_lt t (length ns)) [
    | inl within ↦ ap (λ n. history_of c n) (moment_next ns m t within)
        ∙ history_unless (get_or ns t 0) c (at_moment ns m t) (moment_each t) (λ op e. elim alone [
          | inl other ↦ absurd (other mine)
          | inr on ↦ elim (on op (ap (λ k. need (processor_at ns m k t)) (sym mine) ∙ e)) [ inl stays ↦ stays.no_event | inr same ↦ same.nor_there ]
        ])
    | inr past ↦ ap (λ n. history_of c n) (moment_still ns m t past)
  ]

  -- what may be found is on the same side of each event of q on c
  pub sides : (q c : ℕ) {t s : ℕ} → MayFind ns m q c t s → (u : ℕ) → get_or ns u 0 ≡ q → (history_at ns m c (suc u) ≡ history_at ns m c u → ⊥) → (u < t → u < s) × (u < s → u < t)
  sides q c start u mine event = ((λ h. absurd (omega arith)), (λ h. absurd (omega arith)))
  sides q c (channel_advances t s may none) u mine event = grind (arith, cases_lt, sides q c may u mine event)
  sides q c (processor_advances t s may alone) u mine event =
      let before = sides q c may u mine event in (
        (λ h. elim (cases_lt u t) [
          | inl below ↦ before.0 below
          | inr past ↦
              let here : u ≡ t = omega arith in
              absurd (event (subst (λ (k : ℕ). history_at ns m c (suc k) ≡ history_at ns m c k) (sym here) (alone_changes_none q c t s alone (subst (λ (k : ℕ). get_or ns k 0 ≡ q) here mine))))
        ]),
        (λ h. let b : u < t = before.1 h in omega arith),
      )
  sides q c (both_advance t may) u mine event = ((λ h. h), (λ h. h))

  -- a channel may go on where it does not change
  pub channel_to : (q c t0 s t : ℕ) → MayFind ns m q c t0 s → s ≤ t → ((u : ℕ) → s ≤ u → u < t → history_at ns m c (suc u) ≡ history_at ns m c u) → MayFind ns m q c t0 t
  channel_to q c t0 s zero may h none = grind arith
  channel_to q c t0 s (suc t) may h none = elim (cases_lt s (suc t)) [
    | inl below ↦ channel_advances t0 t (channel_to q c t0 s t may (omega arith) (λ u low high. none u low (omega arith))) (inr (none t (omega arith) (omega arith)))
    | inr past ↦
        let there : s ≡ suc t = omega arith in
        subst (λ (k : ℕ). MayFind ns m q c t0 k) there may
  ]

  -- who made its events is the same where the history is
  pub made_still : (c s t : ℕ) → IsTrue (names_channel c) → s ≤ t → ((u : ℕ) → s ≤ u → u < t → history_at ns m c (suc u) ≡ history_at ns m c u) → made_on c (at_moment ns m t).trace ≡ made_on c (at_moment ns m s).trace
  made_still c s zero names h none = grind arith
  made_still c s (suc t) names h none = elim (cases_lt s (suc t)) [
    | inl below ↦
        let before : made_on c (at_moment ns m t).trace ≡ made_on c (at_moment ns m s).trace = made_still c s t names (omega arith) (λ u low high. none u low (omega arith)) in
        elim (cases_lt t (length ns)) [
          | inl within ↦
              let next = moment_next ns m t within in
              let same : history_of c (stepped (get_or ns t 0) (at_moment ns m t)) ≡ history_of c (at_moment ns m t) = ap (λ k. history_of c k) (sym next) ∙ none t (omega arith) (omega arith) in
              ap (λ (k : MachineState). made_on c k.trace) next ∙ made_as_history (get_or ns t 0) c (at_moment ns m t) (moment_each t) names same ∙ before
          | inr past ↦ ap (λ (k : MachineState). made_on c k.trace) (moment_still ns m t past) ∙ before
        ]
    | inr past ↦
        let there : suc t ≡ s = omega arith in
        ap (λ k. made_on c (at_moment ns m k).trace) there
  ]
