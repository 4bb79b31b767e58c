-- A run that is watched to its end tells the result of every order.
use Rattle.std.proofs.Common.{◌≡◌, ◌≢◌, ℕ, zero, suc, ◌<◌, ◌≤◌, Bool, true, List, [], ◌∷◌, ◌++◌, length, take, get_or, Option, None, refl, sym, ap, ◌∙◌, subst, inl, inr, arith, append-nil, append_assoc}
use Rattle.std.specs.Prelude.{◌⊎◌}
use Rattle.std.specs.Option.{option_to_list}
use Rattle.std.proofs.lemmas.Bool.{cases_eq, cases_lt, cases_order}
use Rattle.std.proofs.lemmas.List.{length_push, take_at, take_all}
use Rattle.pp_channel.specs.Answer.{event_of, reply_to, flags_of}
use Rattle.pp_numbers.specs.ChannelNo.{channel_count}
use Rattle.pp_channel.specs.declared.{chan_op.ChanOp.ChanOp, event.Event.Event, flags.Flags.Flags}
use Rattle.pp_machine.specs.MachineState.{MachineState, processor_of, history_of}
use Rattle.pp_processor.specs.NeedAndEffect.{need, processor_after}
use Rattle.pp_processor.specs.Processor.{Processor}
use Rattle.pp_machine.specs.Run.{run}
use Rattle.pp_processor.specs.declared.{answer.Answer.Answer, need.Need.Need}
use Rattle.pp_processor.specs.declared.need.Need.TheVariants.{Channel}
use Rattle.pp_run.specs.Determinacy.{Waits, IsRaceFree, IsRaceFreeOn, IsNoRaceAt, Stays, DoesTheSame, AdvancesAlone, WaitsForGood, MayFind, at_moment, processor_at, history_at, need_at}
use Rattle.pp_races.specs.OnePass.IsChecked.{step_waits, step_elsewhere, step_looks, step_makes}
use Rattle.pp_run.specs.Determinacy.MayFind.{start, channel_advances, processor_advances, both_advance}
use Rattle.pp_processor.specs.Positions.{shown_to}
use Rattle.pp_races.specs.OtherFlags.{makes_none}
use Rattle.pp_races.specs.OnePass.{WaitsAt, DoesAsAt, NoneBetween, IsOpen, Passed, Watched, IsLook, IsEvent, IsChecked}
use Rattle.pp_races.proofs.EntryLemmas.{here_or_not}
use Rattle.pp_run.proofs.StepFacts.{event_by_need, history_here, history_elsewhere, history_unless}
use Rattle.pp_run.proofs.Moments.{moment_next, moment_past, moment_each, history_step, mono, sides}

none_made : (op : ChanOp) (h : List Event) → makes_none op (flags_of h) ≡ true → event_of op h ≡ None
none_made op h e = grind arith

shown_there : (op : ChanOp) (pp : Processor) (h : List Event) → makes_none op (flags_of h) ≡ true → processor_after pp (Answer.Channel (reply_to op h)) ≡ shown_to op pp (flags_of h)
shown_there op pp h e = grind arith

pub stays_at : (op : ChanOp) (pp : Processor) (h : List Event) → WaitsAt op pp (flags_of h) → Stays op pp h
stays_at op pp h w = record { no_event = none_made op h w.none; stays = shown_there op pp h w.none ∙ w.waits }

pub does_as : (op : ChanOp) (pp : Processor) (h other : List Event) → makes_none op (flags_of other) ≡ true → DoesAsAt op pp (flags_of h) (flags_of other) → DoesTheSame op pp h other
does_as op pp h other e d = record {
  no_event = none_made op h d.none;
  nor_there = none_made op other e;
  same = shown_there op pp h d.none ∙ d.alike ∙ sym (shown_there op pp other e);
}

module _ (ns : List ℕ) (m : MachineState) (each : length m.histories ≡ channel_count) where
  -- an earlier history is the first part of a later one
  prefix : (c s t : ℕ) → s ≤ t → (rest : List Event) × (history_at ns m c t ≡ history_at ns m c s ++ rest)
  prefix c s zero h = grind (arith, append-nil)
  prefix c s (suc t) h = elim (cases_lt s (suc t)) [
    | inr past ↦
        let there : suc t ≡ s = omega arith in
        ([], ap (λ k. history_at ns m c k) there ∙ sym (append-nil (history_at ns m c s)))
    | inl below ↦
        let before = prefix c s t (omega arith) in
        elim (history_step ns m each c t) [
          | inl stays ↦ (before.0, stays ∙ before.1)
          | inr more ↦ (before.0 ++ more.0 ∷ [], more.1 ∙ ap (λ h. h ++ more.0 ∷ []) before.1 ∙ append_assoc (history_at ns m c s) before.0 (more.0 ∷ []))
        ]
  ]

  pub first_part : (c s t : ℕ) → s ≤ t → take (length (history_at ns m c s)) (history_at ns m c t) ≡ history_at ns m c s
  first_part c s t h =
      let p = prefix c s t h in
      ap (λ k. take (length (history_at ns m c s)) k) p.1 ∙ take_at (history_at ns m c s) p.0 (length (history_at ns m c s)) refl

  as_long : (c s t : ℕ) → s ≤ t → length (history_at ns m c s) ≡ length (history_at ns m c t) → history_at ns m c s ≡ history_at ns m c t
  as_long c s t h same = sym (first_part c s t h) ∙ take_all (length (history_at ns m c s)) (history_at ns m c t) (omega arith)

  pub same_length : (c s t : ℕ) → length (history_at ns m c s) ≡ length (history_at ns m c t) → history_at ns m c s ≡ history_at ns m c t
  same_length c s t same = grind (arith, cases_lt, as_long, same)

  -- a shorter history is an earlier one
  pub shorter : (c s t : ℕ) → length (history_at ns m c s) < length (history_at ns m c t) → s < t
  shorter c s t h = grind (arith, cases_lt, mono)

  pub together : (q c t : ℕ) → MayFind ns m q c t t
  together q c zero = start
  together q c (suc t) = both_advance t (together q c t)

  -- what may be found is found with none of its own events between
  none_found : (q c u s t : ℕ) → MayFind ns m q c u s → t ≤ s → NoneBetween ns m q c u t
  none_found q c u s t may h v low high mine = elim (history_step ns m each c v) [
    | inl stays ↦ stays
    | inr more ↦
        let event : history_at ns m c (suc v) ≡ history_at ns m c v → ⊥ = λ same. omega (arith, ap (λ (k : List Event). length k) same, ap (λ (k : List Event). length k) more.1, length_push (history_at ns m c v) more.0) in
        let before : v < u = (sides ns m each q c may v mine event).1 (omega arith) in
        absurd (omega arith)
  ]

  -- at the end each step that raced with none so far is timely
  timely_at_end : (open_to : ℕ → ℕ → Flags → Bool) (u c : ℕ) (op : ChanOp) → u < length ns → Passed ns m (length ns) open_to u c op → IsRaceFreeOn ns m u c op
  timely_at_end open_to u c op within p = record { exists = p.exists; in_time = in_time }
    where
      q : ℕ
      q = get_or ns u 0

      later : (s : ℕ) → MayFind ns m (get_or ns u 0) c u s → u < s → IsOpen ns m (length ns) open_to u c op → IsNoRaceAt ns m u c op (processor_at ns m (get_or ns u 0) u) s
      later s may after is_open = elim (cases_lt s (length ns)) [
        | inl below ↦ inr (inl (is_open.so_far s (omega arith) (omega arith) (none_found (get_or ns u 0) c u s s may (omega arith))))
        | inr past ↦
            let end : history_at ns m c (length ns) ≡ history_at ns m c s = ap (λ k. history_of c k) (moment_past ns m (length ns) (omega arith) ∙ sym (moment_past ns m s past)) in
            inr (inl (subst (λ (h : List Event). DoesTheSame op (processor_at ns m (get_or ns u 0) u) h (history_at ns m c u)) end
            (is_open.so_far (length ns) (omega arith) (omega arith) (none_found (get_or ns u 0) c u s (length ns) may past))))
      ]

      in_time : (s : ℕ) → MayFind ns m (get_or ns u 0) c u s → IsNoRaceAt ns m u c op (processor_at ns m (get_or ns u 0) u) s
      in_time s may = elim (cases_order (length (history_at ns m c s)) (length (history_at ns m c u))) [
        | inl same ↦ inl (same_length c s u same)
        | inr different ↦ elim different [
          | inl less ↦ elim (p.before s may less) [
            | inl stays ↦ inr (inr (shorter c s u less, stays))
            | inr same ↦ inr (inl same)
          ]
          | inr more ↦
              let after : u < s = shorter c u s more in
              elim (p.after) [
                | inl event ↦ (let never : u < u = (sides ns m each (get_or ns u 0) c may u refl event).1 after in absurd (omega arith))
                | inr is_open ↦ later s may after is_open
              ]
        ]
      ]

  pub watched_steps : (least : ℕ → ℕ → ℕ) (open_to : ℕ → ℕ → Flags → Bool) → Watched ns m (length ns) least open_to → (t : ℕ) → t < length ns → Waits (get_or ns t 0) (at_moment ns m t) ⊎ IsRaceFree ns m t
  watched_steps least open_to w t h = elim (w.passed t h) [
    | inl waits ↦ inl waits
    | inr on ↦ inr (λ c op e. timely_at_end open_to t c op h (on c op e))
  ]

  -- and a processor that waits wherever it may find its channel waits for good
  pub watched_settled : (least : ℕ → ℕ → ℕ) (open_to : ℕ → ℕ → Flags → Bool) → Watched ns m (length ns) least open_to → (q c : ℕ) (op : ChanOp) → need (processor_of q (run ns m)) ≡ Channel c op
      → ((p : ℕ) → least q c ≤ p → p ≤ length (history_of c (run ns m)) → WaitsAt op (processor_of q (run ns m)) (flags_of (take p (history_of c (run ns m)))))
      → WaitsForGood ns m q c op
  watched_settled least open_to w q c op e at = record {
    waits = e;
    for_good = λ s may. elim (cases_lt s (length ns)) [
      | inl below ↦ found s s refl (omega arith) (w.lower q c s may)
      | inr past ↦ found s (length ns) (ap (λ k. history_of c k) (moment_past ns m s past ∙ sym (moment_past ns m (length ns) (omega arith)))) (omega arith) (w.lower q c s may)
    ];
  }
    where
      found : (s k : ℕ) → history_at ns m c s ≡ history_at ns m c k → k ≤ length ns → least q c ≤ length (history_at ns m c s) → Stays op (processor_of q (run ns m)) (history_at ns m c s)
      found s k same h low =
          let end : history_at ns m c (length ns) ≡ history_of c (run ns m) = ap (λ x. history_of c x) (moment_past ns m (length ns) (omega arith)) in
          let fits : length (history_at ns m c k) ≤ length (history_of c (run ns m)) = omega (arith, mono ns m each c k (length ns) h, ap (λ (x : List Event). length x) end) in
          let part : take (length (history_at ns m c k)) (history_of c (run ns m)) ≡ history_at ns m c k = ap (λ x. take (length (history_at ns m c k)) x) (sym end) ∙ first_part c k (length ns) h in
          let lows : least q c ≤ length (history_at ns m c k) = omega (arith, ap (λ (x : List Event). length x) same) in
          let w_there : WaitsAt op (processor_of q (run ns m)) (flags_of (history_at ns m c k)) = subst (λ (x : List Event). WaitsAt op (processor_of q (run ns m)) (flags_of x)) part (at (length (history_at ns m c k)) lows fits) in
          stays_at op (processor_of q (run ns m)) (history_at ns m c s) (subst (λ (x : List Event). WaitsAt op (processor_of q (run ns m)) (flags_of x)) (sym same) w_there)

  lower_next : (q c k : ℕ) (t s : ℕ) → MayFind ns m q c (suc t) s → ((r : ℕ) → MayFind ns m q c t r → AdvancesAlone ns m q c t r → k ≤ length (history_at ns m c r)) → k ≤ length (history_at ns m c (suc t)) → k ≤ length (history_at ns m c s)
  lower_next q c k t s (channel_advances t2 s2 may none) alone end =
      let before = lower_next q c k t s2 may alone end in
      omega (arith, mono ns m each c s2 (suc s2) (omega arith))
  lower_next q c k t s (processor_advances t2 s2 may goes) alone end = alone s2 may goes
  lower_next q c k t s (both_advance t2 may) alone end = end

-- One step more. It is given what the step may change, and what it is checked for.
module _ (ns : List ℕ) (m : MachineState) (each : length m.histories ≡ channel_count) (t : ℕ) (within : t < length ns)
    (least new_least : ℕ → ℕ → ℕ) (open_to new_open : ℕ → ℕ → Flags → Bool) (w : Watched ns m t least open_to) where
  still_passed : ((q c : ℕ) (f : Flags) → new_open q c f ≡ true → (open_to q c f ≡ true) ⊎ ((get_or ns t 0 ≡ q) × (history_at ns m c (suc t) ≢ history_at ns m c t)))
      → ((q c : ℕ) → get_or ns t 0 ≢ q → open_to q c (flags_of (history_at ns m c (suc t))) ≡ true)
      → (u c : ℕ) (op : ChanOp) → u < t → Passed ns m t open_to u c op → Passed ns m (suc t) new_open u c op
  still_passed less others u c op early p = record {
    exists = p.exists;
    before = p.before;
    after = elim (p.after) [
      | inl event ↦ inl event
      | inr is_open ↦ inr (record {
        so_far = λ s low high none. elim (cases_lt s (suc t)) [
          | inl below ↦ is_open.so_far s low (omega arith) none
          | inr past ↦
              let here : suc t ≡ s = omega arith in
              subst (λ (k : ℕ). DoesTheSame op (processor_at ns m (get_or ns u 0) u) (history_at ns m c k) (history_at ns m c u)) here
              (elim (cases_eq (get_or ns t 0) (get_or ns u 0)) [
                | inl mine ↦ subst (λ (h : List Event). DoesTheSame op (processor_at ns m (get_or ns u 0) u) h (history_at ns m c u)) (sym (none t (omega arith) (omega arith) mine)) (is_open.so_far t (omega arith) (omega arith) (λ v l h. none v l (omega arith)))
                | inr other ↦ is_open.from_now (λ v l h. none v l (omega arith)) (history_at ns m c (suc t)) (others (get_or ns u 0) c other)
              ])
        ];
        from_now = λ none h is. elim (less (get_or ns u 0) c (flags_of h) is) [
          | inl before ↦ is_open.from_now (λ v l k. none v l (omega arith)) h before
          | inr event ↦ absurd (event.1 (none t (omega arith) (omega arith) event.0))
        ];
      })
    ];
  }

  pub watched_next : ((q c s : ℕ) → MayFind ns m q c (suc t) s → new_least q c ≤ length (history_at ns m c s))
      → ((q c : ℕ) → new_open q c (flags_of (history_at ns m c (suc t))) ≡ true)
      → ((q c : ℕ) (f : Flags) → new_open q c f ≡ true → (open_to q c f ≡ true) ⊎ ((get_or ns t 0 ≡ q) × (history_at ns m c (suc t) ≢ history_at ns m c t)))
      → ((q c : ℕ) → get_or ns t 0 ≢ q → open_to q c (flags_of (history_at ns m c (suc t))) ≡ true)
      → (Waits (get_or ns t 0) (at_moment ns m t) ⊎ ((c : ℕ) (op : ChanOp) → need_at ns m t ≡ Channel c op → Passed ns m (suc t) new_open t c op))
      → Watched ns m (suc t) new_least new_open
  watched_next lower stands less others last = record {
    lower = lower;
    stands_open = stands;
    passed = λ u h. elim (cases_lt u t) [
      | inl early ↦ elim (w.passed u early) [
        | inl waits ↦ inl waits
        | inr on ↦ inr (λ c op e. still_passed less others u c op early (on c op e))
      ]
      | inr past ↦
          let here : t ≡ u = omega arith in
          subst (λ (k : ℕ). Waits (get_or ns k 0) (at_moment ns m k) ⊎ ((c : ℕ) (op : ChanOp) → need_at ns m k ≡ Channel c op → Passed ns m (suc t) new_open k c op)) here last
    ];
  }

-- what the step with need x at moment t does to the histories
module _ (ns : List ℕ) (m : MachineState) (each : length m.histories ≡ channel_count) (t : ℕ) (within : t < length ns)
    (least : ℕ → ℕ → ℕ) (open_to : ℕ → ℕ → Flags → Bool) (w : Watched ns m t least open_to) where
  least_holds : (q c s : ℕ) → MayFind ns m q c (suc t) s → least q c ≤ length (history_at ns m c s)
  least_holds q c s may = lower_next ns m each q c (least q c) t s may (λ r found goes. w.lower q c r found)
      (omega (arith, w.lower q c t (together ns m each q c t), mono ns m each c t (suc t) (omega arith)))

  history_unchanged : (c : ℕ) → ((op : ChanOp) → need_at ns m t ≡ Channel c op → event_of op (history_at ns m c t) ≡ None) → history_at ns m c (suc t) ≡ history_at ns m c t
  history_unchanged c none = ap (λ k. history_of c k) (moment_next ns m t within) ∙ history_unless (get_or ns t 0) c (at_moment ns m t) (moment_each ns m each t) none

  open_where_unchanged : ((c : ℕ) → history_at ns m c (suc t) ≡ history_at ns m c t) → (q c : ℕ) → open_to q c (flags_of (history_at ns m c (suc t))) ≡ true
  open_where_unchanged same q c = ap (λ h. open_to q c (flags_of h)) (same c) ∙ w.stands_open q c

  -- a step that waits, or is not on a channel, changes nothing
  pub watched_waits : Waits (get_or ns t 0) (at_moment ns m t) → Watched ns m (suc t) least open_to
  watched_waits waits =
      let same : (c : ℕ) → history_at ns m c (suc t) ≡ history_at ns m c t = λ c. history_unchanged c (λ op e. sym (event_by_need (get_or ns t 0) c op (at_moment ns m t) e) ∙ waits.event) in
      watched_next ns m each t within least least open_to open_to w least_holds
      (open_where_unchanged same) (λ q c f is. inl is) (λ q c other. open_where_unchanged same q c) (inl waits)

  pub watched_off : ((c : ℕ) (op : ChanOp) → need_at ns m t ≡ Channel c op → ⊥) → Watched ns m (suc t) least open_to
  watched_off off =
      let same : (c : ℕ) → history_at ns m c (suc t) ≡ history_at ns m c t = λ c. history_unchanged c (λ op e. absurd (off c op e)) in
      watched_next ns m each t within least least open_to open_to w least_holds
      (open_where_unchanged same) (λ q c f is. inl is) (λ q c other. open_where_unchanged same q c) (inr (λ c op e. absurd (off c op e)))

pub one_need : (c e : ℕ) (op oq : ChanOp) (x : Need) → x ≡ Channel c op → x ≡ Channel e oq → (c ≡ e) × (op ≡ oq)
one_need c e op oq x here there =
    let same : Channel c op ≡ Channel e oq = sym here ∙ there in
    ((cc), (cc))

module _ (ns : List ℕ) (m : MachineState) (each : length m.histories ≡ channel_count) (t : ℕ) (within : t < length ns)
    (least new_least : ℕ → ℕ → ℕ) (open_to new_open : ℕ → ℕ → Flags → Bool) (w : Watched ns m t least open_to) (c : ℕ) (op : ChanOp) where
  at_pair : (P : ℕ → ℕ → Type 0) (x e : ℕ) → (x ≡ get_or ns t 0) × (e ≡ c) → P (get_or ns t 0) c → P x e
  at_pair P x e here at = subst (λ (k : ℕ). P k e) (sym here.0) (subst (λ (k : ℕ). P (get_or ns t 0) k) (sym here.1) at)

  -- a step on channel c, of which all is said that changes for its processor there
  watched_one : need_at ns m t ≡ Channel c op
      → ((q e : ℕ) → (q ≡ get_or ns t 0 → e ≡ c → ⊥) → new_least q e ≡ least q e)
      → ((q e : ℕ) (f : Flags) → (q ≡ get_or ns t 0 → e ≡ c → ⊥) → new_open q e f ≡ open_to q e f)
      → ((q e : ℕ) → (q ≡ get_or ns t 0 → e ≡ c → ⊥) → open_to q e (flags_of (history_at ns m e (suc t))) ≡ true)
      → ((s : ℕ) → MayFind ns m (get_or ns t 0) c t s → AdvancesAlone ns m (get_or ns t 0) c t s → new_least (get_or ns t 0) c ≤ length (history_at ns m c s))
      → new_least (get_or ns t 0) c ≤ length (history_at ns m c (suc t))
      → new_open (get_or ns t 0) c (flags_of (history_at ns m c (suc t))) ≡ true
      → ((f : Flags) → new_open (get_or ns t 0) c f ≡ true → (open_to (get_or ns t 0) c f ≡ true) ⊎ (history_at ns m c (suc t) ≢ history_at ns m c t))
      → Passed ns m (suc t) new_open t c op → Watched ns m (suc t) new_least new_open
  watched_one needs least_others open_others opens alone end open_now open_here passed =
      watched_next ns m each t within least new_least open_to new_open w lower stands less (λ q e other. opens q e (λ is there. other (sym is))) (inr last)
    where
      lower : (q e s : ℕ) → MayFind ns m q e (suc t) s → new_least q e ≤ length (history_at ns m e s)
      lower q e s may = elim (here_or_not (get_or ns t 0) c q e) [
        | inr other ↦ subst (λ (k : ℕ). k ≤ length (history_at ns m e s)) (sym (least_others q e other)) (least_holds ns m each t within least open_to w q e s may)
        | inl here ↦ at_pair (λ x k. MayFind ns m x k (suc t) s → new_least x k ≤ length (history_at ns m k s)) q e here
            (λ found. lower_next ns m each (get_or ns t 0) c (new_least (get_or ns t 0) c) t s found alone end) may
      ]

      stands : (q e : ℕ) → new_open q e (flags_of (history_at ns m e (suc t))) ≡ true
      stands q e = grind (arith, here_or_not, q, opens, at_pair)

      less : (q e : ℕ) (f : Flags) → new_open q e f ≡ true → (open_to q e f ≡ true) ⊎ ((get_or ns t 0 ≡ q) × (history_at ns m e (suc t) ≢ history_at ns m e t))
      less q e f is = elim (here_or_not (get_or ns t 0) c q e) [
        | inr other ↦ inl (sym (open_others q e f other) ∙ is)
        | inl here ↦ at_pair (λ x k. new_open x k f ≡ true → (open_to x k f ≡ true) ⊎ ((get_or ns t 0 ≡ x) × (history_at ns m k (suc t) ≢ history_at ns m k t))) q e here
            (λ opened. elim (open_here f opened) [ inl still ↦ inl still | inr changed ↦ inr (refl, changed) ]) is
      ]

      last : (e : ℕ) (oq : ChanOp) → need_at ns m t ≡ Channel e oq → Passed ns m (suc t) new_open t e oq
      last e oq g = grind (arith, one_need)

  pub watched_look : IsLook (at_moment ns m t) (get_or ns t 0) c op least new_least open_to new_open → Watched ns m (suc t) new_least new_open
  watched_look l =
      watched_one l.needs l.least_others l.open_others (λ q e other. open_where_unchanged ns m each t within least open_to w same q e)
      (λ s may goes. elim (cases_lt (length (history_at ns m c s)) (new_least (get_or ns t 0) c)) [
        | inl short ↦ absurd (high s may goes short)
        | inr enough ↦ enough
      ])
      (omega (arith, l.least_most, mono ns m each c t (suc t) (omega arith)))
      (ap (λ h. new_open (get_or ns t 0) c (flags_of h)) (same c) ∙ l.open_now)
      (λ f is. inl (l.open_here f is).0)
      passed_here
    where
      same : (e : ℕ) → history_at ns m e (suc t) ≡ history_at ns m e t
      same e = grind (arith, history_unchanged, one_need, none_made)

      -- what is found with fewer events than the least waits, and the look does not
      high : (s : ℕ) → MayFind ns m (get_or ns t 0) c t s → AdvancesAlone ns m (get_or ns t 0) c t s → length (history_at ns m c s) < new_least (get_or ns t 0) c → ⊥
      high s may goes short =
          let p = length (history_at ns m c s) in
          let below : p < length (history_at ns m c t) = omega (arith, l.least_most) in
          let early : s < t = shorter ns m each c s t below in
          let low : least (get_or ns t 0) c ≤ p = w.lower (get_or ns t 0) c s may in
          let part : take p (history_at ns m c t) ≡ history_at ns m c s = first_part ns m each c s t (omega arith) in
          let quiet : makes_none op (flags_of (history_at ns m c s)) ≡ true = ap (λ h. makes_none op (flags_of h)) (sym part) ∙ elim (l.before p low below) [ inl waits ↦ waits.none | inr does ↦ does.none ] in
          elim goes [
            | inl other ↦ other refl
            | inr on ↦ grind (arith, shown_there)
          ]

      passed_here : Passed ns m (suc t) new_open t c op
      passed_here = record {
        exists = l.exists;
        before = λ s may short.
            let p = length (history_at ns m c s) in
            let early : s < t = shorter ns m each c s t short in
            let part : take p (history_at ns m c t) ≡ history_at ns m c s = first_part ns m each c s t (omega arith) in
            elim (l.before p (w.lower (get_or ns t 0) c s may) short) [
              | inl waits ↦ inl (stays_at op (processor_at ns m (get_or ns t 0) t) (history_at ns m c s) (subst (λ (h : List Event). WaitsAt op (processor_at ns m (get_or ns t 0) t) (flags_of h)) part waits))
              | inr does ↦ inr (does_as op (processor_at ns m (get_or ns t 0) t) (history_at ns m c s) (history_at ns m c t) l.none (subst (λ (h : List Event). DoesAsAt op (processor_at ns m (get_or ns t 0) t) (flags_of h) (flags_of (history_at ns m c t))) part does))
            ];
        after = inr (record {
          so_far = λ s low high none.
              let at : history_at ns m c s ≡ history_at ns m c t = elim (cases_lt t s) [
                | inl beyond ↦ (let is : s ≡ suc t = omega arith in ap (λ k. history_at ns m c k) is ∙ same c)
                | inr not_beyond ↦ (let is : s ≡ t = omega arith in ap (λ k. history_at ns m c k) is)
              ] in
              subst (λ (h : List Event). DoesTheSame op (processor_at ns m (get_or ns t 0) t) h (history_at ns m c t)) (sym at)
              (does_as op (processor_at ns m (get_or ns t 0) t) (history_at ns m c t) (history_at ns m c t) l.none (record { none = l.none; alike = refl }));
          from_now = λ none h is. does_as op (processor_at ns m (get_or ns t 0) t) h (history_at ns m c t) l.none (l.open_here (flags_of h) is).1;
        });
      }

  pub watched_event : (event : Event) → IsEvent (at_moment ns m t) (get_or ns t 0) c op event least new_least open_to new_open → Watched ns m (suc t) new_least new_open
  watched_event event v =
      watched_one v.needs v.least_others v.open_others opens (λ s may goes. absurd (never s goes))
      (omega (arith, v.least_most, ap (λ (k : List Event). length k) longer, length_push (history_at ns m c t) event))
      (ap (λ h. new_open (get_or ns t 0) c (flags_of h)) longer ∙ v.open_now)
      (λ f is. inr changed)
      passed_here
    where
      longer : history_at ns m c (suc t) ≡ history_at ns m c t ++ event ∷ []
      longer = ap (λ k. history_of c k) (moment_next ns m t within)
          ∙ history_here (get_or ns t 0) c op (at_moment ns m t) (moment_each ns m each t) v.exists v.needs
          ∙ ap (λ (o : Option Event). history_at ns m c t ++ option_to_list o) v.made

      changed : history_at ns m c (suc t) ≢ history_at ns m c t
      changed same = omega (arith, ap (λ (k : List Event). length k) same, ap (λ (k : List Event). length k) longer, length_push (history_at ns m c t) event)

      elsewhere : (e : ℕ) → e ≢ c → history_at ns m e (suc t) ≡ history_at ns m e t
      elsewhere e off = grind (arith, moment_next, history_elsewhere, moment_each)

      never : (s : ℕ) → AdvancesAlone ns m (get_or ns t 0) c t s → ⊥
      never s goes = grind arith

      opens : (q e : ℕ) → (q ≡ get_or ns t 0 → e ≡ c → ⊥) → open_to q e (flags_of (history_at ns m e (suc t))) ≡ true
      opens q e other = grind (arith, cases_eq, q, longer, elsewhere)

      passed_here : Passed ns m (suc t) new_open t c op
      passed_here = record {
        exists = v.exists;
        before = λ s may short.
            let p = length (history_at ns m c s) in
            let early : s < t = shorter ns m each c s t short in
            let part : take p (history_at ns m c t) ≡ history_at ns m c s = first_part ns m each c s t (omega arith) in
            inl (stays_at op (processor_at ns m (get_or ns t 0) t) (history_at ns m c s) (subst (λ (h : List Event). WaitsAt op (processor_at ns m (get_or ns t 0) t) (flags_of h)) part (v.before p (w.lower (get_or ns t 0) c s may) short)));
        after = inl changed;
      }

module _ (ns : List ℕ) (m : MachineState) (each : length m.histories ≡ channel_count) (t : ℕ) (within : t < length ns)
    (least new_least : ℕ → ℕ → ℕ) (open_to new_open : ℕ → ℕ → Flags → Bool) (w : Watched ns m t least open_to) where
  kept_alike : ((q c : ℕ) → new_least q c ≡ least q c) → ((q c : ℕ) (f : Flags) → new_open q c f ≡ open_to q c f) → Watched ns m (suc t) least open_to → Watched ns m (suc t) new_least new_open
  kept_alike same_least same_open v = record {
    lower = λ q c s may. subst (λ (k : ℕ). k ≤ length (history_at ns m c s)) (sym (same_least q c)) (v.lower q c s may);
    stands_open = λ q c. same_open q c (flags_of (history_at ns m c (suc t))) ∙ v.stands_open q c;
    passed = λ u h. elim (v.passed u h) [
      | inl waits ↦ inl waits
      | inr on ↦ inr (λ c op e.
          let p : Passed ns m (suc t) open_to u c op = on c op e in
          record {
            exists = p.exists;
            before = p.before;
            after = elim (p.after) [
              | inl event ↦ inl event
              | inr is_open ↦ inr (record {
                so_far = is_open.so_far;
                from_now = λ none h2 is. is_open.from_now none h2 (sym (same_open (get_or ns u 0) c (flags_of h2)) ∙ is);
              })
            ];
          })
    ];
  }

  -- a step that is checked is watched
  pub watched_checked : IsChecked (at_moment ns m t) (get_or ns t 0) least new_least open_to new_open → Watched ns m (suc t) new_least new_open
  watched_checked (step_waits w_step same_least same_open) = kept_alike same_least same_open (watched_waits ns m each t within least open_to w w_step)
  watched_checked (step_elsewhere off same_least same_open) = kept_alike same_least same_open (watched_off ns m each t within least open_to w off)
  watched_checked (step_looks c op l) = watched_look ns m each t within least new_least open_to new_open w c op l
  watched_checked (step_makes c op event v) = watched_event ns m each t within least new_least open_to new_open w c op event v
