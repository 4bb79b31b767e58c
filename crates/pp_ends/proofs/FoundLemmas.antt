-- How the repetitions within a run follow from its last round.
use Rattle.std.proofs.Common.{◌≡◌, ℕ, zero, suc, ◌+◌, ◌-◌, ◌*◌, ◌/◌, ◌%◌, ◌≤◌, refl, sym, ap, ◌∙◌, subst, inl, inr, arith}
use Rattle.std.specs.Prelude.{Option, None, Some}
use Rattle.std.proofs.lemmas.Bool.{cases_lt}
use Rattle.pp_machine.specs.MachineState.{MachineState}
use Rattle.pp_numbers.specs.Profile.{processors_in}
use Rattle.pp_machine.specs.Run.{barrel, run}
use Rattle.pp_numbers.specs.declared.profile.Profile.{Profile}
use Rattle.pp_numbers.proofs.ProfileLemmas.{more_rounds}
use Rattle.pp_ends.specs.Ending.{FirstRepeats, Repeats, StandAlike, after_turns}
use Rattle.pp_ends.specs.Rounds.{AreAlikeAfter, IsPeriod, IsStart, PeriodWithin, StartWithin, after_rounds}
use Rattle.pp_ends.proofs.RepeatLemmas.{IsLawfulMachine, after_more, run_alike, run_lawful}

-- ---- rounds

-- what holds of rounds of ten turns and of twenty
by_profile : (P : ℕ → Type 0) → P 10 → P 20 → (p : Profile) → P (processors_in p)
by_profile P ten twenty p = grind arith

whole : (p : Profile) (i : ℕ) → (i * processors_in p) % processors_in p ≡ 0
whole p i = grind arith

in_rounds : (p : Profile) (u : ℕ) → u % processors_in p ≡ 0 → u ≡ (u / processors_in p) * processors_in p
in_rounds p u e = grind arith

pub after_none : (m : MachineState) → after_rounds 0 m ≡ m
after_none m = let none : 0 * processors_in m.profile ≡ 0 = omega arith in ap (λ (t : ℕ). after_turns t m) none

after_add : (i d : ℕ) (m : MachineState) → after_rounds (i + d) m ≡ run (barrel m.profile (d * processors_in m.profile)) (after_rounds i m)
after_add i d m =
    ap (λ (t : ℕ). after_turns t m) (more_rounds m.profile i d)
    ∙ after_more (i * processors_in m.profile) (d * processors_in m.profile) m (whole m.profile i)

pub after_one : (i : ℕ) (m : MachineState) → run (barrel m.profile (processors_in m.profile)) (after_rounds i m) ≡ after_rounds (i + 1) m
after_one i m =
    let one : processors_in m.profile ≡ 1 * processors_in m.profile = omega arith in
    ap (λ (t : ℕ). run (barrel m.profile t) (after_rounds i m)) one ∙ sym (after_add i 1 m)

-- ---- alike

pub alike_refl : (m : MachineState) → StandAlike m m
alike_refl m = record { processors = refl; central = refl; channels = λ c. refl }

alike_sym : (one other : MachineState) → StandAlike one other → StandAlike other one
alike_sym one other a = record { processors = sym a.processors; central = sym a.central; channels = λ c. sym (a.channels c) }

alike_trans : (one other third : MachineState) → StandAlike one other → StandAlike other third → StandAlike one third
alike_trans one other third a b = record { processors = b.processors ∙ a.processors; central = b.central ∙ a.central; channels = λ c. b.channels c ∙ a.channels c }

module _ (m : MachineState) (lawful : IsLawfulMachine m) where
  -- some rounds later they are alike too
  shifted : (i j d : ℕ) → AreAlikeAfter i j m → AreAlikeAfter (i + d) (j + d) m
  shifted i j d a =
      let p = m.profile in
      rw (after_add i d m, after_add j d m)
      (run_alike (barrel p (d * processors_in p)) (after_rounds i m) (after_rounds j m)
      (run_lawful (barrel p (i * processors_in p)) m lawful) (run_lawful (barrel p (j * processors_in p)) m lawful) a)

  moved_to : (i j a b : ℕ) → i ≡ a → j ≡ b → AreAlikeAfter i j m → AreAlikeAfter a b m
  moved_to i j a b one other h = subst (λ (k : ℕ). AreAlikeAfter a k m) other (subst (λ (k : ℕ). AreAlikeAfter k j m) one h)

  -- as far on as wanted it stands so again
  record Reaches (i k : ℕ) : Type 0 where
    place : ℕ
    far : k ≤ place
    past : i ≤ place
    alike : AreAlikeAfter i place m

  reaches : (i l k : ℕ) → 1 ≤ l → AreAlikeAfter i (i + l) m → Reaches i k
  reaches i l zero some a = record { place = i; far = omega arith; past = omega arith; alike = alike_refl (after_rounds i m) }
  reaches i l (suc k) some a =
      let r = reaches i l k some a in
      let d = r.place - i in
      let on : AreAlikeAfter r.place (r.place + l) m =
      moved_to (i + d) ((i + l) + d) r.place (r.place + l) (omega (arith, r.past)) (omega (arith, r.past)) (shifted i (i + l) d a) in
      record {
        place = r.place + l;
        far = omega (arith, r.far, some);
        past = omega (arith, r.past);
        alike = alike_trans (after_rounds i m) (after_rounds r.place m) (after_rounds (r.place + l) m) r.alike on;
      }

  -- what repeats at all has the period of the end
  has_period : (i l rounds period : ℕ) → 1 ≤ l → AreAlikeAfter i (i + l) m
      → AreAlikeAfter rounds (rounds + period) m → AreAlikeAfter i (i + period) m
  has_period i l rounds period some a end =
      let r = reaches i l rounds some a in
      let d = r.place - rounds in
      let later : AreAlikeAfter r.place (r.place + period) m =
      moved_to (rounds + d) ((rounds + period) + d) r.place (r.place + period) (omega (arith, r.far)) (omega (arith, r.far)) (shifted rounds (rounds + period) d end) in
      let both : AreAlikeAfter (i + period) (r.place + period) m = shifted i r.place period r.alike in
      alike_trans (after_rounds i m) (after_rounds r.place m) (after_rounds (i + period) m) r.alike
      (alike_trans (after_rounds r.place m) (after_rounds (r.place + period) m) (after_rounds (i + period) m) later
      (alike_sym (after_rounds (i + period) m) (after_rounds (r.place + period) m) both))

  -- at the end it stands as it does l rounds later
  to_end : (i l rounds : ℕ) → i ≤ rounds → AreAlikeAfter i (i + l) m → AreAlikeAfter rounds (rounds + l) m
  to_end i l rounds within a =
      let d = rounds - i in
      moved_to (i + d) ((i + l) + d) rounds (rounds + l) (omega (arith, within)) (omega (arith, within)) (shifted i (i + l) d a)

  -- ---- a repetition, in rounds

  record InRounds (u k : ℕ) : Type 0 where
    i : ℕ
    l : ℕ
    start : u ≡ i * processors_in m.profile
    length_is : k ≡ l * processors_in m.profile
    some : 1 ≤ l
    alike : AreAlikeAfter i (i + l) m

  by_rounds : (u k : ℕ) → Repeats u k m → InRounds u k
  by_rounds u k r =
      let p = m.profile in
      let i = u / processors_in p in
      let l = k / processors_in p in
      let start = in_rounds p u r.first_rounds in
      let every = in_rounds p k r.rounds in
      record {
        i = i;
        l = l;
        start = start;
        length_is = every;
        some = by_profile (λ n. k % n ≡ 0 → 1 ≤ k / n) (λ whole. omega (arith, whole, r.some)) (λ whole. omega (arith, whole, r.some)) p r.rounds;
        alike = grind (arith, more_rounds);
      }

  within_rounds : (u k turns : ℕ) (r : InRounds u k) → u + k ≤ turns → r.i + r.l ≤ turns / processors_in m.profile
  within_rounds u k turns r h =
      by_profile (λ n. r.i * n + r.l * n ≤ turns → r.i + r.l ≤ turns / n) (λ low. omega (arith, low)) (λ low. omega (arith, low)) m.profile (omega (arith, h, r.start, r.length_is))

  pub none_without_period : (turns : ℕ)
      → ((k : ℕ) → 1 ≤ k → k ≤ turns / processors_in m.profile → ¬ AreAlikeAfter (turns / processors_in m.profile) (turns / processors_in m.profile + k) m)
      → (u k : ℕ) → u + k ≤ turns → ¬ Repeats u k m
  none_without_period turns none u k h repeats =
      let r = by_rounds u k repeats in
      let few = within_rounds u k turns r h in
      none r.l r.some (omega (arith, few)) (to_end r.i r.l (turns / processors_in m.profile) (omega (arith, few)) r.alike)

  -- the period of the end is no longer than any other
  shortest : (period rounds i l : ℕ) → IsPeriod period rounds m → i ≤ rounds → 1 ≤ l → AreAlikeAfter i (i + l) m → period ≤ l
  shortest period rounds i l p within some a = elim (cases_lt l period) [
    | inr no_less ↦ no_less
    | inl less ↦ absurd (p.least l some less (to_end i l rounds within a))
  ]

  pub none_without_start : (period turns : ℕ) → IsPeriod period (turns / processors_in m.profile) m
      → ((k : ℕ) → k ≤ turns / processors_in m.profile - period → ¬ AreAlikeAfter k (k + period) m)
      → (u k : ℕ) → u + k ≤ turns → ¬ Repeats u k m
  none_without_start period turns p none u k h repeats =
      let r = by_rounds u k repeats in
      let few = within_rounds u k turns r h in
      let short = shortest period (turns / processors_in m.profile) r.i r.l p (omega (arith, few)) r.some r.alike in
      none r.i (omega (arith, few, short)) (has_period r.i r.l (turns / processors_in m.profile) period r.some r.alike p.alike)

  -- the first start is no later than any other
  earliest : (start period rounds i l : ℕ) → IsPeriod period rounds m → IsStart start period (rounds - period) m
      → 1 ≤ l → AreAlikeAfter i (i + l) m → start ≤ i
  earliest start period rounds i l p s some a = elim (cases_lt i start) [
    | inr no_less ↦ no_less
    | inl less ↦ absurd (s.first i less (has_period i l rounds period some a p.alike))
  ]

  no_sooner : (start period rounds i l : ℕ) → IsPeriod period rounds m → IsStart start period (rounds - period) m
      → 1 ≤ l → AreAlikeAfter i (i + l) m → start + period ≤ i + l
  no_sooner start period rounds i l p s some a = elim (cases_lt rounds i) [
    | inl past ↦ omega (arith, past, s.within, p.most)
    | inr within ↦ omega (arith, earliest start period rounds i l p s some a, shortest period rounds i l p within some a)
  ]

  pub first_found : (start period turns : ℕ) → IsPeriod period (turns / processors_in m.profile) m
      → IsStart start period (turns / processors_in m.profile - period) m
      → FirstRepeats (start * processors_in m.profile) (period * processors_in m.profile) turns m
  first_found start period turns p s =
      let q = m.profile in
      let rounds = turns / processors_in q in
      record {
        repeats = grind (arith, by_profile, whole, more_rounds);
        within = by_profile (λ n. start + period ≤ turns / n → start * n + period * n ≤ turns) (λ low. omega (arith, low)) (λ low. omega (arith, low)) q (omega (arith, s.within, p.most));
        least = λ u k repeats.
            let r = by_rounds u k repeats in
            let sooner = no_sooner start period rounds r.i r.l p s r.some r.alike in
            let less = by_profile (λ n. start * n + period * n ≤ r.i * n + r.l * n) (omega (arith, sooner)) (omega (arith, sooner)) q in
            omega (arith, less, r.start, r.length_is);
        with_it = λ u k repeats same.
            let r = by_rounds u k repeats in
            let early = earliest start period rounds r.i r.l p s r.some r.alike in
            let less = by_profile (λ n. start * n ≤ r.i * n) (omega (arith, early)) (omega (arith, early)) q in
            omega (arith, less, r.start);
      }

  -- ---- as the search answers

  pub goes_on_without_period : (turns rounds : ℕ) (found : Option ℕ) → found ≡ None
      → rounds ≡ turns / processors_in m.profile → PeriodWithin found rounds m
      → (u k : ℕ) → u + k ≤ turns → ¬ Repeats u k m
  goes_on_without_period turns rounds found none are told =
      none_without_period turns (subst (λ (r : ℕ). PeriodWithin None r m) are (subst (λ (o : Option ℕ). PeriodWithin o rounds m) none told))

  period_is : (turns rounds period : ℕ) (found : Option ℕ) → found ≡ Some period
      → rounds ≡ turns / processors_in m.profile → PeriodWithin found rounds m
      → IsPeriod period (turns / processors_in m.profile) m
  period_is turns rounds period found some are told =
      subst (λ (r : ℕ). IsPeriod period r m) are (subst (λ (o : Option ℕ). PeriodWithin o rounds m) some told)

  pub goes_on_without_start : (turns rounds period : ℕ) (found start : Option ℕ) → found ≡ Some period
      → start ≡ None → rounds ≡ turns / processors_in m.profile → PeriodWithin found rounds m
      → StartWithin start period (rounds - period) m
      → (u k : ℕ) → u + k ≤ turns → ¬ Repeats u k m
  goes_on_without_start turns rounds period found start some none are told starts =
      none_without_start period turns (period_is turns rounds period found some are told)
      (subst (λ (r : ℕ). StartWithin None period (r - period) m) are (subst (λ (o : Option ℕ). StartWithin o period (rounds - period) m) none starts))

  pub repeats_first : (turns rounds period first round : ℕ) (found start : Option ℕ) → found ≡ Some period
      → start ≡ Some first → rounds ≡ turns / processors_in m.profile → round ≡ processors_in m.profile
      → PeriodWithin found rounds m → StartWithin start period (rounds - period) m
      → FirstRepeats (first * round) (period * round) turns m
  repeats_first turns rounds period first round found start some starts_at are is told starts =
      subst (λ (r : ℕ). FirstRepeats (first * r) (period * r) turns m) (sym is)
      (first_found first period turns (period_is turns rounds period found some are told)
      (subst (λ (r : ℕ). IsStart first period (r - period) m) are (subst (λ (o : Option ℕ). StartWithin o period (rounds - period) m) starts_at starts)))
