use Rattle.std.proofs.Common.{◌≡◌, ℕ, ◌+◌, sym, subst, inl, inr, arith}
use Rattle.pp_run.specs.BareMachine.{StandsFor}
use Rattle.pp_ends.specs.Rounds.{AreAlikeAfter, after_rounds}
use Rattle.std.proofs.lemmas.Bool.{cases_eq}
use Rattle.pp_ends.proofs.rounds.find_period.Goals as goal

pub loop-passed-init : goal.loop-passed-init
loop-passed-init g c = record {
  later = let same : c.args.rounds ≡ c.args.rounds + 0 = omega arith in
      subst (λ (t : ℕ). StandsFor c.in_ok-later.later (after_rounds t c.args.machine.now)) same (c.in_ok-later.ensures _ c.in_ok-end.ensures);
  none = λ k some most. absurd (omega (arith, some, most));
}

pub returns-then-stand_alike : goal.returns-then-stand_alike
returns-then-stand_alike g c =
    let m = c.args.machine.now in
    let rounds = c.args.rounds in
    let passed = c.loop-passed.passed in
    let was = c.loop-passed.invariant in
    let same : (rounds + passed) + 1 ≡ rounds + (passed + 1) = omega arith in
    let later = subst (λ (t : ℕ). StandsFor c.run_round.new.bare (after_rounds t m)) same (c.run_round.ensures (rounds + passed) m c.round_of-round.ensures.turns was.later) in
    record {
      some = omega arith;
      most = omega (arith, c.loop-passed-test.true);
      alike = c.stand_alike.ensures.alike c.if-stand_alike.true (after_rounds rounds m) (after_rounds (rounds + (passed + 1)) m) c.in_ok-end.ensures later;
      least = λ k some low. was.none k some (omega (arith, low));
    }

pub loop-passed-preserved : goal.loop-passed-preserved
loop-passed-preserved g c =
    let m = c.args.machine.now in
    let rounds = c.args.rounds in
    let passed = c.loop-passed.passed in
    let was = c.loop-passed.invariant in
    let same : (rounds + passed) + 1 ≡ rounds + (passed + 1) = omega arith in
    let later = subst (λ (t : ℕ). StandsFor c.run_round.new.bare (after_rounds t m)) same (c.run_round.ensures (rounds + passed) m c.round_of-round.ensures.turns was.later) in
    record {
      later = later;
      none = λ k some most. elim (cases_eq k (passed + 1)) [
        | inl last ↦ subst (λ (j : ℕ). ¬ AreAlikeAfter rounds (rounds + j) m) (sym last)
            (c.stand_alike.ensures.differ c.if-stand_alike.false (after_rounds rounds m) (after_rounds (rounds + (passed + 1)) m) c.in_ok-end.ensures later)
        | inr other ↦ was.none k some (omega (arith, most, other))
      ];
    }

pub returns : goal.returns
returns g c = λ k some low. c.loop-passed.invariant.none k some (omega (arith, low, c.loop-passed-test.false))
