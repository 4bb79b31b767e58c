use Rattle.std.proofs.Common.{◌≡◌, ℕ, ◌+◌, sym, subst, inl, inr, arith}
use Rattle.std.proofs.lemmas.Bool.{cases_eq}
use Rattle.pp_run.specs.BareMachine.{StandsFor}
use Rattle.pp_ends.specs.Rounds.{AreAlikeAfter, after_rounds}
use Rattle.pp_ends.proofs.rounds.find_start.Goals as goal

pub loop-start-init : goal.loop-start-init
loop-start-init g c = record {
  early = c.in_ok-early.ensures;
  late =
      let same : c.args.period ≡ 0 + c.args.period = omega arith in
      subst (λ (t : ℕ). StandsFor c.in_ok-late.late (after_rounds t c.args.machine.now)) same c.in_ok-late.ensures;
  none = λ k low. absurd (omega (arith, low));
}

pub returns-then-stand_alike : goal.returns-then-stand_alike
returns-then-stand_alike g c =
    let m = c.args.machine.now in
    let start = c.loop-start.start in
    let was = c.loop-start.invariant in
    record {
      within = omega (arith, c.loop-start-test.true);
      alike = c.stand_alike.ensures.alike c.if-stand_alike.true (after_rounds start m) (after_rounds (start + c.args.period) m) was.early was.late;
      first = was.none;
    }

pub loop-start-preserved : goal.loop-start-preserved
loop-start-preserved g c =
    let m = c.args.machine.now in
    let start = c.loop-start.start in
    let period = c.args.period in
    let round = c.round_of-round.ensures.turns in
    let was = c.loop-start.invariant in
    record {
      early = c.run_round.ensures start m round was.early;
      late =
          let same : (start + period) + 1 ≡ start + 1 + period = omega arith in
          subst (λ (t : ℕ). StandsFor c.run_round-in-loop-start.new.bare (after_rounds t m)) same
          (c.run_round-in-loop-start.ensures (start + period) m round was.late);
      none = λ k low. elim (cases_eq k start) [
        | inl same ↦ subst (λ (j : ℕ). ¬ AreAlikeAfter j (j + period) m) (sym same)
            (c.stand_alike.ensures.differ c.if-stand_alike.false (after_rounds start m) (after_rounds (start + period) m) was.early was.late)
        | inr other ↦ was.none k (omega (arith, low, other))
      ];
    }

pub returns : goal.returns
returns g c = λ k low. c.loop-start.invariant.none k (omega (arith, low, c.loop-start-test.false))
