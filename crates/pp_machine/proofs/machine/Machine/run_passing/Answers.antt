use Rattle.std.proofs.Common.{◌≡◌, ℕ, ◌*◌, ◌+◌, ◌≤◌, ◌<◌, refl, sym, ap, subst, ◌∙◌, arith}
use Rattle.pp_numbers.specs.Profile.{processors_in}
use Rattle.pp_machine.specs.Run.{run, barrel}
use Rattle.pp_machine.proofs.RoundLemmas.{event_after, profile_after, turns_after, whole_so_far}
use Rattle.pp_machine.proofs.machine.Machine.run_passing.Goals as goal

one_round_more : (done turns : ℕ) → done * turns + turns ≡ (done + 1) * turns
one_round_more done turns = grind (arith)

turns_left : (done rounds turns before : ℕ) → done < rounds → before < turns → done * turns + before < rounds * turns
turns_left done rounds turns before fewer within = grind (arith)

pub run_round-requires-clause-round : goal.run_round-requires-clause-round
run_round-requires-clause-round g c =
    let m = c.args.self.now in
    let same = profile_after (barrel m.profile (c.loop-done.done * c.args.turns)) m c.loop-done.self c.loop-done.invariant.ran in
    subst (λ p. c.args.turns ≤ processors_in p) (sym same) c.requires.round

pub returns-in-Err-clause-cut : goal.returns-in-Err-clause-cut
returns-in-Err-clause-cut g c =
    let m = c.args.self.now in
    let done = c.loop-done.done in
    let whole = whole_so_far m.profile done c.args.rounds c.args.turns (omega arith) c.requires.whole in
    let ran = c.loop-done.invariant.ran ∙ ap (λ k. run (barrel m.profile k) m) whole in
    let so_far : c.from.result * c.from-in-Err.result ≡ done * c.args.turns = ap (λ k. k * c.from-in-Err.result) c.from.ensures ∙ ap (λ k. done * k) c.from-in-Err.ensures in
    record {
      ran = turns_after done c.in-Err.before (c.from.result * c.from-in-Err.result) m c.loop-done.self c.run_round.new.self ran (so_far ∙ whole) c.in-Err.ensures.cut.ran;
      at_event = grind (arith, turns_left, event_after);
    }

pub loop-done-preserved : goal.loop-done-preserved
loop-done-preserved g c =
    let m = c.args.self.now in
    let done = c.loop-done.done in
    let whole = whole_so_far m.profile done c.args.rounds c.args.turns (omega arith) c.requires.whole in
    let ran = c.loop-done.invariant.ran ∙ ap (λ k. run (barrel m.profile k) m) whole in
    let next : done * processors_in m.profile + c.args.turns ≡ (done + 1) * c.args.turns =
    ap (λ k. k + c.args.turns) (sym whole) ∙ one_round_more done c.args.turns in
    record {
      ran = turns_after done c.args.turns (done * processors_in m.profile) m c.loop-done.self c.run_round.new.self ran refl c.in_default.ensures.ok
          ∙ ap (λ k. run (barrel m.profile k) m) next;
      passes = c.run_round.ensures.passes;
      headline = c.run_round.ensures.headline;
    }
