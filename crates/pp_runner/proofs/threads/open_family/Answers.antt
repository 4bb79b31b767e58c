use Rattle.std.proofs.Common.{ℕ, ◌≡◌, ◌+◌, ◌-◌, List, ap, sym, ◌∙◌, subst, arith}
use Rattle.std.specs.Prelude.{All}
use Rattle.std.proofs.lemmas.List.Elements.{All-nil}
use Rattle.pp_line.specs.LineState.{LineState, IsSplitFrom}
use Rattle.pp_numbers.specs.Profile.{processors_in}
use Rattle.pp_runner.proofs.CrewLemmas.{split_more, opened_split}
use Rattle.pp_runner.specs.Crew.{HasOpened}
use Rattle.pp_runner.proofs.threads.open_family.Goals as goal

pub loop-count-init : goal.loop-count-init
loop-count-init g c =
    let many = c.processors-processors.ensures ∙ ap (λ p. processors_in p) c.profile.ensures in
    let all = processors_in c.args.machine.now.profile + 1 in
    let same : c.processors-processors.result + 1 ≡ all = omega (arith, many) in record {
      opened = subst (λ (some : ℕ). HasOpened c.args.machine.now all some c.in_ok-first.first) (omega arith) (subst (λ (n : ℕ). HasOpened c.args.machine.now n n c.in_ok-first.first) same c.in_ok-first.ensures);
      fresh = subst (λ (ls : List LineState). All (IsSplitFrom c.in_ok-first.first c.args.room) ls) (sym c.in_ok-lines.ensures.items) (All-nil (IsSplitFrom c.in_ok-first.first c.args.room));
      made = omega (arith, c.in_ok-lines.ensures.len);
      room = c.in_ok-lines.ensures.exact;
    }

pub split-requires : goal.split-requires
split-requires g c = let many = (c.processors-processors.ensures ∙ ap (λ p. processors_in p) c.profile.ensures) in omega (arith, many, c.loop-count.invariant.opened.shares, c.loop-count-test.true)

pub loop-count-preserved : goal.loop-count-preserved
loop-count-preserved g c =
    let parent = c.in_ok-split.ensures.parent in
    let all = processors_in c.args.machine.now.profile + 1 in record {
      opened = subst (λ (some : ℕ). HasOpened c.args.machine.now all some c.split.new.self) (omega arith) (opened_split c.args.machine.now all (all - c.loop-count.count) c.loop-count.first c.split.new.self parent c.loop-count.invariant.opened);
      fresh = subst (λ (ls : List LineState). All (IsSplitFrom c.split.new.self c.args.room) ls) (sym c.push_reserved.ensures.items)
          (split_more c.args.room c.loop-count.first c.split.new.self c.in_ok-split.field-0 c.loop-count.lines.items parent c.in_ok-split.ensures.line c.loop-count.invariant.fresh);
      made = omega (arith, c.push_reserved.ensures.len, c.loop-count.invariant.made);
      room = c.push_reserved.ensures.capacity ∙ c.loop-count.invariant.room;
    }

pub returns : goal.returns
returns g c =
    let many = (c.processors-processors.ensures ∙ ap (λ p. processors_in p) c.profile.ensures) in record {
      each_processor = omega (arith, many, c.loop-count.invariant.made, c.loop-count-test.false, c.loop-count.auto.count-end);
      fresh = c.loop-count.invariant.fresh;
      first = subst (λ (some : ℕ). HasOpened c.args.machine.now (processors_in c.args.machine.now.profile + 1) some c.loop-count.first) (omega (arith, many, c.loop-count-test.false, c.loop-count.auto.count-end)) c.loop-count.invariant.opened;
    }
