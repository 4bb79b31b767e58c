use Rattle.std.proofs.Common.{◌≡◌, refl, ◌++◌, List, [], sym, ap, ◌∙◌, length, get_or, take, ◌<◌, arith}
use Rattle.pp_numbers.specs.PpNo.{processor_places}
use Rattle.std.proofs.lemmas.List.{get_or_read}
use Rattle.pp_races.specs.Watch.{Watch, unwatched, watched}
use Rattle.pp_races.proofs.GoingOnLemmas.{never_so_far}
use Rattle.pp_races.proofs.GrowLemmas.{forgotten}
use Rattle.pp_races.proofs.TextLemmas.{findings_none, findings_on, findings_then, first_printed}
use Rattle.pp_races.proofs.RunLemmas.{run_begins, run_finds, run_goes_on, run_is_free, run_keeps, run_tells}
use Rattle.pp_races.proofs.watched_run.print_run.Goals as goal

pub loop-n-init : goal.loop-n-init
loop-n-init g c = record {
  run = run_begins c.args.order.now c.args.machine.now c.is_sound.ensures.channels;
  kept = c.requires;
  printed = findings_none _ _ _;
}

pub loop-n-preserved : goal.loop-n-preserved
loop-n-preserved g c =
    let order = c.args.order.now in
    let t = c.loop-n.n-index in
    let n = c.n-item.result in
    let few : t < length order = omega (arith, c.loop-n-test.true, ap length c.processors-n-items.ensures.are) in
    let is : n ≡ get_or order t 0 = grind (arith, get_or_read) in
    let m = c.args.machine.now in
    let taken = c.take_step.new.self in
    let (kept, found) = run_keeps order t m c.loop-n.machine n few is c.loop-n.invariant.run taken.events.items taken.cursors.items taken.looks.items taken.uses.items taken.found.items (length m.central) (c.in-Ok.ensures.watched _ _ c.loop-n.invariant.kept) in
    record {
      run = run_goes_on order t m c.loop-n.machine n few is c.loop-n.invariant.run c.step.new.self c.is_sound.ensures.channels (processor_places.named_below n (omega (arith, c.index-place.ensures.place, c.index-place.ensures.below))) c.in-Ok-step.ensures.step.ok c.take_step.ensures.sound;
      kept = rw c.clear.ensures.items kept;
      printed = findings_on g.W.Write.contents _ _ _ _ _ _ _ taken.found.items _ c.loop-n.invariant.printed (rw c.deref.ensures.value at c.print_findings-verdict.ensures) (sym found);
    }

pub returns-in_default-clause-printed_first : goal.returns-in_default-clause-printed_first
returns-in_default-clause-printed_first g c = first_printed _ _ _ _ c.args.order.now c.loop-n.n-index c.args.machine.now c.loop-n.invariant.printed

pub returns-in_default-step-clause-printed_first : goal.returns-in_default-step-clause-printed_first
returns-in_default-step-clause-printed_first g c = first_printed _ _ _ _ c.args.order.now c.loop-n.n-index c.args.machine.now c.loop-n.invariant.printed

pub returns-in_default-find_unsettled-clause-printed_first : goal.returns-in_default-find_unsettled-clause-printed_first
returns-in_default-find_unsettled-clause-printed_first g c = first_printed _ _ _ _ c.args.order.now c.loop-n.n-index c.args.machine.now c.loop-n.invariant.printed

pub print_shared-requires : goal.print_shared-requires
print_shared-requires g c =
    let ended = c.in-Ok-find_unsettled.ensures.found _ _ c.loop-n.invariant.kept in
    omega (arith, ap (λ (uses : List _). length uses) c.deref-3.ensures.value, ended.words_are, c.is_sound.ensures.central.size.most)

pub returns-clause-printed : goal.returns-clause-printed
returns-clause-printed g c =
    let m = c.args.machine.now in
    let order = c.args.order.now in
    let w : Watch = watched (take c.loop-n.n-index order) m unwatched in
    let ended = c.in-Ok-find_unsettled.ensures.found _ _ c.loop-n.invariant.kept in
    let found = c.find_unsettled.new.self.found.items in
    let all = run_finds order c.loop-n.n-index m c.loop-n.machine found (length c.find_unsettled.new.self.uses.items) (omega (arith, c.loop-n-test.false, c.loop-n.auto.n-index-end, ap length c.processors-n-items.ensures.are)) c.loop-n.invariant.run ended.words_are ended.found_are in
    findings_on g.W.Write.contents _ _ _ _ _ _ (w.findings ++ found) _ _
    (findings_then g.W.Write.contents _ _ _ _ _ _ w.findings found c.loop-n.invariant.printed (rw c.deref-2.ensures.value at c.print_findings-verdict-2.ensures))
    ((rw c.deref-3.ensures.value at c.print_shared.ensures) (forgotten w) ended.uses_are)
    all

pub returns-clause-same : goal.returns-clause-same
returns-clause-same g c =
    run_tells c.args.order.now c.loop-n.n-index c.args.machine.now c.loop-n.machine c.is_sound.ensures.processors c.is_sound.ensures.channels (omega (arith, c.loop-n-test.false, c.loop-n.auto.n-index-end, ap length c.processors-n-items.ensures.are)) c.loop-n.invariant.run
    c.in-Ok-find_unsettled.ensures.turns

pub returns-clause-no_race : goal.returns-clause-no_race
returns-clause-no_race g c =
    run_is_free c.args.order.now c.loop-n.n-index c.args.machine.now c.loop-n.machine c.is_sound.ensures.processors c.is_sound.ensures.channels
    (omega (arith, c.loop-n-test.false, c.loop-n.auto.n-index-end, ap length c.processors-n-items.ensures.are)) c.loop-n.invariant.run

pub returns-in_default-clause-of_steps : goal.returns-in_default-clause-of_steps
returns-in_default-clause-of_steps g c = λ is. never_so_far (take c.loop-n.n-index c.args.order.now) c.args.machine.now (sym (c.loop-n.invariant.printed.verdict [] refl) ∙ is)

pub returns-in_default-step-clause-of_steps : goal.returns-in_default-step-clause-of_steps
returns-in_default-step-clause-of_steps g c = λ is. never_so_far (take c.loop-n.n-index c.args.order.now) c.args.machine.now (sym (c.loop-n.invariant.printed.verdict [] refl) ∙ is)

pub returns-in_default-find_unsettled-clause-of_steps : goal.returns-in_default-find_unsettled-clause-of_steps
returns-in_default-find_unsettled-clause-of_steps g c = λ is. never_so_far (take c.loop-n.n-index c.args.order.now) c.args.machine.now (sym (c.loop-n.invariant.printed.verdict [] refl) ∙ is)

pub returns-in_default-clause-cut : goal.returns-in_default-clause-cut
returns-in_default-clause-cut g c = (c.loop-n.n-index, omega (arith, c.loop-n-test.true, ap length c.processors-n-items.ensures.are), c.loop-n.invariant.run.ran)

pub returns-in_default-step-clause-cut : goal.returns-in_default-step-clause-cut
returns-in_default-step-clause-cut g c = (c.loop-n.n-index, omega (arith, c.loop-n-test.true, ap length c.processors-n-items.ensures.are), c.in_default-step.ensures.step.unchanged_after_memory ∙ c.loop-n.invariant.run.ran)

pub returns-in_default-find_unsettled-clause-cut : goal.returns-in_default-find_unsettled-clause-cut
returns-in_default-find_unsettled-clause-cut g c = (c.loop-n.n-index, omega (arith, c.loop-n.auto.n-index-end, ap length c.processors-n-items.ensures.are), c.loop-n.invariant.run.ran)
