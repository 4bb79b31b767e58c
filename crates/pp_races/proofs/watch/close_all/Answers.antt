use Rattle.std.proofs.Common.{ℕ, IsTrue, subst, arith}
use Rattle.pp_numbers.specs.ChannelNo.{names_channel}
use Rattle.pp_numbers.specs.PpNo.{processor_places}
use Rattle.pp_races.proofs.CloseLemmas.{closed_more, closed_none, found_more}
use Rattle.pp_races.proofs.EndLemmas.{each_none}
use Rattle.pp_races.proofs.watch.close_all.Goals as goal

pub loop-place-init : goal.loop-place-init
loop-place-init g c = grind (arith, closed_none, each_none)

pub loop-place-preserved : goal.loop-place-preserved
loop-place-preserved g c = record {
  closed = closed_more c.args.made.now c.args.after c.args.looks.now c.loop-place.looks c.close_looks.new.looks c.loop-place.place c.at.result (subst (λ (k : ℕ). IsTrue (names_channel k)) c.get-channel.ensures.value c.get-channel.ensures.names) c.loop-place-test.true c.at.ensures.number
      c.loop-place.invariant.closed c.in_ok-close_looks.ensures.looks c.close_looks.auto.looks;
  found = found_more c.args.made.now c.args.after c.args.looks.now c.loop-place.looks c.loop-place.place c.at.result c.args.findings.now.items c.loop-place.findings.items c.close_looks.new.findings.items
      c.loop-place-test.true c.at.ensures.number c.loop-place.invariant.closed c.loop-place.invariant.found c.in_ok-close_looks.ensures.findings;
}

pub returns-clause-looks : goal.returns-clause-looks
returns-clause-looks g c = record {
  here = λ q named. c.loop-place.invariant.closed.below q named (omega (arith, processor_places.place_below q named));
  elsewhere = c.loop-place.invariant.closed.elsewhere;
}

pub returns-clause-findings : goal.returns-clause-findings
returns-clause-findings g c = grind arith
