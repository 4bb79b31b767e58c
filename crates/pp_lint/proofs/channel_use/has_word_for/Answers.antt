use Rattle.std.proofs.Common.{arith, sym, ◌∙◌}
use Rattle.pp_lint.specs.ChannelUse.{is_for}
use Rattle.pp_lint.proofs.ChannelUseLemmas.{none_among, none_among_more, one_among}
use Rattle.pp_lint.proofs.channel_use.has_word_for.Goals as goal

pub returns-then-is_for : goal.returns-then-is_for
returns-then-is_for c =
    one_among (is_for c.args.profile c.args.c) c.args.pp.now.memory c.loop-place.place c.truncated.result c.get.result c.get.ensures.widths.memory.each_place c.loop-place-test.true c.truncated.ensures c.get.ensures.value
    (sym c.if-is_for.true ∙ c.is_for.ensures)

pub loop-place-preserved : goal.loop-place-preserved
loop-place-preserved c = record {
  long = λ h. c.get.ensures.widths.memory.each_place;
  none = none_among_more (is_for c.args.profile c.args.c) c.args.pp.now.memory c.loop-place.place c.truncated.result c.get.result c.get.ensures.widths.memory.each_place c.loop-place-test.true c.truncated.ensures c.get.ensures.value
      c.loop-place.invariant.none (sym c.if-is_for.false ∙ c.is_for.ensures);
}

pub returns : goal.returns
returns c =
    none_among (is_for c.args.profile c.args.c) c.args.pp.now.memory c.loop-place.place
    (let long = c.loop-place.invariant.long (omega (arith, c.loop-place-test.false)) in omega (arith, long, c.loop-place-test.false)) c.loop-place.invariant.none
