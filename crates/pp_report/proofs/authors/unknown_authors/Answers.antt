use Rattle.std.proofs.Common.{◌<◌, [], ◌∷◌, ◌++◌, length, sym, ap, ◌∙◌, arith}
use Rattle.std.proofs.lemmas.List.{map_more, take_all}
use Rattle.pp_report.specs.Authors.{no_authors}
use Rattle.pp_report.proofs.authors.unknown_authors.Goals as goal

pub loop-channel-init : goal.loop-channel-init
loop-channel-init g c = c.in_ok-authors.ensures.items

pub loop-channel-preserved : goal.loop-channel-preserved
loop-channel-preserved g c =
    let place = c.loop-channel.channel-index in
    let below : place < length c.args.channels.now = omega (arith, c.loop-channel-test.true, c.type_inv.channels) in
    let made = c.in_ok-unknown.ensures ∙ ap no_authors c.history.ensures.value in
    c.in_ok-push.ensures.items ∙ ((λ j. c.loop-channel.invariant j ++ made j ∷ []) ∙ sym (map_more no_authors c.args.channels.now place c.channel-item.result below))

pub returns : goal.returns
returns g c = grind (arith, take_all)
