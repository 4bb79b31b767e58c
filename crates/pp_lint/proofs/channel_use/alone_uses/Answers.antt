use Rattle.std.proofs.Common.{◌≡◌, ap, arith, sym, ◌∙◌}
use Rattle.std.specs.Prelude.{filter_map}
use Rattle.pp_numbers.specs.ChannelNo.{all_channels, channel_count, channel_number}
use Rattle.pp_numbers.specs.Tables.{tabulate}
use Rattle.pp_lint.specs.ChannelUse.{alone_use, alone_uses}
use Rattle.pp_lint.proofs.ChannelUseLemmas.{none_here, none_yet, one_here}
use Rattle.pp_lint.proofs.channel_use.alone_uses.Goals.{in-Some+in_ok-push, in_default}
use Rattle.pp_lint.proofs.channel_use.alone_uses.Goals as goal

pub loop-place-init : goal.loop-place-init
loop-place-init g c = c.new-uses.ensures.items ∙ sym (none_yet _ channel_number)

pub loop-place-preserved : goal.loop-place-preserved
loop-place-preserved g c =
    let of = alone_use (record { machine = c.args.deck.now.machine; named = c.args.deck.now.named }) in
    let so_far = c.loop-place.uses.items in
    elim c.match-alone_use.branch [
      | in-Some+in_ok-push w ↦ rw w.uses-is (w.in_ok-push.ensures.items ∙ sym (one_here of channel_number c.loop-place.place so_far w.in-Some.alone (sym c.loop-place.invariant) (w.in-Some.ensures ∙ ap of c.at.ensures.number)))
      | in_default w ↦ rw w.uses-is (sym (none_here of channel_number c.loop-place.place so_far (sym c.loop-place.invariant) (w.in_default.ensures ∙ ap of c.at.ensures.number)))
    ]

pub returns : goal.returns
unfolding all_channels alone_uses
returns g c =
    let of = alone_use (record { machine = c.args.deck.now.machine; named = c.args.deck.now.named }) in
    let all : c.loop-place.place ≡ channel_count = omega (arith, c.loop-place.auto.place-end, c.loop-place-test.false) in
    c.loop-place.invariant ∙ ap (λ k. filter_map of (tabulate k channel_number)) all
