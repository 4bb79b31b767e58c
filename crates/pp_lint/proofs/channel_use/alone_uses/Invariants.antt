use Rattle.std.proofs.Common.{◌≡◌}
use Rattle.std.specs.Prelude.{filter_map}
use Rattle.pp_numbers.specs.ChannelNo.{channel_number}
use Rattle.pp_numbers.specs.Tables.{tabulate}
use Rattle.pp_lint.specs.ChannelUse.{alone_use}
use Rattle.pp_lint.proofs.channel_use.alone_uses.Given as goal

abbrev pub invariant-loop-place : goal.invariant-loop-place
invariant-loop-place g l = l.uses.items ≡ filter_map (alone_use (record { machine = l.deck.machine; named = l.deck.named })) (tabulate l.place channel_number)
