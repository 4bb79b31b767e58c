use Rattle.std.proofs.Common.{◌≡◌}
use Rattle.std.specs.Prelude.{filter_map, option_to_list}
use Rattle.pp_numbers.specs.PpNo.{processor_number}
use Rattle.pp_numbers.specs.Tables.{tabulate}
use Rattle.pp_lint.specs.ChannelUse.{user}
use Rattle.pp_lint.proofs.channel_use.alone_use.Given as goal

abbrev pub invariant-loop-place : goal.invariant-loop-place
invariant-loop-place g l = filter_map (user (record { machine = l.deck.machine; named = l.deck.named }) l.c) (tabulate l.place processor_number) ≡ option_to_list l.found
