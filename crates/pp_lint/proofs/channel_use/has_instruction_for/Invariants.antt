use Rattle.std.proofs.Common.{◌≡◌, length}
use Rattle.std.specs.List.{list_any}
use Rattle.pp_lint.specs.ChannelUse.{is_listed_for}
use Rattle.pp_lint.proofs.channel_use.has_instruction_for.Given as goal

abbrev pub invariant-loop-i : goal.invariant-loop-i
invariant-loop-i l = list_any (is_listed_for l.profile l.c) l.instructions ≡ list_any (is_listed_for l.profile l.c) l.fn.instructions

abbrev pub decreases-loop-i : goal.decreases-loop-i
decreases-loop-i l = length l.instructions
