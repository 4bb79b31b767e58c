use Rattle.std.proofs.Common.{◌≡◌, false, take}
use Rattle.pp_lint.specs.ChannelUse.{is_alone}
use Rattle.pp_lint.proofs.channel_use.is_alone.Given as goal

abbrev pub invariant-loop-one : goal.invariant-loop-one
invariant-loop-one l = is_alone (take l.one-index l.uses) l.n l.c ≡ false
