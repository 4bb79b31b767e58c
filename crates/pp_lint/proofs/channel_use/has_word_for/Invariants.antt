use Rattle.std.proofs.Common.{◌≡◌, ◌<◌, false, length, take}
use Rattle.std.specs.List.{list_any}
use Rattle.pp_word.specs.Address.{place_count}
use Rattle.pp_lint.specs.ChannelUse.{is_for}
use Rattle.pp_lint.proofs.channel_use.has_word_for.Given as goal

abbrev pub invariant-loop-place : goal.invariant-loop-place
invariant-loop-place l = record {
  long : 0 < l.place → length l.pp.memory ≡ place_count;
  none : list_any (is_for l.profile l.c) (take l.place l.pp.memory) ≡ false;
}
