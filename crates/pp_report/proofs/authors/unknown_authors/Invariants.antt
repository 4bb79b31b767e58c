use Rattle.std.proofs.Common.{◌≡◌, map, take}
use Rattle.pp_report.specs.Authors.{no_authors}
use Rattle.pp_report.proofs.authors.unknown_authors.Given as goal

abbrev pub invariant-loop-channel : goal.invariant-loop-channel
invariant-loop-channel g l = l.authors.items ≡ map no_authors (take l.channel-index l.channels)
