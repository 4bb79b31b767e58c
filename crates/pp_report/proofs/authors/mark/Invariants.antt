use Rattle.std.proofs.Common.{take}
use Rattle.std.specs.Prelude.{nat_lt}
use Rattle.pp_line.specs.Merge.{times_logged}
use Rattle.pp_report.specs.Authors.{AreMarked}
use Rattle.pp_report.proofs.authors.mark.Given as goal

abbrev pub invariant-loop-entry : goal.invariant-loop-entry
invariant-loop-entry g l =
    AreMarked l.author (λ c number. nat_lt 0 (times_logged c number (take l.entry-index l.log))) l.fn.authors.items l.authors.items
