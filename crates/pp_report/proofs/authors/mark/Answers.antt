use Rattle.std.proofs.Common.{subst, List}
use Rattle.std.specs.Prelude.{nat_lt}
use Rattle.std.proofs.lemmas.List.{take_all}
use Rattle.pp_line.specs.Merge.{times_logged}
use Rattle.pp_report.specs.Types.{Entry}
use Rattle.pp_report.specs.Authors.{AreMarked}
use Rattle.pp_report.proofs.AuthorLemmas.{marked_none, marked_more}
use Rattle.pp_report.proofs.authors.mark.Goals as goal

pub loop-entry-init : goal.loop-entry-init
loop-entry-init g c = marked_none c.args.author c.args.authors.now.items c.requires

pub loop-entry-preserved : goal.loop-entry-preserved
loop-entry-preserved g c =
    marked_more c.args.author c.args.log.now c.loop-entry.entry-index c.entry-item.result c.args.authors.now.items c.loop-entry.authors.items c.mark_entry.new.authors.items c.loop-entry-test.true c.entry-item.is c.loop-entry.invariant c.mark_entry.ensures

pub returns : goal.returns
returns g c =
    subst (λ (log : List Entry). AreMarked c.args.author (λ c' number. nat_lt 0 (times_logged c' number log)) c.args.authors.now.items c.loop-entry.authors.items) (take_all c.loop-entry.entry-index c.args.log.now c.loop-entry-test.false) c.loop-entry.invariant
