use Rattle.std.proofs.Common.{rules}
use Rattle.pp_report.specs.PrintedReport.{printed_report}
use Rattle.pp_text.proofs.PrintingLemmas.{prints_then}
use Rattle.pp_report.proofs.report_text.print_report.Goals as goal

pub returns-clause-fits : goal.returns-clause-fits
returns-clause-fits g c = record {
  events = c.print_events.ensures.fits c.args.report.now.ends.items c.requires.authors;
  workers = rw c.as_slice.ensures.value at c.print_each_named.ensures.fits;
  channels = c.print_each_channel.ensures.fits;
}

pub returns-clause-written : goal.returns-clause-written
unfolding printed_report
returns-clause-written g c =
    let events = c.print_events.ensures.text c.args.report.now.ends.items c.requires.authors in
    let workers = rw c.as_slice.ensures.value at c.print_each_named.ensures.text in
    let all = prints_then _ _ _ _ _ _ (prints_then _ _ _ _ _ _ events workers) c.print_each_channel.ensures.text in
    let written = c.finish.ensures.written _ _ (all.goes_on _ _ c.new-text.ensures.nothing) in
    search (rules, written)
