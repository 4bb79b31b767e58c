use Rattle.std.proofs.Common.{[], rules}
use Rattle.pp_text.proofs.PrintingLemmas.{◌▹◌}
use Rattle.pp_text.specs.TextWriter.{Prints}
use Rattle.pp_check.specs.Verdict.{verdict_line}
use Rattle.pp_check.proofs.verdict.write_verdict.Goals as goal

pub returns : goal.returns
unfolding verdict_line
returns g c =
    let printed : Prints _ _ _ (verdict_line c.args.verdict.now) = c.print.ensures ▹ c.print_short_decimal.ensures ▹ c.print-2.ensures ▹ c.print_short_decimal-2.ensures ▹ c.print-3.ensures ▹ c.print_short_decimal-3.ensures ▹ c.print-4.ensures ▹ c.print-5.ensures in
    let written = c.finish.ensures.written _ _ (printed.goes_on _ [] c.new-text.ensures.nothing) in
    search (rules, written)
