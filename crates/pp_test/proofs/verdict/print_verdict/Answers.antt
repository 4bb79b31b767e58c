use Rattle.pp_text.proofs.PrintingLemmas.{◌▹◌}
use Rattle.pp_test.specs.Verdict.{verdict}
use Rattle.pp_test.proofs.verdict.print_verdict.Goals as goal

pub returns-clause-prints : goal.returns-clause-prints
unfolding verdict
returns-clause-prints g c =
    let tally = c.print_failures-tally.ensures in
    tally.prints ▹ (rw (tally.all, tally.failed) at c.print_last_words.ensures) ▹ c.print.ensures
