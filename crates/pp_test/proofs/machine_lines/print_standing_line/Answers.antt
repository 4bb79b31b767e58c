use Rattle.std.proofs.Common.{List, ℕ, ◌++◌, ap, ◌∙◌}
use Rattle.pp_processor.specs.Processor.{Processor}
use Rattle.pp_text.specs.PrintedText.{line_end, processor_line}
use Rattle.pp_text.proofs.PrintingLemmas.{◌▹◌, prints_on}
use Rattle.pp_text.specs.Standing.{standing}
use Rattle.pp_test.proofs.machine_lines.print_standing_line.Goals as goal

pub returns : goal.returns
unfolding processor_line
returns g c =
    let stands = standing c.args.n c.args.machine.now c.args.held in
    prints_on _ _ _ _ _ _ _ (c.print.ensures ▹ c.print_standing.ensures) c.print-2.ensures
    (ap (λ (heading : List ℕ). heading ++ stands ++ line_end) c.processor_heading.ensures.text
    ∙ ap (λ (pp : Processor). processor_line c.args.n pp stands) c.pp.ensures)
