use Rattle.std.proofs.Common.{◌≡◌, arith}
use Rattle.pp_numbers.specs.Tables.{tabulate}
use Rattle.pp_numbers.specs.PpNo.{all_processors, processor_count, processor_number}
use Rattle.pp_text.proofs.PrintingLemmas.{prints_nothing, prints_on, walk_more}
use Rattle.pp_state.specs.StateText.{standing_line}
use Rattle.pp_test.proofs.machine_lines.print_standings.Goals as goal

pub loop-place-init : goal.loop-place-init
unfolding tabulate
loop-place-init g c = prints_nothing _ _

pub loop-place-preserved : goal.loop-place-preserved
loop-place-preserved g c =
    prints_on _ _ _ _ _ _ _ c.loop-place.invariant (rw c.at.ensures.number at c.print_shown_standing.ensures)
    (walk_more (standing_line c.args.shown.now c.args.machine.now c.args.counts.now) processor_number c.loop-place.place)

pub returns : goal.returns
unfolding all_processors
returns g c = let all : c.loop-place.place ≡ processor_count = omega arith in rw all at c.loop-place.invariant
