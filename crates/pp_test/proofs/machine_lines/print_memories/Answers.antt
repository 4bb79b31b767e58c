use Rattle.std.proofs.Common.{◌≡◌, arith}
use Rattle.pp_numbers.specs.Tables.{tabulate}
use Rattle.pp_numbers.specs.PpNo.{all_processors, processor_count, processor_number}
use Rattle.pp_text.proofs.PrintingLemmas.{prints_nothing, prints_on, walk_more}
use Rattle.pp_test.specs.RunLines.{place_lines}
use Rattle.pp_test.proofs.machine_lines.print_memories.Goals as goal

pub loop-place-init : goal.loop-place-init
unfolding tabulate
loop-place-init g c = prints_nothing _ _

pub loop-place-preserved : goal.loop-place-preserved
loop-place-preserved g c =
    prints_on _ _ _ _ _ _ _ c.loop-place.invariant (rw c.at.ensures.number at c.print_shown_memory.ensures)
    (walk_more (place_lines c.args.shown.now c.args.machine.now) processor_number c.loop-place.place)

pub returns : goal.returns
unfolding all_processors
returns g c = let all : c.loop-place.place ≡ processor_count = omega arith in rw all at c.loop-place.invariant
