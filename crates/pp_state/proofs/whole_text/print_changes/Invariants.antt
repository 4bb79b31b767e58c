use Rattle.std.specs.List.{flat_map}
use Rattle.pp_numbers.specs.Tables.{tabulate}
use Rattle.pp_numbers.specs.PpNo.{processor_number}
use Rattle.pp_text.specs.TextWriter.{Prints}
use Rattle.pp_machine.specs.MachineState.{MachineState}
use Rattle.pp_run.specs.BareMachine.{StandsFor}
use Rattle.pp_listing.specs.ListedLine.{deck_line}
use Rattle.pp_state.specs.Changes.{changed_section}
use Rattle.pp_state.proofs.whole_text.print_changes.Given as goal

abbrev pub invariant-loop-place : goal.invariant-loop-place
invariant-loop-place g l = (load : MachineState) → StandsFor l.before load
    → Prints g.W.Write.contents l.fn.text l.text (flat_map deck_line (flat_map (changed_section load l.after) (tabulate l.place processor_number)))
