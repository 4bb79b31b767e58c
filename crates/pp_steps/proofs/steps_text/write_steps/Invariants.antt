use Rattle.std.proofs.Common.{◌≡◌, ℕ, List, take}
use Rattle.pp_machine.specs.Run.{run}
use Rattle.pp_text.specs.TextWriter.{Prints}
use Rattle.pp_run.specs.BareMachine.{StandsFor}
use Rattle.pp_steps.specs.Choice.{chosen_steps}
use Rattle.pp_steps.specs.Cursor.{each_cursor}
use Rattle.pp_steps.proofs.ChosenSteps.{chosen_from}
use Rattle.pp_steps.proofs.StepLawLemmas.{IsSoFar}
use Rattle.pp_steps.proofs.steps_text.write_steps.Given as goal

abbrev pub invariant-loop-n : goal.invariant-loop-n
invariant-loop-n g l =
    let order = l.fn.order in
    let m = l.fn.machine in
    let past = chosen_steps l.fn.choice (take l.n-index order) m in
    let future = chosen_from l.fn.choice order l.n-index m in
    record {
      before : StandsFor l.before (run (take l.n-index order) m);
      after : StandsFor l.after (run (take l.n-index order) m);
      followed : l.cursors ≡ each_cursor past;
      printed : (text : List ℕ) × Prints g.W.Write.contents l.initial.text l.text text × IsSoFar (chosen_steps l.fn.choice order m) past future text;
    }
