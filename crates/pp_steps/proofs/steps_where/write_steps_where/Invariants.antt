use Rattle.std.proofs.Common.{ℕ, List, take}
use Rattle.pp_machine.specs.Run.{run}
use Rattle.pp_text.specs.TextWriter.{Prints}
use Rattle.pp_run.specs.BareMachine.{StandsFor}
use Rattle.pp_steps.specs.Choice.{chosen_steps}
use Rattle.pp_steps.specs.StepsWhere.{HasLinesWhere}
use Rattle.pp_steps.proofs.steps_where.write_steps_where.Given as goal

abbrev pub invariant-loop-n : goal.invariant-loop-n
invariant-loop-n g l =
    let order = l.fn.order in
    let m = l.fn.machine in
    record {
      before : StandsFor l.before (run (take l.n-index order) m);
      after : StandsFor l.after (run (take l.n-index order) m);
      watched : StandsFor l.watched (run (take l.n-index order) m);
      printed : (text : List ℕ) × Prints g.W.Write.contents l.initial.text l.text text × HasLinesWhere l.fn.condition (chosen_steps l.fn.choice (take l.n-index order) m) text;
    }
