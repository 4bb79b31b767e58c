-- How the steps of a run find their processors.
use Rattle.std.specs.Prelude.{ℕ, ◌-◌, Bool, nat_le, List, fold, map, Option, None, Some, if◌then◌else◌}
use Rattle.std.specs.List.{filter}
use Rattle.pp_numbers.specs.PpNo.{each_processor, processor_count}
use Rattle.pp_numbers.specs.declared.window.Window.{Window}
use Rattle.pp_machine.specs.MachineState.{MachineState, processor_of}
use Rattle.pp_machine.specs.MachineStep.{step_outcome}
use Rattle.pp_processor.specs.NeedAndEffect.{need}
use Rattle.pp_processor.specs.declared.{block.Block.Block, need.Need.Need, outcome.Outcome.Outcome, pp_state.PpState.PpState}
use Rattle.pp_run.specs.RunSteps.{RunStep, run_steps, seen_of}
use Rattle.pp_draw.specs.declared.condition.Condition.TheVariants.{Running, InBlock, HeldBy, Stopped, Faulted}
use Rattle.pp_draw.specs.declared.{condition.Condition.Condition, seen_step.Found.Found, seen_step.SeenStep.SeenStep}

-- by its state: one that runs is held by the channel that it needs, or else in a block or not
abbrev pub condition_by : PpState → Outcome → Need → Option Block → Condition
condition_by PpState.Stopped outcome need block = Stopped
condition_by (PpState.Fault number) outcome need block = Faulted
condition_by PpState.Running Outcome.Held (Need.Channel c operation) block = HeldBy c
condition_by PpState.Running outcome need (Some block) = InBlock
condition_by PpState.Running outcome need None = Running

-- what is noted before a step of a run
abbrev pub found_in : RunStep → Found
found_in step =
    let pp = processor_of step.processor step.before in
    record { turn = step.before.turns; state = pp.state; need = need pp; block = pp.block }

-- how a step of a run finds its processor
abbrev pub seen : RunStep → SeenStep
seen step =
    let pp = processor_of step.processor step.before in
    let outcome = step_outcome step.processor step.before in
    let condition = condition_by pp.state outcome (need pp) pp.block in
    record { turn = step.before.turns; pp = step.processor; condition = condition }

-- whether a step is shown: of a turn in the window, which the run does not go past, or in the round
-- before it, whose steps say how the processors stand where the window begins
abbrev pub is_shown : Window → SeenStep → Bool
is_shown w step = nat_le (w.from - processor_count) step.turn

-- of the steps of one processor the last before the window, unless it is shown: in an order it may
-- be long before the round
abbrev pub earlier_with : Window → Option SeenStep → SeenStep → Option SeenStep
earlier_with w last step =
    if nat_le w.from step.turn then last else if is_shown w step then None else Some step

abbrev pub earlier : Window → List SeenStep → Option SeenStep
earlier w steps = fold (earlier_with w) None steps

-- that of each processor, in the order of the barrel, in a run of a machine to the window's end
abbrev pub earlier_steps : Window → List ℕ → MachineState → List (Option SeenStep)
earlier_steps w steps m = each_processor (λ n. earlier w (seen_of seen n (run_steps steps m)))

-- the steps that are shown, of a run of a machine to the end of the window
abbrev pub seen_in_window : Window → List ℕ → MachineState → List SeenStep
seen_in_window w steps m = filter (is_shown w) (map seen (run_steps steps m))
