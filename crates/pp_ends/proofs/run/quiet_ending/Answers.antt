use Rattle.std.proofs.Common.{refl, ◌∙◌}
use Rattle.pp_ends.proofs.run.quiet_ending.Goals as goal

pub returns-then-is_running-clause-ending : goal.returns-then-is_running-clause-ending
returns-then-is_running-clause-ending g c =
    let are = c.processors.ensures.are ∙ c.in_ok-order.ensures in
    let at_end = c.run_to_last_move-from.ensures.ran c.args.turns c.args.machine.now are c.in_ok-bare.ensures in
    let still = c.run_to_last_move-from.ensures.still c.args.turns c.args.machine.now are c.in_ok-bare.ensures in
    record { ends = record { still = still; quiet = (c.if-not-is_quiet.ensures _ at_end).0 refl }; running = (c.if-is_running.ensures _ at_end).running refl }

pub returns-clause-ending : goal.returns-clause-ending
returns-clause-ending g c =
    let are = c.processors.ensures.are ∙ c.in_ok-order.ensures in
    let at_end = c.run_to_last_move-from.ensures.ran c.args.turns c.args.machine.now are c.in_ok-bare.ensures in
    let still = c.run_to_last_move-from.ensures.still c.args.turns c.args.machine.now are c.in_ok-bare.ensures in
    record { ends = record { still = still; quiet = (c.if-not-is_quiet.ensures _ at_end).0 refl }; at_rest = (c.if-is_running.ensures _ at_end).at_rest }
