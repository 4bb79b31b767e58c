use Rattle.std.proofs.Common.{length, sym, ◌∙◌}
use Rattle.std.proofs.lemmas.Bool.{eqb-true}
use Rattle.std.proofs.lemmas.List.{nil_from_length}
use Rattle.ppsim_tests.proofs.refusals.threads.run_machine.Goals as goal

pub run_threads-requires-send-A : goal.run_threads-requires-send-A
run_threads-requires-send-A g c κs within = c.type_bounds.send-A

pub run_threads-requires-sync-R : goal.run_threads-requires-sync-R
run_threads-requires-sync-R g c κs within = c.type_bounds.sync-R

pub run_threads-requires-sync-G : goal.run_threads-requires-sync-G
run_threads-requires-sync-G g c κs within = c.type_bounds.sync-G

pub run_threads-requires-sync-A : goal.run_threads-requires-sync-A
run_threads-requires-sync-A g c κs within = c.type_bounds.sync-A

pub run_threads-requires-frees-A-Allocator : goal.run_threads-requires-frees-A-Allocator
run_threads-requires-frees-A-Allocator g c κs within = c.type_bounds.frees-A-Allocator

pub run_threads-requires-after_bounds : goal.run_threads-requires-after_bounds
run_threads-requires-after_bounds g c κs within =
    let is_zero = eqb-true (length c.events.result.now) 0 (sym c.is_empty.ensures ∙ c.if-not-is_empty.false) in
    (c.requires, sym c.events.ensures ∙ nil_from_length c.events.result.now is_zero)
