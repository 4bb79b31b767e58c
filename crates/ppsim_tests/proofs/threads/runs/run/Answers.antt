use Rattle.ppsim_tests.proofs.threads.runs.run.Goals as goal

pub run_threads-requires-sync-R : goal.run_threads-requires-sync-R
run_threads-requires-sync-R g c κs within = c.type_bounds.sync-R

pub run_threads-requires-sync-G : goal.run_threads-requires-sync-G
run_threads-requires-sync-G g c κs within = c.type_bounds.sync-G
