use Rattle.std.proofs.Common.{◌∙◌}
use Rattle.pp_run.specs.RunSteps.{outcome_of, run_steps, seen_of}
use Rattle.pp_run.proofs.RunStepLemmas.{length-seen}
use Rattle.pp_sessions.proofs.CountLemmas.{three_counts}
use Rattle.pp_sessions.proofs.laws.counts_law.Goals as goal

pub returns : goal.returns
returns c = λ n steps m. three_counts (seen_of outcome_of n (run_steps steps m)) ∙ length-seen outcome_of n steps m
