-- How long each worker of a run runs.
use Rattle.std.specs.Prelude.{ℕ, ◌≤◌}

-- the steps that a worker makes at most, and how often in a row it is held before it gives up
pub record RunLimits : Type 0 where
  pub steps : ℕ
  pub patience : ℕ

-- 1 to 100,000 steps (decimal), and some patience
pub record AreLimits (l : RunLimits) : Type 0 where
  pub some_steps : 1 ≤ l.steps
  pub most_steps : l.steps ≤ 100000
  pub some_patience : 1 ≤ l.patience
