use Rattle.std.proofs.Common.{arith}
use Rattle.std.proofs.lemmas.Bool.{cases_lt}
use Rattle.std.proofs.lemmas.List.{get_or_append_left, get_or_past, get_or_push}
use Rattle.pp_races.proofs.watch_tables.no_events.Goals as goal

pub loop-count-preserved : goal.loop-count-preserved
loop-count-preserved g c = record {
  as_many = omega (arith, c.in_ok-push.ensures.len, c.loop-count.invariant.as_many);
  empty = λ k. grind (arith, cases_lt, get_or_append_left, get_or_push, get_or_past);
}
