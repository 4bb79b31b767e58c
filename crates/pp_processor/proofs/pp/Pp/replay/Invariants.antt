use Rattle.std.proofs.Common.{◌≡◌, ◌+◌, drop}
use Rattle.pp_processor.specs.Replay.{replayed, given_count}
use Rattle.pp_processor.specs.Processor.{IsAtRest}
use Rattle.pp_processor.proofs.pp.Pp.replay.Given as goal

abbrev pub invariant-loop-i : goal.invariant-loop-i
invariant-loop-i l = record {
  ends : replayed l.self (drop l.i l.answers) ≡ replayed l.fn.self l.answers;
  counts : given_count l.self (drop l.i l.answers) + l.i ≡ given_count l.fn.self l.answers;
  rests : IsAtRest l.fn.self → l.self ≡ l.fn.self;
}
