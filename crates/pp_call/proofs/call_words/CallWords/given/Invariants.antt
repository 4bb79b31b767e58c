use Rattle.std.proofs.Common.{◌≡◌, drop, map}
use Rattle.pp_call.specs.CallWords.{value_among}
use Rattle.pp_call.proofs.call_words.CallWords.given.Given as goal

abbrev pub invariant-loop-name : goal.invariant-loop-name
invariant-loop-name g l = value_among (map (λ pair. (pair.0.now, pair.1.now)) (drop l.name-index l.name-items)) l.id ≡ value_among l.self.values l.id
