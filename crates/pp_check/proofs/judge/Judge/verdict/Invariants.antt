use Rattle.std.proofs.Common.{◌≡◌, ◌+◌, take}
use Rattle.std.specs.Prelude.{count_by}
use Rattle.pp_check.proofs.VerdictLemmas.{is_told, was_open}
use Rattle.pp_check.proofs.judge.Judge.verdict.Given as goal

abbrev pub invariant-loop-tally : goal.invariant-loop-tally
invariant-loop-tally l = record {
  channels : l.channels ≡ count_by is_told (take l.tally-index l.self.channels);
  sessions : l.sessions ≡ l.self.sessions + count_by was_open (take l.tally-index l.self.channels);
}
