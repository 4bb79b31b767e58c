use Rattle.pp_ends.proofs.RepeatLemmas.{repeats_on}
use Rattle.pp_ends.proofs.OneEnding.{one_ending}
use Rattle.pp_ends.proofs.FinalEnding.{final_ending}
use Rattle.pp_ends.proofs.laws.ends_law.Goals as goal

pub returns-clause-repeats : goal.returns-clause-repeats
returns-clause-repeats c = repeats_on

pub returns-clause-one : goal.returns-clause-one
returns-clause-one c = one_ending

pub returns-clause-lasts : goal.returns-clause-lasts
returns-clause-lasts c = final_ending
