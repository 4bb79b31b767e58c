use Rattle.std.proofs.Common.{arith}
use Rattle.std.proofs.lemmas.Bool.Decides.{leb_tells}
use Rattle.std.proofs.lemmas.List.{get_or_past}
use Rattle.pp_numbers.proofs.TableLemmas.{length-tabulate, get_or-tabulate}
use Rattle.pp_numbers.proofs.ProfileLemmas.{has_at}
use Rattle.std.proofs.lemmas.Bool.{le-ltb}
use Rattle.pp_deck.proofs.reading.Reading.into_deck.Goals as goal

pub dead_start-requires : goal.dead_start-requires
dead_start-requires g c = grind (arith, leb_tells, get_or_past, length-tabulate, get_or-tabulate, has_at, le-ltb)
