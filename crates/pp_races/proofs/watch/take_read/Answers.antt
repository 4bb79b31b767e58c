use Rattle.std.proofs.Common.{◌<◌, length, ap, ◌∙◌, arith}
use Rattle.std.proofs.lemmas.List.{length-set}
use Rattle.pp_races.specs.Tables.{has_bit}
use Rattle.pp_races.proofs.UseLemmas.{bits_marked, writers_kept}
use Rattle.pp_races.proofs.watch.take_read.Goals as goal

pub returns-then-place-uses : goal.returns-then-place-uses
returns-then-place-uses c = λ m w are b low.
    let table = c.args.uses.now in
    let below : b < length table = omega (arith, low, length-set table c.get-place.result c.read_by.result) in
    record {
      wrote = λ q named. ap (λ k. has_bit k q) (writers_kept table c.get-place.result c.read_by.result c.if-place-uses.true c.read_by.ensures.writers b) ∙ (are b below).wrote q named;
      used = bits_marked (λ u. u.users) w.used table _ _ _ _ c.get-place.ensures.value c.if-place-uses.true (λ d h. (are d h).used) c.read_by.ensures.users b below;
    }
