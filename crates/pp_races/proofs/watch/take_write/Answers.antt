use Rattle.std.proofs.Common.{◌<◌, length, arith}
use Rattle.std.proofs.lemmas.List.{length-set}
use Rattle.pp_races.proofs.UseLemmas.{bits_marked}
use Rattle.pp_races.proofs.watch.take_write.Goals as goal

pub returns-then-place-uses : goal.returns-then-place-uses
returns-then-place-uses c = λ word m w are b low.
    let table = c.args.uses.now in
    let below : b < length table = omega (arith, low, length-set table c.get-place.result c.written_by.result) in
    record {
      wrote = bits_marked (λ u. u.writers) w.wrote table _ _ _ _ c.get-place.ensures.value c.if-place-uses.true (λ d h. (are d h).wrote) c.written_by.ensures.writers b below;
      used = bits_marked (λ u. u.users) w.used table _ _ _ _ c.get-place.ensures.value c.if-place-uses.true (λ d h. (are d h).used) c.written_by.ensures.users b below;
    }
