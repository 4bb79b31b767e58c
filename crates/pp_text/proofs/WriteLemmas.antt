-- What successive writes do to known bytes.
use Rattle.std.proofs.Common.{ℕ, ◌+◌, List, ◌++◌, length, take, Option, Result, length-append, arith}
use Rattle.std.specs.Io.KnownBytes.{Appends, Keeps}
use Rattle.std.proofs.KnownBytes.{Appends-trans}
use Rattle.std.proofs.Math.Seq.{take-append-add}
use Rattle.std.proofs.lemmas.List.{take_all}
use Rattle.pp_text.specs.Written.{AppendsFront, IsWritten}

-- all of a text is written, whatever comes of flushing
pub flushed : {E : Type 0} (r : Result (Unit {0}) E) (a b c : Option (List ℕ)) (xs : List ℕ) → Appends a b xs → Keeps b c → IsWritten xs r a c
flushed r a b c xs h k = grind (arith, take_all)

-- some bytes were written, and then a front of some more
pub front_then : (a b c : Option (List ℕ)) (xs ys : List ℕ) → Appends a b xs → AppendsFront b c ys → AppendsFront a c (xs ++ ys)
front_then a b c xs ys h (count, within, k) =
    (length xs + count, omega (arith, within, length-append xs ys), rw (take-append-add xs ys count) (Appends-trans a b c xs (take count ys) h k))
