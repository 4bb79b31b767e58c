use Rattle.std.proofs.Common.{◌≡◌, true, false, arith}
use Rattle.std.specs.Prelude.{◌&&◌, nat_le}
use Rattle.pp_deck.specs.DeckLine.{central_size}
use Rattle.pp_lint.proofs.FaultOfLineLemmas.{central_begins, central_out, central_read, number_read}
use Rattle.pp_lint.proofs.line_fault.central_fault.Goals as goal

pub returns-in-Err : goal.returns-in-Err
returns-in-Err c = c.in-Err.ensures.fault _ central_begins

pub returns-then-not-contains : goal.returns-then-not-contains
returns-then-not-contains c =
    let read = c.in-Ok.ensures.ok in
    let out : (nat_le 1 c.in-Ok.n && nat_le c.in-Ok.n 0o400000) ≡ false = grind (arith, c.if-not-contains.ensures, c.new.ensures) in
    central_out _ read.0 _ c.in-Ok.n read.1.0 read.1.1 out

pub returns : goal.returns
returns c =
    let read = c.in-Ok.ensures.ok in
    let within : (nat_le 1 c.in-Ok.n && nat_le c.in-Ok.n 0o400000) ≡ true = grind (arith, c.if-not-contains.ensures, c.new.ensures) in
    number_read _ _ _ read.0 _ c.end_fault.result read.1.0 (λ more. central_read read.0 more c.in-Ok.n read.1.1 within) (c.end_fault.ensures (central_size c.in-Ok.n))
