use Rattle.std.proofs.Common.{◌≡◌, true, false, arith, sym}
use Rattle.std.specs.Prelude.{◌&&◌, nat_le}
use Rattle.pp_lint.proofs.FindingLemmas.{stated_is, stated_none, stated_out}
use Rattle.pp_lint.proofs.lint_text.central_size.Goals as goal

pub returns-in_default : goal.returns-in_default
returns-in_default c = stated_none _ (sym c.in_default.ensures)

pub returns-then-not-contains : goal.returns-then-not-contains
returns-then-not-contains c =
    let out : (nat_le 1 c.in-Some.n && nat_le c.in-Some.n 0o400000) ≡ false = grind (arith, c.if-not-contains.ensures, c.new.ensures) in
    stated_out _ c.in-Some.n (sym c.in-Some.ensures) out

pub returns : goal.returns
returns c =
    let within : (nat_le 1 c.in-Some.n && nat_le c.in-Some.n 0o400000) ≡ true = grind (arith, c.if-not-contains.ensures, c.new.ensures) in
    stated_is _ c.in-Some.n (sym c.in-Some.ensures) within
