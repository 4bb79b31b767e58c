use Rattle.std.proofs.Common.{◌<◌, arith}
use Rattle.pp_text.proofs.PrintingLemmas.{prints_on}
use Rattle.pp_text.proofs.OctalLemmas.{octal_more}
use Rattle.pp_text.proofs.numbers.+print_octal.Goals as goal

pub returns : goal.returns
returns g t c =
    let some : 0 < c.args.width = omega arith in
    prints_on _ _ _ _ _ _ _ c.print_octal.ensures c.print.ensures (octal_more c.args.width c.args.n some)
