use Rattle.std.proofs.Common.{◌<◌, arith, sym}
use Rattle.pp_text.proofs.PrintingLemmas.{prints_on}
use Rattle.pp_text.proofs.TextLemmas.{unpadded_more}
use Rattle.pp_text.proofs.numbers.+print_unpadded.Goals as goal

pub returns : goal.returns
returns g t c =
    let some : 0 < c.args.most = omega arith in
    prints_on _ _ _ _ _ _ _ c.print_unpadded.ensures c.print.ensures (sym (unpadded_more c.args.most c.args.n some c.if-n-eq0.false))
