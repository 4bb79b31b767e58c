use Rattle.std.proofs.Common.{◌==◌, sym}
use Rattle.std.proofs.lemmas.Iterator.Adapters.{position_from-zero}
use Rattle.pp_command.proofs.number_list.place_of.Goals as goal

pub loop-place-init : goal.loop-place-init
loop-place-init c = sym (position_from-zero (λ other. other == c.args.byte) c.args.text.now)
