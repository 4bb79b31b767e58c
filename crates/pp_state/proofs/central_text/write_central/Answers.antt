use Rattle.std.proofs.Common.{[], rules}
use Rattle.pp_state.specs.CentralText.{central_text}
use Rattle.pp_state.proofs.central_text.write_central.Goals as goal

pub returns : goal.returns
unfolding central_text
returns g c =
    let written = c.finish.ensures.written _ _ ((rw c.size.ensures.value at c.print_each_below.ensures).goes_on _ [] c.new-text.ensures.nothing) in
    search (rules, written)
