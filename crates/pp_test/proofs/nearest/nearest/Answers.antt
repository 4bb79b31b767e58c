use Rattle.std.proofs.Common.{sym, ◌∙◌}
use Rattle.pp_test.proofs.NearestLemmas.{nearest_first, nearest_none}
use Rattle.pp_test.proofs.nearest.nearest.Goals as goal

pub returns-in_default : goal.returns-in_default
returns-in_default c = nearest_none _ _ (sym c.of-lines.ensures ∙ c.in_default.ensures.none)

pub loop-line-init : goal.loop-line-init
loop-line-init c = record {
  left = nearest_first _ _ c.in-Some.first.now c.next_line.new.self (sym c.of-lines.ensures ∙ c.in-Some.ensures.taken);
  most = c.in_common-most.ensures;
}
