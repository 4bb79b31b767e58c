use Rattle.pp_lint.proofs.GivenLemmas.{first_before}
use Rattle.pp_lint.proofs.lint_text.before_first.Goals as goal

pub returns : goal.returns
returns c = rw c.size_of.ensures (first_before c.args.profile _)
