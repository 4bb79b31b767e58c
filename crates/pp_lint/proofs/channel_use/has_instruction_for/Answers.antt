use Rattle.std.proofs.Common.{ap, sym, ◌∙◌}
use Rattle.std.specs.List.{list_any}
use Rattle.pp_lint.specs.ChannelUse.{is_listed_for}
use Rattle.pp_lint.proofs.ChannelUseLemmas.{listed_here, listed_later}
use Rattle.pp_lint.proofs.channel_use.has_instruction_for.Goals as goal

pub returns-then-is_for : goal.returns-then-is_for
returns-then-is_for c =
    listed_here c.args.profile c.args.c c.in-Some.i _ _ c.in-Some.ensures.taken (sym c.if-is_for.true ∙ c.is_for.ensures) ∙ c.loop-i.invariant

pub loop-i-preserved : goal.loop-i-preserved
loop-i-preserved c =
    listed_later c.args.profile c.args.c c.in-Some.i _ _ c.in-Some.ensures.taken (sym c.if-is_for.false ∙ c.is_for.ensures) ∙ c.loop-i.invariant

pub returns : goal.returns
returns c = sym (ap (list_any (is_listed_for c.args.profile c.args.c)) c.in_default.ensures.none) ∙ c.loop-i.invariant
