use Rattle.std.proofs.Common.{rules, ap, subst, ◌∙◌}
use Rattle.pp_channel.specs.Answer.{flags_of}
use Rattle.pp_text.specs.TextWriter.{Prints}
use Rattle.pp_text.proofs.TextLemmas.{held_is}
use Rattle.pp_text.proofs.standing.print_held.Goals as goal

pub returns-in-Channel : goal.returns-in-Channel
returns-in-Channel g c =
    subst (Prints _ _ _) (held_is c.args.n c.in-Channel.c c.in-Channel.operation c.args.machine.now c.args.count c.flags.result (search rules) (c.is_held.ensures.0 c.if-is_held.true)
    (c.flags.ensures ∙ ap flags_of c.channel.ensures.value))
    c.print_held_text.ensures
