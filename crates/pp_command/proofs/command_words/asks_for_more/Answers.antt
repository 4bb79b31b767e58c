use Rattle.std.proofs.Common.{rules, arith}
use Rattle.pp_command.proofs.CommandLemmas.{no_fit}
use Rattle.pp_command.proofs.command_words.asks_for_more.Goals as goal

pub returns-then-matches : goal.returns-then-matches
returns-then-matches g c = grind (arith, rules, no_fit)
