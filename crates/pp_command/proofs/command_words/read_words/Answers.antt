use Rattle.std.proofs.Common.{rules}
use Rattle.pp_command.proofs.CommandLemmas.{refused_words, taken_words}
use Rattle.pp_command.proofs.command_words.read_words.Goals as goal

pub returns-in-Err-clause-refused : goal.returns-in-Err-clause-refused
returns-in-Err-clause-refused c = refused_words _ _ c.in-Err.error _ c.in-Ok.ensures c.in-Err.ensures.kinds c.refusal.ensures

pub returns-in-Ok-try_get_matches_from-clause-taken : goal.returns-in-Ok-try_get_matches_from-clause-taken
returns-in-Ok-try_get_matches_from-clause-taken c =
    let none = taken_words _ _ c.in-Ok.ensures c.in-Ok-try_get_matches_from.ensures.kinds in
    search (rules, none)

pub returns-in-Ok-try_get_matches_from-clause-refused : goal.returns-in-Ok-try_get_matches_from-clause-refused
returns-in-Ok-try_get_matches_from-clause-refused c =
    let none = taken_words _ _ c.in-Ok.ensures c.in-Ok-try_get_matches_from.ensures.kinds in
    search (rules, none)
