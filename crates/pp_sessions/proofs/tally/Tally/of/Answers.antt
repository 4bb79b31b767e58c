use Rattle.std.proofs.Common.{◌∙◌}
use Rattle.pp_sessions.proofs.TallyLemmas.{tally_alone}
use Rattle.pp_sessions.proofs.tally.Tally.of.Goals as goal

pub returns-clause-tally : goal.returns-clause-tally
returns-clause-tally c = c.with.ensures.tally ∙ rw c.begins_session.ensures (tally_alone c.args.event.now)
