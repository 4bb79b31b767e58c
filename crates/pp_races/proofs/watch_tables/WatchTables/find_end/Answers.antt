use Rattle.std.proofs.Common.{sym, ap, ◌∙◌}
use Rattle.pp_processor.specs.NeedAndEffect.{need}
use Rattle.pp_races.proofs.watch_tables.WatchTables.find_end.Goals as goal

pub returns-in-Channel-clause-found : goal.returns-in-Channel-clause-found
returns-in-Channel-clause-found g c = rw (sym (sym c.in-Channel.is ∙ c.wants.ensures.need ∙ ap need c.pp-pp.ensures)) c.find_asking.ensures
