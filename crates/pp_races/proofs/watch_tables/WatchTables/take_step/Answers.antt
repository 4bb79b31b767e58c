use Rattle.std.proofs.Common.{List, length, sym, subst, ap, ◌∙◌}
use Rattle.std.proofs.lemmas.List.{with_items_is}
use Rattle.pp_processor.specs.NeedAndEffect.{need}
use Rattle.pp_processor.specs.declared.need.Need.{Need}
use Rattle.pp_races.specs.Tables.{AreUses}
use Rattle.pp_races.specs.declared.word_use.WordUse.{WordUse}
use Rattle.pp_races.proofs.UseLemmas.{uses_kept}
use Rattle.pp_races.proofs.watch_tables.WatchTables.take_step.Goals as goal

pub returns-in_ok-take_asked-in-Channel-clause-watched : goal.returns-in_ok-take_asked-in-Channel-clause-watched
returns-in_ok-take_asked-in-Channel-clause-watched g c =
    rw (sym (sym c.in-Channel.is ∙ c.wants.ensures.need ∙ ap need c.pp.ensures)) c.in_ok-take_asked-in-Channel.ensures.watched

pub returns-in-Read-clause-watched : goal.returns-in-Read-clause-watched
returns-in-Read-clause-watched g c = λ size w are.
    let tables = c.args.self.now in
    rw (sym (sym c.in-Read.is ∙ c.wants.ensures.need ∙ ap need c.pp.ensures), with_items_is tables.uses c.take_read.new.uses (c.take_read.auto.uses ∙ c.deref_mut.ensures.len))
    (uses_kept (Need.Read c.in-Read.a) c.args.n c.args.machine.now _ _ _ tables.uses.items c.take_read.new.uses _ size w (λ k op is. cc) (c.take_read.auto.uses ∙ ap length c.deref_mut.ensures.value)
    (c.take_read.ensures c.args.machine.now w (subst (λ (x : List WordUse). AreUses w x) (sym c.deref_mut.ensures.value) are.uses_are)) are)

pub returns-in-Write-clause-watched : goal.returns-in-Write-clause-watched
returns-in-Write-clause-watched g c = λ size w are.
    let tables = c.args.self.now in
    rw (sym (sym c.in-Write.is ∙ c.wants.ensures.need ∙ ap need c.pp.ensures), with_items_is tables.uses c.take_write.new.uses (c.take_write.auto.uses ∙ c.deref_mut-in-Write.ensures.len))
    (uses_kept (Need.Write c.in-Write.a c.in-Write.field-1) c.args.n c.args.machine.now _ _ _ tables.uses.items c.take_write.new.uses _ size w (λ k op is. cc) (c.take_write.auto.uses ∙ ap length c.deref_mut-in-Write.ensures.value)
    (c.take_write.ensures c.in-Write.field-1 c.args.machine.now w (subst (λ (x : List WordUse). AreUses w x) (sym c.deref_mut-in-Write.ensures.value) are.uses_are)) are)
