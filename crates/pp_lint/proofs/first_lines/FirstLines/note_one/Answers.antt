use Rattle.pp_lint.proofs.FirstLinesLemmas.{shows_kept, shows_set}
use Rattle.pp_lint.proofs.first_lines.FirstLines.note_one.Goals as goal

pub returns-then-index-eq0 : goal.returns-then-index-eq0
returns-then-index-eq0 g c = λ notes shows.
    let within = rw (← c.self.invariant) at c.key_of-key.ensures.within in
    shows_set c.self.inside.lines.items notes c.args.kind.now c.args.place c.args.number c.key_of-key.result c.index.result.now c.requires.thing c.key_of-key.ensures.value within c.requires.number c.index.ensures c.if-index-eq0.true
    (rw (← c.self.view_is) at shows)

pub returns-else-index-eq0 : goal.returns-else-index-eq0
returns-else-index-eq0 g c = λ notes shows.
    let within = rw (← c.self.invariant) at c.key_of-key.ensures.within in
    rw (← c.self.view_is) (shows_kept c.self.inside.lines.items notes c.args.kind.now c.args.place c.args.number c.key_of-key.result c.index.result.now c.requires.thing c.key_of-key.ensures.value within c.index.ensures c.if-index-eq0.false
    (rw (← c.self.view_is) at shows))
