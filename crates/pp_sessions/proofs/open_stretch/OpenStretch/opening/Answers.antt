use Rattle.std.proofs.Common.{[], ◌∷◌, sym, ◌∙◌}
use Rattle.std.proofs.lemmas.Bool.{cond-false}
use Rattle.pp_machine.specs.MachineState.{is_opened}
use Rattle.pp_sessions.specs.TimedEvents.{opening_events}
use Rattle.pp_sessions.proofs.TakeInLemmas.{dead_start_event, nothing_open, takes_dead_start, takes_none, takes_these}
use Rattle.pp_sessions.proofs.open_stretch.OpenStretch.opening.Goals as goal
use Rattle.pp_sessions.proofs.open_stretch.OpenStretch.opening.Goals.{then-opened, else-opened}

pub returns-clause-opens : goal.returns-clause-opens
returns-clause-opens g c = λ w. elim c.if-opened.branch [
  | then-opened b ↦ rw b.result-is (takes_dead_start w c.args.c c.args.machine.now c.opened.result b.of.result c.opened.ensures b.if-opened.true b.of.ensures.tally)
  | else-opened b ↦ rw b.result-is
      (takes_these w c.args.c nothing_open nothing_open [] (opening_events c.args.c c.args.machine.now) [] (sym (cond-false (is_opened c.args.c c.args.machine.now) (dead_start_event ∷ []) [] (sym c.opened.ensures ∙ b.if-opened.false))) (takes_none w c.args.c nothing_open))
]
