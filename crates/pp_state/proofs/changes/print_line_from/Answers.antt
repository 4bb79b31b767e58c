use Rattle.std.proofs.Common.{◌≡◌, sym, subst, ◌∙◌, arith}
use Rattle.pp_text.proofs.PrintingLemmas.{◌▹◌, prints_nothing}
use Rattle.pp_text.specs.TextWriter.{Prints}
use Rattle.pp_state.proofs.ChangeLemmas.{in_front_of_same, in_front_of_next, line_begins, no_line_of_same, no_line_within}
use Rattle.pp_state.proofs.changes.print_line_from.Goals as goal
use Rattle.pp_state.proofs.changes.print_line_from.Goals.{then-in_front-eq0, else-in_front-eq0}

pub returns-then-not-differs-clause-line : goal.returns-then-not-differs-clause-line
returns-then-not-differs-clause-line g c = subst (Prints _ _ _) (no_line_of_same c.args.before.now.memory c.args.after.now.memory c.args.place (sym c.differs.ensures.value ∙ c.if-not-differs.true)) (prints_nothing _ _)

pub returns-then-not-differs-clause-in_front : goal.returns-then-not-differs-clause-in_front
returns-then-not-differs-clause-in_front g c = grind (arith, in_front_of_same)

pub returns-clause-line : goal.returns-clause-line
returns-clause-line g c =
    let differ = sym c.differs.ensures.value ∙ c.if-not-differs.false in
    elim c.if-in_front-eq0.branch [
      | then-in_front-eq0 w ↦ rw w.text-is (subst (Prints _ _ _) (line_begins c.args.before.now.memory c.args.after.now.memory c.args.place differ (sym c.requires.in_front ∙ w.if-in_front-eq0.true))
          (let place : w.get.result ≡ c.args.place = w.get.ensures.value ∙ w.truncated.ensures ∙ omega (arith, c.requires.within) in
          (rw (w.octal4.ensures, place) at w.print.ensures) ▹ (w.print_neighbours.ensures ▹ w.print-then-in_front-eq0.ensures)))
      | else-in_front-eq0 w ↦ rw w.text-is (subst (Prints _ _ _) (no_line_within c.args.before.now.memory c.args.after.now.memory c.args.place differ (λ e. w.if-in_front-eq0.false (c.requires.in_front ∙ e))) (prints_nothing _ _))
    ]

pub returns-clause-in_front : goal.returns-clause-in_front
returns-clause-in_front g c = grind (arith, in_front_of_next)
