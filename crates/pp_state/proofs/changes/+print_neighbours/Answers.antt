use Rattle.std.proofs.Common.{◌≡◌, ◌<◌, ◌+◌, ◌-◌, true, List, [], ◌∷◌, ◌++◌, get_or, arith, ap, subst, ℕ, sym, ◌∙◌}
use Rattle.pp_word.specs.Address.{place_count}
use Rattle.pp_text.proofs.PrintingLemmas.{prints_nothing, prints_on, prints_then}
use Rattle.std.specs.List.{flat_map}
use Rattle.pp_text.specs.TextWriter.{Prints}
use Rattle.pp_listing.specs.ListedLine.{after_blank}
use Rattle.pp_state.specs.Changes.{neighbours}
use Rattle.pp_state.proofs.ChangeLemmas.{neighbour_printed, no_more, no_neighbour, no_neighbours_printed}
use Rattle.pp_state.proofs.changes.+print_neighbours.Goals as goal
use Rattle.pp_state.proofs.changes.+print_neighbours.Goals.{then-most-eq0-via-then-most-eq0, then-most-eq0-via-else-most-eq0+then-not-differs}

pub returns-then-most-eq0 : goal.returns-then-most-eq0
returns-then-most-eq0 g t c =
    let none : neighbours c.args.before.now.memory c.args.after.now.memory c.args.most c.args.place ≡ [] = elim c.then-most-eq0.branch [
      | then-most-eq0-via-then-most-eq0 w ↦ no_more c.args.before.now.memory c.args.after.now.memory c.args.most c.args.place w.if-most-eq0.true
      | then-most-eq0-via-else-most-eq0+then-not-differs w ↦ no_neighbour c.args.before.now.memory c.args.after.now.memory c.args.most c.args.place (sym w.differs.ensures.value ∙ w.if-not-differs.true)
    ] in
    subst (Prints _ _ _) (no_neighbours_printed c.args.before.now.memory c.args.after.now.memory c.args.most c.args.place none) (prints_nothing _ _)

pub returns : goal.returns
returns g t c =
    let some : 0 < c.args.most = omega arith in
    let before = c.args.before.now.memory in
    let memory = c.args.after.now.memory in
    let here : c.differs.result ≡ true = c.if-not-differs.false in
    let within : c.args.place < place_count = c.differs.ensures.within here in
    let place_is : c.truncated.result ≡ c.args.place = omega (arith, within, c.truncated.ensures) in
    let word : c.get-2.result ≡ get_or memory c.args.place 0 = c.get-2.ensures.value ∙ c.get.ensures.value ∙ ap (λ (i : ℕ). get_or memory i 0) place_is in
    prints_on _ _ _ _ _ _ _ (prints_then _ _ _ _ _ _ c.print.ensures c.print-2.ensures) c.print_neighbours.ensures
    (ap (λ (digits : List ℕ). ((32 ∷ []) ++ digits) ++ flat_map (after_blank 4) (neighbours before memory (c.args.most - 1) (c.args.place + 1))) c.octal4.ensures
    ∙ neighbour_printed before memory c.args.most c.args.place c.get-2.result some (sym c.differs.ensures.value ∙ here) word)
