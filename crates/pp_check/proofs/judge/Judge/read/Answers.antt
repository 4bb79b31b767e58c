use Rattle.std.proofs.Common.{Bool, true, false, ◌+◌, ℕ, arith, rules, refl, ◌≡◌, ◌≢◌, ◌<◌, ◌≤◌, sym, ap, ◌∙◌, subst, Option, Some}
use Rattle.std.specs.Prelude.{IfSome, if◌then◌else◌}
use Rattle.std.specs.Int.{from_bool}
use Rattle.pp_check.specs.Judge.{tally}
use Rattle.pp_deck.specs.DeckText.{fields_of}
use Rattle.pp_check.specs.LawfulTrace.{last_turn}
use Rattle.pp_check.specs.TraceLine.{parsed_line}
use Rattle.pp_check.specs.declared.trace_line.TraceLine.TheVariants.{AtTurn, Numbered}
use Rattle.pp_check.proofs.KeepsLemmas.{at_turn_here, few_events, judged_by, keeps_without_event, next_number, next_number_is, nothing_told, numbered_here, state_told}
use Rattle.pp_check.proofs.TraceLemmas.{last_turn_more, last_turn_same}
use Rattle.pp_check.proofs.judge.Judge.read.Goals as goal
use Rattle.pp_check.proofs.judge.Judge.read.Goals.{in-Some-last_turn+else-turn-last, in_default-last_turn}

pub returns-after-self-clause-judged : goal.returns-after-self-clause-judged
returns-after-self-clause-judged c = λ opened lines k.
    let said : parsed_line (fields_of c.args.line.now) ≡ Some c.in-Some.line = search rules in
    let fits : IfSome (last_turn lines) (λ last. last < c.in-AtTurn.turn) = elim c.match-self.branch [
      | in-Some-last_turn+else-turn-last w ↦ subst (λ (o : Option ℕ). IfSome o (λ last. last < c.in-AtTurn.turn)) (sym w.in-Some-last_turn.is ∙ k.last_turn) w.if-turn-last.false
      | in_default-last_turn w ↦ subst (λ (o : Option ℕ). IfSome o (λ last. last < c.in-AtTurn.turn)) (sym w.in_default-last_turn.is ∙ k.last_turn) tt
    ] in
    let line = AtTurn c.in-AtTurn.turn c.in-AtTurn.channel c.in-AtTurn.event in
    let happens = c.happen.ensures.happens opened lines line k.kept fits (at_turn_here c.in-AtTurn.turn c.in-AtTurn.channel c.in-AtTurn.event) in
    rw said (rw c.in-AtTurn.is (judged_by opened lines line c.happen.new.self c.happen.result (c.happen.ensures.turn ∙ sym (last_turn_more lines line c.in-AtTurn.turn refl)) happens))

counted : (b : Bool) (n : ℕ) → n + from_bool b ≡ (if b then n + 1 else n)
counted true n = refl
counted false n = omega arith

at_most_one : (b : Bool) → from_bool b ≤ 1
at_most_one true = omega arith
at_most_one false = omega arith

pub overflow_add-next : goal.overflow_add-next
overflow_add-next c = grind (arith, few_events, at_most_one)

pub returns-then-number-next-clause-judged : goal.returns-then-number-next-clause-judged
returns-then-number-next-clause-judged c = λ opened lines k.
    let said : parsed_line (fields_of c.args.line.now) ≡ Some c.in-Some.line = search rules in
    let here = c.tally_of-tally.ensures.kept ∙ k.kept.channels c.in-Numbered.channel c.tally_of-tally.ensures.names in
    rw said (((c.in-Numbered.event, c.in-Numbered.is), ap (λ n. c.tally_of-tally.result.events + n) c.from.ensures ∙ counted c.tally_of-tally.result.is_opened c.tally_of-tally.result.events ∙ ap next_number here ∙ next_number_is opened lines c.in-Numbered.channel, c.if-number-next.true))

pub returns-else-number-next-clause-judged : goal.returns-else-number-next-clause-judged
returns-else-number-next-clause-judged c = λ opened lines k.
    let said : parsed_line (fields_of c.args.line.now) ≡ Some c.in-Some.line = search rules in
    let channel = c.in-Numbered.channel in
    let here = c.tally_of-tally.ensures.kept ∙ k.kept.channels channel c.tally_of-tally.ensures.names in
    let next = ap (λ n. c.tally_of-tally.result.events + n) c.from.ensures ∙ counted c.tally_of-tally.result.is_opened c.tally_of-tally.result.events ∙ ap next_number here ∙ next_number_is opened lines channel in
    let line = Numbered c.in-Numbered.number channel c.in-Numbered.event in
    let happens = c.happen-in-Numbered.ensures.happens opened lines line k.kept (c.if-number-next.false ∙ next) (numbered_here c.in-Numbered.number channel c.in-Numbered.event) in
    rw said (rw c.in-Numbered.is (judged_by opened lines line c.happen-in-Numbered.new.self c.happen-in-Numbered.result (c.happen-in-Numbered.ensures.turn ∙ k.last_turn ∙ sym (last_turn_same lines line refl)) happens))

pub returns-then-ne-clause-judged : goal.returns-then-ne-clause-judged
unfolding tally
returns-then-ne-clause-judged c = λ opened lines k.
    let said : parsed_line (fields_of c.args.line.now) ≡ Some c.in-Some.line = search rules in
    let here = c.tally_of-state.ensures.kept ∙ k.kept.channels c.in-Standing.channel c.tally_of-state.ensures.names in
    let differs : c.in-Standing.shown ≢ c.tally_of-state.result.state = search rules in
    rw said ((c.in-Standing.is, ap (λ s. s.state) here, differs))

pub returns-else-ne-clause-judged : goal.returns-else-ne-clause-judged
unfolding tally
returns-else-ne-clause-judged c = λ opened lines k.
    let said : parsed_line (fields_of c.args.line.now) ≡ Some c.in-Some.line = search rules in
    let here = c.tally_of-state.ensures.kept ∙ k.kept.channels c.in-Standing.channel c.tally_of-state.ensures.names in
    let same : c.in-Standing.shown ≡ c.tally_of-state.result.state = search rules in
    rw said (rw c.in-Standing.is (keeps_without_event opened lines _ _ k (same ∙ ap (λ s. s.state) here) (state_told c.in-Standing.channel c.in-Standing.shown)))

pub returns-in-Other-clause-judged : goal.returns-in-Other-clause-judged
returns-in-Other-clause-judged c = grind (arith, rules, keeps_without_event, nothing_told)
