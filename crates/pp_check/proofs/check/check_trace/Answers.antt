use Rattle.std.proofs.Common.{◌≤◌, ap, arith, get_or, length, rules, sym, tests, ◌∙◌}
use Rattle.std.specs.List.{slice_split}
use Rattle.std.proofs.lemmas.List.{length_push}
use Rattle.std.proofs.lemmas.List.Sums.{count_by-le-length}
use Rattle.std.proofs.lemmas.List.Splits.{length-slice_split}
use Rattle.std.proofs.lemmas.Iterator.Consumers.{YieldsList-end, YieldsList-turn}
use Rattle.std.proofs.lemmas.Iterator.Splits.{YieldsList-from_slice_split}
use Rattle.pp_deck.specs.DeckText.{is_line_feed, lines_of}
use Rattle.pp_check.specs.LawfulTrace.{parsed_lines}
use Rattle.pp_check.proofs.FaultLemmas.{keeps_text, lawful_text, length-lines_of, line_at, none_read, read_fault, read_more, first_fault}
use Rattle.pp_check.proofs.check.check_trace.Goals as goal

pub loop-line-init : goal.loop-line-init
loop-line-init c = record {
  passed = omega arith;
  read = none_read c.args.opened.now (lines_of c.args.text.now) c.new-judge.result c.new-judge.ensures;
  events = let none = c.new-judge.ensures.kept.events in omega (arith, none);
}

pub overflow_add-number : goal.overflow_add-number
overflow_add-number c =
    let turn = YieldsList-turn (YieldsList-from_slice_split {s = c.into_iter-line-iterator.result} _ is_line_feed c.args.text.now (search rules) (search rules) (search rules) (λ x r q k. search (rules, tests))) c.loop-line.yielded c.loop-line.line-iterator c.loop-line.yielded_by _ c.next.new.self _ c.in-Some.is c.next.ensures.steps in
    omega (arith, turn.0, c.loop-line.invariant.passed, length-slice_split is_line_feed c.args.text.now, count_by-le-length is_line_feed c.args.text.now)

pub read-requires-clause-room : goal.read-requires-clause-room
read-requires-clause-room c =
    let turn = YieldsList-turn (YieldsList-from_slice_split {s = c.into_iter-line-iterator.result} _ is_line_feed c.args.text.now (search rules) (search rules) (search rules) (λ x r q k. search (rules, tests))) c.loop-line.yielded c.loop-line.line-iterator c.loop-line.yielded_by _ c.next.new.self _ c.in-Some.is c.next.ensures.steps in
    omega (arith, turn.0, c.loop-line.invariant.passed, c.loop-line.invariant.events, length-slice_split is_line_feed c.args.text.now, count_by-le-length is_line_feed c.args.text.now)

pub read-requires-clause-kept : goal.read-requires-clause-kept
read-requires-clause-kept c = (c.args.opened.now, (_, c.loop-line.invariant.read.keeps.kept))

pub returns-in-Err-clause-fault : goal.returns-in-Err-clause-fault
returns-in-Err-clause-fault c =
    let read = c.loop-line.invariant.read in
    let turn = YieldsList-turn (YieldsList-from_slice_split {s = c.into_iter-line-iterator.result} _ is_line_feed c.args.text.now (search rules) (search rules) (search rules) (λ x r q k. search (rules, tests))) c.loop-line.yielded c.loop-line.line-iterator c.loop-line.yielded_by _ c.next.new.self _ c.in-Some.is c.next.ensures.steps in
    let line = line_at c.args.text.now c.in-Some.line.now c.loop-line.number (omega (arith, turn.0, c.loop-line.invariant.passed)) (turn.1 ∙ ap (λ k. get_or (slice_split is_line_feed c.args.text.now) k c.in-Some.line.now) (sym c.loop-line.invariant.passed)) in
    read_fault c.args.opened.now (lines_of c.args.text.now) c.loop-line.number _ c.read.new.self line.0 line.1 c.loop-line.judge c.in-Err.flaw read (c.in-Err.ensures.judged c.args.opened.now _ read.keeps)

pub returns-in-Err-clause-first : goal.returns-in-Err-clause-first
returns-in-Err-clause-first c = λ k within.
    let read = c.loop-line.invariant.read in
    let turn = YieldsList-turn (YieldsList-from_slice_split {s = c.into_iter-line-iterator.result} _ is_line_feed c.args.text.now (search rules) (search rules) (search rules) (λ x r q k. search (rules, tests))) c.loop-line.yielded c.loop-line.line-iterator c.loop-line.yielded_by _ c.next.new.self _ c.in-Some.is c.next.ensures.steps in
    let line = line_at c.args.text.now c.in-Some.line.now c.loop-line.number (omega (arith, turn.0, c.loop-line.invariant.passed)) (turn.1 ∙ ap (λ k. get_or (slice_split is_line_feed c.args.text.now) k c.in-Some.line.now) (sym c.loop-line.invariant.passed)) in
    first_fault c.args.opened.now (lines_of c.args.text.now) _ (read_fault c.args.opened.now (lines_of c.args.text.now) c.loop-line.number _ c.read.new.self line.0 line.1 c.loop-line.judge c.in-Err.flaw read (c.in-Err.ensures.judged c.args.opened.now _ read.keeps)) k

pub loop-line-preserved : goal.loop-line-preserved
loop-line-preserved c =
    let read = c.loop-line.invariant.read in
    let turn = YieldsList-turn (YieldsList-from_slice_split {s = c.into_iter-line-iterator.result} _ is_line_feed c.args.text.now (search rules) (search rules) (search rules) (λ x r q k. search (rules, tests))) c.loop-line.yielded c.loop-line.line-iterator c.loop-line.yielded_by _ c.next.new.self _ c.in-Some.is c.next.ensures.steps in
    let line = line_at c.args.text.now c.in-Some.line.now c.loop-line.number (omega (arith, turn.0, c.loop-line.invariant.passed)) (turn.1 ∙ ap (λ k. get_or (slice_split is_line_feed c.args.text.now) k c.in-Some.line.now) (sym c.loop-line.invariant.passed)) in
    record {
      passed = omega (arith, c.loop-line.invariant.passed, length_push c.loop-line.yielded c.in-Some.line);
      read = read_more c.args.opened.now (lines_of c.args.text.now) c.loop-line.number _ c.read.new.self line.0 line.1 read.said (c.in_default.ensures.judged c.args.opened.now _ read.keeps);
      events = omega (arith, c.loop-line.invariant.events, c.in_default.ensures.room);
    }

pub verdict-requires-clause-room : goal.verdict-requires-clause-room
verdict-requires-clause-room c =
    let all = YieldsList-end (YieldsList-from_slice_split {s = c.into_iter-line-iterator.result} _ is_line_feed c.args.text.now (search rules) (search rules) (search rules) (λ x r q k. search (rules, tests))) c.loop-line.yielded c.loop-line.line-iterator c.loop-line.yielded_by _ c.next.new.self c.in-None.is c.next.ensures.steps in
    let last : length (lines_of c.args.text.now) ≤ c.loop-line.number = omega (arith, all.1, c.loop-line.invariant.passed, length-lines_of c.args.text.now) in
    omega (arith, all.1, c.loop-line.invariant.passed, c.loop-line.invariant.events, length-slice_split is_line_feed c.args.text.now, count_by-le-length is_line_feed c.args.text.now)

pub verdict-requires-clause-kept : goal.verdict-requires-clause-kept
verdict-requires-clause-kept c = (c.args.opened.now, (_, c.loop-line.invariant.read.keeps.kept))

pub returns-clause-lawful : goal.returns-clause-lawful
returns-clause-lawful c =
    let all = YieldsList-end (YieldsList-from_slice_split {s = c.into_iter-line-iterator.result} _ is_line_feed c.args.text.now (search rules) (search rules) (search rules) (λ x r q k. search (rules, tests))) c.loop-line.yielded c.loop-line.line-iterator c.loop-line.yielded_by _ c.next.new.self c.in-None.is c.next.ensures.steps in
    let last : length (lines_of c.args.text.now) ≤ c.loop-line.number = omega (arith, all.1, c.loop-line.invariant.passed, length-lines_of c.args.text.now) in
    lawful_text c.args.opened.now (lines_of c.args.text.now) c.loop-line.number c.loop-line.judge last c.loop-line.invariant.read

pub returns-clause-counted : goal.returns-clause-counted
returns-clause-counted c =
    let all = YieldsList-end (YieldsList-from_slice_split {s = c.into_iter-line-iterator.result} _ is_line_feed c.args.text.now (search rules) (search rules) (search rules) (λ x r q k. search (rules, tests))) c.loop-line.yielded c.loop-line.line-iterator c.loop-line.yielded_by _ c.next.new.self c.in-None.is c.next.ensures.steps in
    let last : length (lines_of c.args.text.now) ≤ c.loop-line.number = omega (arith, all.1, c.loop-line.invariant.passed, length-lines_of c.args.text.now) in
    c.verdict.ensures c.args.opened.now (parsed_lines (lines_of c.args.text.now)) (keeps_text c.args.opened.now (lines_of c.args.text.now) c.loop-line.number c.loop-line.judge last c.loop-line.invariant.read)
