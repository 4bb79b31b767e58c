use Rattle.std.proofs.Common.{◌≡◌, ◌<◌, ◌+◌, ◌∷◌, ◌++◌, [], List, length, take, sym, ap, subst, ◌∙◌, append_assoc, arith, rules}
use Rattle.std.proofs.lemmas.List.{append-nil, length-take, take_more, nil_from_length}
use Rattle.std.proofs.lemmas.Bool.{eqb-true}
use Rattle.pp_text.specs.TextWriter.{Prints}
use Rattle.pp_text.proofs.PrintingLemmas.{prints_nothing, prints_on, prints_then}
use Rattle.pp_machine.specs.declared.trace.Trace.{Trace}
use Rattle.pp_sessions.specs.OpenStretch.{TakesIn, open_at}
use Rattle.pp_sessions.specs.SessionsText.{line_and_words}
use Rattle.pp_sessions.specs.Stretches.{words_in}
use Rattle.pp_sessions.specs.TimedEvents.{opening_events, timed_events, timed_on}
use Rattle.pp_sessions.specs.declared.tally.TimedEvent.{TimedEvent}
use Rattle.pp_sessions.proofs.HistoryLemmas.{lines_of_none}
use Rattle.pp_sessions.proofs.TakeInLemmas.{nothing_open, rest_of, takes_all, takes_nothing, takes_then, takes_these, takes_whole, timed_more}
use Rattle.pp_sessions.proofs.sessions_text.StretchLinesLinesChannelNo.print.Goals as goal

pub loop-index-init : goal.loop-index-init
loop-index-init g c =
    let made = opening_events c.args.c.now c.args.self.now.machine.now in
    record {
      lines = ([], prints_nothing _ _, takes_these c.args.self.now.with_words c.args.c.now nothing_open (open_at c.args.c.now [] c.opening-current.result) made (made ++ []) [] (sym (append-nil made)) (c.opening-current.ensures.opens c.args.self.now.with_words));
      few = c.opening-current.ensures.few;
      start = omega (arith, c.opening-current.ensures.start);
    }

pub loop-index-preserved : goal.loop-index-preserved
loop-index-preserved g c =
    let n = c.args.c.now in
    let w = c.args.self.now.with_words in
    let trace = c.events-entries.result.now in
    let i = c.loop-index.index in
    let entry = c.index-entries-index.result in
    let past = take i trace in
    let current = c.take_in_entry.new.current in
    let within : i < length trace = c.loop-index-test.true in
    let made = opening_events n c.args.self.now.machine.now in
    let (printed, prints, takes) = c.loop-index.invariant.lines in
    let (more, out, further) = c.take_in_entry.ensures.lines in
    let next : past ++ entry ∷ [] ≡ take (i + 1) trace =
    sym (take_more trace i entry within ∙ ap (λ (e : Trace). past ++ e ∷ []) (sym c.index-entries-index.is)) in
    let events : (made ++ timed_on n past) ++ timed_on n (entry ∷ []) ≡ made ++ timed_on n (take (i + 1) trace) =
    append_assoc made (timed_on n past) (timed_on n (entry ∷ [])) ∙ ap (λ (es : List TimedEvent). made ++ es) (sym (timed_more n trace i entry within c.index-entries-index.is)) in
    record {
      lines = (
        printed ++ more,
        prints_then _ _ _ _ printed more prints out,
        subst (λ (es : List Trace). TakesIn w n nothing_open (made ++ timed_on n (take (i + 1) trace)) (printed ++ more) (open_at n es current)) next
            (takes_these w n nothing_open (open_at n (past ++ entry ∷ []) current) _ _ (printed ++ more) events
            (takes_then w n nothing_open (open_at n past c.loop-index.current) (open_at n (past ++ entry ∷ []) current) (made ++ timed_on n past) (timed_on n (entry ∷ [])) printed more takes further)),
      );
      few = c.take_in_entry.ensures.few (i + 1) c.loop-index.invariant.few;
      start = omega (arith, c.take_in_entry.ensures.start, length-take i trace);
    }

pub returns-in-Some-clause-text : goal.returns-in-Some-clause-text
returns-in-Some-clause-text g c =
    let n = c.args.c.now in
    let w = c.args.self.now.with_words in
    let trace = c.events-entries.result.now in
    let current = c.loop-index.current in
    let (printed, prints, takes) = c.loop-index.invariant.lines in
    prints_on _ _ _ _ printed _ _ prints c.print_stretch.ensures
    (ap (λ (es : List Trace). printed ++ line_and_words w n current.number c.in-Some.last (words_in (timed_on n es))) (rest_of current.start trace)
    ∙ sym (takes_all w n (timed_events n c.args.self.now.machine.now) printed (open_at n trace current) c.in-Some.last (takes_whole w n c.args.self.now.machine.now trace c.loop-index.index printed current c.loop-index-test.false c.events-entries.ensures takes) c.in-Some.is))

pub returns-in_default-clause-text : goal.returns-in_default-clause-text
returns-in_default-clause-text g c =
    let n = c.args.c.now in
    let w = c.args.self.now.with_words in
    let trace = c.events-entries.result.now in
    let current = c.loop-index.current in
    let (printed, prints, takes) = c.loop-index.invariant.lines in
    subst (Prints _ _ _) (sym (takes_nothing w n (timed_events n c.args.self.now.machine.now) printed (open_at n trace current) (takes_whole w n c.args.self.now.machine.now trace c.loop-index.index printed current c.loop-index-test.false c.events-entries.ensures takes) (search rules))) prints

pub returns-then-is_empty-clause-text : goal.returns-then-is_empty-clause-text
returns-then-is_empty-clause-text g c =
    let empty : length c.history.result.now ≡ 0 = eqb-true (length c.history.result.now) 0 (sym c.is_empty.ensures ∙ c.if-is_empty.true) in
    let none : c.channel.result.now ≡ [] = sym c.history.ensures.value ∙ nil_from_length c.history.result.now empty in
    subst (Prints _ _ _) (sym (lines_of_none c.args.self.now.with_words c.args.self.now.machine.now c.args.c.now c.channel.result.now none c.channel.ensures.traced)) (prints_nothing _ _)
