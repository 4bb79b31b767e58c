use Rattle.std.proofs.Common.{◌≢◌, ◌+◌, ◌∷◌, ◌++◌, List, length, Some, sym, [], refl, ap, arith, subst, ◌∙◌, drop, rules}
use Rattle.pp_machine.specs.declared.trace.Trace.{Trace}
use Rattle.pp_text.specs.TextWriter.{Prints}
use Rattle.pp_text.proofs.PrintingLemmas.{prints_nothing}
use Rattle.pp_sessions.specs.OpenStretch.{Open, open_at}
use Rattle.pp_sessions.specs.SessionsText.{line_and_words}
use Rattle.pp_sessions.specs.Stretches.{words_in}
use Rattle.pp_sessions.specs.TimedEvents.{timed_event, timed_on}
use Rattle.pp_sessions.specs.declared.tally.TimedEvent.{TimedEvent}
use Rattle.pp_sessions.proofs.TakeInLemmas.{entry_off, entry_on, number_after, takes_other, takes_these, open_words_first, open_words_more, rest_of, takes_first, takes_more, takes_next}
use Rattle.pp_sessions.proofs.TallyLemmas.{tally_with}
use Rattle.pp_sessions.proofs.open_stretch.take_in_entry.Goals as goal

pub returns-then-get-clause-lines : goal.returns-then-get-clause-lines
returns-then-get-clause-lines g c =
    let entry = c.args.entry.now in
    let off : entry.channel ≢ c.args.c = λ e. c.if-get.true (c.get.ensures.value ∙ e ∙ sym c.get-2.ensures.value) in
    ([], prints_nothing _ _, takes_other c.args.with_words c.args.c c.args.past.now entry c.args.current.now c.requires.start (entry_off c.args.c entry off))

pub returns-in_default-clause-lines : goal.returns-in_default-clause-lines
returns-in_default-clause-lines g c =
    let entry = c.args.entry.now in
    let past = c.args.past.now in
    let on = entry_on c.args.c entry (sym c.get.ensures.value ∙ c.if-get.false ∙ c.get-2.ensures.value) in
    let words = open_words_first c.args.c past entry ∙ ap words_in (sym on) in
    let new : Open = record { number = c.args.current.now.number; tally = Some c.of.result; words = words_in (timed_on c.args.c (drop (length past) (past ++ entry ∷ []))) } in (
      [],
      prints_nothing _ _,
      takes_these c.args.with_words c.args.c (open_at c.args.c past c.args.current.now) new (timed_event entry ∷ []) (timed_on c.args.c (entry ∷ [])) [] on
          (takes_first c.args.with_words c.args.c (open_at c.args.c past c.args.current.now) new (timed_event entry) c.of.result (search rules) refl refl c.of.ensures.tally words),
    )

pub returns-then-not-is_over-clause-lines : goal.returns-then-not-is_over-clause-lines
returns-then-not-is_over-clause-lines g c =
    let entry = c.args.entry.now in
    let past = c.args.past.now in
    let old = c.args.current.now in
    let on = entry_on c.args.c entry (sym c.get.ensures.value ∙ c.if-get.false ∙ c.get-2.ensures.value) in
    let words = open_words_more c.args.c old.start past entry c.requires.start
    ∙ ap (λ (es : List TimedEvent). words_in (timed_on c.args.c (drop old.start past)) ++ words_in es) (sym on) in
    let new : Open = record { number = old.number; tally = Some c.with.result; words = words_in (timed_on c.args.c (drop old.start (past ++ entry ∷ []))) } in (
      [],
      prints_nothing _ _,
      takes_these c.args.with_words c.args.c (open_at c.args.c past old) new (timed_event entry ∷ []) (timed_on c.args.c (entry ∷ [])) [] on
          (takes_more c.args.with_words c.args.c (open_at c.args.c past old) new (timed_event entry) c.in-Some.tally c.with.result c.in-Some.is (search rules) refl refl (λ first others. tally_with c.in-Some.tally c.with.result first others (timed_event entry) c.with.ensures.tally) words),
    )

pub returns-clause-lines : goal.returns-clause-lines
returns-clause-lines g c =
    let entry = c.args.entry.now in
    let past = c.args.past.now in
    let old = c.args.current.now in
    let on = entry_on c.args.c entry (sym c.get.ensures.value ∙ c.if-get.false ∙ c.get-2.ensures.value) in
    let words = open_words_first c.args.c past entry ∙ ap words_in (sym on) in
    let printed = line_and_words c.args.with_words c.args.c old.number c.in-Some.tally (words_in (timed_on c.args.c (drop old.start past))) in
    let new : Open = record { number = old.number + c.from.result; tally = Some c.of-2.result; words = words_in (timed_on c.args.c (drop (length past) (past ++ entry ∷ []))) } in (
      printed,
      subst (Prints _ _ _) (ap (λ (es : List Trace). line_and_words c.args.with_words c.args.c old.number c.in-Some.tally (words_in (timed_on c.args.c es))) (rest_of old.start past)) c.print_stretch.ensures,
      takes_these c.args.with_words c.args.c (open_at c.args.c past old) new (timed_event entry ∷ []) (timed_on c.args.c (entry ∷ [])) printed on
          (takes_next c.args.with_words c.args.c (open_at c.args.c past old) new (timed_event entry) c.in-Some.tally c.of-2.result c.in-Some.is (search rules) (number_after c.in-Some.tally.is_session old.number c.from.result c.from.ensures) refl c.of-2.ensures.tally words),
    )

pub returns-in_default-clause-few : goal.returns-in_default-clause-few
returns-in_default-clause-few g c = grind arith

pub returns-then-not-is_over-clause-few : goal.returns-then-not-is_over-clause-few
returns-then-not-is_over-clause-few g c = grind arith
