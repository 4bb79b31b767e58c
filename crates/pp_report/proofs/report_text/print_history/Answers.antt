use Rattle.std.proofs.Common.{◌<◌, ◌∙◌, List, All, length, rules, subst, sym}
use Rattle.std.specs.Prelude.{IfSome}
use Rattle.std.specs.List.{enumerate_from, flat_map}
use Rattle.std.proofs.lemmas.List.{take_all}
use Rattle.pp_channel.specs.declared.event.Event.{Event}
use Rattle.pp_text.proofs.PrintingLemmas.{prints_nothing, prints_on}
use Rattle.pp_text.specs.TextWriter.{Prints}
use Rattle.pp_report.proofs.EventLineLemmas.{lines_go_on, named_by, no_author}
use Rattle.pp_report.proofs.ReportLawLemmas.{tellings_go_on}
use Rattle.pp_report.specs.PrintedReport.{author_place, line_by, numbered_event_line}
use Rattle.pp_report.specs.ReportLaw.{FitsItsLine, printed_by, printed_events}
use Rattle.pp_report.proofs.report_text.print_history.Goals as goal
use Rattle.pp_report.proofs.report_text.print_history.Goals.{in-Some, in_default}

pub loop-number-init : goal.loop-number-init
loop-number-init g c workers are = (prints_nothing _ _, search rules)

pub loop-number-preserved : goal.loop-number-preserved
loop-number-preserved g c workers are =
    let number = c.loop-number.number in
    let so_far = c.loop-number.invariant workers are in
    let listed : number < length c.history-event-items.result.now = c.loop-number-test.true in
    let below : number < length c.args.channel.now = rw c.history-event-items.ensures.value at listed in
    let event = rw c.history-event-items.ensures.value at c.event-item.is in
    let by : _ = c.of.ensures ∙ are number below in
    let place = author_place c.args.c workers number in
    let step : Prints g.W.Write.contents c.loop-number.text c.match-of.text (line_by c.args.c number c.event-item.result place) × IfSome (printed_by number c.event-item.result place) FitsItsLine =
    elim c.match-of.branch [
      | in-Some w ↦
          let (p, is, who) = named_by place w.in-Some.author (sym w.in-Some.is ∙ by) in
          (rw (w.text-is, is, ← who) w.print_numbered_event.ensures.text, rw (is, ← who) w.print_numbered_event.ensures.fits)
      | in_default w ↦ let is = no_author place (sym w.in_default.is ∙ by) in (rw (w.text-is, is) (prints_nothing _ _), rw is tt)
    ] in (
      prints_on _ _ _ _ _ _ _ so_far.0 step.0 (lines_go_on c.args.c number workers c.args.channel.now c.event-item.result below event),
      tellings_go_on c.args.c number workers c.args.channel.now c.event-item.result below event so_far.1 step.1,
    )

pub returns-clause-fits : goal.returns-clause-fits
returns-clause-fits g c workers are =
    subst (λ (h : List Event). All FitsItsLine (printed_events c.args.c workers h))
    (take_all c.loop-number.number c.args.channel.now (rw c.history-event-items.ensures.value at c.loop-number-test.false))
    (c.loop-number.invariant workers are).1

pub returns-clause-text : goal.returns-clause-text
returns-clause-text g c workers are =
    subst (λ (h : List Event). Prints g.W.Write.contents c.args.text.now c.loop-number.text (flat_map (numbered_event_line c.args.c workers) (enumerate_from 0 h)))
    (take_all c.loop-number.number c.args.channel.now (rw c.history-event-items.ensures.value at c.loop-number-test.false))
    (c.loop-number.invariant workers are).0
