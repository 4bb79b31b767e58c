use Rattle.std.proofs.Common.{◌∙◌, sym}
use Rattle.pp_laws.proofs.ReportLemmas.{report_names, report_numbered}
use Rattle.pp_laws.proofs.texts.threads_text_law.Goals as goal

pub returns : goal.returns
returns g c deck other limits others text one also =
    let agree = c.report_law.ensures.text deck.named other.named one.report also.report one.fits also.fits
    (report_numbered limits deck.machine one.report one.run) (report_numbered others other.machine also.report also.run) (sym one.text_is ∙ also.text_is) in (
      report_names deck.machine.profile other.machine.profile deck.named other.named one.report also.report one.named also.named one.run.each_processor also.run.each_processor agree.workers,
      agree,
      λ n is. c.report_law.ensures.dead_start deck.machine other.machine one.report also.report n one.run.merged also.run.merged one.run.lawful also.run.lawful
          (agree.events n is) (agree.channels n is),
    )
