use Rattle.std.proofs.Common.{◌≡◌, Some, None, ap, sym}
use Rattle.std.proofs.lemmas.Option.{slice_get-get_or, slice_get_past}
use Rattle.std.specs.Prelude.{slice_get}
use Rattle.pp_numbers.specs.PpNo.{processor_index}
use Rattle.pp_text.proofs.PrintingLemmas.{prints_nothing}
use Rattle.pp_report.proofs.report_text.WorkerLinesLinesPpNo.print.Goals as goal

pub returns-in-Some : goal.returns-in-Some
returns-in-Some g c =
    let workers = c.args.self.now.0.now in
    let found : slice_get workers (processor_index c.args.n.now) ≡ Some c.in-Some.worker.now = rw (← c.index.ensures.place, slice_get-get_or workers c.index.result c.in-Some.worker.now c.in-Some.ensures.lookup.3.0) (ap Some (sym c.in-Some.ensures.lookup.1)) in
    record { text = rw found c.print_worker_line.ensures.text; fits = rw found c.print_worker_line.ensures.fits }

pub returns-in_default : goal.returns-in_default
returns-in_default g c =
    let missing : slice_get c.args.self.now.0.now (processor_index c.args.n.now) ≡ None = rw (← c.index.ensures.place) (slice_get_past _ c.index.result c.in_default.ensures.lookup.3) in
    record { text = rw missing (prints_nothing _ _); fits = rw missing tt }
