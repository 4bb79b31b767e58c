use Rattle.std.proofs.Common.{rules, List, Option, ℕ, ap, length, sym, subst, ◌∙◌}
use Rattle.pp_report.specs.Authors.{AreAuthors}
use Rattle.pp_report.proofs.report_text.write_report.Goals as goal

pub print_report-requires : goal.print_report-requires
print_report-requires g c = (
  search rules,
  (
    ap length c.deref.ensures.value ∙ c.in_ok-authors.ensures.each_channel,
    subst (λ (all : List (List (Option ℕ))). AreAuthors c.args.report.now.ends.items c.args.report.now.channels all) (sym c.deref.ensures.value)
        (rw c.as_slice.ensures.value at c.in_ok-authors.ensures.authors),
  ),
)

pub returns : goal.returns
returns g c = record { written = c.in_ok-print_report.ensures.written; fits = λ other. c.print_report.ensures.fits }
