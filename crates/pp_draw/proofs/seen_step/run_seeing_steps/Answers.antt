use Rattle.std.proofs.Common.{None, refl, sym}
use Rattle.std.proofs.lemmas.Result.{err_from_is_err_and}
use Rattle.pp_numbers.specs.PpNo.{processor_count}
use Rattle.pp_numbers.proofs.TableLemmas.{tabulate_const}
use Rattle.pp_draw.proofs.seen_step.run_seeing_steps.Goals as goal

pub returns-clause-run : goal.returns-clause-run
returns-clause-run g c = record { ran = c.in_ok-run_observed.ensures.run.ran; cut = tt; headline = c.in_ok-run_observed.ensures.run.headline }

pub returns-clause-seen : goal.returns-clause-seen
returns-clause-seen g c = c.in_ok-run_observed.ensures.seen.2

pub returns-clause-earlier : goal.returns-clause-earlier
returns-clause-earlier g c = c.in_ok-run_observed.ensures.seen.1

pub run_observed-requires : goal.run_observed-requires
run_observed-requires g c = (refl, sym (tabulate_const processor_count (λ place. None) None (λ place. refl)), c.new.ensures.items)

pub returns-in_err-run_observed : goal.returns-in_err-run_observed
returns-in_err-run_observed g c =
    let p = err_from_is_err_and c.from_residual.result c.from_residual.ensures.1 in
    rw (p.1, p.2) (record { run = record { ran = c.in_err-run_observed.ensures.run.ran; cut = c.in_err-run_observed.ensures.run.cut; headline = c.in_err-run_observed.ensures.run.headline }; earlier = tt; seen = tt; cut_at = c.in_err-run_observed.ensures.cut_at })
