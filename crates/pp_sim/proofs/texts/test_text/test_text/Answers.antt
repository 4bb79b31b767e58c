use Rattle.std.proofs.Common.{Err}
use Rattle.std.proofs.lemmas.Result.{err_from_is_err_and}
use Rattle.pp_sim.proofs.TestAnswerLemmas.{answered_test, refused_test}
use Rattle.pp_sim.proofs.texts.test_text.test_text.Goals as goal

pub returns : goal.returns
returns g c =
    answered_test c.args.profile c.args.schedule.now.first.now c.args.schedule.now.until c.args.tested _ _ _ _ c.in_ok-front.front.items c.write_test.result
    (rw c.as_slice-bytes.ensures.value at c.write_test.ensures)
    c.in_ok-front.ensures.read c.in_ok-front.ensures.bounded c.in_ok-front.ensures.end

pub returns-in_err-loaded : goal.returns-in_err-loaded
returns-in_err-loaded g c =
    let p = err_from_is_err_and c.from_residual-in_err-loaded.result c.from_residual-in_err-loaded.ensures.1 in
    rw (p.1, p.2) (answered_test c.args.profile c.args.schedule.now.first.now c.args.schedule.now.until c.args.tested _ _ _ _ c.in_ok-front.front.items (Err _)
    (refused_test c.args.profile c.args.schedule.now.first.now c.args.schedule.now.until c.args.tested _ c.in_ok-front.front.items _ (rw c.as_slice-bytes.ensures.value at c.in_err-loaded.ensures.fault))
    c.in_ok-front.ensures.read c.in_ok-front.ensures.bounded c.in_ok-front.ensures.end)
