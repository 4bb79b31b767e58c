use Rattle.std.proofs.Common.{Err}
use Rattle.std.proofs.lemmas.Result.{err_from_is_err_and}
use Rattle.pp_sim.proofs.AnswerLemmas.{answered_deck, refused}
use Rattle.pp_sim.proofs.texts.deck_text.deck_text.Goals as goal
use Rattle.pp_sim.specs.TextOf.{IsTextUntil, obstacle_until}

pub returns : goal.returns
returns g c =
    answered_deck c.args.profile _ _ _ _ (obstacle_until c.args.schedule.now.first.now c.args.schedule.now.until c.args.text.now) (IsTextUntil c.args.schedule.now.first.now c.args.schedule.now.until c.args.text.now) c.in_ok-front.front.items c.write_text_until.result
    (c.write_text_until.ensures c.args.profile c.in_ok-front.front.items (rw c.as_slice-bytes.ensures.value at c.in_ok-loaded.ensures.ok) c.in_ok-loaded.ensures.profile)
    c.in_ok-front.ensures.read c.in_ok-front.ensures.bounded c.in_ok-front.ensures.end

pub returns-in_err-loaded : goal.returns-in_err-loaded
returns-in_err-loaded g c =
    let p = err_from_is_err_and c.from_residual-in_err-loaded.result c.from_residual-in_err-loaded.ensures.1 in
    rw (p.1, p.2) (answered_deck c.args.profile _ _ _ _ (obstacle_until c.args.schedule.now.first.now c.args.schedule.now.until c.args.text.now) (IsTextUntil c.args.schedule.now.first.now c.args.schedule.now.until c.args.text.now) c.in_ok-front.front.items (Err _)
    (refused c.args.profile (obstacle_until c.args.schedule.now.first.now c.args.schedule.now.until c.args.text.now) (IsTextUntil c.args.schedule.now.first.now c.args.schedule.now.until c.args.text.now) _ c.in_ok-front.front.items _ (rw c.as_slice-bytes.ensures.value at c.in_err-loaded.ensures.fault))
    c.in_ok-front.ensures.read c.in_ok-front.ensures.bounded c.in_ok-front.ensures.end)
