use Rattle.std.specs.List.{AllZip}
use Rattle.pp_line.proofs.JoinedLines.{zip_push}
use Rattle.pp_runner.specs.Crew.{HasEnded}
use Rattle.pp_runner.proofs.crew.finish.Goals as goal
use Rattle.pp_runner.proofs.crew.finish.Goals.{in-Here, in-Apart}

pub returns : goal.returns
returns g c loads all =
    let size = c.args.run.now.size in
    let steps = c.args.run.now.limits.steps in
    let family = c.args.run.now.family.value in
    let one : HasEnded size steps family c.args.load.now c.match-begun.last = elim c.match-begun.branch [
      | in-Here w ↦ rw w.last-is (record { line = w.in-Here.line; fresh = rw w.in-Here.is at c.requires.begun; has = w.work-last.ensures.ended })
      | in-Apart w ↦
          let began = rw w.in-Apart.is at c.requires.begun in
          rw w.last-is (record { line = w.in-Apart.child.promise.line.value; fresh = began.0; has = rw (began.1, began.2, began.3) at w.join-last.ensures })
    ] in
    let before : AllZip (HasEnded size steps family) loads c.in_ok-crew.crew.items = rw c.in_ok-crew.was at all in
    rw c.in_ok-push.ensures.items (zip_push (HasEnded size steps family) loads c.in_ok-crew.crew.items c.args.load.now c.match-begun.last before one)
