use Rattle.std.proofs.Common.{◌≡◌, ◌<◌, ℕ, true, false, length, take, get_or, sym, ap, ◌∙◌, subst, arith}
use Rattle.std.proofs.lemmas.List.{get_or_read}
use Rattle.pp_machine.specs.MachineState.{MachineState}
use Rattle.pp_machine.specs.MachineStep.{stepped}
use Rattle.pp_machine.specs.Run.{run}
use Rattle.pp_machine.proofs.RunLemmas.{run_more}
use Rattle.pp_run.specs.BareMachine.{StandsFor}
use Rattle.pp_condition.specs.Until.{IsEndOf}
use Rattle.pp_condition.proofs.UntilLemmas.{ended, not_begun, one_more, over, renumbered}
use Rattle.pp_condition.proofs.until.steps_until.Goals as goal
use Rattle.pp_condition.proofs.until.steps_until.Goals.{then-step_meeting, else-step_meeting}

pub loop-done-init : goal.loop-done-init
loop-done-init g c = record { stands = c.in_ok-bare.ensures; runs = not_begun c.args.until.now c.args.order.now c.args.machine.now }

pub returns-then-times-until : goal.returns-then-times-until
returns-then-times-until g c =
    ended c.args.until.now c.args.order.now c.args.machine.now c.loop-done.done c.loop-done.times c.loop-done.invariant.runs
    (omega (arith, c.loop-done-test.true, ap length c.processors-processors.ensures.are)) c.if-times-until.true

pub overflow_add-times : goal.overflow_add-times
overflow_add-times g c = grind (arith, c.if-times-until.false, c.loop-done.invariant.runs.few)

pub loop-done-preserved : goal.loop-done-preserved
loop-done-preserved g c =
    let ns = c.args.order.now in
    let m = c.args.machine.now in
    let done = c.loop-done.done in
    let below : done < length ns = omega (arith, c.loop-done-test.true, ap length c.processors-processors.ensures.are) in
    let is : c.index-processors-done.result ≡ get_or ns done 0 = grind (arith, get_or_read) in
    let meets = rw is at c.step_meeting.ensures.meets (run (take done ns) m) c.loop-done.invariant.stands in
    record {
      stands = subst (λ (now : MachineState). StandsFor c.step_meeting.new.bare now)
          (ap (λ (n : ℕ). stepped n (run (take done ns) m)) is ∙ sym (run_more ns done m below))
          (c.step_meeting.ensures.stepped (run (take done ns) m) c.loop-done.invariant.stands);
      runs = elim c.if-step_meeting.branch [
        | then-step_meeting w ↦
            renumbered c.args.until.now ns m _ _ _ _
            (one_more c.args.until.now ns m done c.loop-done.times true c.loop-done.invariant.runs c.if-times-until.false (rw w.if-step_meeting.true at meets))
            (omega arith) (omega (arith, w.times-is))
        | else-step_meeting w ↦
            renumbered c.args.until.now ns m _ _ _ _
            (one_more c.args.until.now ns m done c.loop-done.times false c.loop-done.invariant.runs c.if-times-until.false (rw w.if-step_meeting.false at meets))
            (omega arith) (omega (arith, w.times-is))
      ];
    }

pub returns : goal.returns
returns g c =
    let all : c.loop-done.done ≡ length c.args.order.now = omega (arith, c.loop-done-test.false, c.loop-done.auto.done-end, ap length c.processors-processors.ensures.are) in
    let end = over c.args.until.now c.args.order.now c.args.machine.now c.loop-done.done c.loop-done.times c.loop-done.invariant.runs all in
    subst (λ (k : ℕ). IsEndOf c.args.until.now c.args.order.now c.args.machine.now k) (all ∙ ap length (sym c.processors-processors.ensures.are)) end
