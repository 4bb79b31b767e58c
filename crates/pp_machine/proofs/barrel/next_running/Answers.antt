use Rattle.std.proofs.Common.{arith, ℕ, ◌≡◌, ◌+◌, ◌-◌, ◌<◌, length, ap, get_or, subst, ◌∙◌}
use Rattle.std.proofs.lemmas.List.{length-set, get_or_read}
use Rattle.pp_processor.specs.Processor.{Processor, no_processor, is_running, IsAtRest}
use Rattle.pp_numbers.specs.PpNo.{processor_count}
use Rattle.pp_machine.proofs.RoundLemmas.{PassesFrom, passes_from_running, passes_from_rest}
use Rattle.pp_machine.proofs.barrel.next_running.Goals as goal
use Rattle.pp_machine.proofs.barrel.next_running.Goals.{then-is_running, else-is_running}

pub loop-place-preserved : goal.loop-place-preserved
loop-place-preserved g c =
    let next = c.loop-place.next in
    let place = c.loop-place.place - 1 in
    let processors = c.args.processors.now.items in
    let so_far : PassesFrom next (place + 1) c.loop-place.running processors =
    let here : c.loop-place.place ≡ place + 1 = omega arith in
    let P : ℕ → Type 0 = λ k. PassesFrom next k c.loop-place.running processors in
    subst P here c.loop-place.invariant.so_far in
    let long = c.loop-place.invariant.long in
    let inside : place < length next = omega arith in
    let named : place < processor_count = omega arith in
    record {
      long = simp length-set long;
      so_far = elim c.if-is_running.branch [
        | then-is_running w ↦ rw w.running-is (passes_from_running next place c.loop-place.running processors inside named so_far)
        | else-is_running w ↦
            let here = get_or_read processors place c.index.result.now (omega arith) c.index.ensures no_processor in
            let state : c.state.result ≡ (get_or processors place no_processor).state = c.state.ensures.value ∙ ap (λ (pp : Processor). pp.state) here in
            let rests : IsAtRest (get_or processors place no_processor) = λ running. let on = ap is_running (state ∙ running) in let off = w.if-is_running.false in cc in
            rw w.running-is (passes_from_rest next place c.loop-place.running processors inside rests so_far)
      ];
    }
