use Rattle.std.proofs.Common.{◌≡◌, take, ◌<◌, ℕ, ◌+◌, List, length, refl, sym, ap, ◌∙◌, subst, arith}
use Rattle.std.specs.Prelude.{IsTrue, None, Option, replicate}
use Rattle.std.proofs.lemmas.List.{get_or-replicate, length-take}
use Rattle.pp_processor.specs.Processor.{Processor}
use Rattle.pp_numbers.specs.PpNo.{names_processor, processor_count, processor_index, processor_places}
use Rattle.pp_numbers.specs.Profile.{processor_in_turn}
use Rattle.pp_machine.specs.MachineState.{MachineState}
use Rattle.pp_machine.specs.MachineStep.{stepped}
use Rattle.pp_machine.specs.Run.{barrel}
use Rattle.pp_run.specs.BareMachine.{StandsFor}
use Rattle.pp_machine.proofs.RunLemmas.{barrel_more, length-barrel}
use Rattle.pp_numbers.specs.declared.profile.Profile.{Profile}
use Rattle.pp_ends.specs.Ending.{after_turns}
use Rattle.pp_ends.specs.Loops.{AreLoops, TellLoops, loop_of}
use Rattle.pp_ends.specs.declared.{ending.Ending.Ending, loops.Loop.Loop}
use Rattle.pp_ends.specs.declared.ending.Ending.TheVariants.{Repeats}
use Rattle.pp_ends.proofs.LoopLemmas.{loops_more, noted_places}
use Rattle.pp_ends.proofs.StillLemmas.{turn_read}
use Rattle.pp_machine.proofs.OrderLemmas.{take_barrel}
use Rattle.pp_ends.proofs.loops.find_loops.Goals as goal

no_loops : (n : ℕ) → IsTrue (names_processor n) → loop_of (replicate processor_count None) n ≡ None
no_loops n names = get_or-replicate {A = Option Loop} processor_count (processor_index n) None None (processor_places.place_below n names)

others : (ending : Ending) (m : MachineState) → ((from every : ℕ) → ¬ (ending ≡ Repeats from every)) → AreLoops (replicate processor_count None) ending m
others (Repeats from every) m other = absurd (other from every refl)
others ending m other = no_loops

pub returns-in_default : goal.returns-in_default
returns-in_default g c = others c.args.ending c.args.machine.now c.in_default.not-Repeats

in_list : (end : ℕ) (order : List ℕ) (p : Profile) (turn : ℕ) → order ≡ barrel p end → turn < end → turn < length order
in_list end order p turn are low = omega (arith, low, ap length are, length-barrel p end)

pub slice_bounds-run_to_last_move-end : goal.slice_bounds-run_to_last_move-end
slice_bounds-run_to_last_move-end g c = omega (arith, c.in-Some.ensures, length-take c.in-Repeats.from c.processors-order.result.now, ap length (c.processors-order.ensures.are ∙ c.in_ok-order.ensures), length-barrel c.args.machine.now.profile c.in-Some.end)

pub bounds-order-turn : goal.bounds-order-turn
bounds-order-turn g c = in_list c.in-Some.end _ c.args.machine.now.profile c.loop-turn.turn (c.processors-order.ensures.are ∙ c.in_ok-order.ensures) c.loop-turn-test.true

pub loop-turn-init : goal.loop-turn-init
loop-turn-init g c =
    (record {
      ran = c.run_to_last_move-still.ensures.ran c.in-Repeats.from c.args.machine.now (ap (take c.in-Repeats.from) (c.processors-order.ensures.are ∙ c.in_ok-order.ensures) ∙ take_barrel c.args.machine.now.profile c.in-Some.end c.in-Repeats.from (omega (arith, c.in-Some.ensures))) c.in_ok-bare.ensures;
      on = omega arith;
      places = refl;
      loops = λ n names. rw (get_or-replicate {A = Option Loop} processor_count (processor_index n) None None (processor_places.place_below n names)) (λ turn i. omega (arith, i.from_on, i.before));
    })

pub loop-turn-preserved : goal.loop-turn-preserved
loop-turn-preserved g c =
    let m = c.args.machine.now in
    let turn = c.loop-turn.turn in
    let n = c.index-order-turn.result in
    let is : n ≡ processor_in_turn m.profile turn = turn_read c.processors-order.result.now m.profile c.in-Some.end turn n (c.processors-order.ensures.are ∙ c.in_ok-order.ensures) (in_list c.in-Some.end _ m.profile turn (c.processors-order.ensures.are ∙ c.in_ok-order.ensures) c.loop-turn-test.true) c.index-order-turn.is in
    let p = c.p-p.ensures ∙ ap (λ (pp : Processor). pp.p) (c.pp.ensures.value (after_turns turn m) c.loop-turn.invariant.ran) in
    let names : IsTrue (names_processor n) = processor_places.named_below n c.pp.ensures.within in
    let on = c.loop-turn.invariant.on in
    record {
      ran = subst (λ (k : MachineState). StandsFor c.step_moves-moved.new.bare k) (ap (λ (q : ℕ). stepped q (after_turns turn m)) is ∙ sym (barrel_more m.profile turn m))
          (c.step_moves-moved.ensures.stepped (after_turns turn m) c.loop-turn.invariant.ran);
      on = omega (arith, on);
      places = ap length c.note.ensures ∙ noted_places c.loop-turn.loops n c.p-p.result c.step_moves-moved.result ∙ c.loop-turn.invariant.places;
      loops = subst (λ (loops : List (Option Loop)). TellLoops loops c.in-Repeats.from (turn + 1) m) (sym c.note.ensures)
          (loops_more c.loop-turn.loops c.in-Repeats.from turn n c.p-p.result m c.step_moves-moved.result c.loop-turn.invariant.places on is names p
          (c.step_moves-moved.ensures.moved (after_turns turn m) c.loop-turn.invariant.ran) c.loop-turn.invariant.loops);
    }

pub returns : goal.returns
returns g c = let all : c.loop-turn.turn ≡ c.in-Repeats.from + c.in-Repeats.every = omega (arith, c.loop-turn-test.false, c.loop-turn.auto.turn-end, c.in-Some.ensures) in rw c.in-Repeats.is (rw all at c.loop-turn.invariant.loops)
