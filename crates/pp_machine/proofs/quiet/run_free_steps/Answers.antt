use Rattle.std.proofs.Common.{◌≡◌, ◌<◌, ◌≤◌, ◌-◌, ◌+◌, ℕ, Bool, true, refl, List, [], ap, sym, subst, ◌∙◌, arith, get_or, length}
use Rattle.std.specs.Prelude.{if◌then◌else◌}
use Rattle.std.proofs.lemmas.List.{get_or_read}
use Rattle.pp_channel.specs.Answer.{flags_of}
use Rattle.pp_numbers.specs.ChannelNo.{channel_index}
use Rattle.pp_channel.specs.declared.chan_op.ChanOp.TheVariants.{Probe}
use Rattle.pp_channel.specs.declared.event.Event.{Event}
use Rattle.pp_machine.specs.MachineState.{MachineState, history_of}
use Rattle.pp_processor.specs.NeedAndEffect.{need}
use Rattle.pp_processor.specs.Processor.{Processor}
use Rattle.pp_numbers.specs.Profile.{has_channel}
use Rattle.pp_machine.specs.Quiet.{IsAhead}
use Rattle.pp_processor.specs.declared.need.Need.TheVariants as needs
use Rattle.pp_machine.proofs.QuietLemmas.{none_ahead, local_ahead, probe_ahead}
use Rattle.pp_machine.proofs.quiet.run_free_steps.Goals as goal

-- a step more is a step less that is left
one_more : (most left : ℕ) → 0 < left → left ≤ most → most - left + 1 ≡ most - (left - 1)
one_more most left some within = omega arith

none_made : (most : ℕ) (m : MachineState) (pp : Processor) → IsAhead (most - most) m pp pp
none_made most m pp = let none : 0 ≡ most - most = omega arith in subst (λ made. IsAhead made m pp pp) none (none_ahead m pp)

pub returns-then-not-is_at_instruction-clause-ahead : goal.returns-then-not-is_at_instruction-clause-ahead
returns-then-not-is_at_instruction-clause-ahead g c = λ m same. none_made c.args.most m c.args.pp.now

pub loop-left-init : goal.loop-left-init
loop-left-init g c = grind (arith, none_made)

pub returns-then-ends-clause-ahead : goal.returns-then-ends-clause-ahead
returns-then-ends-clause-ahead g c = λ m same.
    subst (λ made. IsAhead made m c.args.pp.now c.step_internal.new.self) (one_more c.args.most c.loop-left.left c.loop-left-test.true c.loop-left.invariant.within)
    (local_ahead (c.args.most - c.loop-left.left) m c.args.pp.now c.loop-left.pp c.step_internal.new.self (c.loop-left.invariant.ahead m same) c.if-step_internal.ensures.local c.if-step_internal.ensures.after)

pub loop-left-preserved-then-step_internal : goal.loop-left-preserved-then-step_internal
loop-left-preserved-then-step_internal g c = record {
  ahead = λ m same.
      subst (λ made. IsAhead made m c.args.pp.now c.step_internal.new.self) (one_more c.args.most c.loop-left.left c.loop-left-test.true c.loop-left.invariant.within)
      (local_ahead (c.args.most - c.loop-left.left) m c.args.pp.now c.loop-left.pp c.step_internal.new.self (c.loop-left.invariant.ahead m same) c.if-step_internal.ensures.local c.if-step_internal.ensures.after);
  within = omega arith;
  running = c.if-step_internal.ensures.running (sym c.ends.ensures ∙ c.if-ends.false);
  free = c.if-step_internal.ensures.free;
}

pub returns-then-not-tests_flags-clause-ahead : goal.returns-then-not-tests_flags-clause-ahead
returns-then-not-tests_flags-clause-ahead g c = λ m same.
    subst (λ (pp : Processor). IsAhead (c.args.most - c.loop-left.left) m c.args.pp.now pp) (sym c.if-step_internal.ensures.otherwise) (c.loop-left.invariant.ahead m same)

pub returns-in_default-clause-ahead : goal.returns-in_default-clause-ahead
returns-in_default-clause-ahead g c = λ m same.
    subst (λ (pp : Processor). IsAhead (c.args.most - c.loop-left.left) m c.args.pp.now pp) (sym c.if-step_internal.ensures.otherwise) (c.loop-left.invariant.ahead m same)

pub loop-left-preserved : goal.loop-left-preserved
loop-left-preserved g c = record {
  ahead = λ m same.
      let histories = c.args.channels.now.items in
      let between = c.step_internal.new.self in
      let channel = c.in-Some.channel in
      let d = c.instruction_at_p-op.result.1 in
      let ahead : IsAhead (c.args.most - c.loop-left.left) m c.args.pp.now between = subst (λ (pp : Processor). IsAhead (c.args.most - c.loop-left.left) m c.args.pp.now pp) (sym c.if-step_internal.ensures.otherwise) (c.loop-left.invariant.ahead m same) in
      let number : channel ≡ d = c.in-Some.ensures.value in
      let named : has_channel between.profile d ≡ true = c.in-Some.ensures.exists.0 refl in
      let asks : need between ≡ needs.Channel channel Probe =
      c.if-not-tests_flags.ensures ∙ ap (λ (b : Bool). if b then needs.Channel d Probe else needs.Local) named ∙ ap (λ k. needs.Channel k Probe) (sym number) in
      let place = c.index.result in
      let inside : place < length histories = omega (arith, c.index.ensures.below, c.requires.channels, c.args.channels.now.ok.0) in
      let here : c.index-in-loop-left.result.now ≡ history_of channel m =
      get_or_read histories place c.index-in-loop-left.result.now inside c.index-in-loop-left.ensures []
      ∙ ap (λ i. get_or histories i []) c.index.ensures.place
      ∙ ap (λ (hs : List (List Event)). get_or hs (channel_index channel) []) (sym same) in
      subst (λ made. IsAhead made m c.args.pp.now c.test_flags.new.self) (one_more c.args.most c.loop-left.left c.loop-left-test.true c.loop-left.invariant.within)
      (probe_ahead (c.args.most - c.loop-left.left) channel c.flags-flags.result m c.args.pp.now between c.test_flags.new.self ahead asks (c.flags-flags.ensures ∙ ap flags_of here) c.test_flags.ensures.after);
  within = omega arith;
  running = c.test_flags.ensures.running;
  free = c.test_flags.ensures.free;
}

pub returns-clause-ahead : goal.returns-clause-ahead
returns-clause-ahead g c = λ m same. c.loop-left.invariant.ahead m same
