use Rattle.std.proofs.Common.{◌≡◌, ◌<◌, ◌≤◌, ◌+◌, ◌-◌, refl, List, [], ap, get_or, length, sym, subst, ◌∙◌, arith}
use Rattle.std.proofs.lemmas.List.{get_or_read}
use Rattle.std.specs.Prelude.{None, Option, false, is_some}
use Rattle.pp_channel.specs.Answer.{channel_state, event_of, reply_by, reply_shown, reply_to}
use Rattle.pp_numbers.specs.ChannelNo.{channel_index}
use Rattle.pp_channel.specs.declared.{chan_op.ChanOp.ChanOp, event.Event.Event}
use Rattle.pp_machine.specs.MachineState.{history_of}
use Rattle.pp_machine.proofs.QuietLemmas.{none_ahead, ahead_more, local_ahead, shown_ahead, ahead_at_rest, ahead_held}
use Rattle.pp_machine.proofs.quiet.run_quiet_steps.Goals as goal

no_event : (made : Option Event) → is_some made ≡ false → made ≡ None
no_event made none = grind arith

shown_reply : (op : ChanOp) (h : List Event) → event_of op h ≡ None → reply_shown op (channel_state h) ≡ reply_to op h
shown_reply op h none = sym (ap (reply_by op (channel_state h)) none)

pub loop-made-init : goal.loop-made-init
loop-made-init g c = record { within = omega arith; ahead = λ m same. none_ahead m c.args.pp.now }

pub returns-then-made-most-clause-ahead : goal.returns-then-made-most-clause-ahead
returns-then-made-most-clause-ahead g c = λ m same.
    ahead_more c.loop-made.made (c.args.most - c.loop-made.made - c.run_free_steps-left.result) m c.args.pp.now c.loop-made.pp c.run_free_steps-left.new.pp (c.loop-made.invariant.ahead m same) (c.run_free_steps-left.ensures.ahead m same)

pub returns-in-Nothing-clause-ahead : goal.returns-in-Nothing-clause-ahead
returns-in-Nothing-clause-ahead g c = λ m same.
    let made = c.loop-made.made + (c.args.most - c.loop-made.made - c.run_free_steps-left.result) in
    let within : made ≤ c.args.most = omega (arith, c.run_free_steps-left.ensures.most) in
    let ahead = ahead_more c.loop-made.made (c.args.most - c.loop-made.made - c.run_free_steps-left.result) m c.args.pp.now c.loop-made.pp c.run_free_steps-left.new.pp (c.loop-made.invariant.ahead m same) (c.run_free_steps-left.ensures.ahead m same) in
    ahead_at_rest made c.args.most m c.args.pp.now c.run_free_steps-left.new.pp ahead (sym c.in-Nothing.ensures.need) within

pub loop-made-preserved-in-Local : goal.loop-made-preserved-in-Local
loop-made-preserved-in-Local g c = record {
  within = omega (arith, c.run_free_steps-left.ensures.most, c.if-made-most.false);
  ahead = λ m same.
      let made = c.loop-made.made + (c.args.most - c.loop-made.made - c.run_free_steps-left.result) in
      let ahead = ahead_more c.loop-made.made (c.args.most - c.loop-made.made - c.run_free_steps-left.result) m c.args.pp.now c.loop-made.pp c.run_free_steps-left.new.pp (c.loop-made.invariant.ahead m same) (c.run_free_steps-left.ensures.ahead m same) in
      local_ahead made m c.args.pp.now c.run_free_steps-left.new.pp c.give-moved.new.self ahead (sym c.in-Local.ensures.need) c.give-moved.ensures.after;
}

pub returns-then-is_some-clause-ahead : goal.returns-then-is_some-clause-ahead
returns-then-is_some-clause-ahead g c = λ m same.
    ahead_more c.loop-made.made (c.args.most - c.loop-made.made - c.run_free_steps-left.result) m c.args.pp.now c.loop-made.pp c.run_free_steps-left.new.pp (c.loop-made.invariant.ahead m same) (c.run_free_steps-left.ensures.ahead m same)

pub returns-in-Held-clause-ahead : goal.returns-in-Held-clause-ahead
returns-in-Held-clause-ahead g c = λ m same.
    let made = c.loop-made.made + (c.args.most - c.loop-made.made - c.run_free_steps-left.result) in
    let within : made ≤ c.args.most = omega (arith, c.run_free_steps-left.ensures.most) in
    let ahead = ahead_more c.loop-made.made (c.args.most - c.loop-made.made - c.run_free_steps-left.result) m c.args.pp.now c.loop-made.pp c.run_free_steps-left.new.pp (c.loop-made.invariant.ahead m same) (c.run_free_steps-left.ensures.ahead m same) in
    let channel = c.in-Channel.channel in
    let op = c.in-Channel.op in
    let inside : c.index.result < length c.args.channels.now.items = omega (arith, c.index.ensures.below, c.requires.channels, c.args.channels.now.ok.0) in
    let here : c.index-channel.result.now ≡ history_of channel m =
    get_or_read c.args.channels.now.items c.index.result c.index-channel.result.now inside c.index-channel.ensures []
    ∙ ap (λ i. get_or c.args.channels.now.items i []) c.index.ensures.place
    ∙ ap (λ (hs : List (List Event)). get_or hs (channel_index channel) []) (sym same) in
    let none : event_of op (history_of channel m) ≡ None = subst (λ (h : List Event). event_of op h ≡ None) here (sym c.next_event.ensures.event ∙ no_event c.next_event.result (sym c.is_some.ensures ∙ c.if-is_some.false)) in
    let reply = c.shown.ensures ∙ ap (λ (h : List Event). reply_shown op (channel_state h)) here ∙ shown_reply op (history_of channel m) none in
    ahead_held made c.args.most channel op c.shown.result m c.args.pp.now c.run_free_steps-left.new.pp c.give.new.self ahead (sym c.in-Channel.ensures.need) none reply c.give.ensures.after (c.in-Held.ensures.held_changes_nothing refl) within

pub loop-made-preserved : goal.loop-made-preserved
loop-made-preserved g c = record {
  within = omega (arith, c.run_free_steps-left.ensures.most, c.if-made-most.false);
  ahead = λ m same.
      let made = c.loop-made.made + (c.args.most - c.loop-made.made - c.run_free_steps-left.result) in
      let ahead = ahead_more c.loop-made.made (c.args.most - c.loop-made.made - c.run_free_steps-left.result) m c.args.pp.now c.loop-made.pp c.run_free_steps-left.new.pp (c.loop-made.invariant.ahead m same) (c.run_free_steps-left.ensures.ahead m same) in
      let channel = c.in-Channel.channel in
      let op = c.in-Channel.op in
      let inside : c.index.result < length c.args.channels.now.items = omega (arith, c.index.ensures.below, c.requires.channels, c.args.channels.now.ok.0) in
      let here : c.index-channel.result.now ≡ history_of channel m =
      get_or_read c.args.channels.now.items c.index.result c.index-channel.result.now inside c.index-channel.ensures []
      ∙ ap (λ i. get_or c.args.channels.now.items i []) c.index.ensures.place
      ∙ ap (λ (hs : List (List Event)). get_or hs (channel_index channel) []) (sym same) in
      let none : event_of op (history_of channel m) ≡ None = subst (λ (h : List Event). event_of op h ≡ None) here (sym c.next_event.ensures.event ∙ no_event c.next_event.result (sym c.is_some.ensures ∙ c.if-is_some.false)) in
      let reply = c.shown.ensures ∙ ap (λ (h : List Event). reply_shown op (channel_state h)) here ∙ shown_reply op (history_of channel m) none in
      shown_ahead made channel op c.shown.result m c.args.pp.now c.run_free_steps-left.new.pp c.give.new.self ahead (sym c.in-Channel.ensures.need) none reply c.give.ensures.after;
}

pub returns-in-Read-clause-ahead : goal.returns-in-Read-clause-ahead
returns-in-Read-clause-ahead g c = λ m same.
    ahead_more c.loop-made.made (c.args.most - c.loop-made.made - c.run_free_steps-left.result) m c.args.pp.now c.loop-made.pp c.run_free_steps-left.new.pp (c.loop-made.invariant.ahead m same) (c.run_free_steps-left.ensures.ahead m same)
