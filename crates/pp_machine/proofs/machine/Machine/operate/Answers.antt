use Rattle.std.proofs.Common.{◌≡◌, List, ◌++◌, ◌∷◌, [], arith, ℕ, get_or, get_or-set_same, slice_set, ap, sym, subst, ◌∙◌, rules}
use Rattle.std.specs.Prelude.{Some, length, IsTrue, ◌<◌}
use Rattle.std.specs.Option.{option_to_list}
use Rattle.std.proofs.lemmas.Grind.{common_steps}
use Rattle.std.proofs.lemmas.List.{get_or_read, set-get_or}
use Rattle.pp_channel.specs.Answer.{event_of, history_after}
use Rattle.pp_channel.specs.History.{IsLawful}
use Rattle.pp_channel.specs.Law.{KeepsLaw}
use Rattle.pp_channel.specs.declared.event.Event.{Event}
use Rattle.pp_numbers.specs.ChannelNo.{channel_index, names_channel}
use Rattle.pp_machine.specs.declared.{trace.Trace.Trace}
use Rattle.pp_machine.specs.Headline.{opening_history}
use Rattle.pp_machine.specs.MachineState.{MachineState}
use Rattle.pp_machine.proofs.TakenLemmas.{own_history, popped, some_is_made}
use Rattle.pp_machine.proofs.MachineStepLemmas.{served_without_event}
use Rattle.pp_machine.proofs.HeadlineLemmas.{headline_after_event}
use Rattle.pp_machine.proofs.machine.Machine.operate.Goals as goal

-- what is written back unchanged changes nothing
same_histories : {histories : List (List Event)} {h after : List Event} (i : ℕ) → h ≡ get_or histories i h → after ≡ h → slice_set histories i after ≡ histories
same_histories {histories} {h} i read same = ap (slice_set histories i) (same ∙ read) ∙ set-get_or histories i h

pub returns-in-None-clause-ok : goal.returns-in-None-clause-ok
returns-in-None-clause-ok g c = grind (arith, own_history, served_without_event)

pub invariant_of-self : goal.invariant_of-self
invariant_of-self g c = grind arith

pub invariant_of-self-in-Err : goal.invariant_of-self-in-Err
invariant_of-self-in-Err g c = grind (arith, popped, same_histories)

pub returns-in-Err-clause-unchanged_after_memory : goal.returns-in-Err-clause-unchanged_after_memory
returns-in-Err-clause-unchanged_after_memory g c =
    let inside = c.self.inside in
    let before : MachineState = record { profile = inside.profile; processors = inside.processors.items; histories = inside.channels.items; central = inside.central; turns = inside.turns; trace = inside.trace.items; opened = inside.opened } in
    let trace = popped _ c.in_ok-push-in-Some.ensures.items (omega (arith, c.push.new.self.ok.0)) c.pop.ensures.rest in
    ap (λ (hs : List (List Event)). record before { histories = hs; trace = c.pop.new.self.items }) (same_histories c.index-i.result c.index_mut-lent.ensures.value c.in-Err.ensures.unchanged_after_memory)
    ∙ (ap (λ (t : List Trace). record before { trace = t }) trace ∙ c.self.view_is)

pub invariant_of-self-in-Ok : goal.invariant_of-self-in-Ok
invariant_of-self-in-Ok g c =
    let inside = c.self.inside in
    let i = channel_index c.args.channel in
    let history = get_or inside.channels.items i [] in
    let made : event_of c.args.op history ≡ Some c.in-Some.event = grind (arith, common_steps) in
    let entry : Trace = record { turn = inside.turns; pp = c.args.n; channel = c.args.channel; event = c.in-Some.event } in
    let place = c.index-i.ensures.place in
    let below : c.index-i.result < length inside.channels.items = omega (arith, c.index-i.ensures.below, c.self.invariant.channels) in
    let new = c.make-reply.new.self in
    let read : c.index_mut-lent.result.now ≡ history = get_or_read inside.channels.items c.index-i.result c.index_mut-lent.result.now below c.index_mut-lent.ensures.value [] ∙ ap (λ k. get_or inside.channels.items k []) place in
    let longer : new ≡ history ++ c.in-Some.event ∷ [] = c.in-Ok.ensures.history ∙ ap (history_after c.args.op) read ∙ ap (λ o. history ++ option_to_list o) made in
    let grown = ap (λ k. slice_set inside.channels.items k new) place ∙ ap (slice_set inside.channels.items i) longer in
    let there : get_or (slice_set inside.channels.items c.index-i.result new) i [] ≡ new = ap (λ k. get_or (slice_set inside.channels.items c.index-i.result new) k []) (sym place) ∙ get_or-set_same inside.channels.items c.index-i.result new [] below in
    let traced = c.in_ok-push-in-Some.ensures.items in
    let within : i < length inside.channels.items = omega arith in
    let named : IsTrue (names_channel c.args.channel) = search rules in
    record {
      processors = c.self.invariant.processors;
      opened = c.self.invariant.opened;
      channels = grind (arith, common_steps, c.self.invariant.channels);
      central = c.self.invariant.central;
      headline = rw traced (headline_after_event (λ d. opening_history d (record c.args.self.now { opened = inside.opened })) inside.channels.items (slice_set inside.channels.items c.index-i.result new) inside.trace.items entry grown within named (λ d names same. c.index-i.ensures.own d names (same ∙ sym c.index-i.ensures.place)) c.self.invariant.headline (subst (λ (h : List Event). IsLawful h) (sym there) c.history-history.ensures.lawful) (subst (λ (h : List Event). KeepsLaw h) (sym there) c.history-history.ensures.law));
    }

pub make-reply-requires-clause-event : goal.make-reply-requires-clause-event
make-reply-requires-clause-event g c =
    ap (event_of c.args.op) (own_history c.args.channel c.self.view_is c.index-i.ensures.place (omega (arith, c.index-i.ensures.below, c.self.invariant.channels)) c.index_mut-lent.ensures.value
    ∙ sym (own_history c.args.channel c.self.view_is c.index-i.ensures.place (omega (arith, c.index-i.ensures.below, c.self.invariant.channels)) c.index.ensures)) ∙ (sym c.next_event-made.ensures.event ∙ c.in-Some.is)

pub make-reply-requires-clause-twelve_bits : goal.make-reply-requires-clause-twelve_bits
make-reply-requires-clause-twelve_bits g c = rw c.in-Some.is at c.next_event-made.ensures.twelve_bits

pub returns-in_err-push-in-Some-clause-no_event : goal.returns-in_err-push-in-Some-clause-no_event
returns-in_err-push-in-Some-clause-no_event g c = grind (arith, own_history, some_is_made)

pub returns-in-Err-clause-no_event : goal.returns-in-Err-clause-no_event
returns-in-Err-clause-no_event g c = grind (arith, own_history, some_is_made)

pub returns-in-Ok-clause-reply : goal.returns-in-Ok-clause-reply
returns-in-Ok-clause-reply g c = grind (arith, own_history)

pub returns-in-Ok-clause-ok : goal.returns-in-Ok-clause-ok
returns-in-Ok-clause-ok g c = grind (arith, own_history, slice_set)
