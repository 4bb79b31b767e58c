use Rattle.std.proofs.Common.{◌≡◌, ◌∙◌, ◌∷◌, [], List, length, sym, ap, subst, true, slice_set, Bool}
use Rattle.std.proofs.lemmas.List.{length-set}
use Rattle.pp_numbers.specs.ChannelNo.{channel_index}
use Rattle.pp_channel.specs.declared.event.Event.{Event}
use Rattle.pp_channel.specs.declared.event.Event.TheVariants.{Activate}
use Rattle.pp_machine.specs.Headline.{HoldsOnEachChannel}
use Rattle.pp_machine.specs.MachineState.{MachineState, history_of}
use Rattle.pp_machine.proofs.DeadStartLemmas.{headline_after_opening}
use Rattle.pp_machine.proofs.machine.Machine.let_wait.Goals as goal

pub invariant_of-self : goal.invariant_of-self
invariant_of-self g c =
    let inside = c.self.inside in
    let m : MachineState = record { profile = inside.profile; processors = inside.processors.items; histories = inside.channels.items; central = inside.central; turns = inside.turns; trace = inside.trace.items; opened = inside.opened } in
    let n = c.args.n in
    let place : c.index-i.result ≡ channel_index n = c.index-i.ensures.place ∙ ap channel_index c.own_channel-own.ensures.value in
    let histories : slice_set inside.channels.items c.index-i.result c.args.channel ≡ slice_set inside.channels.items (channel_index n) (Activate ∷ []) =
    ap (λ k. slice_set inside.channels.items k c.args.channel) place ∙ ap (λ h. slice_set inside.channels.items (channel_index n) h) c.requires.opened in
    let opened : slice_set inside.opened c.index-i.result true ≡ slice_set inside.opened (channel_index n) true = ap (λ k. slice_set inside.opened k true) place in
    let unused : history_of n m ≡ [] = ap (history_of n) c.self.view_is ∙ c.requires.unused in
    let headline = headline_after_opening m n c.args.channel c.own_channel-own.ensures.named unused c.requires.opened c.history-history.ensures.lawful c.history-history.ensures.law c.self.invariant in
    record {
      processors = length-set inside.processors.items c.index.result c.wait_load.new.self ∙ c.self.invariant.processors;
      channels = ap length histories ∙ (length-set inside.channels.items (channel_index n) (Activate ∷ []) ∙ c.self.invariant.channels);
      opened = length-set inside.opened c.index-i.result true ∙ c.self.invariant.opened;
      central = c.self.invariant.central;
      headline = subst (λ (hs : List (List Event)). HoldsOnEachChannel (record m { histories = hs; opened = slice_set inside.opened c.index-i.result true })) (sym histories)
          (subst (λ (os : List Bool). HoldsOnEachChannel (record m { histories = slice_set inside.channels.items (channel_index n) (Activate ∷ []); opened = os })) (sym opened) headline);
    }
