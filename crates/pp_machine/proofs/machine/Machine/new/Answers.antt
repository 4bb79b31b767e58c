use Rattle.std.proofs.Common.{◌∙◌, ◌∷◌, [], List, false, length, replicate, get_or, sym, ap, subst}
use Rattle.std.specs.Prelude.{Bool, if◌then◌else◌}
use Rattle.std.proofs.lemmas.List.{length-replicate}
use Rattle.pp_numbers.specs.ChannelNo.{channel_places, channel_count, channel_index}
use Rattle.pp_channel.specs.declared.event.Event.{Event}
use Rattle.pp_channel.specs.declared.event.Event.TheVariants.{Activate}
use Rattle.pp_machine.specs.Headline.{HoldsOnChannel, events_on}
use Rattle.pp_processor.specs.Processor.{new_processor}
use Rattle.pp_numbers.specs.PpNo.{processor_count}
use Rattle.pp_machine.specs.declared.trace.Trace.{Trace}
use Rattle.pp_machine.proofs.HeadlineLemmas.{none_opened}
use Rattle.pp_machine.proofs.machine.Machine.new.Goals as goal

pub invariant_of-result : goal.invariant_of-result
invariant_of-result g c =
    let histories = c.in_ok-new_channels.field-0.items in
    record {
      processors = ap length c.in_ok-new_processors.ensures ∙ length-replicate processor_count (new_processor c.args.profile);
      channels = ap length c.in_ok-new_channels.ensures.items ∙ length-replicate {A = List Event} channel_count [];
      opened = length-replicate channel_count false;
      central = c.in_ok-central.ensures.sound;
      headline = λ k names.
          let P : Bool → Type 0 = λ opened. HoldsOnChannel (if opened then Activate ∷ [] else []) [] (get_or histories (channel_index k) []) in
          let Q : List Trace → Type 0 = λ trace. HoldsOnChannel (if get_or (replicate channel_count false) (channel_index k) false then Activate ∷ [] else []) (events_on k trace) (get_or histories (channel_index k) []) in
          subst Q (sym c.new-2.ensures.items) (subst P (sym (none_opened channel_count (channel_index k))) (c.in_ok-new_channels.ensures.headline (channel_index k) (channel_places.place_below k names)));
    }

pub returns-clause-sized : goal.returns-clause-sized
returns-clause-sized g c = c.in_ok-central.ensures.sized

pub returns-clause-bad_size : goal.returns-clause-bad_size
returns-clause-bad_size g c = (λ fault size. cc, λ bad. absurd (bad c.in_ok-central.ensures.sized))
