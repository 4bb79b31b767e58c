use Rattle.std.proofs.Common.{◌≡◌, ℕ, [], ap, ◌∙◌, sym, length, get_or, ◌<◌, arith, rules}
use Rattle.std.specs.Prelude.{IsTrue}
use Rattle.std.proofs.lemmas.List.{get_or_read}
use Rattle.pp_channel.specs.Answer.{channel_state, history_after}
use Rattle.pp_numbers.specs.ChannelNo.{channel_count, names_channel, channel_places}
use Rattle.pp_processor.proofs.ReplayLemmas.{state_fits}
use Rattle.pp_machine.specs.MachineState.{history_of}
use Rattle.pp_run.proofs.BareLemmas.{states_set}
use Rattle.pp_run.proofs.bare_machine.BareMachine.serve.Goals as goal

pub returns-in-Channel-clause-fits : goal.returns-in-Channel-clause-fits
returns-in-Channel-clause-fits g c = rw (c.in-Channel.is, c.act.ensures.table) (state_fits c.in-Channel.op (get_or c.args.self.now.channels c.index.result c.index-self-index.result))

pub returns-in-Channel-clause-states : goal.returns-in-Channel-clause-states
returns-in-Channel-clause-states g c = λ m stands.
    let n = c.in-Channel.c in
    let all : length c.args.self.now.channels ≡ channel_count = search rules in
    let i = c.index.result in
    let place = c.index.ensures.place in
    let names : IsTrue (names_channel n) = channel_places.named_below n (omega (arith, place, c.index.ensures.below)) in
    let h = history_of n m in
    let states = c.args.self.now.channels in
    let within : i < length states = omega (arith, c.index.ensures.below, all) in
    let old : get_or states i c.index-self-index.result ≡ channel_state h =
    sym c.index-self-index.is ∙ get_or_read states i c.index-self-index.result within c.index-self-index.is (channel_state [])
    ∙ ap (λ (k : ℕ). get_or states k (channel_state [])) place ∙ stands.states n names in
    let new : c.act.new.self ≡ channel_state (history_after c.in-Channel.op h) = c.act.ensures.after h (stands.headline n names).lawful old in
    rw (c.in-Channel.is, c.index.ensures.place, new) (states_set c.args.self.now.channels m.histories n (history_after c.in-Channel.op h) stands.states names all stands.channels)
