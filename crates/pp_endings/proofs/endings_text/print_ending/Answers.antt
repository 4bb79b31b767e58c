use Rattle.std.proofs.Common.{◌≡◌, Bool, List, ℕ, ◌++◌, ap, ◌∙◌}
use Rattle.std.specs.List.{flat_map}
use Rattle.pp_numbers.specs.PpNo.{all_processors}
use Rattle.pp_machine.specs.MachineState.{MachineState}
use Rattle.pp_machine.specs.Run.{run}
use Rattle.pp_deck.specs.DeckMeaning.{LoadedDeck}
use Rattle.pp_deck.specs.InUse.{in_use}
use Rattle.pp_text.proofs.PrintingLemmas.{◌▹◌, prints_on}
use Rattle.pp_state.specs.StateText.{changes_text}
use Rattle.pp_endings.specs.EndingsText.{ending_text, going_line, order_line}
use Rattle.pp_endings.proofs.endings_text.print_ending.Goals as goal

pub returns : goal.returns
unfolding ending_text
returns g c =
    let deck : LoadedDeck = record { machine = c.args.source.now.load.now.machine; named = c.args.source.now.load.now.named } in
    let order = c.args.ending.now.order.items in
    let going = c.args.ending.now.goes_on in
    let after = c.in_ok-after.after.machine in
    let ran : after ≡ run order deck.machine = c.in_ok-after.ensures deck c.requires.meant ∙ ap (λ (ns : List ℕ). run ns deck.machine) c.as_slice.ensures.value in
    let told : List ℕ → List Bool → MachineState → List ℕ =
    λ ns shown m. order_line ns ++ flat_map (going_line shown going m) all_processors ++ changes_text deck.machine m in
    prints_on _ _ _ _ _ _ _ (c.print_order_line.ensures ▹ c.print_each_named.ensures.text) (c.print_changes.ensures deck.machine c.requires.stands)
    (ap (λ (ns : List ℕ). told ns c.in_use.result after) c.as_slice-2.ensures.value
    ∙ ap (λ (flags : List Bool). told order flags after) c.in_use.ensures
    ∙ ap (told order (in_use deck)) ran)
