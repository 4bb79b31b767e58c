use Rattle.std.proofs.Common.{◌≡◌, ℕ, List, ◌∷◌, sym, ap, subst, ◌∙◌, arith}
use Rattle.std.specs.List.{flat_map}
use Rattle.std.proofs.lemmas.List.Concat.{flat_map-append}
use Rattle.pp_numbers.specs.Tables.{tabulate}
use Rattle.pp_numbers.specs.PpNo.{all_processors, processor_count, processor_number}
use Rattle.pp_text.proofs.PrintingLemmas.{◌▹◌, prints_nothing, prints_on, walk_zero, walk_more}
use Rattle.pp_text.specs.TextWriter.{Prints}
use Rattle.pp_machine.specs.MachineState.{processor_of}
use Rattle.pp_processor.specs.Processor.{Processor}
use Rattle.pp_deck.specs.DeckLine.{section as section_line}
use Rattle.pp_listing.specs.ListedLine.{deck_line}
use Rattle.pp_state.specs.Changes.{changed_lines, changed_section}
use Rattle.pp_state.specs.StateText.{changes_text}
use Rattle.pp_state.proofs.whole_text.print_changes.Goals as goal
use Rattle.pp_state.proofs.whole_text.print_changes.Goals.{then-has_changes, else-has_changes}

pub loop-place-init : goal.loop-place-init
loop-place-init g c = λ load stands. rw (walk_zero (changed_section load c.args.after.now) processor_number) (prints_nothing _ _)

pub loop-place-preserved : goal.loop-place-preserved
loop-place-preserved g c = λ load stands.
    let section = changed_section load c.args.after.now in
    let place = c.loop-place.place in
    let n = c.at-n.result in
    let told : Processor → Processor → List ℕ = λ old new. flat_map deck_line (section_line n ∷ changed_lines old.memory new.memory) in
    let changes = rw (c.pp.ensures.value load stands, c.pp-in-loop-place.ensures) at c.has_changes.ensures in
    let lines : Prints g.W.Write.contents c.loop-place.text c.if-has_changes.text (flat_map deck_line (section n)) = elim c.if-has_changes.branch [
      | then-has_changes w ↦ rw (w.text-is, sym changes ∙ w.if-has_changes.true) (subst (Prints _ _ _) (ap (λ (old : Processor). told old w.pp-then-has_changes-2.result.now) (w.pp-then-has_changes.ensures.value load stands) ∙ ap (told (processor_of n load)) w.pp-then-has_changes-2.ensures) w.print_section.ensures)
      | else-has_changes w ↦ rw (w.text-is, sym changes ∙ w.if-has_changes.false) (prints_nothing _ _)
    ] in
    prints_on _ _ _ _ _ _ _ (c.loop-place.invariant load stands) (rw c.at-n.ensures.number at lines)
    (sym (flat_map-append deck_line (flat_map section (tabulate place processor_number)) (section (processor_number place)))
    ∙ ap (flat_map deck_line) (walk_more section processor_number place))

pub returns : goal.returns
unfolding all_processors changes_text
returns g c = λ load stands.
    let all : c.loop-place.place ≡ processor_count = omega arith in
    (rw all at (c.loop-place.invariant load stands)) ▹ (rw (c.central.ensures load stands, c.central-2.ensures) at c.print_changed_central.ensures) ▹ c.print_channels.ensures.text
