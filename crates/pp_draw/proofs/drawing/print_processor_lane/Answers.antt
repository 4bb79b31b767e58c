use Rattle.std.specs.Option.{option_to_list}
use Rattle.std.proofs.lemmas.List.{get_or_read}
use Rattle.pp_word.specs.Numeral.{octal}
use Rattle.pp_draw.specs.declared.{condition.Phase.Phase, seen_step.SeenStep.SeenStep}
use Rattle.std.proofs.Common.{◌≡◌, ◌++◌, List, Option, Some, None, get_or, codes, ap, sym, true, ◌∙◌, arith, length}
use Rattle.pp_numbers.specs.PpNo.{processor_index}
use Rattle.pp_text.proofs.PrintingLemmas.{◌▹◌}
use Rattle.pp_draw.specs.Condition.{phase_for, processor_phases}
use Rattle.pp_draw.specs.DrawingText.{is_flagged, lane_text, processor_lane}
use Rattle.pp_draw.proofs.LaneLemmas.{comes_first, comes_to_end, next_left, takes_if}
use Rattle.pp_draw.proofs.drawing.print_processor_lane.Goals.{in-Some, in_default}
use Rattle.pp_draw.proofs.drawing.print_processor_lane.Goals as goal

pub loop-step-init : goal.loop-step-init
loop-step-init g c =
    let n = c.args.n in
    let steps = c.args.steps.now in
    let all : Option SeenStep → List Phase = λ o. processor_phases n (option_to_list o ++ steps.shown.items) in
    let own : Option SeenStep = get_or steps.earlier (processor_index n) None in
    let read : get_or steps.earlier c.index-3.result c.index-steps-index.result ≡ own = grind (arith, get_or_read) in
    let head = rw (c.lanes_above-row.ensures, c.index-2.ensures.place, c.processor_name.ensures) at c.begin-lane.ensures.text in
    let begun = λ (o : Option SeenStep) (is : o ≡ own).
    comes_first _ _ _ c.args.window (codes "PP" ++ octal 2 n) c.processor_name.result _ c.begin-lane.result (all own) (all o) c.begin-lane.ensures.lane c.processor_name.ensures (ap all is) head in
    elim c.match-steps-index.branch [
      | in-Some w ↦ rw (w.text-is, w.lane-is) (takes_if _ _ _ _ _ _ _ _ _ w.take_step.ensures (begun (Some w.in-Some.step) (sym w.in-Some.is ∙ read)))
      | in_default w ↦ rw (w.text-is, w.lane-is) (begun None (sym w.in_default.is ∙ read))
    ]

pub loop-step-preserved : goal.loop-step-preserved
loop-step-preserved g c =
    let left = next_left (phase_for c.args.n) c.args.steps.now.shown.items c.loop-step.step-index c.step-item.result (omega (arith, ap length c.as_slice-step-items.ensures.value)) (rw c.as_slice-step-items.ensures.value at c.step-item.is) in
    takes_if _ _ _ _ _ _ _ _ _ c.take_step-in-loop-step.ensures (rw left at c.loop-step.invariant)

pub returns : goal.returns
unfolding processor_lane lane_text
returns g c =
    let has : is_flagged c.args.shown.now (processor_index c.args.n) ≡ true = rw c.index.ensures.place at c.if-not-shown-index.false in
    rw has
    (comes_to_end _ _ _ _ _ _ (phase_for c.args.n) c.args.steps.now.shown.items c.loop-step.step-index (omega arith) c.loop-step.invariant c.finish.ensures
    ▹ (rw c.band_width.ensures.width at c.print_text_tag.ensures) ▹ (rw (c.state.ensures.value, c.pp.ensures) at c.print_state_text.ensures) ▹ c.print.ensures)
