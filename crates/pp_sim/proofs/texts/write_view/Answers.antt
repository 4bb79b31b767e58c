use Rattle.std.proofs.Common.{◌∙◌, ap, subst}
use Rattle.pp_machine.specs.Headline.{HoldsOnEachChannel}
use Rattle.pp_machine.specs.MachineState.{MachineState, processor_of}
use Rattle.pp_text.specs.PrintedText.{printed}
use Rattle.pp_text.specs.TextLaw.{FitsItsText}
use Rattle.pp_state.specs.CentralText.{central_text}
use Rattle.pp_state.specs.MemoryText.{memory_text}
use Rattle.pp_sim.proofs.AnswerLemmas.{answers_after, answers_written}
use Rattle.pp_sim.proofs.texts.write_view.Goals as goal
use Rattle.pp_sim.specs.TextAnswer.{NothingPrevents}
use Rattle.pp_sim.specs.TextOf.{IsBarrelText, central_after, memory_after}

pub returns-in_ok-run_in_order-in-Barrel : goal.returns-in_ok-run_in_order-in-Barrel
returns-in_ok-run_in_order-in-Barrel g c = λ profile bytes meant same.
    let named = c.args.loaded.now.named in
    let ran = c.in_ok-run_in_order-in-Barrel.ensures.run.ran in
    rw c.in-Barrel.is (rw c.answer_to.ensures (answers_written profile NothingPrevents (IsBarrelText c.args.first.now c.args.turns) bytes _ c.write_text.result _ _
    (record {
      deck = _;
      meant = meant;
      is = record {
        text_is = ap (printed named) ran;
        headline = subst HoldsOnEachChannel ran c.run_in_order.ensures.run.headline;
        fits = subst (FitsItsText named) ran c.write_text.ensures.fits;
      };
    })
    c.write_text.ensures.written))

pub returns-in_ok-run_in_order-in-Memory : goal.returns-in_ok-run_in_order-in-Memory
returns-in_ok-run_in_order-in-Memory g c = λ profile bytes meant same.
    let n = c.in-Memory.processor in
    let bounds = c.in-Memory.bounds in
    let ran = c.in_ok-run_in_order-in-Memory.ensures.run.ran in
    let told = ap (memory_text bounds) c.pp.ensures ∙ ap (λ (m : MachineState). memory_text bounds (processor_of n m)) ran in
    rw c.in-Memory.is (rw c.answer_to-in-Memory.ensures (answers_after profile c.args.first.now c.args.turns (memory_after n bounds) bytes _ _ _ c.write_memory.result _ _
    meant ran c.run_in_order-in-Memory.ensures.run.headline told c.write_memory.ensures))

pub returns-in_ok-run_in_order-in-Central : goal.returns-in_ok-run_in_order-in-Central
returns-in_ok-run_in_order-in-Central g c = λ profile bytes meant same.
    let bounds = c.in-Central.bounds in
    let ran = c.in_ok-run_in_order-in-Central.ensures.run.ran in
    let told = ap (central_text bounds) c.central.ensures ∙ ap (λ (m : MachineState). central_text bounds m.central) ran in
    rw c.in-Central.is (rw c.answer_to-in-Central.ensures (answers_after profile c.args.first.now c.args.turns (central_after bounds) bytes _ _ _ c.write_central.result _ _
    meant ran c.run_in_order-in-Central.ensures.run.headline told c.write_central.ensures))
