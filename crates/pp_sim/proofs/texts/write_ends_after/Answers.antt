use Rattle.std.proofs.Common.{Bool, List, ℕ, ap, ◌∙◌}
use Rattle.pp_machine.specs.MachineState.{MachineState}
use Rattle.pp_machine.specs.Run.{barrel, run}
use Rattle.pp_deck.specs.InUse.{in_use}
use Rattle.pp_ends.specs.EndsText.{ends_text}
use Rattle.pp_sim.proofs.AnswerLemmas.{answers_written}
use Rattle.pp_sim.proofs.texts.write_ends_after.Goals as goal
use Rattle.pp_sim.specs.TextAnswer.{NothingPrevents}
use Rattle.pp_sim.specs.TextOf.{IsEndsText}

pub returns : goal.returns
returns g c = λ profile bytes meant same.
    let load = c.args.loaded.now.machine in
    let shown = in_use (record { machine = load; named = c.args.loaded.now.named }) in
    let turns = c.args.turns in
    let ending = c.in_ok-ending.ending in
    let loops = c.in_ok-loops.loops in
    (rw c.answer_to.ensures (answers_written profile NothingPrevents (IsEndsText turns) bytes _ c.write_ends.result _ _
    (record {
      deck = _;
      meant = meant;
      is = record {
        ending = ending;
        loops = loops;
        ends = c.in_ok-ending.ensures;
        looped = c.in_ok-loops.ensures;
        text_is = ap (λ (flags : List Bool). ends_text flags ending turns c.run_barrel.new.self loops) c.in_use-shown.ensures
            ∙ ap (λ (m : MachineState). ends_text shown ending turns m loops) c.in_ok-run_barrel.ensures.run.ran
            ∙ ap (λ (t : ℕ). ends_text shown ending turns (run (barrel load.profile t) load) loops) c.turn.ensures;
      };
    })
    c.write_ends.ensures))
