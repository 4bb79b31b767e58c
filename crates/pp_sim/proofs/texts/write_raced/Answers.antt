use Rattle.std.proofs.Common.{◌≡◌, List, [], ℕ, ap, ◌∙◌, subst, true}
use Rattle.std.specs.List.{list_all}
use Rattle.pp_sim.proofs.AnswerLemmas.{answers_reported}
use Rattle.pp_sim.proofs.texts.write_raced.Goals as goal
use Rattle.pp_machine.specs.Run.{run_order}
use Rattle.pp_races.specs.Findings.{findings}
use Rattle.pp_races.specs.RacesText.{is_going_on, races_text}
use Rattle.pp_run.specs.Determinacy.{IsDeterminate, IsRaceFreeSoFar}
use Rattle.pp_sim.specs.TextOf.{IsRacesText}

pub returns : goal.returns
returns g c = λ profile bytes meant same.
    let m = c.args.loaded.now.machine in
    let order : c.in_ok-order.order ≡ run_order c.args.first.now m.profile c.args.turns = c.in_ok-order.ensures ∙ ap (λ p. run_order c.args.first.now p c.args.turns) c.profile.ensures in
    (rw c.answer_to_report.ensures (answers_reported profile (IsRacesText c.args.first.now c.args.turns) bytes _ c.write_races.result _ _
    (λ some. record {
      deck = _;
      meant = meant;
      is = record { text_is = ap (λ ns. races_text ns m) order; machine = c.is_sound.ensures; same = subst (λ (ns : List ℕ). findings ns m ≡ [] → IsDeterminate ns m) order (c.write_races.ensures.same some); no_race = subst (λ (ns : List ℕ). list_all is_going_on (findings ns m) ≡ true → IsRaceFreeSoFar ns m) order (c.write_races.ensures.no_race some) };
    })
    c.write_races.ensures.written))
