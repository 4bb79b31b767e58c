use Rattle.std.proofs.Common.{◌≡◌, ◌≤◌, ℕ, take, [], true, List, Option, refl, length, sym, ap, ◌∙◌, Result, Ok, Err, arith, rules}
use Rattle.std.specs.Prelude.{OnErr, OnOk}
use Rattle.std.specs.List.{list_all}
use Rattle.std.proofs.lemmas.List.{take_all}
use Rattle.std.proofs.lemmas.Result.{err_from_is_err_and}
use Rattle.pp_machine.specs.MachineState.{MachineState}
use Rattle.pp_run.specs.Determinacy.{IsDeterminate, IsRaceFreeSoFar}
use Rattle.pp_text.specs.Written.{IsReportWritten}
use Rattle.pp_races.specs.Findings.{findings}
use Rattle.pp_races.specs.RacesAnswer.{AnswersRaces}
use Rattle.pp_machine.specs.Run.{run}
use Rattle.pp_text.specs.declared.report_fault.ReportFault.{ReportFault}
use Rattle.pp_races.specs.RacesText.{is_going_on, races_text}
use Rattle.pp_races.proofs.TextLemmas.{all_printed, cut_written, nothing_printed, part_printed, some_printed, some_race}
use Rattle.pp_races.proofs.races_text.write_watched.Goals as goal

on_err : {X Y P : Type 0} (answer : Result X Y) → P → OnErr answer P
on_err answer p = grind arith

on_ok : {X Y P : Type 0} (answer : Result X Y) → P → OnOk answer P
on_ok answer p = grind arith

raced : (order : List ℕ) (before after : MachineState) (answer : Result (Unit {0}) ReportFault) (old new : Option (List ℕ))
    → IsReportWritten (races_text order before) answer old new → (findings order before ≡ [] → IsDeterminate order before)
    → (list_all is_going_on (findings order before) ≡ true → IsRaceFreeSoFar order before) → after ≡ run order before → AnswersRaces order before after answer old new
raced order before after answer old new written same no_race ran =
    let cut : (done : ℕ) × (done ≤ length order) × (after ≡ run (take done order) before) =
    (length order, omega arith, ran ∙ ap (λ ns. run ns before) (sym (take_all (length order) order (omega arith)))) in
    record { written = written; same = λ _. same; no_race = λ _. no_race; ran = on_ok _ ran; cut = on_err _ cut }

pub returns-in_ok-finish-in-Ok : goal.returns-in_ok-finish-in-Ok
returns-in_ok-finish-in-Ok g c =
    let printed = all_printed g.W.Write.contents _ _ _ c.in-Ok.verdict _ c.in-Ok.ensures.printed c.print_verdict.ensures in
    let written = c.finish.ensures.written _ _ (printed.goes_on _ [] c.new-text.ensures.nothing) in
    raced c.args.order.now _ _ (Ok _) _ _ (search (rules, written)) c.in-Ok.ensures.same c.in-Ok.ensures.no_race c.in-Ok.ensures.ran

pub returns-in_err-finish-in-Ok : goal.returns-in_err-finish-in-Ok
returns-in_err-finish-in-Ok g c =
    let p = err_from_is_err_and c.from_residual.result c.from_residual.ensures.1 in
    let printed = all_printed g.W.Write.contents _ _ _ c.in-Ok.verdict _ c.in-Ok.ensures.printed c.print_verdict.ensures in
    let written = c.finish.ensures.written _ _ (printed.goes_on _ [] c.new-text.ensures.nothing) in
    rw (p.1, p.2) (raced c.args.order.now _ _ (Err ReportFault.Write) _ _ (search (rules, written)) c.in-Ok.ensures.same c.in-Ok.ensures.no_race c.in-Ok.ensures.ran)

pub returns-in-Same : goal.returns-in-Same
returns-in-Same g c =
    let printed = nothing_printed g.W.Write.contents _ _ c.in-Err.verdict _ c.in-Same.is c.in-Err.ensures.printed_first in
    let kept = cut_written g.W.Write.contents _ _ [] ReportFault.Memory c.finish-written.result _ _ printed c.new-text.ensures.nothing c.finish-written.ensures.written in
    record {
      written = search (rules, kept);
      same = λ other. absurd (other refl);
      no_race = λ other. absurd (other refl);
      ran = tt;
      cut = c.in-Err.ensures.cut;
    }

pub returns-in-NoRaceSoFar : goal.returns-in-NoRaceSoFar
returns-in-NoRaceSoFar g c =
    let printed = part_printed g.W.Write.contents _ _ c.in-Err.verdict _ c.in-Err.ensures.printed_first in
    let written = cut_written g.W.Write.contents _ _ (races_text c.args.order.now c.args.machine.now) ReportFault.Write c.finish-written.result _ _ printed
    c.new-text.ensures.nothing c.finish-written.ensures.written in
    record {
      written = search (rules, written);
      same = grind (arith, some_printed);
      no_race = grind (arith, some_race);
      ran = tt;
      cut = c.in-Err.ensures.cut;
    }
