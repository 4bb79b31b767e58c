-- What the call that writes the races of a run answers.
use Rattle.std.specs.Prelude.{◌≡◌, ◌≢◌, ◌≤◌, ℕ, true, List, [], length, take, Option, Result, Err, OnErr, OnOk}
use Rattle.std.specs.List.{list_all}
use Rattle.pp_machine.specs.MachineState.{MachineState}
use Rattle.pp_machine.specs.Run.{run}
use Rattle.pp_run.specs.Determinacy.{IsDeterminate, IsRaceFreeSoFar}
use Rattle.pp_text.specs.Written.{IsReportWritten}
use Rattle.pp_text.specs.declared.report_fault.ReportFault.{ReportFault}
use Rattle.pp_races.specs.Findings.{findings}
use Rattle.pp_races.specs.RacesText.{is_going_on, races_text}

-- THE PROMISE: the text is written; if nothing is found the run is determinate, and if nothing but
-- processors that go on, no step of it races so far; the machine has made the run, or after a fault
-- some first steps
pub record AnswersRaces (ns : List ℕ) (before after : MachineState)
    (answer : Result (Unit {0}) ReportFault) (old new : Option (List ℕ)) : Type 0 where
  pub written : IsReportWritten (races_text ns before) answer old new
  pub same : answer ≢ Err ReportFault.Memory → findings ns before ≡ [] → IsDeterminate ns before
  pub no_race : answer ≢ Err ReportFault.Memory
      → list_all is_going_on (findings ns before) ≡ true → IsRaceFreeSoFar ns before
  pub ran : OnOk answer (after ≡ run ns before)
  pub cut : OnErr answer
      ((done : ℕ) × (done ≤ length ns) × (after ≡ run (take done ns) before))
