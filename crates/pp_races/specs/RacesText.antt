-- The text of the races of a run: a line for each finding, and what they come to.
use Rattle.std.specs.Prelude.{ℕ, Bool, true, false, List, [], ◌∷◌, ◌++◌, codes, count_by, flat_map, nat_lt, slice_index_or, take, if◌then◌else◌}
use Rattle.std.specs.List.{list_all}
use Rattle.pp_machine.specs.MachineState.{MachineState}
use Rattle.pp_numbers.specs.PpNo.{processor_count, processor_number}
use Rattle.pp_machine.specs.declared.trace.Trace.{Trace}
use Rattle.pp_text.specs.InstructionText.{running_text}
use Rattle.pp_text.specs.PrintedText.{padded, event_text, line_end}
use Rattle.pp_word.specs.Numeral.{decimal, octal}
use Rattle.pp_races.specs.Findings.{findings}
use Rattle.pp_races.specs.Watch.{each_below}
use Rattle.pp_races.specs.declared.{asking_step.AskingStep.AskingStep, finding.Finding.Finding, verdict.Verdict.Verdict}
use Rattle.pp_races.specs.declared.finding.Finding.TheVariants.{Before, After, GoingOn, HeldBefore, Shared}
use Rattle.pp_races.specs.declared.verdict.Verdict.TheVariants.{Same, NoRaceSoFar, MayDiffer}

-- ---- steps and events

-- `PP01 0204 DCN 05        CH05`
abbrev pub place_text : AskingStep → List ℕ
place_text step =
    codes "PP" ++ octal 2 step.pp ++ codes " " ++ octal 4 step.p ++ codes " "
    ++ padded 13 (running_text step.block step.p step.word step.next)
    ++ codes " CH" ++ octal 2 step.channel

-- `000040 PP00 TAK 0002`
abbrev pub entry_text : Trace → List ℕ
entry_text entry =
    decimal entry.turn ++ codes " PP" ++ octal 2 entry.pp ++ codes " " ++ event_text entry.event

-- ---- lines

-- `000041 PP01 0204 DCN 05        CH05 BEFORE 000040 PP00 TAK 0002`: what a step has to do with an
-- event, by a word between them
abbrev pub step_line : AskingStep → List ℕ → Trace → List ℕ
step_line step between entry =
    decimal step.turn ++ codes " " ++ place_text step ++ between ++ entry_text entry ++ line_end

-- `PP00,PP01`: the processors that are flagged by place, with a comma before each but the first
abbrev pub name_text : List Bool → ℕ → List ℕ
name_text flags place =
    if slice_index_or flags place false
    then (if nat_lt 0 (count_by (λ flag. flag) (take place flags)) then codes "," else [])
    ++ codes "PP" ++ octal 2 (processor_number place)
    else []

abbrev pub processors_text : List Bool → List ℕ
processors_text flags = each_below processor_count (name_text flags)

unfoldable pub finding_line : Finding → List ℕ
finding_line (Before step entry) = step_line step (codes " BEFORE ") entry
finding_line (After step entry) = step_line step (codes " AFTER ") entry
finding_line (GoingOn n) = codes "PP" ++ octal 2 n ++ codes " GOING ON" ++ line_end
finding_line (HeldBefore step entry) =
    place_text step ++ codes " HELD, BEFORE " ++ entry_text entry ++ line_end
finding_line (Shared address writers users) =
    codes "CM " ++ octal 6 address ++ codes " WRITTEN BY " ++ processors_text writers
    ++ codes " USED BY " ++ processors_text users ++ line_end

-- ---- the whole text

abbrev pub is_going_on : Finding → Bool
is_going_on (GoingOn n) = true
is_going_on finding = false

-- what findings come to
abbrev pub verdict_of : List Finding → Verdict
verdict_of [] = Same
verdict_of (finding ∷ others) = if list_all is_going_on (finding ∷ others) then NoRaceSoFar
    else MayDiffer

abbrev pub verdict_line : Verdict → List ℕ
verdict_line Same = codes "SAME IN EVERY ORDER" ++ line_end
verdict_line NoRaceSoFar = codes "NO RACE SO FAR" ++ line_end
verdict_line MayDiffer = codes "MAY DIFFER" ++ line_end

-- the text of findings, in order
unfoldable pub findings_text : List Finding → List ℕ
findings_text all = flat_map finding_line all ++ verdict_line (verdict_of all)

-- THE TEXT of the races of a run
abbrev pub races_text : List ℕ → MachineState → List ℕ
races_text ns m = findings_text (findings ns m)
