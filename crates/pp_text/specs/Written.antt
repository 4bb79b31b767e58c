-- What a writer has of a text.
use Rattle.std.specs.Prelude.{◌≤◌, ℕ, List, length, take, Option, Result, Ok, Err}
use Rattle.std.specs.Io.KnownBytes.{Appends, Keeps}
use Rattle.pp_text.specs.declared.report_fault.ReportFault.{ReportFault}

-- known bytes stay and grow by a first part of the text
abbrev pub AppendsFront : Option (List ℕ) → Option (List ℕ) → List ℕ → Type 0
AppendsFront old new text = (count : ℕ) × (count ≤ length text) × Appends old new (take count text)

-- what writing a text comes to: all of it is written, or a first part of it
abbrev pub IsWritten : {E : Type 0} → List ℕ → Result (Unit {0}) E
    → Option (List ℕ) → Option (List ℕ) → Type 0
IsWritten text (Ok done) old new = Appends old new text
IsWritten text (Err fault) old new = AppendsFront old new text

-- the same of the text of a report: for lack of memory nothing is written
abbrev pub IsReportWritten : List ℕ → Result (Unit {0}) ReportFault
    → Option (List ℕ) → Option (List ℕ) → Type 0
IsReportWritten text (Ok done) old new = Appends old new text
IsReportWritten text (Err ReportFault.Write) old new = AppendsFront old new text
IsReportWritten text (Err ReportFault.Memory) old new = Keeps old new
