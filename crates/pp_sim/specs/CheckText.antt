-- What the check of a trace answers.
use Rattle.std.specs.Prelude.{◌≢◌, ℕ, Bool, List, Option, Result, Ok, Err, IfErr, IfSome}
use Rattle.std.specs.Io.KnownBytes.{Appends, Consumes, IsAtEnd, Keeps}
use Rattle.pp_check.specs.LawfulTrace.{AreLawful, parsed_lines}
use Rattle.pp_check.specs.TraceFault.{IsFault}
use Rattle.pp_check.specs.Verdict.{verdict_line, verdict_of}
use Rattle.pp_deck.specs.DeckText.{lines_of}
use Rattle.pp_text.specs.Written.{AppendsFront}
use Rattle.pp_sim.specs.declared.text_fault.TextFault.{TextFault}

-- the line of what is counted in a lawful trace of these bytes
abbrev pub verdict_text : List Bool → List ℕ → List ℕ
verdict_text opened bytes = verdict_line (verdict_of opened (parsed_lines (lines_of bytes)))

-- THE ANSWER to a trace of these bytes, and what was written: of a lawful trace a line or a first
-- part of it; of any other nothing, and the answer is its fault
abbrev pub IsCheck : List Bool → Result (Unit {0}) TextFault → List ℕ → Option (List ℕ)
    → Option (List ℕ) → Type 0
IsCheck opened (Ok done) bytes old new =
    AreLawful opened (lines_of bytes) × Appends old new (verdict_text opened bytes)
IsCheck opened (Err TextFault.Write) bytes old new =
    AreLawful opened (lines_of bytes) × AppendsFront old new (verdict_text opened bytes)
IsCheck opened (Err (TextFault.Trace f)) bytes old new =
    IsFault opened (lines_of bytes) f × Keeps old new
IsCheck opened (Err TextFault.Read) bytes old new = Keeps old new
IsCheck opened (Err TextFault.Memory) bytes old new = Keeps old new
IsCheck opened (Err other) bytes old new = ⊥

-- the trace was judged, so that its reader is at its end
abbrev pub IsAtEndIfJudged : Result (Unit {0}) TextFault → Option (List ℕ) → Type 0
IsAtEndIfJudged (Ok done) after = IsAtEnd after
IsAtEndIfJudged (Err TextFault.Write) after = IsAtEnd after
IsAtEndIfJudged (Err (TextFault.Trace f)) after = IsAtEnd after
IsAtEndIfJudged (Err other) after = Unit {0}

-- One call, whatever its reader is: these bytes were consumed; the answer is that to the trace that
-- they spell; and if it was judged, they were all that the reader had.
pub record Checks (opened : List Bool) (answer : Result (Unit {0}) TextFault)
    (before after old new : Option (List ℕ)) (bytes : List ℕ) : Type 0 where
  pub consumed : Consumes before after bytes
  pub answered : IsCheck opened answer bytes old new
  pub whole : IsAtEndIfJudged answer after

-- THE PROMISE of a call that checks a trace: how it answers every reader, whatever that knows of
-- its bytes; and one that knows which bytes it has
pub record AnswersTrace (opened : List Bool) (answer : Result (Unit {0}) TextFault)
    (before after old new : Option (List ℕ)) : Type 0 where
  pub every_reader : (bytes : List ℕ) × Checks opened answer before after old new bytes
  pub known_reader : IfSome before (λ bytes. IsCheck opened answer bytes old new)
  -- every fault but Write comes before the first byte is written
  pub unwritten : IfErr answer (λ f. f ≢ TextFault.Write → Keeps old new)
