-- What is answered to a deck in which is looked for what is wrong.
use Rattle.std.specs.Prelude.{◌≡◌, ◌≢◌, ◌≤◌, ℕ, true, false, List, length, take, Option, Result, Ok, Err, IfErr, IfSome}
use Rattle.std.specs.Io.KnownBytes.{Appends, Consumes, Keeps}
use Rattle.pp_numbers.specs.declared.profile.Profile.{Profile}
use Rattle.pp_lint.specs.Findings.{findings}
use Rattle.pp_lint.specs.LintText.{is_something_found, lint_text}
use Rattle.pp_text.specs.Written.{AppendsFront}
use Rattle.pp_sim.specs.TextAnswer.{most_bytes}
use Rattle.pp_sim.specs.declared.text_fault.TextFault.{TextFault}

-- THE ANSWER to a deck of these bytes, for a machine of this profile, and what was written: that
-- nothing is found, what is found, or a first part of such a text; else nothing
abbrev pub IsLint : Profile → Result (Unit {0}) TextFault → List ℕ → Option (List ℕ)
    → Option (List ℕ) → Type 0
IsLint profile (Ok done) bytes old new =
    (is_something_found (findings profile bytes) ≡ false)
    × Appends old new (lint_text profile bytes)
IsLint profile (Err TextFault.Findings) bytes old new =
    (is_something_found (findings profile bytes) ≡ true)
    × Appends old new (lint_text profile bytes)
IsLint profile (Err TextFault.Write) bytes old new = AppendsFront old new (lint_text profile bytes)
IsLint profile (Err TextFault.Read) bytes old new = Keeps old new
IsLint profile (Err TextFault.Memory) bytes old new = Keeps old new
IsLint profile (Err other) bytes old new = ⊥

-- One call, whatever its reader is: these bytes were consumed, and the answer is that to the deck
-- that they spell.
pub record Lints (profile : Profile) (answer : Result (Unit {0}) TextFault)
    (before after old new : Option (List ℕ)) (bytes : List ℕ) : Type 0 where
  pub consumed : Consumes before after bytes
  pub bounded : length bytes ≤ most_bytes
  pub answered : IsLint profile answer bytes old new

-- THE PROMISE of a call that looks into a deck: how it answers every reader, whatever that knows of
-- its bytes; and one that knows which bytes it has
pub record AnswersLint (profile : Profile) (answer : Result (Unit {0}) TextFault)
    (before after old new : Option (List ℕ)) : Type 0 where
  pub every_reader : (bytes : List ℕ) × Lints profile answer before after old new bytes
  pub known_reader : IfSome before (λ bytes.
      IsLint profile answer (take most_bytes bytes) old new)
  -- every other fault comes before the first byte is written
  pub unwritten : IfErr answer
      (λ f. f ≢ TextFault.Write → f ≢ TextFault.Findings → Keeps old new)
