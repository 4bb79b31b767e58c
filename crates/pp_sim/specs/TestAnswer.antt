-- What is answered to a deck that is judged by its own expectations.
use Rattle.std.specs.Prelude.{◌≡◌, ◌≢◌, ◌≤◌, ℕ, Bool, true, false, List, length, take, Option, None, Some, Result, Ok, Err, IfErr, IfSome}
use Rattle.std.specs.Io.KnownBytes.{Appends, Consumes, Keeps}
use Rattle.pp_numbers.specs.declared.profile.Profile.{Profile}
use Rattle.pp_condition.specs.Until.{IsEndOf}
use Rattle.pp_condition.specs.declared.until.Until.{Until}
use Rattle.pp_command.specs.declared.work.Tested.{Tested}
use Rattle.pp_deck.specs.DeckMeaning.{LoadedDeck}
use Rattle.pp_test.specs.EveryOrder.{IsEveryOrderText}
use Rattle.pp_test.specs.JudgedLines.{IsJudgedText}
use Rattle.pp_test.specs.Verdict.{is_held, verdict}
use Rattle.pp_text.specs.Written.{AppendsFront}
use Rattle.pp_sim.specs.TextAnswer.{IsFaultOf, IsOfDeck, most_bytes}
use Rattle.pp_sim.specs.TextOf.{run_of}
use Rattle.pp_sim.specs.declared.text_fault.TextFault.{TextFault}

-- a run of N turns of a loaded deck, in which these processors come first, and which goes on until
-- then, has this many
abbrev pub HasTurns : List ℕ → Option Until → ℕ → LoadedDeck → ℕ → Type 0
HasTurns first None turns deck n = n ≡ turns
HasTurns first (Some until) turns deck n = IsEndOf until (run_of first turns deck) deck.machine n

-- the verdict on the lines that it is judged by, by what these bytes expect, and whether it is that
-- all held
pub record IsRunVerdict (first : List ℕ) (until : Option Until) (turns : ℕ) (bytes : List ℕ)
    (held : Bool) (deck : LoadedDeck) (text : List ℕ) : Type 0 where
  pub turns_run : ℕ
  pub has_turns : HasTurns first until turns deck turns_run
  pub lines : List ℕ
  pub lines_are : IsJudgedText bytes first turns_run deck lines
  pub held_is : held ≡ is_held bytes lines
  pub text_is : text ≡ verdict bytes lines

-- the verdict on such a run, or over every order of steps
abbrev pub IsVerdict : List ℕ → Option Until → Tested → List ℕ → Bool → LoadedDeck → List ℕ
    → Type 0
IsVerdict first until (Tested.Run turns) bytes held deck text =
    IsRunVerdict first until turns bytes held deck text
IsVerdict first until (Tested.EveryOrder states) bytes held deck text =
    IsEveryOrderText bytes deck held text

-- these bytes mean a deck, and this is the verdict on it
abbrev pub ComesTo : Profile → List ℕ → Option Until → Tested → List ℕ → Bool → List ℕ → Type 0
ComesTo profile first until tested bytes held text =
    IsOfDeck profile (IsVerdict first until tested bytes held) bytes text

-- THE ANSWER to a deck of these bytes, for a machine of this profile, and what was written: the
-- verdict, which is that all held, or another; a first part of it; or nothing
abbrev pub IsTest : Profile → List ℕ → Option Until → Tested → Result (Unit {0}) TextFault
    → List ℕ → Option (List ℕ) → Option (List ℕ) → Type 0
IsTest profile first until tested (Ok done) bytes old new = (text : List ℕ)
    × ComesTo profile first until tested bytes true text × Appends old new text
IsTest profile first until tested (Err TextFault.Findings) bytes old new = (text : List ℕ)
    × ComesTo profile first until tested bytes false text × Appends old new text
IsTest profile first until tested (Err TextFault.Write) bytes old new = (held : Bool)
    × (text : List ℕ) × ComesTo profile first until tested bytes held text
    × AppendsFront old new text
IsTest profile first until tested (Err (TextFault.Deck f)) bytes old new =
    IsFaultOf profile bytes f × Keeps old new
IsTest profile first until tested (Err TextFault.Read) bytes old new = Keeps old new
IsTest profile first until tested (Err TextFault.Memory) bytes old new = Keeps old new
IsTest profile first until tested (Err other) bytes old new = ⊥

-- One call, whatever its reader is: these bytes were consumed, and the answer is that to the deck
-- that they spell.
pub record Tests (profile : Profile) (first : List ℕ) (until : Option Until) (tested : Tested)
    (answer : Result (Unit {0}) TextFault) (before after old new : Option (List ℕ))
    (bytes : List ℕ) : Type 0 where
  pub consumed : Consumes before after bytes
  pub bounded : length bytes ≤ most_bytes
  pub answered : IsTest profile first until tested answer bytes old new

-- THE PROMISE of a call that judges a deck: how it answers every reader, whatever that knows of its
-- bytes; and one that knows which bytes it has
pub record AnswersTest (profile : Profile) (first : List ℕ) (until : Option Until)
    (tested : Tested) (answer : Result (Unit {0}) TextFault)
    (before after old new : Option (List ℕ)) : Type 0 where
  pub every_reader : (bytes : List ℕ)
      × Tests profile first until tested answer before after old new bytes
  pub known_reader : IfSome before (λ bytes.
      IsTest profile first until tested answer (take most_bytes bytes) old new)
  -- every other fault comes before the first byte is written
  pub unwritten : IfErr answer
      (λ f. f ≢ TextFault.Write → f ≢ TextFault.Findings → Keeps old new)
