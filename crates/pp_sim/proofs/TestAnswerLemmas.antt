-- From what was read, and the verdict on a deck, to what a call promises of every reader.
use Rattle.std.proofs.Common.{◌≡◌, ◌≢◌, ℕ, ◌≤◌, ◌<◌, Bool, List, length, refl, Option, Result, Ok, Err}
use Rattle.std.specs.Prelude.{IfErr}
use Rattle.std.specs.Io.KnownBytes.{Consumes, IsAtEnd, Keeps}
use Rattle.std.proofs.KnownBytes.{Keeps-refl}
use Rattle.pp_numbers.specs.declared.profile.Profile.{Profile}
use Rattle.pp_condition.specs.declared.until.Until.{Until}
use Rattle.pp_deck.specs.DeckMeaning.{LoadedDeck, deck_meaning}
use Rattle.pp_command.specs.declared.work.Tested.{Tested}
use Rattle.pp_test.specs.JudgedLines.{IsJudgedText}
use Rattle.pp_test.specs.Verdict.{is_held, verdict}
use Rattle.pp_sim.specs.TestAnswer.{AnswersTest, ComesTo, HasTurns, IsTest}
use Rattle.pp_sim.specs.TextAnswer.{IsLoadFault, most_bytes}
use Rattle.pp_sim.specs.declared.text_fault.TextFault.{TextFault}
use Rattle.pp_sim.specs.declared.text_fault.TextFault.TheVariants as fault
use Rattle.pp_sim.proofs.AnswerLemmas.{told}

unwritten_test : (profile : Profile) (first : List ℕ) (until : Option Until) (tested : Tested) (answer : Result (Unit {0}) TextFault) (front : List ℕ) (old new : Option (List ℕ))
    → IsTest profile first until tested answer front old new → IfErr answer (λ f. f ≢ fault.Write → f ≢ fault.Findings → Keeps old new)
unwritten_test profile first until tested (Ok done) front old new answered = tt
unwritten_test profile first until tested (Err fault.Write) front old new answered = λ other. absurd (other refl)
unwritten_test profile first until tested (Err fault.Findings) front old new answered = λ _ other. absurd (other refl)
unwritten_test profile first until tested (Err (fault.NotBetweenPrograms going_on)) front old new answered = absurd answered
unwritten_test profile first until tested (Err (fault.Deck f)) front old new (_, keeps) = λ _ _. keeps
unwritten_test profile first until tested (Err (fault.Trace f)) front old new answered = absurd answered
unwritten_test profile first until tested (Err fault.Read) front old new keeps = λ _ _. keeps
unwritten_test profile first until tested (Err fault.Memory) front old new keeps = λ _ _. keeps

pub answered_test : (profile : Profile) (first : List ℕ) (until : Option Until) (tested : Tested) (before after old new : Option (List ℕ)) (front : List ℕ) (answer : Result (Unit {0}) TextFault)
    → IsTest profile first until tested answer front old new → Consumes before after front → length front ≤ most_bytes → (length front < most_bytes → IsAtEnd after)
    → AnswersTest profile first until tested answer before after old new
answered_test profile first until tested before after old new front answer answered consumed le end = record {
  every_reader = (front, record { consumed = consumed; bounded = le; answered = answered });
  known_reader = told (λ bytes. IsTest profile first until tested answer bytes old new) before after front most_bytes answered consumed le end;
  unwritten = unwritten_test profile first until tested answer front old new answered;
}

-- where no deck was loaded, nothing was written
pub refused_test : (profile : Profile) (first : List ℕ) (until : Option Until) (tested : Tested) (f : TextFault) (bytes : List ℕ) (kept : Option (List ℕ))
    → IsLoadFault profile bytes f → IsTest profile first until tested (Err f) bytes kept kept
refused_test profile first until tested (fault.Deck f) bytes kept is = (is, Keeps-refl kept)
refused_test profile first until tested (fault.NotBetweenPrograms going_on) bytes kept is = absurd is
refused_test profile first until tested fault.Findings bytes kept is = absurd is
refused_test profile first until tested fault.Memory bytes kept is = Keeps-refl kept
refused_test profile first until tested fault.Read bytes kept is = absurd is
refused_test profile first until tested fault.Write bytes kept is = absurd is
refused_test profile first until tested (fault.Trace f) bytes kept is = absurd is

-- the run of the deck that the bytes mean has these lines, and this verdict on them
pub comes_to : (profile : Profile) (first : List ℕ) (until : Option Until) (turns n : ℕ) (bytes lines : List ℕ) (held : Bool) (deck : LoadedDeck)
    → deck_meaning profile bytes ≡ Ok deck → HasTurns first until turns deck n → IsJudgedText bytes first n deck lines → held ≡ is_held bytes lines
    → ComesTo profile first until (Tested.Run turns) bytes held (verdict bytes lines)
comes_to profile first until turns n bytes lines held deck meant many is held_is = record {
  deck = deck;
  meant = meant;
  is = record { turns_run = n; has_turns = many; lines = lines; lines_are = is; held_is = held_is; text_is = refl };
}
