-- From what was read, and the answer to it, to what a call promises of every reader.
use Rattle.std.proofs.Common.{◌≡◌, ◌≢◌, refl, ℕ, ◌≤◌, ◌<◌, Bool, true, false, cond, List, length, take, inl, inr, Option, Some, None, Result, Ok, Err, subst, arith}
use Rattle.std.specs.Prelude.{◌⊎◌, IfErr, IfSome, OnOk}
use Rattle.std.specs.Io.KnownBytes.{Consumes, IsAtEnd, Keeps}
use Rattle.std.proofs.KnownBytes.{Keeps-refl}
use Rattle.std.proofs.lemmas.Bool.{cases_lt, lt-ltb}
use Rattle.pp_sim.proofs.ByteLemmas.{read_front}
use Rattle.pp_machine.specs.Headline.{HoldsOnEachChannel}
use Rattle.pp_machine.specs.MachineState.{MachineState}
use Rattle.pp_machine.specs.Run.{run}
use Rattle.pp_numbers.specs.declared.profile.Profile.{Profile}
use Rattle.pp_deck.specs.DeckMeaning.{LoadedDeck, deck_meaning}
use Rattle.pp_deck.specs.declared.deck_fault.DeckFault.{DeckFault}
use Rattle.pp_text.specs.Written.{IsReportWritten, IsWritten}
use Rattle.pp_text.specs.declared.{report_fault.ReportFault.ReportFault, write_fault.WriteFault.WriteFault}
use Rattle.pp_text.specs.declared.report_fault.ReportFault.TheVariants as report
use Rattle.pp_lint.specs.LintText.{lint_text}
use Rattle.pp_sim.specs.LintAnswer.{AnswersLint, IsLint}
use Rattle.pp_sim.specs.TextAnswer.{AnswersDeckUnless, IsAnswerUnless, IsOfDeck, IsLoadFault, NothingPrevents, answer_to, answer_to_report, fault_by, most_bytes}
use Rattle.pp_sim.specs.TextOf.{IsTextAfter, run_of}
use Rattle.pp_condition.specs.declared.condition.Condition.{Condition}
use Rattle.pp_steps.specs.Choice.{chosen_steps}
use Rattle.pp_steps.specs.StepsWhere.{HasLinesWhere, IsWrittenWhere}
use Rattle.pp_steps.specs.declared.choice.Choice.{Choice}
use Rattle.pp_listing.specs.declared.going_on.Busy.{Busy}
use Rattle.pp_sim.specs.declared.text_fault.TextFault.{TextFault}
use Rattle.pp_sim.specs.declared.text_fault.TextFault.TheVariants as fault

-- a text of the deck was written, or a first part of it
pub answers_written : (profile : Profile) (Prevents : LoadedDeck → Busy → Type 0) (IsDeckText : LoadedDeck → List ℕ → Type 0) (bytes text : List ℕ) (written : Result (Unit {0}) WriteFault) (old new : Option (List ℕ))
    → IsOfDeck profile IsDeckText bytes text → IsWritten text written old new → IsAnswerUnless profile Prevents IsDeckText (answer_to written) bytes old new
answers_written profile Prevents IsDeckText bytes text (Ok done) old new is whole = (text, is, whole)
answers_written profile Prevents IsDeckText bytes text (Err fault) old new is front = (text, is, front)

-- the same of the text of a report, which is one if memory is not lacking
pub answers_reported : (profile : Profile) (IsDeckText : LoadedDeck → List ℕ → Type 0) (bytes text : List ℕ) (written : Result (Unit {0}) ReportFault) (old new : Option (List ℕ))
    → (written ≢ Err report.Memory → IsOfDeck profile IsDeckText bytes text) → IsReportWritten text written old new → IsAnswerUnless profile NothingPrevents IsDeckText (answer_to_report written) bytes old new
answers_reported profile IsDeckText bytes text (Ok done) old new is whole = (text, is (λ e. cc), whole)
answers_reported profile IsDeckText bytes text (Err report.Write) old new is front = (text, is (λ e. cc), front)
answers_reported profile IsDeckText bytes text (Err report.Memory) old new is kept = kept

pub answers_report : (profile : Profile) (IsDeckText : LoadedDeck → List ℕ → Type 0) (bytes text : List ℕ) (written : Result (Unit {0}) ReportFault) (answer : Result (Unit {0}) TextFault) (old new : Option (List ℕ))
    → answer ≡ answer_to_report written → (written ≢ Err report.Memory → IsOfDeck profile IsDeckText bytes text) → IsReportWritten text written old new → IsAnswerUnless profile NothingPrevents IsDeckText answer bytes old new
answers_report profile IsDeckText bytes text written answer old new e is made = rw e (answers_reported profile IsDeckText bytes text written old new is made)

-- the same of a text of the run of some turns
pub answers_after : (profile : Profile) (first : List ℕ) (turns : ℕ) (text_after : List ℕ → LoadedDeck → List ℕ) (bytes text : List ℕ) (deck : LoadedDeck) (after : MachineState) (written : Result (Unit {0}) WriteFault) (old new : Option (List ℕ))
    → deck_meaning profile bytes ≡ Ok deck → after ≡ run (run_of first turns deck) deck.machine → HoldsOnEachChannel after → text ≡ text_after (run_of first turns deck) deck
    → IsWritten text written old new → IsAnswerUnless profile NothingPrevents (IsTextAfter first turns text_after) (answer_to written) bytes old new
answers_after profile first turns text_after bytes text deck after written old new meant ran holds is whole =
    answers_written profile NothingPrevents (IsTextAfter first turns text_after) bytes text written old new
    (record { deck = deck; meant = meant; is = record { text_is = is; headline = subst HoldsOnEachChannel ran holds } }) whole

-- what holds of the bytes that were read holds of the first bytes that the reader had
pub told : (Holds : List ℕ → Type 0) (before after : Option (List ℕ)) (front : List ℕ) (most : ℕ)
    → Holds front → Consumes before after front → length front ≤ most → (length front < most → IsAtEnd after)
    → IfSome before (λ bytes. Holds (take most bytes))
told Holds None after front most holds consumed le end = tt
told Holds (Some bytes) None front most holds consumed le end = absurd consumed
told Holds (Some bytes) (Some rest) front most holds consumed le end = grind (arith, read_front, cases_lt)

-- an answer to these bytes is a fault of writing, or nothing was written
unwritten_answer : (profile : Profile) (Prevents : LoadedDeck → Busy → Type 0) (IsDeckText : LoadedDeck → List ℕ → Type 0) (answer : Result (Unit {0}) TextFault) (front : List ℕ) (old new : Option (List ℕ))
    → IsAnswerUnless profile Prevents IsDeckText answer front old new → IfErr answer (λ f. f ≢ fault.Write → Keeps old new)
unwritten_answer profile Prevents IsDeckText (Ok done) front old new answered = tt
unwritten_answer profile Prevents IsDeckText (Err fault.Write) front old new answered = λ other. absurd (other refl)
unwritten_answer profile Prevents IsDeckText (Err (fault.NotBetweenPrograms going_on)) front old new (_, keeps) = λ _. keeps
unwritten_answer profile Prevents IsDeckText (Err (fault.Deck f)) front old new (_, keeps) = λ _. keeps
unwritten_answer profile Prevents IsDeckText (Err (fault.Trace f)) front old new answered = absurd answered
unwritten_answer profile Prevents IsDeckText (Err fault.Findings) front old new answered = absurd answered
unwritten_answer profile Prevents IsDeckText (Err fault.Read) front old new keeps = λ _. keeps
unwritten_answer profile Prevents IsDeckText (Err fault.Memory) front old new keeps = λ _. keeps

no_meaning : (b : Bool) (fault : DeckFault) (meaning : Result LoadedDeck DeckFault) (deck : LoadedDeck) → b ≡ true → cond b (Err fault) meaning ≡ Ok deck → ⊥
no_meaning true fault meaning deck long is = cc
no_meaning false fault meaning deck long is = cc

-- a deck with a meaning is shorter than what is read at most
short_deck : (profile : Profile) (bytes : List ℕ) (deck : LoadedDeck) → (length bytes < most_bytes) ⊎ (most_bytes ≤ length bytes) → deck_meaning profile bytes ≡ Ok deck → length bytes < most_bytes
unfolding deck_meaning
short_deck profile bytes deck (inl short) is = short
short_deck profile bytes deck (inr long) is = absurd (no_meaning _ _ _ deck (lt-ltb 1048576 (length bytes) long) is)

-- so that the answer says of a text that all of its deck was read
short_answer : (profile : Profile) (Prevents : LoadedDeck → Busy → Type 0) (IsDeckText : LoadedDeck → List ℕ → Type 0) (answer : Result (Unit {0}) TextFault) (bytes : List ℕ) (old new : Option (List ℕ))
    → IsAnswerUnless profile Prevents IsDeckText answer bytes old new → OnOk answer (length bytes < most_bytes)
short_answer profile Prevents IsDeckText (Ok done) bytes old new (text, is, _) = short_deck profile bytes is.deck (cases_lt (length bytes) most_bytes) is.meant
short_answer profile Prevents IsDeckText (Err f) bytes old new answered = tt

at_end : {X : Type 0} {E : Type 0} {P Q : Type 0} (answer : Result X E) → OnOk answer P → (P → Q) → OnOk answer Q
at_end (Ok done) holds then = then holds
at_end (Err f) holds then = tt

-- where the bytes were read that a deck may have, and the answer is that to them
pub answered_deck : (profile : Profile) (before after old new : Option (List ℕ)) (Prevents : LoadedDeck → Busy → Type 0) (IsDeckText : LoadedDeck → List ℕ → Type 0) (front : List ℕ) (answer : Result (Unit {0}) TextFault)
    → IsAnswerUnless profile Prevents IsDeckText answer front old new → Consumes before after front → length front ≤ most_bytes → (length front < most_bytes → IsAtEnd after)
    → AnswersDeckUnless profile Prevents IsDeckText answer before after old new
answered_deck profile before after old new Prevents IsDeckText front answer answered consumed le end = record {
  every_reader = (
    front,
    record {
      consumed = consumed;
      bounded = le;
      answered = answered;
      whole = at_end answer (short_answer profile Prevents IsDeckText answer front old new answered) end;
    },
  );
  known_reader = told (λ bytes. IsAnswerUnless profile Prevents IsDeckText answer bytes old new) before after front most_bytes answered consumed le end;
  unwritten = unwritten_answer profile Prevents IsDeckText answer front old new answered;
}

-- where no text was made, nothing was written
pub refused : (profile : Profile) (Prevents : LoadedDeck → Busy → Type 0) (IsDeckText : LoadedDeck → List ℕ → Type 0) (f : TextFault) (bytes : List ℕ) (kept : Option (List ℕ))
    → IsLoadFault profile bytes f → IsAnswerUnless profile Prevents IsDeckText (Err f) bytes kept kept
refused profile Prevents IsDeckText (fault.Deck f) bytes kept is = (is, Keeps-refl kept)
refused profile Prevents IsDeckText (fault.NotBetweenPrograms going_on) bytes kept is = absurd is
refused profile Prevents IsDeckText fault.Findings bytes kept is = absurd is
refused profile Prevents IsDeckText fault.Memory bytes kept is = Keeps-refl kept
refused profile Prevents IsDeckText fault.Read bytes kept is = absurd is
refused profile Prevents IsDeckText fault.Write bytes kept is = absurd is
refused profile Prevents IsDeckText (fault.Trace f) bytes kept is = absurd is

-- ---- what is found in a deck

unwritten_lint : (profile : Profile) (answer : Result (Unit {0}) TextFault) (front : List ℕ) (old new : Option (List ℕ))
    → IsLint profile answer front old new → IfErr answer (λ f. f ≢ fault.Write → f ≢ fault.Findings → Keeps old new)
unwritten_lint profile (Ok done) front old new answered = tt
unwritten_lint profile (Err fault.Write) front old new answered = λ other. absurd (other refl)
unwritten_lint profile (Err fault.Findings) front old new answered = λ _ other. absurd (other refl)
unwritten_lint profile (Err (fault.NotBetweenPrograms going_on)) front old new answered = absurd answered
unwritten_lint profile (Err (fault.Deck f)) front old new answered = absurd answered
unwritten_lint profile (Err (fault.Trace f)) front old new answered = absurd answered
unwritten_lint profile (Err fault.Read) front old new keeps = λ _ _. keeps
unwritten_lint profile (Err fault.Memory) front old new keeps = λ _ _. keeps

pub answered_lint : (profile : Profile) (before after old new : Option (List ℕ)) (front : List ℕ) (answer : Result (Unit {0}) TextFault)
    → IsLint profile answer front old new → Consumes before after front → length front ≤ most_bytes → (length front < most_bytes → IsAtEnd after)
    → AnswersLint profile answer before after old new
answered_lint profile before after old new front answer answered consumed le end = record {
  every_reader = (front, record { consumed = consumed; bounded = le; answered = answered });
  known_reader = told (λ bytes. IsLint profile answer bytes old new) before after front most_bytes answered consumed le end;
  unwritten = unwritten_lint profile answer front old new answered;
}

-- where the findings of a deck were not written
pub lint_fault : (profile : Profile) (cause : ReportFault) (bytes : List ℕ) (old new : Option (List ℕ))
    → IsReportWritten (lint_text profile bytes) (Err cause) old new → IsLint profile (Err (fault_by cause)) bytes old new
lint_fault profile report.Write bytes old new front = front
lint_fault profile report.Memory bytes old new kept = kept

-- the same of the steps of a run that meet a condition
pub answers_where : (profile : Profile) (IsDeckText : LoadedDeck → List ℕ → Type 0) (bytes : List ℕ) (deck : LoadedDeck) (choice : Choice) (condition : Condition) (order : List ℕ) (written : Result (Unit {0}) ReportFault) (old new : Option (List ℕ))
    → deck_meaning profile bytes ≡ Ok deck → ((text : List ℕ) → HasLinesWhere condition (chosen_steps choice order deck.machine) text → IsDeckText deck text)
    → IsWrittenWhere choice condition order deck.machine written old new → IsAnswerUnless profile NothingPrevents IsDeckText (answer_to_report written) bytes old new
answers_where profile IsDeckText bytes deck choice condition order (Ok done) old new meant is (text, lines, whole) = (text, record { deck = deck; meant = meant; is = is text lines }, whole)
answers_where profile IsDeckText bytes deck choice condition order (Err report.Write) old new meant is (text, lines, front) = (text, record { deck = deck; meant = meant; is = is text lines }, front)
answers_where profile IsDeckText bytes deck choice condition order (Err report.Memory) old new meant is kept = kept

pub answers_where_by : (profile : Profile) (IsDeckText : LoadedDeck → List ℕ → Type 0) (bytes : List ℕ) (deck : LoadedDeck) (choice : Choice) (condition : Condition) (order : List ℕ) (written : Result (Unit {0}) ReportFault) (answer : Result (Unit {0}) TextFault) (old new : Option (List ℕ))
    → answer ≡ answer_to_report written → deck_meaning profile bytes ≡ Ok deck → ((text : List ℕ) → HasLinesWhere condition (chosen_steps choice order deck.machine) text → IsDeckText deck text)
    → IsWrittenWhere choice condition order deck.machine written old new → IsAnswerUnless profile NothingPrevents IsDeckText answer bytes old new
answers_where_by profile IsDeckText bytes deck choice condition order written answer old new e meant is made = rw e (answers_where profile IsDeckText bytes deck choice condition order written old new meant is made)
