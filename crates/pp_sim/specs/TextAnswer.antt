-- How the answer to a deck stands to the bytes that were read and written.
use Rattle.std.specs.Prelude.{◌≡◌, ◌≢◌, ◌≤◌, ℕ, Bool, List, length, take, Option, Result, Ok, Err, OnOk, IfErr, IfSome}
use Rattle.std.specs.Io.KnownBytes.{Appends, Consumes, IsAtEnd, Keeps}
use Rattle.pp_machine.specs.MachineState.{MachineState}
use Rattle.pp_numbers.specs.declared.profile.Profile.{Profile}
use Rattle.pp_deck.specs.DeckMeaning.{LoadedDeck, deck_meaning}
use Rattle.pp_deck.specs.declared.deck_fault.DeckCode.TheVariants as code
use Rattle.pp_deck.specs.declared.deck_fault.DeckFault.{DeckFault}
use Rattle.pp_text.specs.Written.{AppendsFront}
use Rattle.pp_text.specs.declared.{report_fault.ReportFault.ReportFault, write_fault.WriteFault.WriteFault}
use Rattle.pp_listing.specs.declared.going_on.Busy.{Busy}
use Rattle.pp_sim.specs.declared.text_fault.TextFault.{TextFault}

-- how many bytes are read at most (decimal): one more than a deck may have
abbrev pub most_bytes : ℕ
most_bytes = 1048577

-- these bytes are no deck for this profile, by this fault, which is no lack of memory
pub record IsFaultOf (profile : Profile) (bytes : List ℕ) (f : DeckFault) : Type 0 where
  pub refused : deck_meaning profile bytes ≡ Err f
  pub no_memory : f.code ≢ code.Memory

-- the bytes mean a deck for such a machine, and x is its text, or what stands in its way
pub record IsOfDeck {X : Type 0} (profile : Profile) (Tells : LoadedDeck → X → Type 0)
    (bytes : List ℕ) (x : X) : Type 0 where
  pub deck : LoadedDeck
  pub meant : deck_meaning profile bytes ≡ Ok deck
  pub is : Tells deck x

-- THE ANSWER to a deck of these bytes, for a machine of this profile, and what was written: a whole
-- text of the deck, a first part of one, or nothing
abbrev pub IsAnswerUnless : Profile → (LoadedDeck → Busy → Type 0) → (LoadedDeck → List ℕ → Type 0)
    → Result (Unit {0}) TextFault → List ℕ → Option (List ℕ) → Option (List ℕ) → Type 0
IsAnswerUnless profile Prevents IsDeckText (Ok done) bytes old new =
    (text : List ℕ) × IsOfDeck profile IsDeckText bytes text × Appends old new text
IsAnswerUnless profile Prevents IsDeckText (Err TextFault.Write) bytes old new =
    (text : List ℕ) × IsOfDeck profile IsDeckText bytes text × AppendsFront old new text
IsAnswerUnless profile Prevents _ (Err (TextFault.NotBetweenPrograms going_on)) bytes old new =
    IsOfDeck profile Prevents bytes going_on × Keeps old new
IsAnswerUnless profile Prevents IsDeckText (Err (TextFault.Deck f)) bytes old new =
    IsFaultOf profile bytes f × Keeps old new
IsAnswerUnless profile Prevents IsDeckText (Err (TextFault.Trace f)) bytes old new = ⊥
IsAnswerUnless profile Prevents IsDeckText (Err TextFault.Findings) bytes old new = ⊥
IsAnswerUnless profile Prevents IsDeckText (Err TextFault.Read) bytes old new = Keeps old new
IsAnswerUnless profile Prevents IsDeckText (Err TextFault.Memory) bytes old new = Keeps old new

-- One call, whatever its reader is: these bytes were consumed; the answer is that to the deck that
-- they spell; and if it is Ok, they were all that the reader had.
pub record AnswersUnless (profile : Profile) (Prevents : LoadedDeck → Busy → Type 0)
    (IsDeckText : LoadedDeck → List ℕ → Type 0) (answer : Result (Unit {0}) TextFault)
    (before after old new : Option (List ℕ)) (bytes : List ℕ) : Type 0 where
  pub consumed : Consumes before after bytes
  pub bounded : length bytes ≤ most_bytes
  pub answered : IsAnswerUnless profile Prevents IsDeckText answer bytes old new
  pub whole : OnOk answer (IsAtEnd after)

-- THE PROMISE of a call that reads a deck and writes a text of it: whatever the reader, the answer
-- is that to some bytes which it lost; if its bytes are known, it is that to those
pub record AnswersDeckUnless (profile : Profile) (Prevents : LoadedDeck → Busy → Type 0)
    (IsDeckText : LoadedDeck → List ℕ → Type 0) (answer : Result (Unit {0}) TextFault)
    (before after old new : Option (List ℕ)) : Type 0 where
  pub every_reader : (bytes : List ℕ)
      × AnswersUnless profile Prevents IsDeckText answer before after old new bytes
  pub known_reader : IfSome before (λ bytes.
      IsAnswerUnless profile Prevents IsDeckText answer (take most_bytes bytes) old new)
  -- every fault but Write comes before the first byte is written
  pub unwritten : IfErr answer (λ f. f ≢ TextFault.Write → Keeps old new)

-- most works have a text of every deck: nothing stands in their way
abbrev pub NothingPrevents : LoadedDeck → Busy → Type 0
NothingPrevents deck going_on = ⊥

abbrev pub IsAnswer : Profile → (LoadedDeck → List ℕ → Type 0) → Result (Unit {0}) TextFault
    → List ℕ → Option (List ℕ) → Option (List ℕ) → Type 0
IsAnswer profile IsDeckText = IsAnswerUnless profile NothingPrevents IsDeckText

abbrev pub AnswersDeck : Profile → (LoadedDeck → List ℕ → Type 0) → Result (Unit {0}) TextFault
    → (before after old new : Option (List ℕ)) → Type 0
AnswersDeck profile IsDeckText = AnswersDeckUnless profile NothingPrevents IsDeckText

-- ---- parts of a call

-- the answer to a deck that is loaded, from whatever bytes: its machine, and what it names
abbrev pub AnswersLoadedUnless : MachineState → List Bool → (LoadedDeck → Busy → Type 0)
    → (LoadedDeck → List ℕ → Type 0) → Result (Unit {0}) TextFault → (old new : Option (List ℕ))
    → Type 0
AnswersLoadedUnless machine named Prevents IsDeckText answer old new =
    (profile : Profile) (bytes : List ℕ)
    → deck_meaning profile bytes ≡ Ok (record { machine = machine; named = named })
    → machine.profile ≡ profile → IsAnswerUnless profile Prevents IsDeckText answer bytes old new

abbrev pub AnswersLoaded : MachineState → List Bool → (LoadedDeck → List ℕ → Type 0)
    → Result (Unit {0}) TextFault → (old new : Option (List ℕ)) → Type 0
AnswersLoaded machine named = AnswersLoadedUnless machine named NothingPrevents

-- the fault of a text whose report was not written
abbrev pub fault_by : ReportFault → TextFault
fault_by ReportFault.Write = TextFault.Write
fault_by ReportFault.Memory = TextFault.Memory

-- the answer after a text was written, or after the writer failed
abbrev pub answer_to : Result (Unit {0}) WriteFault → Result (Unit {0}) TextFault
answer_to (Ok done) = Ok done
answer_to (Err cause) = Err TextFault.Write

-- the same of the text of a report
abbrev pub answer_to_report : Result (Unit {0}) ReportFault → Result (Unit {0}) TextFault
answer_to_report (Ok done) = Ok done
answer_to_report (Err cause) = Err (fault_by cause)

-- reading fails by the reader or for lack of memory
abbrev pub IsReadFault : TextFault → Type 0
IsReadFault TextFault.Read = Unit {0}
IsReadFault TextFault.Memory = Unit {0}
IsReadFault other = ⊥

-- loading fails by the deck or for lack of memory
abbrev pub IsLoadFault : Profile → List ℕ → TextFault → Type 0
IsLoadFault profile bytes (TextFault.Deck f) = IsFaultOf profile bytes f
IsLoadFault profile bytes TextFault.Memory = Unit {0}
IsLoadFault profile bytes other = ⊥
