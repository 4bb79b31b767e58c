-- What a run of the program comes to, by its words, what was read and written, and its status.
use Rattle.std.specs.Prelude.{◌≡◌, ℕ, List, [], Option, Some, None, Result, Ok, Err, ◌⊎◌}
use Rattle.std.specs.Io.KnownBytes.{Appends, Keeps}
use Rattle.clap.specs.Words.{Text, kind_of}
use Rattle.clap.specs.declared.error.Error.{Error}
use Rattle.clap.specs.declared.error.kind.ErrorKind.TheVariants.{DisplayHelp, DisplayVersion}
use Rattle.pp_sim.specs.CheckText.{AnswersTrace}
use Rattle.pp_command.specs.CommandLine.{AskFor, IsRefused, Name, refusals}
use Rattle.pp_sim.specs.LintAnswer.{AnswersLint}
use Rattle.pp_sim.specs.TestAnswer.{AnswersTest}
use Rattle.pp_sim.specs.TextAnswer.{AnswersDeck, AnswersDeckUnless}
use Rattle.pp_condition.specs.declared.until.Until.{Until}
use Rattle.pp_sim.specs.TextOf.{IsTextUntil, obstacle_until}
use Rattle.pp_sim.specs.ThreadsText.{IsThreadsText}
use Rattle.pp_text.specs.Written.{AppendsFront}
use Rattle.pp_command.specs.declared.{line_fault.LineFault.LineFault, work.Work.Work}
use Rattle.pp_sim.specs.declared.text_fault.TextFault.{TextFault}

-- The answer of a work: a text of the deck that was read, in whose run these processors come
-- first, and which goes on until then, or what stands in its way; what is found in the deck; the
-- verdict on such a run, or over every order of steps; or the check of the trace that was read. Z
-- is the allocator's type, of which a report is made.
abbrev pub IsDone : Type 0 → Work → List ℕ → Option Until → Result (Unit {0}) TextFault
    → Option (List ℕ) → Option (List ℕ) → Option (List ℕ) → Option (List ℕ) → Type 0
IsDone Z (Work.Deck profile text) first until =
    AnswersDeckUnless profile (obstacle_until first until text) (IsTextUntil first until text)
IsDone Z (Work.Lint profile) first until = AnswersLint profile
IsDone Z (Work.Test profile tested) first until = AnswersTest profile first until tested
IsDone Z (Work.Threads profile limits) first until = AnswersDeck profile (IsThreadsText Z limits)
IsDone Z (Work.Check opened) first until = AnswersTrace opened

-- every work but that with one thread per processor
abbrev pub NeedsNoThreads : Work → Type 0
NeedsNoThreads (Work.Threads profile limits) = ⊥
NeedsNoThreads other = Unit {0}

-- the status of a work that was done, or failed: by what was read, a device, or want of memory
abbrev pub status_of : Result (Unit {0}) TextFault → ℕ
status_of (Ok done) = 0
status_of (Err (TextFault.Deck f)) = 1
status_of (Err (TextFault.NotBetweenPrograms going_on)) = 1
status_of (Err TextFault.Findings) = 1
status_of (Err (TextFault.Trace f)) = 1
status_of (Err TextFault.Read) = 3
status_of (Err TextFault.Write) = 3
status_of (Err TextFault.Memory) = 4

-- the work was done or failed, and the status is that of its answer
pub record IsDoneWith (Z : Type 0) (work : Work) (first : List ℕ) (until : Option Until)
    (status : ℕ) (before after old new : Option (List ℕ)) : Type 0 where
  pub answer : Result (Unit {0}) TextFault
  pub done : IsDone Z work first until answer before after old new
  pub status_is : status ≡ status_of answer

-- so it was over some bytes (that they are those of the file is not said); or the status is 3, and
-- nothing is written
abbrev pub IsDoneOnFile : Type 0 → Work → List ℕ → Option Until → ℕ → Option (List ℕ)
    → Option (List ℕ) → Type 0
IsDoneOnFile Z work first until status old new =
    ((before : Option (List ℕ)) × ((after : Option (List ℕ))
    × IsDoneWith Z work first until status before after old new)) ⊎ ((status ≡ 3) × Keeps old new)

-- over the bytes of standard input; or over those of this file, and standard input is not read
abbrev pub IsDoneOver : Type 0 → Option Text → Work → List ℕ → Option Until → ℕ
    → Option (List ℕ) → Option (List ℕ) → Option (List ℕ) → Option (List ℕ) → Type 0
IsDoneOver Z None work first until status before after old new =
    IsDoneWith Z work first until status before after old new
IsDoneOver Z (Some path) work first until status before after old new =
    Keeps before after × IsDoneOnFile Z work first until status old new

-- the words are a command line that asks for a work, which is done over the file that they name
pub record HasWorked (Z : Type 0) (words : List Text) (status : ℕ)
    (before after old new : Option (List ℕ)) : Type 0 where
  pub taken : refusals words ≡ []
  pub work : Work
  pub first : List ℕ
  pub until : Option Until
  pub asked : AskFor words work first until
  pub file : Option Text
  pub named : Name words file
  pub done : IsDoneOver Z file work first until status before after old new

-- clap's answer is a text that was asked for
abbrev pub IsHelp : Error → Type 0
IsHelp error = (kind_of error ≡ DisplayHelp) ⊎ (kind_of error ≡ DisplayVersion)

-- a text was printed, or a first part of it, or nothing for want of memory; the status says which
abbrev pub IsPrinted : List ℕ → ℕ → Option (List ℕ) → Option (List ℕ) → Type 0
IsPrinted text status old new = ((status ≡ 0) × Appends old new text)
    ⊎ (((status ≡ 3) × AppendsFront old new text) ⊎ ((status ≡ 4) × Keeps old new))

-- the status of a refusal: that of printing if help was asked for; else nothing is printed
abbrev pub IsReported : LineFault → ℕ → Option (List ℕ) → Option (List ℕ) → Type 0
IsReported LineFault.Memory status old new = (status ≡ 4) × Keeps old new
IsReported LineFault.Number status old new = (status ≡ 2) × Keeps old new
IsReported LineFault.Picture status old new = (status ≡ 2) × Keeps old new
IsReported LineFault.Forms status old new = (status ≡ 2) × Keeps old new
IsReported (LineFault.Refused error) status old new =
    (IsHelp error × ((text : List ℕ) × IsPrinted text status old new))
    ⊎ (¬ IsHelp error × (status ≡ 2) × Keeps old new)

-- the words are refused, nothing is read, and the status says why
pub record HasRefused (words : List Text) (status : ℕ) (before after old new : Option (List ℕ)) :
    Type 0 where
  pub why : LineFault
  pub refused : IsRefused words why
  pub unread : Keeps before after
  pub reported : IsReported why status old new

-- THE PROGRAM: it does the work that its words ask for, or refuses them
abbrev pub IsRun : Type 0 → List Text → ℕ → Option (List ℕ) → Option (List ℕ) → Option (List ℕ)
    → Option (List ℕ) → Type 0
IsRun Z words status before after old new =
    HasWorked Z words status before after old new ⊎ HasRefused words status before after old new
