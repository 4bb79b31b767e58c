-- What a host learns of a call, and what stands in its room then.
use Rattle.std.specs.Prelude.{◌≡◌, ◌≤◌, ◌<◌, ℕ, ◌==◌, List, [], ◌∷◌, ◌++◌, codes, length, take, drop, min, Option, None, Some, Result, Ok, Err, ◌⊎◌}
use Rattle.std.specs.List.{slice_split}
use Rattle.std.specs.Str.{IsUtf8}
use Rattle.pp_call.specs.CallWords.{CallFor, IsCallRefused}
use Rattle.pp_call.specs.declared.call_fault.CallFault.{CallFault}
use Rattle.pp_command.specs.declared.work.Work.{Work}
use Rattle.pp_condition.specs.declared.until.Until.{Until}
use Rattle.pp_sim.specs.FaultText.{fault_text}
use Rattle.pp_sim.specs.Program.{IsDone, NeedsNoThreads, status_of as program_status}
use Rattle.pp_text.specs.PrintedText.{line_end}
use Rattle.pp_sim.specs.declared.text_fault.TextFault.{TextFault}
use Rattle.ppsim_library.specs.declared.answer.Answer.{Answer}

-- the words of a text: there is a byte 0 between two of them; an empty text has none
unfoldable pub parts_of : List ℕ → List (List ℕ)
parts_of text = slice_split (λ byte. byte == 0) text

abbrev pub words_of : List ℕ → List (List ℕ)
words_of [] = []
words_of (byte ∷ bytes) = parts_of (byte ∷ bytes)

-- the status of a fault: the program's own, but that bytes are read without a fault, and are
-- written without one but for want of memory
abbrev pub status_of : TextFault → ℕ
status_of TextFault.Read = 4
status_of TextFault.Write = 4
status_of fault = program_status (Err fault)

-- a text stands at the front of the room, and the status is this one; or the room is too small for
-- it. What is not written is as it was.
pub record IsWritten (status : ℕ) (text : List ℕ) (a : Answer) (old new : List ℕ) : Type 0 where
  pub counted : a.output ≡ length text
  pub silent : a.error ≡ 0
  pub fits : length text ≤ length old
      → (a.status ≡ status) × (new ≡ text ++ drop (length text) old)
  pub exceeds : length old < length text → (a.status ≡ 5) × (new ≡ old)

-- the status is this one, and there is no text; this is said at the front of the room, as far as it
-- fits, and what is not written is as it was
pub record IsFailed (status : ℕ) (said : List ℕ) (a : Answer) (old new : List ℕ) : Type 0 where
  pub status_is : a.status ≡ status
  pub nothing : a.output ≡ 0
  pub counted : a.error ≡ min (length said) (length old)
  pub room : new ≡ take a.error said ++ drop a.error old

-- `ppsim: out of memory`
abbrev pub line_of : List ℕ → List ℕ
line_of why = codes "ppsim: " ++ why ++ line_end

abbrev pub IsWithoutMemory : Answer → (old new : List ℕ) → Type 0
IsWithoutMemory a old new = IsFailed 4 (line_of (codes "out of memory")) a old new

-- it is said which fault it was, or nothing is (that this is for want of memory only tests see)
abbrev pub IsFailedFor : TextFault → Answer → (old new : List ℕ) → Type 0
IsFailedFor f a old new = IsFailed (status_of f) (line_of (fault_text f)) a old new
    ⊎ IsFailed (status_of f) [] a old new

-- how the outcome of a work that wrote this text shows in the answer and in the room: what is found
-- is a text as any other
abbrev pub Shows : Result (Unit {0}) TextFault → List ℕ → Answer → (old new : List ℕ) → Type 0
Shows (Ok done) text a old new = IsWritten 0 text a old new
Shows (Err TextFault.Findings) text a old new = IsWritten 1 text a old new
Shows (Err TextFault.Memory) text a old new = IsWithoutMemory a old new
Shows (Err f) text a old new = IsFailedFor f a old new

-- the work was done over these bytes, as the program does it over its input, onto an empty output;
-- its outcome and its text show in the answer and in the room
pub record Tells (work : Work) (first : List ℕ) (until : Option Until) (input : List ℕ) (a : Answer)
    (old new : List ℕ) : Type 0 where
  pub without_threads : NeedsNoThreads work
  pub outcome : Result (Unit {0}) TextFault
  pub text : List ℕ
  pub after : Option (List ℕ)
  pub done : IsDone (Unit {0}) work first until outcome (Some input) after (Some []) (Some text)
  pub shown : Shows outcome text a old new

-- a work is done, or refused since it needs threads
abbrev pub IsAnswered : Work → List ℕ → Option Until → List ℕ → Answer → (old new : List ℕ) → Type 0
IsAnswered work first until input a old new = Tells work first until input a old new
    ⊎ (¬ NeedsNoThreads work × IsFailed 2 (line_of (codes "there are no threads here")) a old new)

-- the words ask for this work, which is answered
pub record HasAnswered (words : List (List ℕ)) (input : List ℕ) (a : Answer) (old new : List ℕ) :
    Type 0 where
  pub work : Work
  pub first : List ℕ
  pub until : Option Until
  pub asked : CallFor words work first until None
  pub answered : IsAnswered work first until input a old new

-- they ask for a work over a file
pub record NamesFile (words : List (List ℕ)) : Type 0 where
  pub work : Work
  pub first : List ℕ
  pub until : Option Until
  pub file : List ℕ
  pub asked : CallFor words work first until (Some file)

-- the words are refused, and something is said (what it is only tests see)
abbrev pub IsRefused : Answer → (old new : List ℕ) → Type 0
IsRefused a old new = (said : List ℕ) × IsFailed 2 said a old new

-- how words are answered that ask for no work, by the reason: those that ask for help or the
-- version by some text (which one is not said), and no others so
abbrev pub IsDeclinedFor : CallFault → Answer → (old new : List ℕ) → Type 0
IsDeclinedFor CallFault.Memory a old new = IsWithoutMemory a old new
IsDeclinedFor CallFault.Help a old new = (text : List ℕ) × IsWritten 0 text a old new
IsDeclinedFor CallFault.Refused a old new = IsRefused a old new
IsDeclinedFor CallFault.Number a old new = IsRefused a old new
IsDeclinedFor CallFault.Picture a old new = IsRefused a old new
IsDeclinedFor CallFault.Forms a old new = IsRefused a old new

-- the words ask for no work, and are answered so: they ask for help or the version, are no call, or
-- are one for nothing within the ranges; or memory for them was refused
abbrev pub IsDeclined : List (List ℕ) → Answer → (old new : List ℕ) → Type 0
IsDeclined words a old new =
    (fault : CallFault) × IsCallRefused words fault × IsDeclinedFor fault a old new

-- how words that are text are answered: by what they ask for; or they ask for no work; or they name
-- a file, and are refused
abbrev pub AnswersWords : List (List ℕ) → List ℕ → Answer → (old new : List ℕ) → Type 0
AnswersWords words input a old new = HasAnswered words input a old new
    ⊎ (IsDeclined words a old new
    ⊎ (NamesFile words
    × IsFailed 2 (line_of (codes "no file is read here: pass its bytes")) a old new))

-- THE PROMISE of a call: words that are text are answered so; words that are not are refused, and
-- have no other answer
abbrev pub Answers : List ℕ → List ℕ → Answer → (old new : List ℕ) → Type 0
Answers text input a old new =
    (IsUtf8 text × AnswersWords (words_of text) input a old new)
    ⊎ (¬ IsUtf8 text × IsFailed 2 (line_of (codes "a word is not UTF-8")) a old new)
