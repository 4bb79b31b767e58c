-- What comes of the kind of things that a line gives.
use Rattle.std.proofs.Common.{◌≡◌, ◌≢◌, ℕ, ◌+◌, Bool, true, false, List, [], ◌∷◌, ◌++◌, arith, Option, Some, None, refl, sym, ap, ◌∙◌, add-one}
use Rattle.std.specs.Prelude.{◌||◌}
use Rattle.std.specs.List.{flat_map}
use Rattle.std.proofs.lemmas.List.{append-nil}
use Rattle.pp_numbers.specs.declared.profile.Profile.{Profile}
use Rattle.pp_deck.specs.DeckLine.{Line}
use Rattle.pp_deck.specs.DeckText.{Fields}
use Rattle.pp_lint.specs.ChannelUse.{alone_finding}
use Rattle.pp_text.specs.TextWriter.{Prints}
use Rattle.pp_text.specs.declared.text_writer.TextWriter.{TextWriter}
use Rattle.pp_lint.specs.Finding.{Finding}
use Rattle.pp_lint.specs.LintText.{finding_line, is_something_found}
use Rattle.pp_lint.proofs.CommentLemmas.{or_on}
use Rattle.pp_lint.proofs.FindingLemmas.{found_more}
use Rattle.pp_lint.proofs.WarningLemmas.{prints_both}
use Rattle.pp_lint.specs.Given.{Note, given, given_at, note_if, notes, notes_of_instruction, notes_within, said_at, start_place}
use Rattle.pp_lint.specs.InstructionsOfLine.{first_place, instructions_of}
use Rattle.pp_lint.specs.RunFindings.{instruction_findings, run_findings}
use Rattle.pp_lint.specs.StraightLine.{behind, behind_all, behind_line, fault_finding, is_reached, reached_at}
use Rattle.pp_instructions.specs.declared.instruction.Instruction.{Instruction}
use Rattle.pp_lint.specs.declared.{channel_use.ChannelUse.ChannelUse, row.Kind.Kind, row.Row.Row}
use Rattle.pp_lint.specs.declared.row.Kind.TheVariants.{Name, Start, Target, Word}

-- whether the words of a line are for a processor
abbrev pub is_word : Kind → Bool
is_word (Word n) = true
is_word kind = false

pub no_word : (kind : Kind) → ((n : ℕ) → kind ≢ Word n) → is_word kind ≡ false
no_word (Word n) other = absurd (other n refl)
no_word kind other = refl

module _ (profile : Profile) (said : Option Line) where
  pub words_within : (number : ℕ) (kind : Kind) (n : ℕ) → kind ≡ Word n → notes_within number profile kind said ≡ flat_map (notes_of_instruction number profile n) (instructions_of said)
  unfolding notes_within
  words_within number kind n is = rw is refl

  pub start_within : (number : ℕ) (kind : Kind) (n place : ℕ) → kind ≡ Start n → start_place said ≡ place → note_if number (Target n) (Some place) ≡ notes_within number profile kind said
  unfolding notes_within
  start_within number kind n place is at = rw (is, at) refl

  none_within : (number : ℕ) (kind : Kind) → ((n : ℕ) → kind ≢ Word n) → ((n : ℕ) → kind ≢ Start n) → notes_within number profile kind said ≡ []
  unfolding notes_within
  none_within number (Start n) word start = absurd (start n refl)
  none_within number (Word n) word start = absurd (word n refl)
  none_within number kind word start = refl

  pub same_within : (number : ℕ) (kind : Kind) (noted : List Note) → ((n : ℕ) → kind ≢ Word n) → ((n : ℕ) → kind ≢ Start n) → noted ≡ noted ++ notes_within number profile kind said
  same_within number kind noted word start = sym (ap (λ ns. noted ++ ns) (none_within number kind word start) ∙ append-nil noted)

module _ (profile : Profile) (noted : List Note) (said : Option Line) (reached : Option ℕ) where
  pub behind_name : (kind : Kind) (n : ℕ) → kind ≡ Name n → None ≡ behind_line profile noted kind said reached
  unfolding behind_line
  behind_name kind n is = rw is refl

  pub behind_words : (kind : Kind) (n : ℕ) → kind ≡ Word n → behind_all profile noted n reached (instructions_of said) ≡ behind_line profile noted kind said reached
  unfolding behind_line
  behind_words kind n is = rw is refl

  pub behind_other : (kind : Kind) → ((n : ℕ) → kind ≢ Word n) → ((n : ℕ) → kind ≢ Name n) → reached ≡ behind_line profile noted kind said reached
  unfolding behind_line
  behind_other (Name n) word name = absurd (name n refl)
  behind_other (Word n) word name = absurd (word n refl)
  behind_other kind word name = refl

  pub run_none : (alone : List ChannelUse) (k : ℕ) (line : List ℕ) (kind : Kind) → is_word kind ≡ false → run_findings profile k line noted alone reached kind said ≡ []
  unfolding run_findings
  run_none alone k line (Word n) word = absurd (cc)
  run_none alone k line kind word = refl

-- by the row that the line gives
module _ (profile : Profile) (noted : List Note) (alone : List ChannelUse) (said : Option Line) (reached : Option ℕ) (k : ℕ) (line : List ℕ) (s : Option ℕ) (row : Row) where
  pub run_words : (n first : ℕ) (is : List Instruction) → row ≡ given s said → row.kind ≡ Word n → first ≡ first_place said → is ≡ instructions_of said
      → instruction_findings profile k line noted alone n first reached [] is
      ≡ run_findings profile k line noted alone reached (given s said).kind said
  unfolding run_findings
  run_words n first is value kind from all = rw (sym value) (rw kind (rw from (rw all refl)))

  pub run_nothing : row ≡ given s said → is_word row.kind ≡ false → run_findings profile k line noted alone reached (given s said).kind said ≡ []
  run_nothing value word = run_none profile noted said reached alone k line (given s said).kind (ap (λ (r : Row). is_word r.kind) (sym value) ∙ word)

pub reached_next : (profile : Profile) (lines : List Fields) (k : ℕ) (row : Row) (said : Option Line) (reached now : Option ℕ) → row ≡ given_at profile lines k → said ≡ said_at profile lines k → reached ≡ reached_at profile lines k
    → now ≡ behind_line profile (notes profile lines) row.kind said reached → now ≡ reached_at profile lines (k + 1)
unfolding reached_at
reached_next profile lines k row said reached now is says comes behind =
    behind ∙ ap (λ (r : Row). behind_line profile (notes profile lines) r.kind said reached) is
    ∙ ap (λ s. behind_line profile (notes profile lines) (given_at profile lines k).kind s reached) says
    ∙ ap (behind_line profile (notes profile lines) (given_at profile lines k).kind (said_at profile lines k)) comes
    ∙ sym (ap (reached_at profile lines) (add-one k))

pub reached_first : (profile : Profile) (lines : List Fields) → None ≡ reached_at profile lines 0
unfolding reached_at
reached_first profile lines = refl

-- ---- instructions one after another

pub no_instruction : (profile : Profile) (k : ℕ) (line : List ℕ) (notes : List Note) (alone : List ChannelUse) (n first : ℕ) (reached : Option ℕ) (before : List Instruction) → instruction_findings profile k line notes alone n first reached before [] ≡ []
unfolding instruction_findings
no_instruction profile k line notes alone n first reached before = refl

-- the first of some instructions, which is reached or not, and those behind it
module _ (profile : Profile) (k : ℕ) (line columns : List ℕ) (notes : List Note) (alone : List ChannelUse) (n first : ℕ) (reached now : Option ℕ) (before all more : List Instruction) (i : Instruction) (here : Bool)
    (same : columns ≡ line) (taken : all ≡ i ∷ more) (is_here : here ≡ is_reached notes n reached i.place) (is_now : now ≡ behind profile notes n reached i) where
  abbrev faulty : List Finding
  faulty = fault_finding profile k columns here first i

  abbrev used : List Finding
  used = alone_finding profile k columns notes alone n first before i

  abbrev later : List Finding
  later = instruction_findings profile k line notes alone n first now (before ++ i ∷ []) more

  parts : faulty ++ used ++ later ≡ instruction_findings profile k line notes alone n first reached before all
  unfolding instruction_findings
  parts = rw (same, is_here, is_now, taken) refl

  pub first_prints : {W : Type 0} (contents : W → Option (List ℕ)) (old between new out : TextWriter W) → Prints contents old between (flat_map finding_line faulty) → Prints contents between new (flat_map finding_line used)
      → Prints contents new out (flat_map finding_line later) → Prints contents old out (flat_map finding_line (instruction_findings profile k line notes alone n first reached before all))
  first_prints contents old between new out fault alone_one others = rw (← parts) (prints_both contents old new out _ _ (prints_both contents old between new _ _ fault alone_one) others)

  pub first_found : (is_found is_faulty is_alone : Bool) → is_faulty ≡ is_something_found faulty → is_alone ≡ is_something_found used
      → (((is_found || is_faulty) || is_alone) || is_something_found later) ≡ (is_found || is_something_found (instruction_findings profile k line notes alone n first reached before all))
  first_found is_found is_faulty is_alone fault alone_one = rw (← parts) (grind (arith, found_more, or_on))
