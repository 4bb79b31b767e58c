-- The text of how things stand tells what it shows.
use Rattle.std.proofs.Common.{All, ◌≡◌, ◌∙◌, ℕ, ◌+◌, ◌^◌, ◌<◌, ◌/◌, ◌%◌, Bool, true, false, List, [], ◌∷◌, ◌++◌, Option, None, Some, length, refl, sym, ap, arith, append_assoc, codes}
use Rattle.std.specs.Prelude.{◌==◌, ◌&&◌, ◌||◌, IfSome, IsTrue, get_or, nat_lt, not, unwrap_or, slice_index_or, if◌then◌else◌}
use Rattle.std.specs.List.{flat_map, list_all}
use Rattle.std.proofs.lemmas.Bool.{and_parts, lt-ltb, ne_eqb}
use Rattle.std.proofs.lemmas.Grind.{flat_map-append}
use Rattle.pp_numbers.specs.PpNo.{is_named, processor_index}
use Rattle.pp_channel.specs.declared.flags.Flags.{Flags}
use Rattle.pp_word.specs.Numeral.{is_digit, numeral, octal, short_octal}
use Rattle.pp_word.specs.Opcode.{opcode_at, row_of}
use Rattle.pp_word.specs.declared.opcode.Opcode.{Opcode}
use Rattle.pp_word.proofs.NumeralLemmas.{short_pass, short_read}
use Rattle.pp_machine.specs.MachineState.{MachineState, processor_of}
use Rattle.pp_processor.specs.declared.{block.Block.Block, block.BlockKind.BlockKind}
use Rattle.pp_processor.specs.declared.block.BlockKind.TheVariants.{CentralIn, CentralOut, Input, Output}
use Rattle.pp_text.specs.InstructionText.{block_text, instruction_text, operands_of, operands_text, running_text}
use Rattle.pp_word.specs.declared.operands.Operands.{Operands}
use Rattle.pp_word.specs.declared.operands.Operands.TheVariants.{Number}
use Rattle.pp_text.specs.PrintedText.{line_end, processor_line}
use Rattle.pp_text.specs.Standing.{standing}
use Rattle.pp_text.proofs.Format.{Format, Piece, always, characters, field, front_fails, is_digit_at, many, mark, maybe, octals, piece_tells, run_of, whole, ◌▷◌, ◌▸◌}
use Rattle.pp_text.proofs.Formats.{IsChannelLine, IsHold, channel_lines, channel_row, channels_are, channels_fit, channels_same, channels_shown, holds, named_rows, named_rows_are, named_rows_fit, named_rows_tell, processors, states}
use Rattle.pp_text.proofs.Telling.{decimal_digit}
use Rattle.pp_run.specs.StepCounts.{no_steps}
use Rattle.pp_run.specs.declared.step_counts.StepCounts.{StepCounts}
use Rattle.pp_deck.specs.DeckLine.{Line, nothing, central_size, central_words, section, start, words, dead_start}
use Rattle.pp_listing.specs.ListedLine.{deck_line}
use Rattle.pp_state.specs.Changes.{changed_central, changed_sections}
use Rattle.pp_state.specs.StateText.{changes_text, state_text as whole_state}
use Rattle.pp_state.specs.ShownStanding.{AgreeOnState, FitsItsStanding, FitsItsState, FitsItsWords, ShownProcessor, processor_shown, words_changed}

-- ---- the text of an instruction, up to a blank before a letter or to the end of the line

abbrev is_inky : ℕ → Bool
is_inky c = nat_lt 32 c

-- what stands behind its name, and begins with a digit
abbrev IsOperands : List ℕ → Type 0
IsOperands t = (is_digit_at 0 t ≡ true) × (list_all is_inky t ≡ true)

abbrev operands : Format IsOperands
operands = run_of is_inky (λ t. t) (λ t. t) (λ t is. is.1) (λ t _. refl)

abbrev begins_operands : List ℕ → Bool
begins_operands t = get_or t 0 0 == 32 && is_digit_at 1 t

operands_front : (t r : List ℕ) → IsOperands t → begins_operands ((codes " " ++ t) ++ r) ≡ true
operands_front [] r is = let no : false ≡ true = is.0 in absurd cc
operands_front (d ∷ t) r is = is.0

-- three letters, and operands if there are any
abbrev named_operands : Format (λ (x : List ℕ × Option (List ℕ)). (length x.0 ≡ 3) × IfSome x.1 IsOperands)
named_operands =
    whole
    (field (characters 3) (λ x. x.0) (λ x fits. fits.0)
    ▷ field (maybe (whole (mark (codes " ") ▷ field operands (λ t. t) (λ t is. is)) (λ x y same. same.1)) [] begins_operands operands_front) (λ x. x.1) (λ x fits. fits.1))
    (λ x y (name, ops) j. (name j, ops j))

abbrev IsInstruction : List ℕ → Type 0
IsInstruction t = (x : List ℕ × Option (List ℕ)) × (((length x.0 ≡ 3) × IfSome x.1 IsOperands) × (named_operands.text x ≡ t))

abbrev ends_instruction : List ℕ → Bool
ends_instruction r = not (is_inky (get_or r 0 0)) && not (begins_operands r)

instruction_ends : (x : List ℕ × Option (List ℕ)) (r : List ℕ) → ends_instruction r ≡ true → named_operands.clear x r ≡ true
instruction_ends x r is = grind (arith, and_parts)

instruction_tells : (x y r s : List ℕ) → IsInstruction x → IsInstruction y → ends_instruction r ≡ true → ends_instruction s ≡ true → x ++ r ≡ y ++ s → (x ≡ y) × (r ≡ s)
instruction_tells x y r s one other ends also e =
    let told = named_operands.tells one.0 other.0 r s one.1.0 other.1.0 (instruction_ends one.0 r ends) (instruction_ends other.0 s also) (ap (λ t. t ++ r) one.1.1 ∙ e ∙ ap (λ t. t ++ s) (sym other.1.1)) in
    (sym one.1.1 ∙ ap named_operands.text told.0 ∙ other.1.1, told.1)

abbrev instructions : Format IsInstruction
instructions = record { text = λ t. t; clear = λ t r. ends_instruction r; tells = instruction_tells }

are_operands : (kind : Operands) (place d m : ℕ) → IsOperands (operands_text kind place d m)
are_operands kind place d m = grind (arith, lt-ltb)

three_letters : (op : Opcode) → length (row_of op).mnemonic ≡ 3
three_letters op = grind arith

is_instruction : (block : Option Block) (place word m : ℕ) → IsInstruction (running_text block place word m)
unfolding instruction_text
is_instruction (Some block) place word m = of_kind block.kind
  where
    of_kind : (kind : BlockKind) → IsInstruction (block_text kind)
    of_kind (Input channel) = ((codes "IAM", Some (octal 2 channel)), ((refl, are_operands Number 0 channel 0), refl))
    of_kind (Output channel) = ((codes "OAM", Some (octal 2 channel)), ((refl, are_operands Number 0 channel 0), refl))
    of_kind (CentralIn left) = ((codes "CRM", None), ((refl, tt), refl))
    of_kind (CentralOut left) = ((codes "CWM", None), ((refl, tt), refl))
is_instruction None place word m =
    let ops = operands_text (operands_of (word / 2 ^ 6)) place (word % 2 ^ 6) m in
    (((row_of (opcode_at (word / 2 ^ 6))).mnemonic, Some ops), ((three_letters (opcode_at (word / 2 ^ 6)), are_operands (operands_of (word / 2 ^ 6)) place (word % 2 ^ 6) m), sym (append_assoc _ (codes " ") ops)))

-- ---- the line of a processor

-- it fits its line, and its instruction is one
record IsClear (s : ShownProcessor) : Type 0 where
  fits : FitsItsStanding s
  instruction : IsInstruction s.instruction

abbrev block_format : Format (λ x. IfSome x (λ place. place < 2 ^ 12))
block_format = maybe (whole (mark (codes " BLOCK ") ▷ field (octals 4) (λ place. place) (λ place low. low)) (λ x y same. same.1)) [] (λ t. get_or t 0 0 == 32 && get_or t 1 0 == 66) (λ x r _. refl)

abbrev held_format : Format (λ h. IfSome h IsHold)
held_format = maybe holds [] (λ t. get_or t 0 0 == 32) (λ h r _. refl)

abbrev said : Piece IsClear
said =
    field states (λ s. s.state) (λ s clear. clear.fits.state) ▸ codes " " ▷ field instructions (λ s. s.instruction) (λ s clear. clear.instruction)
    ▷ field block_format (λ s. s.place) (λ s clear. clear.fits.place) ▷ field held_format (λ s. s.held) (λ s clear. clear.fits.held)

abbrev IsStandingLine : ℕ × ShownProcessor → Type 0
IsStandingLine (n, s) = (n < 0o100) × IsClear s

abbrev standing_row : Format IsStandingLine
standing_row =
    whole (processors (λ s. s.p) (λ s. s.a) (λ s clear. clear.fits.p) (λ s clear. clear.fits.a) said)
    (λ x y ((((_, n), p), a), (((state, instruction), place), held)) j. (n j, record { p = p j; a = a j; state = state j; instruction = instruction j; place = place j; held = held j }))

said_clear : (place : Option ℕ) (held : Option (ℕ × (Flags × ℕ))) (r : List ℕ)
    → ((ends_instruction (block_format.text place ++ (held_format.text held ++ (line_end ++ r))) && block_format.clear place (held_format.text held ++ (line_end ++ r))) && held_format.clear held (line_end ++ r)) ≡ true
said_clear place held r = grind arith

-- a line of a processor, and no section of words
abbrev begins_processor : List ℕ → Bool
begins_processor t = get_or t 0 0 == 80 && not (get_or t 2 0 == 32)

standing_front : (x : ℕ × ShownProcessor) (r : List ℕ) → (begins_processor (standing_row.text x ++ r) && true) ≡ true
standing_front (n, s) r = rw (ne_eqb (48 + n / 8 % 8) 32 (λ e. absurd (omega (arith, e)))) refl

standing_rows : Format (All IsStandingLine)
standing_rows = many standing_row begins_processor (λ _. true) (λ x r _. standing_front x r) (λ (n, s) r _. said_clear s.place s.held r)

standing_is : (n : ℕ) (m : MachineState) (count : ℕ) → processor_line n (processor_of n m) (standing n m count) ≡ standing_row.text (n, processor_shown n m count)
unfolding processor_line
standing_is n m count = grind arith

-- ---- the lines of words

abbrev short_octals : (most : ℕ) → 0 < most → Format (λ n. n < 8 ^ most)
short_octals most some =
    run_of (is_digit 10) (short_octal most) (λ t. unwrap_or (numeral 8 most t) 0)
    (λ n _. short_pass (is_digit 10) (λ d low. decimal_digit d (omega (arith, low))) most n) (λ n low. ap (λ (o : Option ℕ). unwrap_or o 0) (short_read most n some low))

abbrev word_row : (width : ℕ) → Format (λ w. w < 8 ^ width)
word_row width = whole (mark (codes " ") ▷ field (octals width) (λ w. w) (λ w low. low)) (λ v w same. same.1)

abbrev words_format : (width : ℕ) → Format (All (λ w. w < 8 ^ width))
words_format width = many (word_row width) (λ t. get_or t 0 0 == 32) (λ _. true) (λ w r _. refl) (λ w r _. refl)

abbrev section_row : Format (λ n. n < 8 ^ 2)
section_row = whole (mark (codes "PP ") ▷ field (short_octals 2 (omega arith)) (λ n. n) (λ n low. low) ▸ line_end) (λ m n same. same.1)

abbrev words_row : Format (λ (x : ℕ × List ℕ). (x.0 < 2 ^ 12) × All (λ w. w < 2 ^ 12) x.1)
words_row = whole (field (octals 4) (λ x. x.0) (λ x fits. fits.0) ▷ field (words_format 4) (λ x. x.1) (λ x fits. fits.1) ▸ line_end) (λ x y (place, ws) j. (place j, ws j))

abbrev central_row : Format (λ (x : ℕ × List ℕ). (x.0 < 8 ^ 6) × All (λ w. w < 2 ^ 60) x.1)
central_row = whole (mark (codes "CM ") ▷ field (short_octals 6 (omega arith)) (λ x. x.0) (λ x fits. fits.0) ▷ field (words_format 20) (λ x. x.1) (λ x fits. fits.1) ▸ line_end) (λ x y ((_, a), ws) j. (a j, ws j))

central_clear : (x : ℕ × List ℕ) (r : List ℕ) → central_row.clear x r ≡ true
central_clear (a, []) r = refl
central_clear (a, w ∷ ws) r = refl

-- which of them a line is, and begins a text
kind_of : Line → ℕ
kind_of (words x ws) = 1
kind_of (section n) = 80
kind_of (central_words a ws) = 67
kind_of line = 2

abbrev kind : List ℕ → ℕ
kind t = if is_digit_at 0 t then 1 else get_or t 0 0

line_tells : (x y : Line) (r s : List ℕ) → FitsItsWords x → FitsItsWords y → deck_line x ++ r ≡ deck_line y ++ s → (x ≡ y) × (r ≡ s)
unfolding kind_of
line_tells (section m) (section n) r s low small e = let told = section_row.tells m n r s low small refl refl e in (ap section told.0, told.1)
line_tells (words x vs) (words y ws) r s low small e = let told = words_row.tells (x, vs) (y, ws) r s low small refl refl e in ((λ j. words (told.0 j).0 (told.0 j).1), told.1)
line_tells (central_words a vs) (central_words b ws) r s low small e =
    let told = central_row.tells (a, vs) (b, ws) r s low small (central_clear (a, vs) r) (central_clear (b, ws) s) e in ((λ j. central_words (told.0 j).0 (told.0 j).1), told.1)
line_tells nothing y r s low small e = absurd low
line_tells (central_size n) y r s low small e = absurd low
line_tells (start p a) y r s low small e = absurd low
line_tells dead_start y r s low small e = absurd low
line_tells x y r s low small e = grind (arith, kind_of, lt-ltb)

abbrev begins_words : List ℕ → Bool
begins_words t = kind t == 1 || kind t == 80 || (kind t == 67 && get_or t 1 0 == 77)

words_front : (line : Line) (r : List ℕ) → FitsItsWords line → (begins_words (deck_line line ++ r) && true) ≡ true
words_front line r fits = grind (arith, lt-ltb)

word_lines : Format (All FitsItsWords)
word_lines = many (always deck_line line_tells) begins_words (λ _. true) words_front (λ line r _. refl)

-- ---- the whole text

abbrev Shown : Type 0
Shown = List (ℕ × ShownProcessor) × (List Line × List (ℕ × (Bool × Option ℕ)))

abbrev whole_text : Piece (λ (x : Shown). All IsStandingLine x.0 × (All FitsItsWords x.1.0 × All IsChannelLine x.1.1))
whole_text = field standing_rows (λ x. x.0) (λ x fits. fits.0) ▷ field word_lines (λ x. x.1.0) (λ x fits. fits.1.0) ▷ field channel_lines (λ x. x.1.1) (λ x fits. fits.1.1)

no_processor : (line : Line) (r : List ℕ) → begins_processor (deck_line line ++ r) ≡ false
no_processor line r = grind (arith, ne_eqb)

text_clear : (x : Shown) → whole_text.clear x [] ≡ true
unfolding standing_rows word_lines
text_clear (rows, (ws, cs)) =
    let no_row = front_fails deck_line begins_processor false no_processor ws (channel_lines.text cs ++ []) (front_fails channel_row.text begins_processor false (λ x r. refl) cs [] refl) in
    rw (no_row, front_fails channel_row.text begins_words false (λ x r. refl) cs [] refl) refl

module _ (shown : List Bool) (before after : MachineState) (counts : List StepCounts) where
  abbrev held : ℕ → ℕ
  held n = (slice_index_or counts (processor_index n) no_steps).last_held

  abbrev shown_of_each : ℕ → Option ShownProcessor
  shown_of_each n = Some (processor_shown n after (held n))

  abbrev all_shown : Shown
  all_shown = (named_rows shown shown_of_each, (words_changed before after, channels_shown after.histories))

  text_is : whole_state shown before after counts ≡ whole_text.text all_shown
  unfolding whole_state changes_text standing_rows word_lines
  text_is =
      let sections = flat_map deck_line (changed_sections before after) in
      let central = flat_map deck_line (changed_central before.central after.central) in
      rw (
        named_rows_are shown (λ n. processor_line n (processor_of n after) (standing n after (held n))) standing_row.text shown_of_each (λ n. standing_is n after (held n)),
        channels_are after.histories,
        flat_map-append deck_line (changed_sections before after) (changed_central before.central after.central),
      )
      (sym (append_assoc (flat_map standing_row.text (named_rows shown shown_of_each)) (sections ++ central) (channel_lines.text (channels_shown after.histories))))

  text_fits : FitsItsState shown before after counts → All IsStandingLine (named_rows shown shown_of_each) × (All FitsItsWords (words_changed before after) × All IsChannelLine (channels_shown after.histories))
  text_fits fits = (named_rows_fit IsStandingLine shown shown_of_each each, (fits.words, channels_fit after.histories fits.channels))
    where
      each : (n : ℕ) → n < 0o100 → IsTrue (is_named shown n) → IfSome (shown_of_each n) (λ x. IsStandingLine (n, x))
      each n low is = grind (arith, is_instruction)

pub text_tells_state : (shown others : List Bool) (before after load other : MachineState) (counts more : List StepCounts) → FitsItsState shown before after counts → FitsItsState others load other more
    → whole_state shown before after counts ≡ whole_state others load other more → AgreeOnState shown others before after load other counts more
text_tells_state shown others before after load other counts more fits also e =
    let told = piece_tells whole_text text_clear (all_shown shown before after counts) (all_shown others load other more) (text_fits shown before after counts fits) (text_fits others load other more also)
    (sym (text_is shown before after counts) ∙ e ∙ text_is others load other more) in
    record { processors = named_rows_tell shown others (shown_of_each shown before after counts) (shown_of_each others load other more) told.0.0; words = told.0.1; channels = channels_same after.histories other.histories told.1 }
