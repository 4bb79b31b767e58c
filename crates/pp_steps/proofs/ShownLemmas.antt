-- The text of the steps chosen tells what each line shows.
use Rattle.std.proofs.Common.{All, ◌≡◌, ◌∙◌, ℕ, ◌^◌, ◌<◌, Bool, true, false, List, [], ◌∷◌, ◌++◌, Option, None, Some, drop, length, take, refl, sym, ap, arith, append-nil, codes}
use Rattle.std.specs.Prelude.{◌&&◌, IfSome, IsTrue, not, slice_index, if◌then◌else◌}
use Rattle.std.specs.List.{flat_map, range_with_len}
use Rattle.std.specs.Str.{bytes_eq}
use Rattle.pp_numbers.specs.ChannelNo.{names_channel}
use Rattle.pp_numbers.proofs.ChannelNoLemmas.{channel_fits}
use Rattle.pp_numbers.proofs.PpNoLemmas.{processor_fits}
use Rattle.pp_channel.specs.declared.{flags.Flags.Flags}
use Rattle.pp_word.specs.Numeral.{octal}
use Rattle.pp_machine.specs.MachineState.{MachineState, processor_of}
use Rattle.pp_machine.specs.MachineStep.{stepped}
use Rattle.pp_processor.specs.Processor.{HasFaultNumber}
use Rattle.pp_processor.specs.declared.{block.Block.Block, need.Need.Need, pp_state.PpState.PpState}
use Rattle.pp_processor.specs.declared.outcome.Outcome.TheVariants.{Held}
use Rattle.pp_processor.specs.declared.pp_state.PpState.TheVariants.{Running}
use Rattle.pp_text.specs.Differences.{differs, places}
use Rattle.pp_text.specs.PrintedText.{event_text, line_end, padded}
use Rattle.pp_text.specs.Standing.{flags_text, held_text}
use Rattle.pp_text.proofs.Format.{Format, always, characters, decimals, field, flat_map_each, format_tells, many, mark, maybe, octals, whole, ◌▷◌, ◌▸◌}
use Rattle.pp_text.proofs.Formats.{IsHold, flags, holds, states}
use Rattle.pp_text.proofs.Telling.{Tells}
use Rattle.pp_steps.specs.declared.{choice.Choice.Choice, cursor.LineKind.LineKind}
use Rattle.pp_steps.specs.declared.cursor.LineKind.TheVariants.{NoLine, OneStep, HeldSteps}
use Rattle.pp_condition.specs.declared.condition.Condition.{Condition}
use Rattle.pp_run.specs.RunSteps.{RunStep}
use Rattle.pp_steps.specs.StepsWhere.{HasLinesWhere}
use Rattle.pp_steps.specs.ShownStep.{OnChannel, FitsChannel, FitsItsStepLine, IsWordAt, ShownStep, alone_shown, changes_shown, channel_shown, hold_shown, kind_shown, line_shown, steps_shown, words_shown}
use Rattle.pp_steps.specs.ShownStep.OnChannel.{Made, Saw}
use Rattle.pp_steps.specs.StepLine.{channel_text, end_text, held_line, step_line, words_text}
use Rattle.pp_steps.specs.StepsText.{StepWithLine, kind_text, line_text, steps_text}

-- ---- the formats of a line

abbrev words_column : Option (ℕ × Option ℕ) → List ℕ
words_column None = codes "         "
words_column (Some (word, None)) = octal 4 word ++ codes "     "
words_column (Some (word, Some m)) = octal 4 word ++ codes " " ++ octal 4 m

words_tell : Tells (λ x. IfSome x (λ (word, second). (word < 2 ^ 12) × IfSome second (λ m. m < 2 ^ 12))) words_column
words_tell x y r s fits also e = grind arith

-- which of its last parts, each behind a blank, begins a text
abbrev begins : List ℕ → List ℕ → Bool
begins front t = bytes_eq (take (length front) t) front

abbrev place_row : Format (IsWordAt (2 ^ 12) (2 ^ 12))
place_row = whole (mark (codes " (") ▷ field (octals 4) (λ x. x.0) (λ x fits. fits.0) ▸ codes ")=" ▷ field (octals 4) (λ x. x.1) (λ x fits. fits.1)) (λ x y ((_, place), word) j. (place j, word j))

abbrev places_format : Format (All (IsWordAt (2 ^ 12) (2 ^ 12)))
places_format = many place_row (begins (codes " (")) (λ _. true) (λ x r _. refl) (λ x r _. refl)

abbrev central_row : Format (IsWordAt (2 ^ 18) (2 ^ 60))
central_row = whole (mark (codes " CM ") ▷ field (octals 6) (λ x. x.0) (λ x fits. fits.0) ▸ codes "=" ▷ field (octals 20) (λ x. x.1) (λ x fits. fits.1)) (λ x y ((_, a), word) j. (a j, word j))

abbrev central_format : Format (All (IsWordAt (2 ^ 18) (2 ^ 60)))
central_format = many central_row (begins (codes " CM")) (λ _. true) (λ x r _. refl) (λ x r _. refl)

on_channel_text : OnChannel → List ℕ
on_channel_text (Made e) = event_text e
on_channel_text (Saw flags) = flags_text flags

on_channel_tells : Tells FitsChannel on_channel_text
unfolding on_channel_text
on_channel_tells x y r s fits also e = grind arith

abbrev channel_format : Format (λ x. IfSome x (λ (c, said). IsTrue (names_channel c) × FitsChannel said))
channel_format =
    maybe
    (whole (mark (codes " CH") ▷ field (octals 2) (λ x. x.0) (λ x fits. channel_fits x.0 fits.0) ▸ codes " " ▷ field (always on_channel_text on_channel_tells) (λ x. x.1) (λ x fits. fits.1)) (λ x y ((_, c), said) j. (c j, said j)))
    [] (begins (codes " CH")) (λ x r _. refl)

abbrev no_end : List ℕ → Bool
no_end t = not (begins (codes " S") t) && not (begins (codes " F") t)

end_tells : (x y : PpState) (r s : List ℕ) → HasFaultNumber x → HasFaultNumber y → no_end r ≡ true → no_end s ≡ true → end_text x ++ r ≡ end_text y ++ s → (x ≡ y) × (r ≡ s)
end_tells Running Running r s _ _ _ _ e = (refl, e)
end_tells Running y r s _ _ none _ e = let no : false ≡ true = sym (ap no_end e) ∙ none in absurd cc
end_tells x Running r s _ _ _ none e = let no : false ≡ true = ap no_end e ∙ none in absurd cc
end_tells x y r s fits also _ _ e = states.tells x y r s fits also refl refl (ap (drop 1) e)

abbrev ends : Format HasFaultNumber
ends = record { text = end_text; clear = λ x r. no_end r; tells = end_tells }

abbrev held_format : Format (λ h. IfSome h IsHold)
held_format = maybe holds [] (begins (codes " ")) (λ h r _. refl)

abbrev step_row : Format FitsItsStepLine
step_row =
    whole
    (field decimals (λ s. s.turn) (λ s fits. fits.turn) ▸ codes " PP" ▷ field (octals 2) (λ s. s.processor) (λ s fits. processor_fits s.processor fits.processor) ▸ codes " "
    ▷ field (octals 4) (λ s. s.p) (λ s fits. fits.p) ▸ codes " " ▷ field (always words_column words_tell) (λ s. s.words) (λ s fits. fits.words) ▸ codes "  "
    ▷ field (characters 13) (λ s. s.instruction) (λ s fits. fits.instruction) ▸ codes " A=" ▷ field (octals 6) (λ s. s.a) (λ s fits. fits.a)
    ▷ field places_format (λ s. s.places) (λ s fits. fits.places) ▷ field central_format (λ s. s.central) (λ s fits. fits.central)
    ▷ field channel_format (λ s. s.channel) (λ s fits. fits.channel) ▷ field ends (λ s. s.state) (λ s fits. fits.state) ▷ field held_format (λ s. s.held) (λ s fits. fits.held) ▸ line_end)
    (λ s t ((((((((((turn, processor), p), words), instruction), a), places), central), channel), state), held) j.
    record { turn = turn j; processor = processor j; p = p j; words = words j; instruction = instruction j; a = a j; places = places j; central = central j; channel = channel j; state = state j; held = held j })

-- ---- what follows its last parts

end_clear : (h : Option (ℕ × (Flags × ℕ))) (r : List ℕ) → no_end (held_format.text h ++ (line_end ++ r)) ≡ true
end_clear h r = grind arith

channel_clear : (c : Option (ℕ × OnChannel)) (state : PpState) (h : Option (ℕ × (Flags × ℕ))) (r : List ℕ) → channel_format.clear c (end_text state ++ (held_format.text h ++ (line_end ++ r))) ≡ true
channel_clear c state h r = grind arith

central_clear : (c : Option (ℕ × OnChannel)) (state : PpState) (h : Option (ℕ × (Flags × ℕ))) (r : List ℕ) → begins (codes " CM") (channel_format.text c ++ (end_text state ++ (held_format.text h ++ (line_end ++ r)))) ≡ false
central_clear c state h r = grind arith

places_clear : (xs : List (ℕ × ℕ)) (c : Option (ℕ × OnChannel)) (state : PpState) (h : Option (ℕ × (Flags × ℕ))) (r : List ℕ)
    → begins (codes " (") (central_format.text xs ++ (channel_format.text c ++ (end_text state ++ (held_format.text h ++ (line_end ++ r))))) ≡ false
places_clear (x ∷ xs) c state h r = refl
places_clear [] c state h r = grind arith

step_clear : (s : ShownStep) (r : List ℕ) → step_row.clear s r ≡ true
step_clear s r = grind (arith, places_clear, central_clear, channel_clear, end_clear)

-- whether there is any
abbrev is_text : List ℕ → Bool
is_text [] = false
is_text (c ∷ t) = true

line_front : (a r : List ℕ) → (is_text ((a ++ line_end) ++ r) && true) ≡ true
line_front [] r = refl
line_front (c ∷ a) r = refl

step_rows : Format (All FitsItsStepLine)
step_rows = many step_row is_text (λ _. true) (λ s r _. line_front _ r) (λ s r _. step_clear s r)

-- ---- it is the text

words_are : (block : Option Block) (word m : ℕ) → padded 9 (words_text block word m) ≡ words_column (words_shown block word m)
words_are block word m = grind arith

changes_are : (before after : List ℕ) (said : ℕ × ℕ → List ℕ) (places : List ℕ)
    → flat_map (λ place. if differs before after place then said (place, slice_index after place) else []) places ≡ flat_map said (changes_shown before after places)
changes_are before after said [] = refl
changes_are before after said (place ∷ places) = grind (arith, changes_are before after said places)

channel_is : (asked : Need) (m : MachineState) → channel_text asked m ≡ channel_format.text (channel_shown asked m)
unfolding on_channel_text
channel_is asked m = grind arith

hold_is : (asked : Need) (m : MachineState) (count : ℕ) → held_text asked Held m count ≡ held_format.text (hold_shown asked m count)
hold_is asked m count = grind arith

line_is : (x : StepWithLine) → line_text x ≡ flat_map step_row.text (line_shown x)
unfolding step_line held_line
line_is x = by_kind x.line
  where
    n : ℕ
    n = x.step.processor

    m : MachineState
    m = x.step.before

    after : MachineState
    after = stepped n m

    by_kind : (line : LineKind) → kind_text line n m ≡ flat_map step_row.text (kind_shown line n m)
    by_kind NoLine = refl
    by_kind OneStep = rw (words_are, changes_are (processor_of n m).memory (processor_of n after).memory place_row.text places, changes_are m.central after.central central_row.text (range_with_len 0 (length after.central)), channel_is) (simp append-nil)
    by_kind (HeldSteps count) = rw (words_are, hold_is) (simp append-nil)

lines_tell : (xs ys : List StepWithLine) → All FitsItsStepLine (flat_map line_shown xs) → All FitsItsStepLine (flat_map line_shown ys)
    → flat_map line_text xs ≡ flat_map line_text ys → flat_map line_shown xs ≡ flat_map line_shown ys
unfolding step_rows
lines_tell xs ys fits also e =
    format_tells step_rows (flat_map line_shown xs) (flat_map line_shown ys) fits also refl refl
    (sym (flat_map_each line_text step_row.text line_shown line_is xs) ∙ e ∙ flat_map_each line_text step_row.text line_shown line_is ys)

-- the text of those that meet a condition tells them
pub where_tells_steps : (condition other : Condition) (steps more : List RunStep) (text : List ℕ) (one : HasLinesWhere condition steps text) (also : HasLinesWhere other more text)
    → All FitsItsStepLine (alone_shown one.those) → All FitsItsStepLine (alone_shown also.those) → alone_shown one.those ≡ alone_shown also.those
where_tells_steps condition other steps more text one also fits too = grind (arith, lines_tell)

pub text_tells_steps : (choice others : Choice) (steps more : List ℕ) (load other : MachineState) → All FitsItsStepLine (steps_shown choice steps load) → All FitsItsStepLine (steps_shown others more other)
    → steps_text choice steps load ≡ steps_text others more other → steps_shown choice steps load ≡ steps_shown others more other
unfolding steps_text
text_tells_steps choice others steps more load other fits also e = grind (arith, lines_tell)
