-- The text of a machine tells its trace, its named processors and its channels.
use Rattle.std.proofs.Common.{All, ◌≡◌, ◌∙◌, ℕ, ◌^◌, ◌<◌, Bool, true, false, List, [], ◌++◌, Option, Some, None, refl, sym, append_assoc, codes, arith}
use Rattle.std.specs.Prelude.{◌==◌, IsTrue, get_or, if◌then◌else◌}
use Rattle.pp_numbers.proofs.ChannelNoLemmas.{channel_fits}
use Rattle.pp_machine.specs.MachineState.{MachineState, processor_of}
use Rattle.pp_processor.specs.Processor.{HasFaultNumber}
use Rattle.pp_processor.specs.declared.{pp_state.PpState.PpState}
use Rattle.pp_machine.specs.declared.{trace.Trace.Trace}
use Rattle.pp_numbers.specs.PpNo.{is_named}
use Rattle.pp_numbers.proofs.PpNoLemmas.{processor_fits}
use Rattle.pp_text.specs.PrintedText.{event_line, line_end, printed, processor_line, state_text}
use Rattle.pp_text.specs.TextLaw.{AgreeOnText, EventFits, FitsItsText, ShowSameProcessor}
use Rattle.pp_text.proofs.Format.{Format, Piece, decimal_front, decimals, field, front_fails, is_digit_at, many, octals, piece_tells, whole, ◌▷◌, ◌▸◌}
use Rattle.pp_text.proofs.Formats.{IsChannelLine, channel_lines, channel_row, channels_are, channels_fit, channels_same, channels_shown, events, named_rows, named_rows_are, named_rows_fit, named_rows_tell, processors, states}

-- ---- the lines of events

abbrev event_row : Format EventFits
event_row =
    whole
    (field decimals (λ e. e.turn) (λ e fits. fits.turn) ▸ codes " PP" ▷ field (octals 2) (λ e. e.pp) (λ e fits. processor_fits e.pp fits.pp) ▸ codes " CH"
    ▷ field (octals 2) (λ e. e.channel) (λ e fits. channel_fits e.channel fits.channel) ▸ codes " " ▷ field events (λ e. e.event) (λ e fits. fits.word) ▸ line_end)
    (λ x y (((turn, pp), channel), event). λ j. record { turn = turn j; pp = pp j; channel = channel j; event = event j })

event_front : (e : Trace) (r : List ℕ) → is_digit_at 0 (event_row.text e ++ r) ≡ true
event_front e r = simp append_assoc (decimal_front e.turn _)

event_lines : Format (All EventFits)
event_lines = many event_row (is_digit_at 0) (λ _. true) (λ e r _. rw (event_front e r) refl) (λ e r _. refl)

-- ---- the lines of processors

abbrev IsProcessorLine : ℕ × (ℕ × (ℕ × PpState)) → Type 0
IsProcessorLine (n, (p, (a, state))) = (n < 0o100) × ((p < 2 ^ 12) × ((a < 2 ^ 18) × HasFaultNumber state))

abbrev processor_row : Format IsProcessorLine
processor_row =
    whole
    (processors (λ x. x.0) (λ x. x.1.0) (λ x fits. fits.0) (λ x fits. fits.1.0) (field states (λ x. x.1.1) (λ x fits. fits.1.1)))
    (λ x y ((((_, n), p), a), state). λ j. (n j, (p j, (a j, state j))))

processor_lines : Format (All IsProcessorLine)
processor_lines = many processor_row (λ t. get_or t 0 0 == 80) (λ _. true) (λ x r _. refl) (λ x r _. refl)

abbrev shown : MachineState → ℕ → Option (ℕ × (ℕ × PpState))
shown m n = let pp = processor_of n m in Some (pp.p, (pp.a, pp.state))

same_shown : (b c : Bool) (n : ℕ) (one other : MachineState) → (if b then shown one n else None) ≡ (if c then shown other n else None) → (b ≡ c) × (IsTrue b → ShowSameProcessor (processor_of n one) (processor_of n other))
same_shown b c n one other e = grind arith

-- ---- the whole text

abbrev Shown : Type 0
Shown = List Trace × (List (ℕ × (ℕ × (ℕ × PpState))) × List (ℕ × (Bool × Option ℕ)))

abbrev whole_text : Piece (λ (x : Shown). All EventFits x.0 × (All IsProcessorLine x.1.0 × All IsChannelLine x.1.1))
whole_text = field event_lines (λ x. x.0) (λ x fits. fits.0) ▷ field processor_lines (λ x. x.1.0) (λ x fits. fits.1.0) ▷ field channel_lines (λ x. x.1.1) (λ x fits. fits.1.1)

abbrev all_shown : List Bool → MachineState → Shown
all_shown named m = (m.trace, (named_rows named (shown m), channels_shown m.histories))

text_is : (named : List Bool) (m : MachineState) → printed named m ≡ whole_text.text (all_shown named m)
unfolding printed event_line processor_line event_lines processor_lines
text_is named m = rw (named_rows_are named (λ n. let pp = processor_of n m in processor_line n pp (state_text pp.state)) processor_row.text (shown m) (λ n. refl), channels_are m.histories) refl

text_clear : (x : Shown) → whole_text.clear x [] ≡ true
unfolding event_lines processor_lines
text_clear (trace, (ps, cs)) =
    let no_digit = front_fails processor_row.text (is_digit_at 0) false (λ x r. refl) ps (channel_lines.text cs ++ []) (front_fails channel_row.text (is_digit_at 0) false (λ x r. refl) cs [] refl) in
    rw (no_digit, front_fails channel_row.text (λ t. get_or t 0 0 == 80) false (λ x r. refl) cs [] refl) refl

text_fits : (named : List Bool) (m : MachineState) → FitsItsText named m → All EventFits m.trace × (All IsProcessorLine (named_rows named (shown m)) × All IsChannelLine (channels_shown m.histories))
text_fits named m fits = (fits.trace, (named_rows_fit IsProcessorLine named (shown m) (λ n low is. let fit = fits.processors n is in (low, (fit.p, (fit.a, fit.state)))), channels_fit m.histories fits.channels))

pub text_tells : (named others : List Bool) (one other : MachineState) → FitsItsText named one → FitsItsText others other → printed named one ≡ printed others other → AgreeOnText named others one other
text_tells named others one other fits also e =
    let told = piece_tells whole_text text_clear (all_shown named one) (all_shown others other) (text_fits named one fits) (text_fits others other also) (sym (text_is named one) ∙ e ∙ text_is others other) in
    let processors = λ (n : ℕ). same_shown (is_named named n) (is_named others n) n one other (named_rows_tell named others (shown one) (shown other) told.0.1 n) in
    record { names = λ n. (processors n).0; trace = told.0.0; processors = λ n. (processors n).1; channels = channels_same one.histories other.histories told.1 }
