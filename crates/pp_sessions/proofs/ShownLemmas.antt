-- The text of sessions tells what it shows.
use Rattle.std.proofs.Common.{All, ◌≡◌, ◌∙◌, ℕ, ◌+◌, ◌%◌, ◌^◌, ◌<◌, Bool, true, false, List, [], ◌∷◌, ◌++◌, Option, drop, refl, sym, ap, arith, append-nil, codes}
use Rattle.std.specs.Prelude.{◌==◌, IfSome, get_or, is_some, not, slice_index_or, if◌then◌else◌}
use Rattle.std.specs.List.{flat_map}
use Rattle.std.proofs.lemmas.List.Elements.{All-head, All-tail}
use Rattle.pp_numbers.specs.ChannelNo.{all_channels}
use Rattle.pp_numbers.proofs.ChannelNoLemmas.{channel_fits}
use Rattle.pp_numbers.specs.PpNo.{all_processors, is_named, processor_index}
use Rattle.pp_numbers.proofs.PpNoLemmas.{processor_fits}
use Rattle.pp_machine.specs.MachineState.{MachineState}
use Rattle.pp_text.specs.PrintedText.{line_end}
use Rattle.pp_text.proofs.Format.{Format, Piece, decimal_front, decimals, field, flat_map_each, is_digit_at, many, mark, maybe, no_digit, octals, piece_tells, short_decimals, whole, within, ◌▷◌, ◌▸◌}
use Rattle.pp_run.specs.StepCounts.{no_steps}
use Rattle.pp_run.specs.declared.step_counts.StepCounts.{StepCounts}
use Rattle.pp_sessions.specs.SessionsText.{channel_lines, counts_line, idle_line, lines_from, moment_text, next_number, session_line, sessions_text, shown_counts_line, tally_line, word_text, words_from}
use Rattle.pp_sessions.specs.ShownStretch.{FitsItsCounts, FitsItsStretch, FitsMoment, ShownCounts, ShownStretch, counts_of, counts_shown, shown_from, stretches_shown, tally_shown}
use Rattle.pp_sessions.specs.ShownStretch.ShownStretch.{Idle, InSession}
use Rattle.pp_sessions.specs.Stretches.{stretches, tally_of}
use Rattle.pp_sessions.specs.TimedEvents.{timed_events}
use Rattle.pp_sessions.specs.declared.{tally.Moment.Moment, tally.TimedEvent.TimedEvent, tally.Tally.Tally}
use Rattle.pp_sessions.specs.declared.tally.Moment.TheVariants.{DeadStart, Turn}

-- ---- moments, and the word untaken

moment_tells : (x y : Moment) (r s : List ℕ) → FitsMoment x → FitsMoment y → no_digit r ≡ true → no_digit s ≡ true → moment_text x ++ r ≡ moment_text y ++ s → (x ≡ y) × (r ≡ s)
moment_tells DeadStart DeadStart r s _ _ _ _ e = (refl, ap (drop 10) e)
moment_tells (Turn m) (Turn n) r s low small ends other e = let turn = decimals.tells m n r s low small ends other e in (ap Turn turn.0, turn.1)
moment_tells DeadStart (Turn n) r s _ _ _ _ e = let no : false ≡ true = ap (is_digit_at 0) e ∙ decimal_front n s in absurd cc
moment_tells (Turn n) DeadStart r s _ _ _ _ e = let no : false ≡ true = ap (is_digit_at 0) (sym e) ∙ decimal_front n r in absurd cc

abbrev moments : Format FitsMoment
moments = record { text = moment_text; clear = λ x r. no_digit r; tells = moment_tells }

abbrev session_ends : Format (λ to. IfSome to FitsMoment)
session_ends = maybe (whole (mark (codes " TO ") ▷ field moments (λ m. m) (λ m fits. fits)) (λ x y same. same.1)) (codes " GOING ON") (λ t. get_or t 1 0 == 84) (λ m r _. refl)

abbrev IsWord : ℕ → Type 0
IsWord w = w < 2 ^ 12

-- words, and what is said of one, go on with a blank
abbrev no_blank : List ℕ → Bool
no_blank r = not (get_or r 0 0 == 32)

untaken_tells : (x y : Bool × Option ℕ) (r s : List ℕ) → IfSome x.1 IsWord → IfSome y.1 IsWord → no_blank r ≡ true → no_blank s ≡ true → word_text x.0 x.1 ++ r ≡ word_text y.0 y.1 ++ s → (x.1 ≡ y.1) × (r ≡ s)
untaken_tells x y r s low small clear other e = grind arith

-- the word untaken, which a session that has ended has lost
abbrev untaken : Piece (λ (x : Bool × Option ℕ). IfSome x.1 IsWord)
untaken = record { text = λ x. word_text x.0 x.1; clear = λ x r. no_blank r; Same = λ x y. x.1 ≡ y.1; tells = untaken_tells }

-- ---- words, eight a line

words_tell : (count : ℕ) (vs ws r s : List ℕ) → All IsWord vs → All IsWord ws → no_blank r ≡ true → no_blank s ≡ true → words_from count vs ++ r ≡ words_from count ws ++ s → (vs ≡ ws) × (r ≡ s)
words_tell count [] [] r s _ _ _ _ e = grind arith
words_tell count (v ∷ vs) (w ∷ ws) r s low small clear other e =
    grind (arith, All-head IsWord v vs low, All-head IsWord w ws small, words_tell ((count + 1) % 8) vs ws r s (All-tail IsWord v vs low) (All-tail IsWord w ws small) clear other)
words_tell count vs ws r s _ _ clear other e = grind arith

abbrev words : Format (All IsWord)
words = record { text = words_from 0; clear = λ ws r. no_blank r; tells = words_tell 0 }

-- ---- stretches

abbrev Idling : Type 0
Idling = ℕ × (ℕ × (Moment × (Moment × List ℕ)))

abbrev idle : Format (λ ((c, (count, (from, (to, words)))) : Idling). FitsItsStretch (Idle c count from to words))
idle =
    whole
    (mark (codes "CH") ▷ field (octals 2) (λ x. x.0) (λ x fits. channel_fits x.0 fits.0) ▸ codes " IDLE FUNCTIONS " ▷ field short_decimals (λ x. x.1.0) (λ x fits. fits.1.0)
    ▸ codes " FROM " ▷ field moments (λ x. x.1.1.0) (λ x fits. fits.1.1.0) ▸ codes " TO " ▷ field moments (λ x. x.1.1.1.0) (λ x fits. fits.1.1.1.0) ▸ line_end
    ▷ field words (λ x. x.1.1.1.1) (λ x fits. fits.1.1.1.1))
    (λ x y (((((_, c), count), from), to), words) j. (c j, (count j, (from j, (to j, words j)))))

abbrev Session : Type 0
Session = ℕ × (ℕ × (Moment × (Option Moment × (ℕ × (ℕ × (Option ℕ × List ℕ))))))

abbrev session : Format (λ ((c, (number, (from, (to, (put, (taken, (untaken, words))))))) : Session). FitsItsStretch (InSession c number from to put taken untaken words))
session =
    whole
    (mark (codes "CH") ▷ field (octals 2) (λ x. x.0) (λ x fits. channel_fits x.0 fits.0) ▸ codes " SESSION " ▷ field short_decimals (λ x. x.1.0) (λ x fits. fits.1.0)
    ▸ codes " FROM " ▷ field moments (λ x. x.1.1.0) (λ x fits. fits.1.1.0) ▷ field session_ends (λ x. x.1.1.1.0) (λ x fits. fits.1.1.1.0)
    ▸ codes " PUT " ▷ field short_decimals (λ x. x.1.1.1.1.0) (λ x fits. fits.1.1.1.1.0) ▸ codes " TAKEN " ▷ field short_decimals (λ x. x.1.1.1.1.1.0) (λ x fits. fits.1.1.1.1.1.0)
    ▷ within untaken (λ x. (is_some x.1.1.1.0, x.1.1.1.1.1.1.0)) (λ x fits. fits.1.1.1.1.1.1.0) ▸ line_end ▷ field words (λ x. x.1.1.1.1.1.1.1) (λ x fits. fits.1.1.1.1.1.1.1))
    (λ x y ((((((((_, c), number), from), to), put), taken), untaken), words) j. (c j, (number j, (from j, (to j, (put j, (taken j, (untaken j, words j))))))))

abbrev shown_text : ShownStretch → List ℕ
shown_text (Idle c n f t ws) = idle.text (c, (n, (f, (t, ws))))
shown_text (InSession c n f t p k x ws) = session.text (c, (n, (f, (t, (p, (k, (x, ws)))))))

shown_tells : (x y : ShownStretch) (r s : List ℕ) → FitsItsStretch x → FitsItsStretch y → no_blank r ≡ true → no_blank s ≡ true → shown_text x ++ r ≡ shown_text y ++ s → (x ≡ y) × (r ≡ s)
shown_tells (Idle c m f t vs) (Idle d n g u ws) r s fits also clear other e =
    let told = idle.tells (c, (m, (f, (t, vs)))) (d, (n, (g, (u, ws)))) r s fits also clear other e in
    (ap (λ ((c, (n, (f, (t, ws)))) : Idling). Idle c n f t ws) told.0, told.1)
shown_tells (InSession c m f t p k x vs) (InSession d n g u q l y ws) r s fits also clear other e =
    let told = session.tells (c, (m, (f, (t, (p, (k, (x, vs))))))) (d, (n, (g, (u, (q, (l, (y, ws))))))) r s fits also (grind arith) (grind arith) e in
    (ap (λ ((c, (n, (f, (t, (p, (k, (x, ws))))))) : Session). InSession c n f t p k x ws) told.0, told.1)
shown_tells x y r s _ _ _ _ e = grind arith

shown_stretches : Format (All FitsItsStretch)
shown_stretches = many (record { text = shown_text; clear = λ x r. no_blank r; tells = shown_tells }) (λ t. get_or t 0 0 == 67) no_blank (λ x r _. grind arith) (λ x r clear. clear)

-- ---- the counts of processors

abbrev counts_row : Format FitsItsCounts
counts_row =
    whole
    (mark (codes "PP") ▷ field (octals 2) (λ s. s.processor) (λ s fits. processor_fits s.processor fits.processor) ▸ codes " MOVED " ▷ field short_decimals (λ s. s.moved) (λ s fits. fits.moved)
    ▸ codes " HELD " ▷ field short_decimals (λ s. s.held) (λ s fits. fits.held) ▸ codes " REST " ▷ field short_decimals (λ s. s.at_rest) (λ s fits. fits.at_rest) ▸ line_end)
    (λ x y ((((_, processor), moved), held), at_rest) j. record { processor = processor j; moved = moved j; held = held j; at_rest = at_rest j })

abbrev counts_rows : Format (All FitsItsCounts)
counts_rows = many counts_row (λ t. get_or t 0 0 == 80) (λ _. true) (λ x r _. refl) (λ x r _. refl)

-- ---- the whole text

abbrev whole_text : Piece (λ (x : List ShownStretch × List ShownCounts). All FitsItsStretch x.0 × All FitsItsCounts x.1)
whole_text = field shown_stretches (λ x. x.0) (λ x fits. fits.0) ▷ field counts_rows (λ x. x.1) (λ x fits. fits.1)

text_clear : (x : List ShownStretch × List ShownCounts) → whole_text.clear x [] ≡ true
unfolding shown_stretches
text_clear (xs, []) = refl
text_clear (xs, y ∷ ys) = refl

tally_is : (c number : ℕ) (t : Tally) (words : List ℕ) → tally_line c number t ++ words_from 0 words ≡ shown_text (tally_shown c number t words)
unfolding idle_line session_line
tally_is c number t words = by_kind t.is_session t.has_ended
  where
    by_kind : (b ended : Bool) → tally_line c number (record t { is_session = b; has_ended = ended }) ++ words_from 0 words ≡ shown_text (tally_shown c number (record t { is_session = b; has_ended = ended }) words)
    by_kind false ended = refl
    by_kind true true = refl
    by_kind true false = refl

lines_are : (with_words : Bool) (c number : ℕ) (all : List (List TimedEvent)) → lines_from with_words c number all ≡ flat_map shown_text (shown_from with_words c number all)
lines_are with_words c number [] = refl
lines_are with_words c number ([] ∷ more) = lines_are with_words c (next_number number []) more
lines_are true c number ((first ∷ others) ∷ more) = grind (arith, tally_is, lines_are true c (next_number number (first ∷ others)) more)
lines_are false c number ((first ∷ others) ∷ more) =
    (λ j. tally_is c number (tally_of first others) [] j ++ lines_are false c (next_number number (first ∷ others)) more j)

text_is : (with_words : Bool) (shown : List Bool) (m : MachineState) (counts : List StepCounts) → sessions_text with_words shown m counts ≡ whole_text.text (stretches_shown with_words m, counts_shown shown counts)
unfolding sessions_text counts_line shown_stretches
text_is with_words shown m counts j =
    flat_map_each (channel_lines with_words m) shown_text _ (λ c. lines_are with_words c 1 (stretches (timed_events c m))) all_channels j
    ++ flat_map_each (shown_counts_line shown counts) counts_row.text (λ n. if is_named shown n then counts_of n (slice_index_or counts (processor_index n) no_steps) ∷ [] else []) (λ n. grind (arith, append-nil)) all_processors j

pub text_tells_sessions : (with_words : Bool) (shown others : List Bool) (m k : MachineState) (counts more : List StepCounts) → All FitsItsStretch (stretches_shown with_words m) → All FitsItsStretch (stretches_shown with_words k)
    → All FitsItsCounts (counts_shown shown counts) → All FitsItsCounts (counts_shown others more) → sessions_text with_words shown m counts ≡ sessions_text with_words others k more
    → (stretches_shown with_words m ≡ stretches_shown with_words k) × (counts_shown shown counts ≡ counts_shown others more)
unfolding shown_stretches
text_tells_sessions with_words shown others m k counts more fits also low small e =
    piece_tells whole_text text_clear (stretches_shown with_words m, counts_shown shown counts) (stretches_shown with_words k, counts_shown others more) (fits, low) (also, small)
    (sym (text_is with_words shown m counts) ∙ e ∙ text_is with_words others k more)
