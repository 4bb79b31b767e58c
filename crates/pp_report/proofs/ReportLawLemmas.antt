-- The text of a report tells its events, its workers' ends and its channels.
use Rattle.std.proofs.Common.{◌≡◌, ◌∙◌, ℕ, zero, suc, ◌+◌, ◌<◌, ◌≤◌, ◌⊎◌, cond, List, [], ◌∷◌, length, Option, Some, None, refl, sym, ap, arith, inl, inr, lt-ltb, All, Bool, true, false, ◌++◌, map, take, subst, length-append, append_assoc, codes}
use Rattle.std.specs.Prelude.{◌↔◌, nat_lt, ◌==◌, get_or, option_map, slice_get, slice_index_or, IfSome, IsTrue, if◌then◌else◌}
use Rattle.std.specs.List.{position_from, enumerate_from, filter_map, flat_map, range_with_len}
use Rattle.std.proofs.lemmas.Bool.{cases_lt}
use Rattle.std.proofs.lemmas.Iterator.Adapters.{position_from-zero}
use Rattle.pp_line.proofs.MergeLemmas.{times_told-append}
use Rattle.pp_line.specs.Merge.{Merges, times_logged}
use Rattle.pp_channel.specs.History.{history_on, IsLawful}
use Rattle.pp_report.specs.Types.{Event, Worker, Report}
use Rattle.pp_runner.specs.WorkerReport.{logs_of}
use Rattle.pp_report.specs.PrintedReport.{author_place, channel_events, end_text, named_worker_line, numbered_event_line, printed_report, worker_line}
use Rattle.std.proofs.lemmas.List.Elements.{All-append, All-cons, All-head, All-nil, All-tail, filter_map-append}
use mathlib.Core.List.{map-map}
use Rattle.pp_numbers.specs.ChannelNo.{all_channels, names_channel}
use Rattle.pp_numbers.proofs.ChannelNoLemmas.{channel_fits}
use Rattle.pp_channel.proofs.EachHistory.{lawful_on}
use Rattle.pp_machine.specs.Headline.{opening_history}
use Rattle.pp_machine.specs.MachineState.{MachineState, is_opened}
use Rattle.pp_numbers.specs.PpNo.{all_processors, processor_index}
use Rattle.pp_numbers.proofs.PpNoLemmas.{processor_fits}
use Rattle.pp_runner.specs.End.{HasEndNumber}
use Rattle.pp_text.specs.PrintedText.{line_end, processor_line}
use Rattle.pp_text.proofs.PrintingLemmas.{channels_by_number}
use Rattle.pp_report.specs.ReportLaw.{AgreeOnReport, FitsItsEnd, FitsItsLine, FitsItsReport, ShownEnd, PrintedEvent, end_of, shown_end, printed_by, printed_events, printed_on}
use Rattle.pp_text.specs.TextLaw.{ShowSameChannel}
use Rattle.pp_report.proofs.EventLineLemmas.{enumerate_more}
use Rattle.pp_text.proofs.HistoryLawLemmas.{both_used, one_history}
use Rattle.pp_text.proofs.Format.{Format, Piece, always, decimal_front, decimals, field, flat_map_each, front_fails, is_digit_at, many, mark, octals, piece_tells, rows, rows_fit, rows_tell, whole, ◌▷◌, ◌▸◌}
use Rattle.pp_text.proofs.Formats.{IsChannelLine, channel_lines, channel_row, channels_are, channels_fit, channels_same, channels_shown, events, named_rows, named_rows_are, named_rows_fit, named_rows_tell, processors}
use Rattle.pp_text.proofs.Telling.{Tells}

-- where a search passes over a log, that log does not tell the event
untold : (n : ℕ) (i : ℕ) (more : Option ℕ) → cond (nat_lt 0 n) (Some i) more ≡ None → (n ≡ 0) × (more ≡ None)
untold n i more e = grind (arith, lt-ltb)

module _ {Z : Type 0} (c number : ℕ) where
  from_none : (i : ℕ) (ws : List (Worker Z)) → times_logged c number (logs_of ws) ≡ 0 → position_from (λ (w : Worker Z). nat_lt 0 (times_logged c number w.log.items)) i ws ≡ None
  from_none i [] none = refl
  from_none i (w ∷ ws) none =
      let both = times_told-append c number w.log.items (logs_of ws) in
      let own : times_logged c number w.log.items ≡ 0 = omega (arith, none, both) in
      let rest : times_logged c number (logs_of ws) ≡ 0 = omega (arith, none, both) in
      ap (λ (n : ℕ). cond (nat_lt 0 n) (Some i) (position_from (λ (v : Worker Z). nat_lt 0 (times_logged c number v.log.items)) (i + 1) ws)) own ∙ from_none (i + 1) ws rest

  to_none : (i : ℕ) (ws : List (Worker Z)) → position_from (λ (w : Worker Z). nat_lt 0 (times_logged c number w.log.items)) i ws ≡ None → times_logged c number (logs_of ws) ≡ 0
  to_none i [] none = refl
  to_none i (w ∷ ws) none =
      let both = times_told-append c number w.log.items (logs_of ws) in
      let parts = untold (times_logged c number w.log.items) i _ none in
      let rest = to_none (i + 1) ws parts.1 in
      omega (arith, both, parts.0, rest)

pub only_openings : {Z : Type 0} (opening : ℕ → List Event) (histories : List (List Event)) (workers : List (Worker Z)) → Merges opening histories (logs_of workers) → (c number : ℕ) → number < length (history_on c histories) → (author_place c workers number ≡ None) ↔ (number < length (opening c))
only_openings {Z} opening histories workers merged c number within = (
  λ none. by_order none (cases_lt number (length (opening c))),
  λ early. position_from-zero _ workers ∙ from_none c number 0 workers (merged.no_other c number (inl early)),
)
  where
    by_order : author_place c workers number ≡ None → (number < length (opening c)) ⊎ (length (opening c) ≤ number) → number < length (opening c)
    by_order none (inl early) = early
    by_order none (inr late) =
        let told = merged.once c number late within in
        let untold = to_none c number 0 workers (sym (position_from-zero _ workers) ∙ none) in
        absurd (omega (arith, told, untold))

-- ---- the lines of events

abbrev IsEventLine : ℕ × PrintedEvent → Type 0
IsEventLine (c, shown) = (c < 0o100) × FitsItsLine shown

abbrev event_row : Format IsEventLine
event_row =
    whole
    (mark (codes "CH") ▷ field (octals 2) (λ x. x.0) (λ x fits. fits.0) ▸ codes " " ▷ field decimals (λ x. x.1.number) (λ x fits. fits.1.number)
    ▸ codes " PP" ▷ field (octals 2) (λ x. x.1.author) (λ x fits. processor_fits x.1.author fits.1.author) ▸ codes " " ▷ field events (λ x. x.1.event) (λ x fits. fits.1.word) ▸ line_end)
    (λ x y ((((_, c), number), author), event) j. (c j, record { number = number j; author = author j; event = event j }))

event_front : (x : ℕ × PrintedEvent) (r : List ℕ) → is_digit_at 5 (event_row.text x ++ r) ≡ true
event_front (c, x) r = grind (arith, is_digit_at, decimal_front, append_assoc)

event_lines : Format (All IsEventLine)
event_lines = many event_row (is_digit_at 5) (λ _. true) (λ x r _. rw (event_front x r) refl) (λ x r _. refl)

-- what is shown of the events of each channel, and its lines
abbrev events_on : {Z : Type 0} → Report Z → ℕ → List PrintedEvent
events_on report c = if names_channel c then printed_on c report else []

lines_on : {Z : Type 0} (c : ℕ) (workers : List (Worker Z)) (numbered : List (ℕ × Event))
    → flat_map (numbered_event_line c workers) numbered ≡ flat_map event_row.text (map (λ x. (c, x)) (filter_map (λ ((number, event) : ℕ × Event). printed_by number event (author_place c workers number)) numbered))
unfolding numbered_event_line
lines_on {Z} c workers [] = refl
lines_on {Z} c workers ((number, event) ∷ more) = grind (arith, lines_on c workers more)

-- the lines of the channel with this number, if there is one
abbrev pub numbered_channel_events : {Z : Type 0} → List (Worker Z) → List (List Event) → ℕ → List ℕ
numbered_channel_events workers histories c = if names_channel c then channel_events workers histories c else []

events_are : {Z : Type 0} (report : Report Z) → flat_map (channel_events report.ends.items report.channels) all_channels ≡ flat_map event_row.text (rows (events_on report) (range_with_len 0 0o100))
events_are {Z} report =
    channels_by_number (channel_events report.ends.items report.channels)
    ∙ flat_map_each (numbered_channel_events report.ends.items report.channels) event_row.text (λ c. map (λ x. (c, x)) (events_on report c)) (λ c. grind (arith, lines_on)) (range_with_len 0 0o100)

events_fit : {Z : Type 0} (report : Report Z) → ((c : ℕ) → IsTrue (names_channel c) → All FitsItsLine (printed_on c report)) → All IsEventLine (rows (events_on report) (range_with_len 0 0o100))
events_fit {Z} report fits = rows_fit IsEventLine (events_on report) (λ c low. by_name c low (names_channel c) (fits c))
  where
    by_name : (c : ℕ) → c < 0o100 → (b : Bool) → (IsTrue b → All FitsItsLine (printed_on c report)) → All (λ x. IsEventLine (c, x)) (if b then printed_on c report else [])
    by_name c low b fits = grind arith

-- ---- the lines of workers

end_tells : Tells HasEndNumber end_text
end_tells x y r s one other e = grind arith

-- it fits its line, and a fault at its end is a numbered one
abbrev IsEndLine : ℕ × ShownEnd → Type 0
IsEndLine (n, shown) = (n < 0o100) × (FitsItsEnd shown × HasEndNumber shown.finish)

abbrev end_row : Format IsEndLine
end_row =
    whole
    (processors (λ x. x.p) (λ x. x.a) (λ x fits. fits.0.p) (λ x fits. fits.0.a) (field (always end_text end_tells) (λ x. x.finish) (λ x fits. fits.1)))
    (λ x y ((((_, n), p), a), finish) j. (n j, record { p = p j; a = a j; finish = finish j }))

end_lines : Format (All IsEndLine)
end_lines = many end_row (λ t. get_or t 0 0 == 80) (λ _. true) (λ x r _. refl) (λ x r _. refl)

ends_are : {Z : Type 0} (named : List Bool) (report : Report Z) → flat_map (named_worker_line named report.ends.items) all_processors ≡ flat_map end_row.text (named_rows named (λ n. end_of n report))
unfolding processor_line
ends_are {Z} named report = named_rows_are named (λ n. worker_line n (slice_get report.ends.items (processor_index n))) end_row.text (λ n. end_of n report) (λ n. grind arith)

-- each worker that ended at a fault is at a numbered one
abbrev pub HasNumberedEnds : {Z : Type 0} → Report Z → Type 0
HasNumberedEnds report = All (λ worker. HasEndNumber worker.finish) report.ends.items

each_end : {Z : Type 0} (n k : ℕ) (workers : List (Worker Z)) → n < 0o100 → IfSome (option_map shown_end (slice_get workers k)) FitsItsEnd → All (λ worker. HasEndNumber worker.finish) workers
    → IfSome (option_map shown_end (slice_get workers k)) (λ x. IsEndLine (n, x))
each_end n k [] low fits numbered = tt
each_end {Z} n zero (w ∷ ws) low fits numbered = (low, (fits, All-head (λ (worker : Worker Z). HasEndNumber worker.finish) w ws numbered))
each_end {Z} n (suc k) (w ∷ ws) low fits numbered = each_end n k ws low fits (All-tail (λ (worker : Worker Z). HasEndNumber worker.finish) w ws numbered)

ends_fit : {Z : Type 0} (named : List Bool) (report : Report Z) → FitsItsReport named report → HasNumberedEnds report → All IsEndLine (named_rows named (λ n. end_of n report))
ends_fit {Z} named report fits numbered = named_rows_fit IsEndLine named (λ n. end_of n report) (λ n low is. each_end n (processor_index n) report.ends.items low (fits.workers n is) numbered)

-- ---- the whole text

abbrev Shown : Type 0
Shown = List (ℕ × PrintedEvent) × (List (ℕ × ShownEnd) × List (ℕ × (Bool × Option ℕ)))

abbrev all_shown : {Z : Type 0} → List Bool → Report Z → Shown
all_shown named report = (rows (events_on report) (range_with_len 0 0o100), (named_rows named (λ n. end_of n report), channels_shown report.channels))

abbrev whole_text : Piece (λ (x : Shown). All IsEventLine x.0 × (All IsEndLine x.1.0 × All IsChannelLine x.1.1))
whole_text = field event_lines (λ x. x.0) (λ x fits. fits.0) ▷ field end_lines (λ x. x.1.0) (λ x fits. fits.1.0) ▷ field channel_lines (λ x. x.1.1) (λ x fits. fits.1.1)

text_clear : (x : Shown) → whole_text.clear x [] ≡ true
unfolding event_lines end_lines
text_clear (es, (ps, cs)) =
    rw (front_fails end_row.text (is_digit_at 5) false (λ x r. refl) ps _ (front_fails channel_row.text (is_digit_at 5) false (λ x r. grind arith) cs [] refl), front_fails channel_row.text (λ t. get_or t 0 0 == 80) false (λ x r. refl) cs [] refl) refl

text_is : {Z : Type 0} (named : List Bool) (report : Report Z) → printed_report named report ≡ whole_text.text (all_shown named report)
unfolding printed_report event_lines end_lines
text_is named report = λ j. events_are report j ++ ends_are named report j ++ channels_are report.channels j

pub report_tells : {Y Z : Type 0} (named others : List Bool) (one : Report Y) (other : Report Z) → FitsItsReport named one → FitsItsReport others other → HasNumberedEnds one → HasNumberedEnds other
    → printed_report named one ≡ printed_report others other → AgreeOnReport named others one other
report_tells named others one other fits also numbered too e =
    let told = piece_tells whole_text text_clear (all_shown named one) (all_shown others other)
    (events_fit one fits.events, (ends_fit named one fits numbered, channels_fit one.channels fits.channels))
    (events_fit other also.events, (ends_fit others other also too, channels_fit other.channels also.channels)) (sym (text_is named one) ∙ e ∙ text_is others other) in
    record {
      events = λ c is. subst (λ b. (if b then printed_on c one else []) ≡ (if b then printed_on c other else [])) is (rows_tell (events_on one) (events_on other) told.0.0 c (channel_fits c is));
      workers = named_rows_tell named others (λ n. end_of n one) (λ n. end_of n other) told.0.1;
      channels = channels_same one.channels other.channels told.1;
    }

-- ---- and the histories, where both began alike

-- an event that is told, with its number
abbrev pub with_number : PrintedEvent → ℕ × Event
with_number t = (t.number, t.event)

-- where the first events have no author and the rest have one, the rest are told
module _ (author : ℕ → Option ℕ) (first total : ℕ) (authors : (i : ℕ) → i < total → (author i ≡ None) ↔ (i < first)) where
  abbrev told_of : List (ℕ × Event) → List (ℕ × Event)
  told_of numbered = map with_number (filter_map (λ ((number, event) : ℕ × Event). printed_by number event (author number)) numbered)

  rest_told : (n : ℕ) (es : List Event) → first ≤ n → n + length es ≤ total → told_of (enumerate_from n es) ≡ enumerate_from n es
  rest_told n [] late within = refl
  rest_told n (e ∷ es) late within = grind (arith, authors n (omega (arith, within)), rest_told (n + 1) es (omega (arith, late)) (omega (arith, within)))

  told_from : (n : ℕ) (before es : List Event) → n + length before ≡ first → first + length es ≤ total → told_of (enumerate_from n (before ++ es)) ≡ enumerate_from first es
  told_from n [] es is within = let same : n ≡ first = omega (arith, is) in rest_told n es (omega (arith, same)) (omega (arith, same, within)) ∙ ap (λ k. enumerate_from k es) same
  told_from n (e ∷ before) es is within = rw ((authors n (omega (arith, is, within))).1 (omega (arith, is))) (told_from (n + 1) before es (omega (arith, is)) within)

-- they are all events after the opening, each with its number
pub told_after : {Z : Type 0} (opening : ℕ → List Event) (histories : List (List Event)) (workers : List (Worker Z)) (c : ℕ) → (merged : Merges opening histories (logs_of workers))
    → map with_number (printed_events c workers (history_on c histories)) ≡ enumerate_from (length (opening c)) (merged.begins c).0
told_after {Z} opening histories workers c merged =
    let begins = merged.begins c in
    let long = ap length begins.1 in
    ap (λ h. map with_number (printed_events c workers h)) (sym begins.1)
    ∙ told_from (author_place c workers) (length (opening c)) (length (history_on c histories)) (only_openings opening histories workers merged c) 0 (opening c) begins.0 (omega arith)
    (grind (arith, long, length-append))

each_event : (k : ℕ) (es : List Event) → map (λ x. x.1) (enumerate_from k es) ≡ es
each_event k [] = refl
each_event k (e ∷ es) = ap (λ t. e ∷ t) (each_event (k + 1) es)

whole_history : {Z : Type 0} (opening : ℕ → List Event) (report : Report Z) (c : ℕ) → Merges opening report.channels (logs_of report.ends.items)
    → history_on c report.channels ≡ opening c ++ map (λ (t : PrintedEvent). t.event) (printed_on c report)
whole_history {Z} opening report c merged =
    let told = ap (map (λ x. x.1)) (told_after opening report.channels report.ends.items c merged) ∙ each_event (length (opening c)) (merged.begins c).0 in
    sym (merged.begins c).1 ∙ ap (λ es. opening c ++ es) (sym told ∙ map-map _ _ (printed_on c report))

pub histories_told : {Y Z : Type 0} (opening : ℕ → List Event) (one : Report Y) (other : Report Z) (c : ℕ) → Merges opening one.channels (logs_of one.ends.items) → Merges opening other.channels (logs_of other.ends.items)
    → printed_on c one ≡ printed_on c other → history_on c one.channels ≡ history_on c other.channels
histories_told {Y} {Z} opening one other c merged also same =
    whole_history opening one c merged ∙ ap (λ ts. opening c ++ map (λ (t : PrintedEvent). t.event) ts) same ∙ sym (whole_history opening other c also)

-- the same where dead start opened the channels, each in its own machine: what is told of a channel tells
-- whether it was opened
pub openings_told : {Y Z : Type 0} (m k : MachineState) (one : Report Y) (other : Report Z) (c : ℕ) → Merges (λ d. opening_history d m) one.channels (logs_of one.ends.items)
    → Merges (λ d. opening_history d k) other.channels (logs_of other.ends.items) → All IsLawful one.channels → All IsLawful other.channels
    → printed_on c one ≡ printed_on c other → ShowSameChannel (history_on c one.channels) (history_on c other.channels) → history_on c one.channels ≡ history_on c other.channels
openings_told {Y} {Z} m k one other c merged also lawful keeps same alike =
    one_history (is_opened c m) (is_opened c k) (map (λ (t : PrintedEvent). t.event) (printed_on c one)) (history_on c one.channels) (history_on c other.channels)
    (whole_history (λ d. opening_history d m) one c merged)
    (whole_history (λ d. opening_history d k) other c also ∙ ap (λ ts. opening_history c k ++ map (λ (t : PrintedEvent). t.event) ts) (sym same))
    (lawful_on one.channels c lawful) (lawful_on other.channels c keeps) (both_used (history_on c one.channels) (history_on c other.channels) alike.unused)

-- ---- what is printed fits

-- the events of a history that are told so far, and one more
pub tellings_go_on : {Z : Type 0} (c i : ℕ) (workers : List (Worker Z)) (h : List Event) (e : Event) → i < length h → e ≡ slice_index_or h i e
    → All FitsItsLine (printed_events c workers (take i h)) → IfSome (printed_by i e (author_place c workers i)) FitsItsLine → All FitsItsLine (printed_events c workers (take (i + 1) h))
tellings_go_on {Z} c i workers h e within at so_far fits =
    let f : ℕ × Event → Option PrintedEvent = λ ((number, event) : ℕ × Event). printed_by number event (author_place c workers number) in
    let told : filter_map f (enumerate_from 0 (take (i + 1) h)) ≡ filter_map f (enumerate_from 0 (take i h)) ++ filter_map f ((i, e) ∷ []) =
    ap (filter_map f) (enumerate_more h i e within at) ∙ filter_map-append f (enumerate_from 0 (take i h)) ((i, e) ∷ []) in
    subst (All FitsItsLine) (sym told) (All-append FitsItsLine (filter_map f (enumerate_from 0 (take i h))) (filter_map f ((i, e) ∷ [])) so_far (grind (arith, fits, All-nil, All-cons)))
