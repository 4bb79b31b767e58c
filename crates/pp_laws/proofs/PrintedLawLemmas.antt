-- What the barrel prints is read as a lawful trace, and so is what threads print.
use Rattle.std.proofs.Common.{All, ◌≡◌, ◌≢◌, ◌∙◌, ℕ, zero, suc, ◌+◌, ◌^◌, ◌<◌, ◌≤◌, Bool, true, false, List, [], ◌∷◌, ◌++◌, length, map, Option, Some, None, refl, sym, ap, subst, append_assoc, arith, inl, inr, add-one, get_or, take}
use Rattle.std.specs.Prelude.{IsTrue, if◌then◌else◌, slice_get, slice_index_or, ◌==◌, IfSome}
use Rattle.std.specs.List.{cons_option, enumerate_from, filter_map, flat_map, list_all, last_or}
use Rattle.std.proofs.lemmas.Bool.{and_parts, cases_eq, ne_eqb}
use Rattle.std.proofs.lemmas.List.{append-nil, length-map, length_push, take_more}
use Rattle.std.proofs.lemmas.List.Elements.{All-head, All-tail}
use Rattle.pp_numbers.proofs.ChannelNoLemmas.{channel_fits}
use Rattle.pp_channel.proofs.FrontLemmas.{lawful_front}
use Rattle.pp_channel.proofs.EachHistory.{lawful_on}
use Rattle.pp_numbers.specs.ChannelNo.{all_channels, names_channel}
use Rattle.pp_channel.specs.History.{IsLawful, history_on}
use Rattle.pp_line.specs.Merge.{Merges}
use Rattle.pp_report.specs.Types.{End, Event, Report, Worker}
use Rattle.pp_deck.specs.DeckText.{lines_of}
use Rattle.pp_machine.specs.MachineState.{MachineState, history_of, processor_of}
use Rattle.pp_numbers.specs.PpNo.{all_processors, names_processor, processor_index, processor_number, is_named}
use Rattle.pp_numbers.specs.Limits.{RunLimits}
use Rattle.pp_runner.specs.WorkerReport.{logs_of}
use Rattle.pp_report.proofs.ReportLawLemmas.{numbered_channel_events, told_after, with_number}
use Rattle.pp_report.specs.PrintedReport.{author_place, channel_events, end_text, line_by, named_worker_line, numbered_event_line, printed_report, worker_line}
use Rattle.pp_text.specs.PrintedText.{used_channel_line, each_below, event_line, named_processor_line, printed, state_text}
use Rattle.pp_report.specs.ReportLaw.{FitsItsLine, FitsItsReport, PrintedEvent, printed_by, printed_on}
use Rattle.pp_check.specs.LawfulTrace.{IsLawfulTrace, event_on, events_on, history, parsed_lines, opening, Fits, is_opened, last_turn, turn_of, turns}
use Rattle.pp_laws.specs.PrintedTrace.{AreOpenedBy, IsPrintableReport, IsPrintable}
use Rattle.pp_check.specs.declared.trace_line.TraceLine.{TraceLine}
use Rattle.pp_check.specs.declared.trace_line.TraceLine.TheVariants.{Numbered, AtTurn, Other}
use Rattle.pp_check.proofs.KeepsLemmas.{event_line as told_line, numbered_here}
use Rattle.pp_check.proofs.OpeningLemmas.{lawful_start, lawful_opening}
use Rattle.pp_check.proofs.TraceLemmas.{history_more, history_same, lawful_push}
use Rattle.pp_deck.proofs.FieldTextLemmas.{is_plain, octal_plain}
use Rattle.pp_text.proofs.PrintingLemmas.{channels_by_number, each_is_flat}
use Rattle.pp_laws.proofs.PrintedLineLemmas.{are_numbered_fields, numbered_fields, numbered_line_is, numbered_line_read, are_trace_fields, event_line_is, event_line_read, plain_state, trace_fields}
use Rattle.pp_laws.proofs.PrintedTextLemmas.{IsRead, IsShown, Says, Tells, events_both, says_below, says_both, says_if, shown_both, shown_channels, shown_each, shown_if, shown_none, shown_processor, tells_fields, text_read, says_map}
use Rattle.std.specs.List.Sorted.{IsStrictlyIncreasing}
use Rattle.pp_numbers.proofs.LastElements.{last_or-push}
use Rattle.pp_machine.specs.Headline as headline
use Rattle.pp_machine.specs.declared.trace.Trace.{Trace}
use Rattle.pp_text.specs.TextLaw.{EventFits}

abbrev pub at_turn : Trace → TraceLine
at_turn e = AtTurn e.turn e.channel e.event

-- ---- the events of the barrel

told_events : (c : ℕ) (trace : List Trace) → events_on c (map at_turn trace) ≡ headline.events_on c trace
unfolding events_on
told_events c [] = refl
told_events c (e ∷ trace) = ap (cons_option (if e.channel == c then Some e.event else None)) (told_events c trace)

-- no event on a number that names no channel
none_elsewhere : (c : ℕ) (trace : List Trace) → names_channel c ≡ false → All EventFits trace → headline.events_on c trace ≡ []
none_elsewhere c [] unnamed told = refl
none_elsewhere c (e ∷ trace) unnamed told =
    let here = (All-head EventFits e trace told).channel in
    let other : (e.channel == c) ≡ false = ne_eqb e.channel c (λ same. named_twice e.channel c same here unnamed) in
    ap (λ (b : Bool). cons_option (if b then Some e.event else None) (headline.events_on c trace)) other ∙ none_elsewhere c trace unnamed (All-tail EventFits e trace told)
  where
    named_twice : (d c : ℕ) → d ≡ c → IsTrue (names_channel d) → names_channel c ≡ false → ⊥
    named_twice d c same names unnamed = let both : true ≡ false = sym names ∙ ap names_channel same ∙ unnamed in cc

-- the history that lines report of a channel is that of the machine
history_told : (named : List Bool) (m : MachineState) (opened : List Bool) → IsPrintable named m → AreOpenedBy m opened → (c : ℕ) → IsTrue (names_channel c) → history opened (map at_turn m.trace) c ≡ history_of c m
history_told named m opened is opens c names = grind (arith, told_events)

lawful_by_name : (named : List Bool) (m : MachineState) (opened : List Bool) → IsPrintable named m → AreOpenedBy m opened → (c : ℕ) (b : Bool) → names_channel c ≡ b → IsLawful (history opened (map at_turn m.trace) c)
lawful_by_name named m opened is opens c true names =
    let P : List Event → Type 0 = λ h. IsLawful h in
    subst P (sym (history_told named m opened is opens c names)) (is.headline c names).lawful
lawful_by_name named m opened is opens c false unnamed =
    let same : history opened (map at_turn m.trace) c ≡ opening opened c =
    ap (λ (es : List Event). opening opened c ++ es) (told_events c m.trace ∙ none_elsewhere c m.trace unnamed is.fits.trace) ∙ append-nil (opening opened c) in
    let P : List Event → Type 0 = λ h. IsLawful h in
    subst P (sym same) (lawful_opening (is_opened opened c))

-- ---- turns that rise fit

rising_fits : (ts : List ℕ) → IsStrictlyIncreasing ts → (k : ℕ) → k < length ts → IfSome (last_or None (take k ts)) (λ last. last < get_or ts k 0)
rising_fits ts rise zero within = tt
rising_fits ts rise (suc k) within =
    let less : k < length ts = omega (arith, within) in
    let at : last_or None (take (suc k) ts) ≡ Some (get_or ts k 0) =
    ap (λ n. last_or None (take n ts)) (sym (add-one k)) ∙ ap (last_or None) (take_more ts k 0 less) ∙ last_or-push None (take k ts) (get_or ts k 0) in
    let next : get_or ts k 0 < get_or ts (suc k) 0 = subst (λ (n : ℕ). get_or ts k 0 < get_or ts n 0) (add-one k) (rise k (omega (arith, within))) in
    subst (λ (o : Option ℕ). IfSome o (λ l. l < get_or ts (suc k) 0)) (sym at) next

turn_at : (trace : List Trace) (k : ℕ) → k < length (map at_turn trace) → turn_of (get_or (map at_turn trace) k Other) ≡ Some (get_or (map (λ e. e.turn) trace) k 0)
turn_at [] k within = absurd (omega (arith, within))
turn_at (e ∷ trace) zero within = refl
turn_at (e ∷ trace) (suc k) within = turn_at trace k (omega (arith, within))

front_turns : (trace : List Trace) (k : ℕ) → turns (take k (map at_turn trace)) ≡ take k (map (λ e. e.turn) trace)
unfolding turns
front_turns trace zero = refl
front_turns [] (suc k) = refl
front_turns (e ∷ trace) (suc k) = ap (λ (more : List ℕ). e.turn ∷ more) (front_turns trace k)

fits_by_turn : (opened : List Bool) (before : List TraceLine) (line : TraceLine) (turn : ℕ) → turn_of line ≡ Some turn → IfSome (last_turn before) (λ last. last < turn) → Fits opened before line
fits_by_turn opened before line turn is less = grind arith

lawful_events : (named : List Bool) (m : MachineState) (opened : List Bool) → IsPrintable named m → AreOpenedBy m opened → IsLawfulTrace opened (map at_turn m.trace)
unfolding last_turn
lawful_events named m opened is opens = record {
  histories = λ c. lawful_by_name named m opened is opens c (names_channel c) refl;
  each_fits = λ k within.
      let ts = map (λ e. e.turn) m.trace in
      fits_by_turn opened (take k (map at_turn m.trace)) (get_or (map at_turn m.trace) k Other) (get_or ts k 0) (turn_at m.trace k within)
      (subst (λ (o : Option ℕ). IfSome o (λ last. last < get_or ts k 0)) (sym (ap (last_or None) (front_turns m.trace k))) (rising_fits ts is.rising k (omega (arith, within, length-map m.trace at_turn, length-map m.trace (λ e. e.turn)))));
}

-- ---- the text of a machine

abbrev IsShort : Trace → Type 0
IsShort e = EventFits e × (e.turn < 10 ^ 19)

says_event : (e : Trace) → IsShort e → Says Tells (event_line e) (at_turn e ∷ [])
says_event e (fits, short) = subst (λ text. Says Tells text (at_turn e ∷ [])) (sym (event_line_is e)) (tells_fields (trace_fields e) (at_turn e) (are_trace_fields e) (event_line_read e fits short))

pub printed_read : (named : List Bool) (m : MachineState) (opened : List Bool) → IsPrintable named m → AreOpenedBy m opened → IsRead opened (map at_turn m.trace) (printed named m)
unfolding printed
printed_read named m opened is opens =
    let events = map at_turn m.trace in
    rw (append_assoc (flat_map event_line m.trace) (flat_map (named_processor_line named m) all_processors) (flat_map (used_channel_line m.histories) all_channels))
    (text_read opened events _ _ (says_map Tells IsShort event_line at_turn m.trace (λ k d lt. (is.fits.trace k d lt, is.few_turns k d lt)) says_event) (lawful_events named m opened is opens)
    (shown_both opened events _ _
    (shown_each opened events (λ n. Unit {0}) (named_processor_line named m) all_processors (λ k d lt. tt) (λ n _.
    let pp = processor_of n m in
    shown_if opened events (is_named named n) _ (λ at. shown_processor opened events n pp (state_text pp.state) (plain_state pp.state) (and_parts (names_processor n) (slice_index_or named (processor_index n) false) at).0)))
    (shown_channels opened events m.histories (λ c names. (history_told named m opened is opens c names, (is.headline c names).lawful)) is.fits.channels)))

pub printed_events : (named : List Bool) (m : MachineState) (opened : List Bool) → IsPrintable named m → AreOpenedBy m opened → (c : ℕ) → events_on c (parsed_lines (lines_of (printed named m))) ≡ headline.events_on c m.trace
printed_events named m opened is opens c = (printed_read named m opened is opens).told c ∙ told_events c m.trace

-- ---- the ends of threads

plain_end : (finish : End) → list_all is_plain (end_text finish) ≡ true
plain_end finish = grind (arith, octal_plain)

-- ---- the events of a channel

-- events with their numbers
unfoldable pub numbered : ℕ → List (ℕ × Event) → List TraceLine
numbered c events = map (λ ((number, event) : ℕ × Event). Numbered number c event) events

-- what is read of one event more before others, if it has an author
says_numbered : (c number : ℕ) (e : Event) (author : Option ℕ) (text : List ℕ) (more : List PrintedEvent) → IsTrue (names_channel c) → number < 10 ^ 19 → All FitsItsLine (cons_option (printed_by number e author) more)
    → (All FitsItsLine more → Says Tells text (numbered c (map with_number more))) → Says Tells (line_by c number e author ++ text) (numbered c (map with_number (cons_option (printed_by number e author) more)))
unfolding numbered
says_numbered c number e None text more names below fits rest = rest fits
says_numbered c number e (Some place) text more names below fits rest =
    let n = processor_number place in
    let told : PrintedEvent = record { number = number; author = n; event = e } in
    let here = All-head FitsItsLine told more fits in
    says_both Tells (line_by c number e (Some place)) text (Numbered number c e ∷ []) (numbered c (map with_number more))
    (subst (λ l. Says Tells l (Numbered number c e ∷ [])) (sym (numbered_line_is c number place e)) (tells_fields (numbered_fields c number n e) (Numbered number c e) (are_numbered_fields c number n e) (numbered_line_read c number n e names below here.author here.word)))
    (rest (All-tail FitsItsLine told more fits))

says_from : {Z : Type 0} (workers : List (Worker Z)) (c : ℕ) → IsTrue (names_channel c) → (k : ℕ) (es : List Event)
    → All FitsItsLine (filter_map (λ ((number, event) : ℕ × Event). printed_by number event (author_place c workers number)) (enumerate_from k es))
    → k + length es < 10 ^ 19 → Says Tells (flat_map (numbered_event_line c workers) (enumerate_from k es)) (numbered c (map with_number (filter_map (λ ((number, event) : ℕ × Event). printed_by number event (author_place c workers number)) (enumerate_from k es))))
unfolding numbered numbered_event_line
says_from workers c names k [] fits few = λ rest more is. is
says_from {Z} workers c names k (e ∷ es) fits few =
    says_numbered c k e (author_place c workers k) (flat_map (numbered_event_line c workers) (enumerate_from (k + 1) es)) (filter_map (λ ((number, event) : ℕ × Event). printed_by number event (author_place c workers number)) (enumerate_from (k + 1) es))
    names (omega (arith, few)) fits (λ rest. says_from workers c names (k + 1) es rest (omega (arith, few)))

-- ---- the lines of a channel among others

elsewhere : (d c number : ℕ) (e : Event) → d ≢ c → event_on d (Numbered number c e) ≡ None
elsewhere d c number e other = (told_line c e (Numbered number c e) (numbered_here number c e)).elsewhere d other

block_elsewhere : (d c : ℕ) → d ≢ c → (k : ℕ) (es : List Event) → events_on d (numbered c (enumerate_from k es)) ≡ []
unfolding events_on numbered
block_elsewhere d c other k [] = refl
block_elsewhere d c other k (e ∷ es) = grind (arith, elsewhere, block_elsewhere d c other (k + 1) es)

block_here : (c k : ℕ) (es : List Event) → events_on c (numbered c (enumerate_from k es)) ≡ es
unfolding events_on numbered
block_here c k [] = refl
block_here c k (e ∷ es) = grind (arith, numbered_here, block_here c (k + 1) es)

lawful_block : (opened : List Bool) (lines : List TraceLine) (c k : ℕ) (h es : List Event) → IsLawfulTrace opened lines → history opened lines c ≡ h → k ≡ length h → IsLawful (h ++ es) → IsLawfulTrace opened (lines ++ numbered c (enumerate_from k es))
unfolding numbered
lawful_block opened lines c k h [] lawful same at more = subst (IsLawfulTrace opened) (sym (append-nil lines)) lawful
lawful_block opened lines c k h (e ∷ es) lawful same at more =
    let P : List Event → Type 0 = λ g. IsLawful g in
    let line = Numbered k c e in
    let longer : IsLawful ((h ++ e ∷ []) ++ es) = subst P (sym (append_assoc h (e ∷ []) es)) more in
    let next : history opened (lines ++ line ∷ []) c ≡ h ++ e ∷ [] = history_more opened lines line c e (numbered_here k c e) ∙ ap (λ (g : List Event). g ++ e ∷ []) same in
    let pushed = lawful_push opened lines line lawful (at ∙ ap length (sym same)) (λ d. elim (cases_eq d c) [
      | inl here ↦ subst P (sym next ∙ ap (history opened (lines ++ line ∷ [])) (sym here)) (lawful_front (h ++ e ∷ []) es longer)
      | inr other ↦ subst P (sym (history_same opened lines line d (elsewhere d c k e other))) (lawful.histories d)
    ]) in
    subst (IsLawfulTrace opened) (append_assoc lines (line ∷ []) (numbered c (enumerate_from (k + 1) es)))
    (lawful_block opened (lines ++ line ∷ []) c (k + 1) (h ++ e ∷ []) es pushed next (omega (arith, at, length_push h e)) longer)

-- ---- one channel after another

module _ (opened : List Bool) (histories : List (List Event)) where
  -- lines that tell the histories of all channels below a number, and nothing else
  pub record Tell (n : ℕ) (lines : List TraceLine) : Type 0 where
    pub lawful : IsLawfulTrace opened lines
    pub told : (c : ℕ) → c < n → IsTrue (names_channel c) → history opened lines c ≡ history_on c histories
    pub untold : (c : ℕ) → n ≤ c → events_on c lines ≡ []

  no_events : (c : ℕ) → events_on c [] ≡ []
  unfolding events_on
  no_events c = refl

  tell_none : Tell 0 []
  tell_none = grind (arith, lawful_start, no_events)

  events_past : (c n k : ℕ) (lines : List TraceLine) (es : List Event) → c ≢ n → events_on c (lines ++ numbered n (enumerate_from k es)) ≡ events_on c lines
  events_past c n k lines es other = grind (arith, events_both, block_elsewhere, append-nil)

  tell_unnamed : (n : ℕ) (lines : List TraceLine) → names_channel n ≡ false → Tell n lines → Tell (suc n) lines
  tell_unnamed n lines unnamed tell = grind (arith, cases_eq)

  tell_named : (n : ℕ) (lines : List TraceLine) (es : List Event) → opening opened n ++ es ≡ history_on n histories → IsLawful (history_on n histories) → Tell n lines → Tell (suc n) (lines ++ numbered n (enumerate_from (length (opening opened n)) es))
  tell_named n lines es whole lawful tell = grind (arith, append-nil, lawful_block, cases_eq, events_both, block_here, events_past)

-- ---- the parts of the text

shown_worker : {Z : Type 0} (opened : List Bool) (events : List TraceLine) (n : ℕ) (o : Option (Worker Z)) → IsTrue (names_processor n) → IsShown opened events (worker_line n o)
shown_worker opened events n o names = grind (arith, shown_none, shown_processor, plain_end)

-- a report over what was open before, with what the lines of its text want
pub record StandsOver {Z : Type 0} (named : List Bool) (report : Report Z) (opened : List Bool) : Type 0 where
  pub openings : ℕ → List Event
  pub opened_alike : (c : ℕ) → IsTrue (names_channel c) → openings c ≡ opening opened c
  pub merged : Merges openings report.channels (logs_of report.ends.items)
  pub lawful : (c : ℕ) → IsTrue (names_channel c) → IsLawful (history_on c report.channels)
  pub fits : FitsItsReport named report
  pub few_events : (c : ℕ) → IsTrue (names_channel c) → length (history_on c report.channels) < 10 ^ 19

module _ {Z : Type 0} (named : List Bool) (report : Report Z) (opened : List Bool) (is : StandsOver named report opened) where
  event_lines : ℕ → List TraceLine
  event_lines c =
      if names_channel c then numbered c (map with_number (printed_on c report)) else []

  pub all_events : List TraceLine
  all_events = each_below 0o100 event_lines

  says_numbereds : Says Tells (flat_map (channel_events report.ends.items report.channels) all_channels) all_events
  unfolding all_events event_lines
  says_numbereds =
      let events = numbered_channel_events report.ends.items report.channels in
      rw (channels_by_number (channel_events report.ends.items report.channels), ← each_is_flat 0o100 events)
      (says_below Tells 0o100 events event_lines (λ c _. says_if Tells (names_channel c) _ (numbered c (map with_number (printed_on c report))) (λ names.
      says_from report.ends.items c names 0 (history_on c report.channels) (is.fits.events c names) (omega (arith, is.few_events c names)))))

  -- the lines of the events tell all histories
  tell_next : (n : ℕ) (lines : List TraceLine) → Tell opened report.channels n lines → (b : Bool) → names_channel n ≡ b → Tell opened report.channels (suc n) (lines ++ (if b then numbered n (map with_number (printed_on n report)) else []))
  tell_next n lines tell false unnamed = subst (Tell opened report.channels (suc n)) (sym (append-nil lines)) (tell_unnamed opened report.channels n lines unnamed tell)
  tell_next n lines tell true names =
      let begins = is.merged.begins n in
      let alike = is.opened_alike n names in
      let whole : opening opened n ++ begins.0 ≡ history_on n report.channels = ap (λ (first : List Event). first ++ begins.0) (sym alike) ∙ begins.1 in
      let as_numbered = ap (numbered n) (told_after is.openings report.channels report.ends.items n is.merged ∙ ap (λ (first : List Event). enumerate_from (length first) begins.0) alike) in
      subst (λ (block : List TraceLine). Tell opened report.channels (suc n) (lines ++ block)) (sym as_numbered)
      (tell_named opened report.channels n lines begins.0 whole (is.lawful n names) tell)

  tell_below : (n : ℕ) → Tell opened report.channels n (each_below n event_lines)
  unfolding each_below event_lines
  tell_below zero = tell_none opened report.channels
  tell_below (suc n) = tell_next n (each_below n event_lines) (tell_below n) (names_channel n) refl

  pub report_read : IsRead opened all_events (printed_report named report)
  unfolding printed_report all_events
  report_read =
      let tell = tell_below 0o100 in
      let workers = report.ends.items in
      rw (append_assoc (flat_map (channel_events workers report.channels) all_channels) (flat_map (named_worker_line named workers) all_processors) (flat_map (used_channel_line report.channels) all_channels))
      (text_read opened all_events _ _ says_numbereds tell.lawful
      (shown_both opened all_events _ _
      (shown_each opened all_events (λ n. Unit {0}) (named_worker_line named workers) all_processors (λ k d lt. tt) (λ n _.
      shown_if opened all_events (is_named named n) _ (λ at. shown_worker opened all_events n (slice_get workers (processor_index n)) (and_parts (names_processor n) (slice_index_or named (processor_index n) false) at).0)))
      (shown_channels opened all_events report.channels (λ c names. (tell.told c (channel_fits c names) names, is.lawful c names)) is.fits.channels)))

  pub report_histories : (c : ℕ) → IsTrue (names_channel c) → history opened (parsed_lines (lines_of (printed_report named report))) c ≡ history_on c report.channels
  unfolding all_events
  report_histories c names = ap (λ es. opening opened c ++ es) (report_read.told c) ∙ (tell_below 0o100).told c (channel_fits c names) names

-- ---- a report of a run

pub stands_over : {Z : Type 0} (named : List Bool) (limits : RunLimits) (m : MachineState) (report : Report Z) (opened : List Bool) → IsPrintableReport named limits m report → AreOpenedBy m opened → StandsOver named report opened
stands_over named limits m report opened is opens = grind (arith, lawful_on)
