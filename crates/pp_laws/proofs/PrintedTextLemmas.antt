-- Texts of whole lines, read one after another.
use Rattle.std.proofs.Common.{All, ◌≡◌, ◌∙◌, ℕ, zero, suc, ◌<◌, Bool, true, List, [], ◌∷◌, ◌++◌, map, Some, refl, sym, ap, subst, append_assoc, arith}
use Rattle.std.specs.Prelude.{IsSome, IsTrue, if◌then◌else◌}
use Rattle.std.specs.List.{AllByRecursion, flat_map, list_all, slice_split}
use Rattle.std.proofs.lemmas.List.{append-nil}
use Rattle.std.proofs.lemmas.List.Elements.{All-append, All-cons, All-head, All-nil, All-tail, filter_map-append}
use Rattle.std.proofs.lemmas.List.Splits.{slice_split_at}
use Rattle.std.proofs.lemmas.List.Sums.{AllPass-from_list_all}
use Rattle.pp_numbers.specs.ChannelNo.{all_channels, channel_number, names_channel}
use Rattle.pp_numbers.specs.GappedNumbers.{is_number, number_of}
use Rattle.pp_numbers.specs.PpNo.{names_processor}
use Rattle.pp_numbers.specs.Tables.{tabulate}
use Rattle.pp_channel.proofs.HistoryLemmas.{Fits as FitsState, active_at, full_at, held_word, is_active, state_at, waiting_at}
use Rattle.pp_channel.proofs.HistoryWalk.{State}
use Rattle.pp_channel.specs.Answer.{channel_state}
use Rattle.pp_channel.specs.History.{IsLawful, active, waiting, history_on}
use Rattle.pp_channel.specs.declared.event.Event.{Event}
use Rattle.pp_processor.specs.Processor.{Processor}
use Rattle.pp_deck.proofs.FieldTextLemmas.{IsField, fields_read, is_plain, no_fields, plain_joined}
use Rattle.pp_deck.specs.DeckText.{fields_of, is_line_feed, lines_of}
use Rattle.pp_listing.proofs.ListedLineLemmas.{no_line_feed}
use Rattle.pp_text.specs.PrintedText.{channel_line, each_below, line_end, processor_line, used_channel_line}
use Rattle.pp_text.specs.TextLaw.{HistoryFits}
use Rattle.pp_check.specs.LawfulTrace.{AreLawful, Fits, IsLawfulTrace, event_on, events_on, history, parsed_lines}
use Rattle.pp_check.specs.TraceLine.{parsed_line}
use Rattle.pp_check.specs.declared.trace_line.TraceLine.{TraceLine}
use Rattle.pp_check.specs.declared.trace_line.TraceLine.TheVariants.{Other, Standing}
use Rattle.pp_check.proofs.KeepsLemmas.{TellsNone, nothing_told, state_told}
use Rattle.pp_check.proofs.TraceLemmas.{history_same, lawful_push}
use Rattle.pp_laws.proofs.PrintedLineLemmas.{are_channel_fields, channel_field, channel_line_is, channel_line_read, line_of, plain_processor, processor_body, processor_line_is, processor_line_read, shown_state, state_fields}

-- ---- what the lines of a text say, before those of what follows it

module _ {A : Type 0} (Reads : List ℕ → List A → Type 0) where
  abbrev pub Says : List ℕ → List A → Type 0
  Says text xs = (rest : List ℕ) (more : List A) → Reads rest more → Reads (text ++ rest) (xs ++ more)

  pub says_both : (a b : List ℕ) (xs ys : List A) → Says a xs → Says b ys → Says (a ++ b) (xs ++ ys)
  says_both a b xs ys first second rest more is = rw (append_assoc a b rest, append_assoc xs ys more) (first (b ++ rest) (ys ++ more) (second rest more is))

  pub says_map : {X : Type 0} (P : X → Type 0) (text : X → List ℕ) (f : X → A) (xs : List X) → All P xs → ((x : X) → P x → Says (text x) (f x ∷ [])) → Says (flat_map text xs) (map f xs)
  says_map P text f [] all each = λ rest more is. is
  says_map P text f (x ∷ xs) all each = says_both (text x) (flat_map text xs) (f x ∷ []) (map f xs) (each x (All-head P x xs all)) (says_map P text f xs (All-tail P x xs all) each)

  pub says_none : {X : Type 0} (text : X → List ℕ) (xs : List X) → ((x : X) → Says (text x) []) → Says (flat_map text xs) []
  says_none text [] each = λ rest more is. is
  says_none text (x ∷ xs) each = says_both (text x) (flat_map text xs) [] [] (each x) (says_none text xs each)

  pub says_if : (b : Bool) (text : List ℕ) (xs : List A) → (IsTrue b → Says text xs) → Says (if b then text else []) (if b then xs else [])
  says_if b text xs says = grind arith

  pub says_below : (k : ℕ) (text : ℕ → List ℕ) (f : ℕ → List A) → ((n : ℕ) → n < k → Says (text n) (f n)) → Says (each_below k text) (each_below k f)
  unfolding each_below
  says_below zero text f each = λ rest more is. is
  says_below (suc k) text f each = says_both (each_below k text) (text k) (each_below k f) (f k) (says_below k text f (λ n low. each n (omega (arith, low)))) (each k (omega arith))

pub split_line : (body rest : List ℕ) → list_all is_plain body ≡ true → slice_split is_line_feed ((body ++ line_end) ++ rest) ≡ body ∷ slice_split is_line_feed rest
split_line body rest plain = ap (slice_split is_line_feed) (append_assoc body line_end rest) ∙ slice_split_at is_line_feed body 10 rest (no_line_feed body plain) refl

-- ---- what they say as a trace

pub record Tells (text : List ℕ) (lines : List TraceLine) : Type 0 where
  pub said : All (λ line. IsSome (parsed_line line)) (lines_of text)
  pub are : parsed_lines (lines_of text) ≡ lines

tells_line : (body : List ℕ) (line : TraceLine) → list_all is_plain body ≡ true → parsed_line (fields_of body) ≡ Some line → Says Tells (body ++ line_end) (line ∷ [])
unfolding lines_of parsed_lines
tells_line body line plain is rest more told = grind (arith, split_line)

pub tells_fields : (fields : List (List ℕ)) (line : TraceLine) → AllByRecursion IsField fields → parsed_line fields ≡ Some line → Says Tells (line_of fields) (line ∷ [])
tells_fields fields line all is = tells_line _ line (plain_joined fields all) (ap parsed_line (fields_read fields all) ∙ is)

-- behind the last line feed stands a line without fields
no_text : Tells [] (Other ∷ [])
unfolding lines_of parsed_lines parsed_line
no_text = grind (arith, no_fields)

-- ---- lines that only show how things stand

-- a line that shows how a channel stands after lines, or nothing
abbrev pub Shows : List Bool → List TraceLine → TraceLine → Type 0
Shows opened lines (Standing c state) = state ≡ channel_state (history opened lines c)
Shows opened lines Other = Unit {0}
Shows opened lines line = ⊥

shows_none : (opened : List Bool) (lines : List TraceLine) (line : TraceLine) → Shows opened lines line → TellsNone line
shows_none opened lines line shows = grind (arith, state_told, nothing_told)

shows_fit : (opened : List Bool) (lines : List TraceLine) (line : TraceLine) → Shows opened lines line → Fits opened lines line
shows_fit opened lines line shows = grind arith

shows_still : (opened : List Bool) (lines : List TraceLine) (line x : TraceLine) → TellsNone line → Shows opened lines x → Shows opened (lines ++ line ∷ []) x
shows_still opened lines line x none shows = grind (arith, history_same)

lawful_shown : (opened : List Bool) (lines more : List TraceLine) → IsLawfulTrace opened lines → All (Shows opened lines) more → IsLawfulTrace opened (lines ++ more)
lawful_shown opened lines [] lawful all = subst (IsLawfulTrace opened) (sym (append-nil lines)) lawful
lawful_shown opened lines (x ∷ more) lawful all =
    let shows = All-head (Shows opened lines) x more all in
    let none = shows_none opened lines x shows in
    let next = lawful_push opened lines x lawful (shows_fit opened lines x shows) (λ c. let P : List Event → Type 0 = λ h. IsLawful h in subst P (sym (history_same opened lines x c (none.event c))) (lawful.histories c)) in
    subst (IsLawfulTrace opened) (append_assoc lines (x ∷ []) more) (lawful_shown opened (lines ++ x ∷ []) more next (λ k d lt. shows_still opened lines x _ none (All-tail (Shows opened lines) x more all k d lt)))

none_shown : (opened : List Bool) (lines more : List TraceLine) (c : ℕ) → All (Shows opened lines) more → events_on c more ≡ []
unfolding events_on
none_shown opened lines [] c all = refl
none_shown opened lines (x ∷ more) c all = grind (arith, All-head, shows_none, none_shown opened lines more c (All-tail (Shows opened lines) x more all))

pub events_both : (c : ℕ) (xs ys : List TraceLine) → events_on c (xs ++ ys) ≡ events_on c xs ++ events_on c ys
unfolding events_on
events_both c xs ys = filter_map-append (event_on c) xs ys

shown_by_state : (h : List Event) (s : State) → FitsState h s → shown_state (active h) (waiting h) ≡ channel_state h
shown_by_state h s fits = grind (arith, active_at, full_at, waiting_at, is_active, held_word)

module _ (opened : List Bool) (events : List TraceLine) where
  -- a text of such lines, behind those of the events
  pub record IsShown (text : List ℕ) : Type 0 where
    pub lines : List TraceLine
    pub said : Says Tells text lines
    pub shown : All (Shows opened events) lines

  pub shown_none : IsShown []
  shown_none = record { lines = []; said = λ rest more is. is; shown = All-nil (Shows opened events) }

  pub shown_both : (a b : List ℕ) → IsShown a → IsShown b → IsShown (a ++ b)
  shown_both a b first second = record {
    lines = first.lines ++ second.lines;
    said = says_both Tells a b first.lines second.lines first.said second.said;
    shown = All-append (Shows opened events) first.lines second.lines first.shown second.shown;
  }

  pub shown_each : {X : Type 0} (P : X → Type 0) (text : X → List ℕ) (xs : List X) → All P xs → ((x : X) → P x → IsShown (text x)) → IsShown (flat_map text xs)
  shown_each P text [] all each = shown_none
  shown_each P text (x ∷ xs) all each = shown_both (text x) (flat_map text xs) (each x (All-head P x xs all)) (shown_each P text xs (All-tail P x xs all) each)

  pub shown_if : (b : Bool) (text : List ℕ) → (IsTrue b → IsShown text) → IsShown (if b then text else [])
  shown_if b text shown = grind (arith, shown_none)

  pub shown_processor : (n : ℕ) (pp : Processor) (said : List ℕ) → list_all is_plain said ≡ true → IsTrue (names_processor n) → IsShown (processor_line n pp said)
  shown_processor n pp said plain names = record {
    lines = Other ∷ [];
    said = subst (λ text. Says Tells text (Other ∷ [])) (sym (processor_line_is n pp said)) (tells_line (processor_body n pp said) Other (plain_processor n pp said plain) (processor_line_read n pp said plain names));
    shown = All-cons (Shows opened events) Other [] tt (All-nil (Shows opened events));
  }

  shown_channel : (c : ℕ) (h : List Event) → IsTrue (names_channel c) → history opened events c ≡ h → IsLawful h → HistoryFits h → IsShown (channel_line c h)
  shown_channel c [] names same lawful fits = shown_none
  shown_channel c (e ∷ h) names same lawful fits =
      let s = state_at (e ∷ h) lawful in
      let line = Standing c (shown_state (active (e ∷ h)) (waiting (e ∷ h))) in
      record {
        lines = line ∷ [];
        said = subst (λ text. Says Tells text (line ∷ [])) (sym (channel_line_is c e h)) (tells_fields (channel_field c ∷ state_fields (active (e ∷ h)) (waiting (e ∷ h))) line (are_channel_fields c _ _) (channel_line_read c (active (e ∷ h)) (waiting (e ∷ h)) names fits));
        shown = All-cons (Shows opened events) line [] (shown_by_state (e ∷ h) s.0 s.2 ∙ ap channel_state (sym same)) (All-nil (Shows opened events));
      }

  all_named : All (λ c. IsTrue (names_channel c)) all_channels
  unfolding all_channels tabulate names_channel channel_number is_number number_of
  all_named = AllPass-from_list_all names_channel all_channels refl

  pub shown_channels : (histories : List (List Event)) → ((c : ℕ) → IsTrue (names_channel c) → (history opened events c ≡ history_on c histories) × IsLawful (history_on c histories)) → ((c : ℕ) → IsTrue (names_channel c) → HistoryFits (history_on c histories)) → IsShown (flat_map (used_channel_line histories) all_channels)
  shown_channels histories told fits = shown_each (λ c. IsTrue (names_channel c)) (used_channel_line histories) all_channels all_named (λ c names. shown_channel c (history_on c histories) names (told c names).0 (told c names).1 (fits c names))

  -- a text that tells these events, and then only shows how things stand
  pub record IsRead (text : List ℕ) : Type 0 where
    pub lawful : AreLawful opened (lines_of text)
    pub told : (c : ℕ) → events_on c (parsed_lines (lines_of text)) ≡ events_on c events

  pub text_read : (a b : List ℕ) → Says Tells a events → IsLawfulTrace opened events → IsShown b → IsRead (a ++ b)
  text_read a b says lawful shown =
      let more = shown.lines ++ Other ∷ [] in
      let all = All-append (Shows opened events) shown.lines (Other ∷ []) shown.shown (All-cons (Shows opened events) Other [] tt (All-nil (Shows opened events))) in
      let told = subst (λ text. Tells text (events ++ more)) (append-nil (a ++ b)) (rw (← append_assoc events shown.lines (Other ∷ [])) (says_both Tells a b events shown.lines says shown.said [] (Other ∷ []) no_text)) in
      record {
        lawful = record { said = told.said; lawful = rw told.are (lawful_shown opened events more lawful all) };
        told = λ c. ap (events_on c) told.are ∙ events_both c events more ∙ ap (λ es. events_on c events ++ es) (none_shown opened events more c all) ∙ append-nil (events_on c events);
      }
