-- What is found in a line, and line by line.
use Rattle.std.proofs.Common.{◌≡◌, ℕ, ◌+◌, ◌<◌, ◌≤◌, Bool, true, false, List, [], ◌∷◌, ◌++◌, length, take, drop, get_or, map, Option, Some, None, refl, subst, sym, ap, ◌∙◌, append_assoc, arith}
use Rattle.std.specs.Prelude.{◌||◌, ◌&&◌, bytes_eq, codes, filter_map, find, if◌then◌else◌, nat_le, position, unwrap_or}
use Rattle.std.specs.List.{cons_option, flat_map, last_or, list_any, range_with_len, slice_split}
use Rattle.std.proofs.lemmas.List.{append-nil, drop_more, get_or-map, length-drop, length-map, take_more}
use Rattle.std.proofs.lemmas.List.Elements.{filter_map-append}
use Rattle.std.proofs.lemmas.List.Folds.{list_any-append}
use Rattle.std.proofs.lemmas.Bool.{le-ltb, lt-ltb}
use Rattle.std.proofs.lemmas.Slice.Eq.{bytes_eq-Decides}
use Rattle.pp_numbers.proofs.GrowingLists.{range_more}
use Rattle.pp_numbers.proofs.LastElements.{last_or-push}
use Rattle.pp_numbers.specs.declared.profile.Profile.{Profile}
use Rattle.pp_deck.specs.OctalNumber.{number}
use Rattle.pp_deck.specs.DeckLine.{central_line, keyword_of}
use Rattle.pp_deck.specs.DeckMeaning.{begins_section, has_fields, is_foreign, size_by, size_in, size_of, stated_size}
use Rattle.pp_deck.specs.DeckText.{Fields, fields_of, is_line_feed, lines_of}
use Rattle.pp_deck.specs.declared.deck_fault.DeckCode.{DeckCode}
use Rattle.pp_text.proofs.PrintingLemmas.{prints_on, prints_then, range_flat}
use Rattle.pp_text.specs.PrintedText.{line_end}
use Rattle.pp_text.specs.TextWriter.{Prints}
use Rattle.pp_text.specs.declared.text_writer.TextWriter.{TextWriter}
use Rattle.pp_lint.specs.FaultWords.{fault_words}
use Rattle.pp_lint.specs.Finding.{Finding}
use Rattle.pp_lint.specs.Findings.{fault_found, findings, findings_at, findings_in, found_without_fault, line_findings, mark}
use Rattle.pp_lint.specs.Given.{named_by, notes, said_at, section_at, section_begun}
use Rattle.pp_lint.specs.LineFault.{HasFault, after_fields, before_line, fault_after, lone_number, said_after}
use Rattle.pp_lint.specs.LintText.{finding_line, is_something_found, lint_text}
use Rattle.pp_lint.specs.StraightLine.{reached_at}
use Rattle.pp_lint.specs.declared.{channel_use.ChannelUse.ChannelUse, line_fault.Before.Before, line_fault.Fault.Fault}
use Rattle.pp_lint.proofs.FaultLemmas.{code_is, field_is}

-- ---- a line

pub foreign_found : (k : ℕ) (line : List ℕ) (fault_of : Fields → Option DeckCode) (others : List Finding) (i : ℕ) → Some i ≡ position is_foreign line
    → line_findings k line fault_of others ≡ record { line = k + 1; column = i + 1; words = fault_words DeckCode.NotAscii [] } ∷ []
unfolding line_findings
foreign_found k line fault_of others i is = rw (← is) refl

pub fault_is_found : (k : ℕ) (line : List ℕ) (fault_of : Fields → Option DeckCode) (others : List Finding) (fault : Fault) → None ≡ position is_foreign line
    → HasFault fault_of (fields_of line) 0 fault → line_findings k line fault_of others ≡ fault_found k line fault.code fault.field ∷ []
unfolding line_findings
fault_is_found k line fault_of others fault ascii has = rw (← ascii, code_is fault_of (fields_of line) fault has, field_is fault_of (fields_of line) fault has) refl

pub others_are_found : (k : ℕ) (line : List ℕ) (fault_of : Fields → Option DeckCode) (others : List Finding) → None ≡ position is_foreign line → fault_of (fields_of line) ≡ None
    → line_findings k line fault_of others ≡ others
unfolding line_findings
others_are_found k line fault_of others ascii none = rw (← ascii, none) refl

pub one_line : (finding : Finding) → finding_line finding ≡ flat_map finding_line (finding ∷ [])
one_line finding = sym (append-nil (finding_line finding))

-- ---- one line more

pub found_more : (found more : List Finding) → is_something_found (found ++ more) ≡ (is_something_found found || is_something_found more)
found_more [] more = refl
found_more (finding ∷ found) more = grind arith

any_more : (p : Fields → Bool) (lines : List Fields) (k : ℕ) → k < length lines → (list_any p (take k lines) || p (get_or lines k [])) ≡ list_any p (take (k + 1) lines)
any_more p lines k within = sym (ap (list_any p) (take_more lines k [] within) ∙ list_any-append p (take k lines) (get_or lines k [] ∷ []) ∙ ap (λ b. list_any p (take k lines) || b) (one (p (get_or lines k []))))
  where
    one : (b : Bool) → (b || false) ≡ b
    one true = refl
    one false = refl

unless_last : (o : Option (Option ℕ)) (xs : List (Option ℕ)) → unwrap_or (last_or None (xs ++ cons_option o [])) None ≡ unwrap_or o (unwrap_or (last_or None xs) None)
unless_last None xs = ap (λ ys. unwrap_or (last_or None ys) None) (append-nil xs)
unless_last (Some x) xs = ap (λ o. unwrap_or o None) (last_or-push None xs x)

if_begun : (b : Bool) (n s : Option ℕ) → unwrap_or (if b then Some n else None) s ≡ (if b then n else s)
if_begun true n s = refl
if_begun false n s = refl

section_more : (profile : Profile) (lines : List Fields) (k : ℕ)
    → (if begins_section (get_or lines k []) then named_by (said_at profile lines k) else section_at profile lines k) ≡ section_at profile lines (k + 1)
unfolding section_at
section_more profile lines k =
    let begun = section_begun profile lines in
    sym (ap (λ ks. unwrap_or (last_or None (filter_map begun ks)) None) (range_more 0 k ∙ ap (λ j. range_with_len 0 k ++ j ∷ []) (omega arith))
    ∙ ap (λ xs. unwrap_or (last_or None xs) None) (filter_map-append begun (range_with_len 0 k) (k ∷ []))
    ∙ unless_last (begun k) (filter_map begun (range_with_len 0 k))
    ∙ if_begun (begins_section (get_or lines k [])) (named_by (said_at profile lines k)) (section_at profile lines k))

pub before_more : (profile : Profile) (lines : List Fields) (k : ℕ) → k < length lines → after_fields (before_line profile lines k) (get_or lines k []) ≡ before_line profile lines (k + 1)
before_more profile lines k within =
    rw (← any_more has_fields lines k within, ← any_more begins_section lines k within, ← section_more profile lines k) refl

-- ---- sections

other_keyword : (field keyword : List ℕ) → bytes_eq field keyword ≡ true → bytes_eq keyword (codes "PP") ≡ false → bytes_eq field (codes "PP") ≡ false
other_keyword field keyword is other = ap (λ word. bytes_eq word (codes "PP")) ((bytes_eq-Decides field keyword).0 is) ∙ other

begins_by : (field : List ℕ) (fields : Fields) (a b c : Bool) → bytes_eq field (codes "CENTRAL") ≡ a → bytes_eq field (codes "CM") ≡ b → bytes_eq field (codes "PP") ≡ c → begins_section (field ∷ fields) ≡ c
unfolding keyword_of
begins_by field fields true b c e f g = rw e (sym (other_keyword field (codes "CENTRAL") e refl) ∙ g)
begins_by field fields false true c e f g = rw (e, f) (sym (other_keyword field (codes "CM") f refl) ∙ g)
begins_by field fields false false true e f g = rw (e, f, g) refl
begins_by field fields false false false e f g = grind (arith, e, f, g)

pub begins_is : (field : List ℕ) (fields : Fields) → begins_section (field ∷ fields) ≡ bytes_eq field (codes "PP")
begins_is field fields = begins_by field fields _ _ _ refl refl refl

-- ---- the size of central memory

some_found : (first : List ℕ) (rest : Fields) (lines : List Fields) → find has_fields ((first ∷ rest) ∷ lines) ≡ Some (first ∷ rest)
some_found first rest lines = grind arith

none_found : (lines : List Fields) → find has_fields ([] ∷ lines) ≡ find has_fields lines
none_found lines = refl

size_by_central : (first : List ℕ) (rest : Fields) → bytes_eq first (codes "CENTRAL") ≡ true → size_by (keyword_of first) rest ≡ stated_size (central_line rest)
unfolding keyword_of
size_by_central first rest central = rw central refl

size_by_other : (first : List ℕ) (rest : Fields) → bytes_eq first (codes "CENTRAL") ≡ false → size_by (keyword_of first) rest ≡ 0o10000
unfolding keyword_of
size_by_other first rest other = grind (arith, other)

-- the first line with fields among those of a text is that among the lines that are left
abbrev pub FoundIn : List ℕ → List (List ℕ) → Type 0
FoundIn text left = find has_fields (map fields_of left) ≡ find has_fields (lines_of text)

size_found : (text : List ℕ) (left : List (List ℕ)) (line : List ℕ) (more : List (List ℕ)) (first : List ℕ) (rest : Fields) → FoundIn text left → left ≡ line ∷ more → fields_of line ≡ first ∷ rest
    → size_of (lines_of text) ≡ size_by (keyword_of first) rest
unfolding size_of
size_found text left line more first rest found is here =
    ap size_in (sym found ∙ ap (λ lines. find has_fields (map fields_of lines)) is ∙ ap (λ fields. find has_fields (fields ∷ map fields_of more)) here ∙ some_found first rest (map fields_of more))

pub size_central : (text : List ℕ) (left : List (List ℕ)) (line : List ℕ) (more : List (List ℕ)) (first : List ℕ) (rest : Fields) → FoundIn text left → left ≡ line ∷ more → fields_of line ≡ first ∷ rest
    → bytes_eq first (codes "CENTRAL") ≡ true → stated_size (central_line rest) ≡ size_of (lines_of text)
size_central text left line more first rest found is here central = sym (size_found text left line more first rest found is here ∙ size_by_central first rest central)

pub size_other : (text : List ℕ) (left : List (List ℕ)) (line : List ℕ) (more : List (List ℕ)) (first : List ℕ) (rest : Fields) → FoundIn text left → left ≡ line ∷ more → fields_of line ≡ first ∷ rest
    → bytes_eq first (codes "CENTRAL") ≡ false → 0o10000 ≡ size_of (lines_of text)
size_other text left line more first rest found is here other = sym (size_found text left line more first rest found is here ∙ size_by_other first rest other)

pub size_later : (text : List ℕ) (left : List (List ℕ)) (line : List ℕ) (more : List (List ℕ)) → FoundIn text left → left ≡ line ∷ more → fields_of line ≡ [] → FoundIn text more
size_later text left line more found is blank =
    sym (none_found (map fields_of more)) ∙ ap (λ fields. find has_fields (fields ∷ map fields_of more)) (sym blank) ∙ ap (λ lines. find has_fields (map fields_of lines)) (sym is) ∙ found

pub size_none : (text : List ℕ) (left : List (List ℕ)) → FoundIn text left → left ≡ [] → 0o10000 ≡ size_of (lines_of text)
unfolding size_of
size_none text left found none = sym (ap size_in (sym found ∙ ap (λ lines. find has_fields (map fields_of lines)) none))

pub found_first : (text : List ℕ) (left : List (List ℕ)) → left ≡ slice_split is_line_feed text → FoundIn text left
unfolding lines_of
found_first text left all = ap (λ lines. find has_fields (map fields_of lines)) all

-- what a line `CENTRAL n` states
pub stated_none : (fields : Fields) → lone_number fields ≡ None → 0o10000 ≡ stated_size (central_line fields)
unfolding central_line number
stated_none [] none = refl
stated_none (field ∷ []) none = rw none refl
stated_none (field ∷ next ∷ more) none = grind arith

pub stated_is : (fields : Fields) (n : ℕ) → lone_number fields ≡ Some n → (nat_le 1 n && nat_le n 0o400000) ≡ true → n ≡ stated_size (central_line fields)
unfolding central_line number
stated_is [] n is within = absurd (cc)
stated_is (field ∷ []) n is within = rw (is, within) refl
stated_is (field ∷ next ∷ more) n is within = absurd (cc)

pub stated_out : (fields : Fields) (n : ℕ) → lone_number fields ≡ Some n → (nat_le 1 n && nat_le n 0o400000) ≡ false → 0o10000 ≡ stated_size (central_line fields)
unfolding central_line number
stated_out [] n is out = absurd (cc)
stated_out (field ∷ []) n is out = rw (is, out) refl
stated_out (field ∷ next ∷ more) n is out = absurd (cc)

-- ---- lines of a text

pub lines_are : (text : List ℕ) → lines_of text ≡ map fields_of (slice_split is_line_feed text)
unfolding lines_of
lines_are text = refl

-- of the lines of a text those from line k on are left, and this is the first of them
pub record IsNext (lines : List (List ℕ)) (k : ℕ) (line : List ℕ) (more : List (List ℕ)) : Type 0 where
  pub within : k < length lines
  pub here : get_or lines k [] ≡ line
  pub left : more ≡ drop (k + 1) lines

pub next_is : (lines left more : List (List ℕ)) (k : ℕ) (line : List ℕ) → left ≡ drop k lines → left ≡ line ∷ more → IsNext lines k line more
next_is lines left more k line from is =
    let long = ap length (sym from ∙ is) in
    let within : k < length lines = omega (arith, long, length-drop k lines) in
    let same : get_or lines k [] ∷ drop (k + 1) lines ≡ line ∷ more = sym (drop_more lines k [] within) ∙ sym from ∙ is in
    let here : get_or lines k [] ≡ line = cc in
    let left : more ≡ drop (k + 1) lines = cc in
    record { within = within; here = here; left = left }

pub none_left : (lines left : List (List ℕ)) (k : ℕ) → left ≡ drop k lines → left ≡ [] → k ≤ length lines → k ≡ length lines
none_left lines left k from none most = let long = ap length (sym from ∙ none) in omega (arith, long, most, length-drop k lines)

pub fields_at : (lines : List (List ℕ)) (k : ℕ) → k < length lines → get_or (map fields_of lines) k [] ≡ fields_of (get_or lines k [])
fields_at lines k within = get_or-map fields_of lines k [] [] within

pub before_next : (profile : Profile) (lines : List (List ℕ)) (k : ℕ) (line : List ℕ) (before : Before) → before ≡ before_line profile (map fields_of lines) k → k < length lines → get_or lines k [] ≡ line
    → after_fields before (fields_of line) ≡ before_line profile (map fields_of lines) (k + 1)
before_next profile lines k line before is within here =
    ap (λ b. after_fields b (fields_of line)) is ∙ ap (after_fields (before_line profile (map fields_of lines) k)) (sym (fields_at lines k within ∙ ap fields_of here))
    ∙ before_more profile (map fields_of lines) k (omega (arith, within, length-map lines fields_of))

pub findings_here : (profile : Profile) (lines : List (List ℕ)) (k : ℕ) (line : List ℕ) (before : Before) (alone : List ChannelUse) (reached : Option ℕ) → before ≡ before_line profile (map fields_of lines) k → reached ≡ reached_at profile (map fields_of lines) k → get_or lines k [] ≡ line
    → line_findings k line (fault_after before) (found_without_fault before.profile k line (notes profile (map fields_of lines)) alone reached before.section (said_after before (fields_of line))) ≡ findings_at profile lines alone k
findings_here profile lines k line before alone reached is comes here = rw (is, comes, ← here) refl

pub found_at : (profile : Profile) (lines : List (List ℕ)) (alone : List ChannelUse) (k : ℕ) (found here : Bool) → found ≡ is_something_found (flat_map (findings_at profile lines alone) (range_with_len 0 k))
    → here ≡ is_something_found (findings_at profile lines alone k)
    → (found || here) ≡ is_something_found (flat_map (findings_at profile lines alone) (range_with_len 0 (k + 1)))
found_at profile lines alone k found here is also =
    rw (is, also) (sym (found_more (flat_map (findings_at profile lines alone) (range_with_len 0 k)) (findings_at profile lines alone k)) ∙ ap is_something_found (range_flat (findings_at profile lines alone) 0 k k (omega arith)))

-- ---- a whole deck

pub long_deck : (profile : Profile) (deck : List ℕ) → 1048576 < length deck → findings profile deck ≡ record { line = 1; column = 1; words = fault_words DeckCode.TooLong [] } ∷ []
unfolding findings
long_deck profile deck long = grind (arith, long, lt-ltb)

pub marked_deck : (profile : Profile) (deck : List ℕ) → length deck ≤ 1048576 → bytes_eq (take 3 deck) mark ≡ true
    → findings profile deck ≡ record { line = 1; column = 1; words = codes "byte order mark" } ∷ findings_in profile (drop 3 deck)
unfolding findings
marked_deck profile deck short marked = rw (le-ltb 1048576 (length deck) short, marked) refl

pub plain_deck : (profile : Profile) (deck : List ℕ) → length deck ≤ 1048576 → bytes_eq (take 3 deck) mark ≡ false → findings profile deck ≡ findings_in profile deck
unfolding findings
plain_deck profile deck short plain = rw (le-ltb 1048576 (length deck) short, plain) refl

-- a place and words, where the last of the words are printed with the end of the line
pub prints_ended : {W : Type 0} {contents : W → Option (List ℕ)} {a b c d : TextWriter W} {place words : List ℕ} (last : List ℕ) → Prints contents a b place → Prints contents b c words → Prints contents c d (last ++ line_end)
    → Prints contents a d (place ++ (words ++ last) ++ line_end)
prints_ended {place = place} {words = words} last at said ended =
    prints_on _ _ _ _ _ _ _ (prints_then _ _ _ _ _ _ at said) ended (sym (append_assoc (place ++ words) last line_end) ∙ ap (λ xs. xs ++ line_end) (append_assoc place words last))

pub prints_finding : {W : Type 0} (contents : W → Option (List ℕ)) (old new : TextWriter W) (finding : Finding) (found : List Finding) → found ≡ finding ∷ []
    → Prints contents old new (finding_line finding) → Prints contents old new (flat_map finding_line found)
prints_finding contents old new finding found is printed = rw is (subst (Prints contents old new) (one_line finding) printed)

pub after_some : (before : Before) (fields : Fields) (first : List ℕ) (rest : Fields) (inside : Bool) (processor : Option ℕ) → fields ≡ first ∷ rest → inside ≡ (before.is_in_section || bytes_eq first (codes "PP"))
    → processor ≡ (if bytes_eq first (codes "PP") then named_by (said_after before fields) else before.section)
    → record before { is_after_fields = true; is_in_section = inside; section = processor } ≡ after_fields before fields
after_some before fields first rest inside processor is in_section of =
    let some : (before.is_after_fields || has_fields (first ∷ rest)) ≡ true = grind arith in
    rw (of, is, some, begins_is first rest, in_section) refl

pub prints_something : {W : Type 0} (contents : W → Option (List ℕ)) (old new : TextWriter W) (profile : Profile) (deck : List ℕ) → is_something_found (findings profile deck) ≡ true
    → Prints contents old new (flat_map finding_line (findings profile deck)) → Prints contents old new (lint_text profile deck)
unfolding lint_text
prints_something contents old new profile deck some printed = rw some printed

pub none_of : (found : List Finding) → is_something_found found ≡ false → found ≡ []
none_of [] none = refl
none_of (finding ∷ found) none = absurd (grind (arith, none))

pub prints_that_nothing : {W : Type 0} (contents : W → Option (List ℕ)) (old between new : TextWriter W) (profile : Profile) (deck : List ℕ) → is_something_found (findings profile deck) ≡ false
    → Prints contents old between (flat_map finding_line (findings profile deck)) → Prints contents between new (codes "nothing found" ++ line_end) → Prints contents old new (lint_text profile deck)
unfolding lint_text
prints_that_nothing contents old between new profile deck none printed said =
    rw none (prints_on contents old between new _ _ _ printed said (rw (none_of (findings profile deck) none) refl))
