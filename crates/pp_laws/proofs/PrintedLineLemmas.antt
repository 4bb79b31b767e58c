-- Printed lines are read as what they tell.
use Rattle.std.proofs.Common.{◌≡◌, ◌∙◌, ℕ, ◌^◌, ◌<◌, ◌≤◌, Bool, true, false, List, [], ◌∷◌, ◌++◌, take, codes, Option, Some, None, refl, ap, append_assoc, arith}
use Rattle.std.specs.Prelude.{IfSome, IsTrue}
use Rattle.std.specs.List.{AllByRecursion, join_with_byte, list_all}
use Rattle.std.specs.Str.{bytes_eq}
use Rattle.std.proofs.lemmas.Bool.{and_parts, ltb-true, ne_eqb}
use Rattle.pp_numbers.proofs.ChannelNoLemmas.{channel_fits}
use Rattle.pp_numbers.specs.ChannelNo.{names_channel}
use Rattle.pp_channel.specs.History.{HasTwelveBitWord, active, waiting}
use Rattle.pp_channel.specs.declared.{channel_state.ChannelState.ChannelState, event.Event.Event}
use Rattle.pp_channel.specs.declared.event.Event.TheVariants.{Activate, Disconnect, Put, Take, Function}
use Rattle.pp_deck.proofs.FieldTextLemmas.{IsField, decimal_is_field, fields_first, fields_of_plain, is_plain, octal_ink, octal_is_field, octal_plain}
use Rattle.pp_deck.specs.DeckText.{fields_of}
use Rattle.pp_numbers.proofs.PpNoLemmas.{processor_fits}
use Rattle.pp_numbers.specs.PpNo.{names_processor, processor_number}
use Rattle.pp_processor.specs.Processor.{Processor}
use Rattle.pp_processor.specs.declared.{pp_state.PpState.PpState}
use Rattle.pp_machine.specs.declared.{trace.Trace.Trace}
use Rattle.pp_word.specs.Numeral.{decimal, is_digit, numeral, octal}
use Rattle.pp_word.proofs.NumeralLemmas.{decimal_are, decimal_read, octal_read}
use Rattle.pp_listing.proofs.ListedLineLemmas.{plain_append}
use Rattle.pp_report.specs.PrintedReport.{line_by}
use Rattle.pp_text.specs.PrintedText.{channel_line as printed_channel_line, event_line, event_text, line_end, processor_line, state_text}
use Rattle.pp_text.specs.TextLaw.{EventFits}
use Rattle.pp_check.specs.TraceLine.{channel_in, channel_line, empty, parsed_event, full_with, inactive, is_processor, parsed_line, number_after, numbered_line, parsed_state, turn_line}
use Rattle.pp_check.specs.declared.trace_line.TraceLine.TheVariants.{AtTurn, Numbered, Other, Standing}

-- a line of fields, with a blank between each two
abbrev pub line_of : List (List ℕ) → List ℕ
line_of fields = join_with_byte 32 fields ++ line_end

-- ---- fields of processors and channels

abbrev pub processor_field : ℕ → List ℕ
processor_field n = codes "PP" ++ octal 2 n

abbrev pub channel_field : ℕ → List ℕ
channel_field c = codes "CH" ++ octal 2 c

pub is_processor_field : (n : ℕ) → IsField (processor_field n)
is_processor_field n = record { some = omega arith; ink = octal_ink 2 n }

pub is_channel_field : (c : ℕ) → IsField (channel_field c)
is_channel_field c = record { some = omega arith; ink = octal_ink 2 c }

pub processor_read : (n : ℕ) → IsTrue (names_processor n) → is_processor (processor_field n) ≡ true
unfolding is_processor number_after
processor_read n names = rw (octal_read 2 2 n (omega arith) (omega arith) (omega (arith, processor_fits n names)), names) refl

pub channel_read : (c : ℕ) → IsTrue (names_channel c) → channel_in (channel_field c) ≡ Some c
unfolding channel_in number_after
channel_read c names = rw (octal_read 2 2 c (omega arith) (omega arith) (omega (arith, channel_fits c names)), names) refl

pub channel_no_processor : (c : ℕ) → is_processor (channel_field c) ≡ false
unfolding is_processor number_after
channel_no_processor c = refl

-- a field of digits is neither
digit_first : (first second : ℕ) (text : List ℕ) → 58 ≤ first → list_all (is_digit 10) text ≡ true → bytes_eq (take 2 text) (first ∷ second ∷ []) ≡ false
digit_first first second text late is = grind (arith, and_parts, ltb-true, ne_eqb)

pub count_no_processor : (n : ℕ) → is_processor (decimal n) ≡ false
unfolding is_processor number_after
count_no_processor n = rw (digit_first 80 80 (decimal n) (omega arith) (decimal_are n)) refl

pub count_no_channel : (n : ℕ) → channel_in (decimal n) ≡ None
unfolding channel_in number_after
count_no_channel n = rw (digit_first 67 72 (decimal n) (omega arith) (decimal_are n)) refl

-- ---- events

abbrev pub event_fields : Event → List (List ℕ)
event_fields Activate = codes "ACN" ∷ []
event_fields Disconnect = codes "DCN" ∷ []
event_fields (Put w) = codes "PUT" ∷ octal 4 w ∷ []
event_fields (Take w) = codes "TAK" ∷ octal 4 w ∷ []
event_fields (Function w) = codes "FNC" ∷ octal 4 w ∷ []

are_event_fields : (e : Event) → AllByRecursion IsField (event_fields e)
are_event_fields Activate = (record { some = omega arith; ink = refl }, tt)
are_event_fields Disconnect = (record { some = omega arith; ink = refl }, tt)
are_event_fields (Put w) = (record { some = omega arith; ink = refl }, (octal_is_field 4 w (omega arith), tt))
are_event_fields (Take w) = (record { some = omega arith; ink = refl }, (octal_is_field 4 w (omega arith), tt))
are_event_fields (Function w) = (record { some = omega arith; ink = refl }, (octal_is_field 4 w (omega arith), tt))

-- behind another field
event_joined : (field : List ℕ) (e : Event) → field ++ 32 ∷ event_text e ≡ join_with_byte 32 (field ∷ event_fields e)
event_joined field e = grind arith

event_read : (e : Event) → HasTwelveBitWord e → parsed_event (event_fields e) ≡ Some e
unfolding parsed_event
event_read Activate bits = refl
event_read Disconnect bits = refl
event_read (Put w) bits = rw (octal_read 4 4 w (omega arith) (omega arith) (omega (arith, bits))) refl
event_read (Take w) bits = rw (octal_read 4 4 w (omega arith) (omega arith) (omega (arith, bits))) refl
event_read (Function w) bits = rw (octal_read 4 4 w (omega arith) (omega arith) (omega (arith, bits))) refl

-- ---- the line of an event

abbrev pub trace_fields : Trace → List (List ℕ)
trace_fields e = decimal e.turn ∷ processor_field e.pp ∷ channel_field e.channel ∷ event_fields e.event

pub event_line_is : (e : Trace) → event_line e ≡ line_of (trace_fields e)
unfolding event_line
event_line_is e = rw (← event_joined (channel_field e.channel) e.event) (simp append_assoc)

pub are_trace_fields : (e : Trace) → AllByRecursion IsField (trace_fields e)
are_trace_fields e = (decimal_is_field e.turn, (is_processor_field e.pp, (is_channel_field e.channel, are_event_fields e.event)))

pub event_line_read : (e : Trace) → EventFits e → e.turn < 10 ^ 19 → parsed_line (trace_fields e) ≡ Some (AtTurn e.turn e.channel e.event)
unfolding parsed_line turn_line
event_line_read e told below = grind (arith, count_no_processor, count_no_channel, decimal_read, processor_read, channel_read, event_read)

-- ---- the line of a processor

-- what stands in it, with what is said of the processor last
abbrev pub processor_body : ℕ → Processor → List ℕ → List ℕ
processor_body n pp said = processor_field n ++ (32 ∷ codes "P=" ++ octal 4 pp.p ++ (codes " A=" ++ octal 6 pp.a ++ (codes " " ++ said)))

pub processor_line_is : (n : ℕ) (pp : Processor) (said : List ℕ) → processor_line n pp said ≡ processor_body n pp said ++ line_end
unfolding processor_line
processor_line_is n pp said = simp append_assoc

pub plain_state : (state : PpState) → list_all is_plain (state_text state) ≡ true
plain_state state = grind (arith, octal_plain)

pub plain_processor : (n : ℕ) (pp : Processor) (said : List ℕ) → list_all is_plain said ≡ true → list_all is_plain (processor_body n pp said) ≡ true
plain_processor n pp said plain = search (plain_append, octal_plain, plain)

pub processor_line_read : (n : ℕ) (pp : Processor) (said : List ℕ) → list_all is_plain said ≡ true → IsTrue (names_processor n) → parsed_line (fields_of (processor_body n pp said)) ≡ Some Other
unfolding parsed_line
processor_line_read n pp said plain names =
    let rest = codes "P=" ++ octal 4 pp.p ++ (codes " A=" ++ octal 6 pp.a ++ (codes " " ++ said)) in
    ap parsed_line (fields_of_plain (processor_body n pp said) (plain_processor n pp said plain) ∙ fields_first (processor_field n) rest (is_processor_field n))
    ∙ rw (processor_read n names) refl

-- ---- the line of an event with its number

abbrev pub numbered_fields : ℕ → ℕ → ℕ → Event → List (List ℕ)
numbered_fields c number n e = channel_field c ∷ decimal number ∷ processor_field n ∷ event_fields e

pub numbered_line_is : (c number place : ℕ) (e : Event) → line_by c number e (Some place) ≡ line_of (numbered_fields c number (processor_number place) e)
numbered_line_is c number place e = grind (arith, event_joined, append_assoc)

pub are_numbered_fields : (c number n : ℕ) (e : Event) → AllByRecursion IsField (numbered_fields c number n e)
are_numbered_fields c number n e = (is_channel_field c, (decimal_is_field number, (is_processor_field n, are_event_fields e)))

pub numbered_line_read : (c number n : ℕ) (e : Event) → IsTrue (names_channel c) → number < 10 ^ 19 → IsTrue (names_processor n) → HasTwelveBitWord e → parsed_line (numbered_fields c number n e) ≡ Some (Numbered number c e)
unfolding parsed_line channel_line numbered_line
numbered_line_read c number n e names below author bits = grind (arith, channel_no_processor, channel_read, decimal_read, processor_read, event_read)

-- ---- the line of a channel

abbrev pub state_fields : Bool → Option ℕ → List (List ℕ)
state_fields is_active (Some w) = codes "ACTIVE" ∷ codes "FULL" ∷ octal 4 w ∷ []
state_fields true None = codes "ACTIVE" ∷ codes "EMPTY" ∷ []
state_fields false None = codes "INACTIVE" ∷ []

-- the state that the words of a line tell
abbrev pub shown_state : Bool → Option ℕ → ChannelState
shown_state is_active (Some w) = full_with w
shown_state true None = empty
shown_state false None = inactive

pub channel_line_is : (c : ℕ) (e : Event) (h : List Event) → printed_channel_line c (e ∷ h) ≡ line_of (channel_field c ∷ state_fields (active (e ∷ h)) (waiting (e ∷ h)))
channel_line_is c e h = grind arith

pub are_channel_fields : (c : ℕ) (is_active : Bool) (word : Option ℕ) → AllByRecursion IsField (channel_field c ∷ state_fields is_active word)
are_channel_fields c is_active word = grind (arith, is_channel_field, octal_is_field)

pub channel_line_read : (c : ℕ) (is_active : Bool) (word : Option ℕ) → IsTrue (names_channel c) → IfSome word (λ w. w < 2 ^ 12) → parsed_line (channel_field c ∷ state_fields is_active word) ≡ Some (Standing c (shown_state is_active word))
unfolding parsed_line channel_line parsed_state numeral
channel_line_read c is_active word names bits = grind (arith, channel_no_processor, channel_read, octal_read)
