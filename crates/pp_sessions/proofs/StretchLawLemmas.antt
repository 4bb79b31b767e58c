-- The stretches of a channel are those of its course.
use Rattle.std.proofs.lemmas.Bool.{or_from, or_right}
use Rattle.std.proofs.Common.{◌≡◌, ℕ, ◌+◌, Bool, true, false, cond, List, [], ◌∷◌, ◌++◌, map, Option, Some, None, refl, sym, ap, subst, ◌∙◌, append_assoc, arith}
use Rattle.std.specs.Prelude.{count_by}
use Rattle.std.specs.Option.{option_to_list}
use Rattle.std.specs.List.{after_last, cons_option, filter_map, flat_map, last_or}
use Rattle.std.proofs.lemmas.List.{append-nil, length-append, length-map}
use Rattle.std.proofs.lemmas.List.Elements.{filter_map-append}
use Rattle.std.proofs.lemmas.List.Sums.{fold_push, sum_by-cons}
use Rattle.pp_channel.specs.History.{Course, events_of, idle_stretch}
use Rattle.pp_channel.specs.Session.{Session, body, puts, takes, word_put}
use Rattle.pp_channel.specs.declared.event.Event.{Event}
use Rattle.pp_channel.specs.declared.event.Event.TheVariants.{Activate, Disconnect, Put, Take}
use Rattle.pp_numbers.proofs.LastElements.{after_last-found, after_last-push}
use Rattle.pp_sessions.specs.OpenStretch.{IsUncut}
use Rattle.pp_sessions.specs.SessionsLaw.{TellsIdle, TellsSession, idle_part, session_events, stretches_of, whole_parts}
use Rattle.pp_sessions.specs.SessionsText.{lines_from, next_number, stretch_text}
use Rattle.pp_sessions.specs.Stretches.{is_session, begins_session, cut_between, ends_session, is_over, is_take, stretches, tally_of, untaken, word_of, words_in}
use Rattle.pp_sessions.specs.TimedEvents.{events_in}
use Rattle.pp_sessions.specs.declared.tally.TimedEvent.{TimedEvent}
use Rattle.pp_sessions.proofs.CourseLemmas.{BeginsSession, begins_with_session, course_parts, lone_word, passed_words, sessions_on, whole_then}
use Rattle.pp_sessions.proofs.CutLemmas.{cut-append, cut-map, last_in, uncut-push}

-- ---- events that neither begin nor end a session

abbrev IsPlain : Event → Type 0
IsPlain e = (ends_session e ≡ false) × (begins_session e ≡ false)

abbrev ArePlain : List Event → Type 0
ArePlain [] = Unit {0}
ArePlain (e ∷ events) = IsPlain e × ArePlain events

uncut_plain : (first : Event) (others : List Event) → ends_session first ≡ false → ArePlain others → IsUncut is_over first others
uncut_plain first [] goes plain = tt
uncut_plain first (next ∷ others) goes plain = (or_from (ends_session first) (begins_session next) goes plain.0.1, uncut_plain next others plain.0.0 plain.1)

last_plain : (first : Event) (others : List Event) → ends_session first ≡ false → ArePlain others → ends_session (last_in first others) ≡ false
last_plain first [] goes plain = goes
last_plain first (next ∷ others) goes plain = last_plain next others plain.0.0 plain.1

-- ---- an idle stretch

plain_codes : (codes : List ℕ) → ArePlain (idle_stretch codes)
plain_codes [] = tt
plain_codes (code ∷ codes) = ((refl, refl), plain_codes codes)

cut_idle : (codes : List ℕ) (rest : List Event) → BeginsSession rest → cut_between is_over (idle_stretch codes ++ rest) ≡ idle_part codes ++ cut_between is_over rest
cut_idle codes rest begins = grind (arith, cut-append, uncut_plain, plain_codes, last_in, or_right)

-- ---- a session

-- the words of a session
abbrev words : Session → List Event
words s = passed_words s.passed ++ lone_word s.lone

plain_words : (passed : List ℕ) (lone : Option ℕ) → ArePlain (passed_words passed ++ lone_word lone)
plain_words [] None = tt
plain_words [] (Some w) = ((refl, refl), tt)
plain_words (w ∷ passed) lone = ((refl, refl), ((refl, refl), plain_words passed lone))

cut_whole : (s : Session) (rest : List Event) → cut_between is_over ((body s ++ Disconnect ∷ []) ++ rest) ≡ session_events s true ∷ cut_between is_over rest
cut_whole s rest = grind (arith, cut-append, last_in, fold_push, uncut-push, or_from, uncut_plain, plain_words, last_plain)

-- ---- a course

abbrev open_parts : Option Session → List (List Event)
open_parts o = map (λ session. session_events session false) (option_to_list o)

cut_sessions : (whole : List (Session × List ℕ)) (o : Option Session) → cut_between is_over (sessions_on whole o) ≡ flat_map whole_parts whole ++ open_parts o
cut_sessions [] o = grind (arith, cut-append, append-nil, uncut_plain, plain_words)
cut_sessions ((s, codes) ∷ whole) o =
    ap (cut_between is_over) (whole_then s codes whole o ∙ sym (append_assoc (body s) (Disconnect ∷ []) (idle_stretch codes ++ sessions_on whole o)))
    ∙ cut_whole s (idle_stretch codes ++ sessions_on whole o)
    ∙ ap (λ (parts : List (List Event)). session_events s true ∷ parts) (cut_idle codes (sessions_on whole o) (begins_with_session whole o) ∙ ap (λ (parts : List (List Event)). idle_part codes ++ parts) (cut_sessions whole o))
    ∙ ap (λ (parts : List (List Event)). session_events s true ∷ parts) (sym (append_assoc (idle_part codes) (flat_map whole_parts whole) (open_parts o)))

cut_course : (c : Course) → cut_between is_over (events_of c) ≡ stretches_of c
cut_course c = grind (arith, course_parts, cut_idle, sessions_on, begins_with_session, cut_sessions, append_assoc, open_parts)

pub stretches_are : (events : List TimedEvent) (c : Course) → events_of c ≡ events_in events → map events_in (stretches events) ≡ stretches_of c
stretches_are events c is = cut-map (λ (e : TimedEvent). e.event) is_over events ∙ ap (cut_between is_over) (sym is) ∙ cut_course c

-- ---- what a line tells

puts_words : (passed : List ℕ) (lone : Option ℕ) (ended : Bool) → puts ((passed_words passed ++ lone_word lone) ++ cond ended (Disconnect ∷ []) []) ≡ passed ++ option_to_list lone
puts_words [] None true = refl
puts_words [] (Some w) true = refl
puts_words [] word ended = refl
puts_words (w ∷ passed) lone ended = ap (λ (ws : List ℕ). w ∷ ws) (puts_words passed lone ended)

takes_words : (passed : List ℕ) (lone : Option ℕ) (ended : Bool) → takes ((passed_words passed ++ lone_word lone) ++ cond ended (Disconnect ∷ []) []) ≡ passed
takes_words [] None true = refl
takes_words [] (Some w) true = refl
takes_words [] word ended = refl
takes_words (w ∷ passed) lone ended = ap (λ (ws : List ℕ). w ∷ ws) (takes_words passed lone ended)

-- no word was put after the last Take
abbrev IsClear : List Event → Type 0
IsClear events = puts (after_last is_take events) ≡ []

clear_passed : (passed : List ℕ) (events : List Event) → IsClear events → IsClear (events ++ passed_words passed)
clear_passed [] events clear = subst IsClear (sym (append-nil events)) clear
clear_passed (w ∷ passed) events clear = grind (arith, append_assoc, passed_words, after_last-found, clear_passed passed ((events ++ Put w ∷ []) ++ Take w ∷ []) (ap puts (after_last-found is_take (events ++ Put w ∷ []) (Take w) refl)))

abbrev HaveNoTake : List Event → Type 0
HaveNoTake [] = Unit {0}
HaveNoTake (e ∷ events) = (is_take e ≡ false) × HaveNoTake events

after_last-append : (events others : List Event) → HaveNoTake others → after_last is_take (events ++ others) ≡ after_last is_take events ++ others
after_last-append events [] none = ap (after_last is_take) (append-nil events) ∙ sym (append-nil (after_last is_take events))
after_last-append events (e ∷ others) none = grind (arith, append_assoc, after_last-push, after_last-append (events ++ e ∷ []) others none.1)

no_take_behind : (lone : Option ℕ) (ended : Bool) → HaveNoTake (lone_word lone ++ cond ended (Disconnect ∷ []) [])
no_take_behind lone ended = grind arith

lone_is : (lone : Option ℕ) (ended : Bool) → last_or None (puts (lone_word lone ++ cond ended (Disconnect ∷ []) [])) ≡ lone
lone_is lone ended = grind arith

untaken_is : (s : Session) (ended : Bool) → untaken (session_events s ended) ≡ s.lone
untaken_is s ended =
    let passed = Activate ∷ passed_words s.passed in
    let behind = lone_word s.lone ++ cond ended (Disconnect ∷ []) [] in
    ap (λ (es : List Event). untaken es) (append_assoc passed (lone_word s.lone) (cond ended (Disconnect ∷ []) []))
    ∙ ap (λ (es : List Event). last_or None (puts es)) (after_last-append passed behind (no_take_behind s.lone ended))
    ∙ ap (last_or None) (filter_map-append word_put (after_last is_take passed) behind)
    ∙ ap (λ (ws : List ℕ). last_or None (ws ++ puts behind)) (clear_passed s.passed (Activate ∷ []) refl)
    ∙ lone_is s.lone ended

-- the last event of a list, alone
last_alone : (first : TimedEvent) (others : List TimedEvent) → (last_in first others).event ≡ last_in first.event (events_in others)
last_alone first [] = refl
last_alone first (next ∷ others) = last_alone next others

pub session_told : (s : Session) (ended : Bool) (first : TimedEvent) (others : List TimedEvent) → events_in (first ∷ others) ≡ session_events s ended → TellsSession s ended (tally_of first others)
unfolding tally_of
session_told s ended first others are = grind (arith, words, last_alone, last_in, puts_words, length-append, takes_words, untaken_is, fold_push, append-nil, last_plain, plain_words)

pub idle_told : (codes : List ℕ) (first : TimedEvent) (others : List TimedEvent) → events_in (first ∷ others) ≡ idle_stretch codes → TellsIdle codes (tally_of first others)
unfolding tally_of
idle_told [] first others are = absurd (cc)
idle_told (code ∷ codes) first others are = grind (arith, length-map)

-- ---- the words of a stretch

of_events : (events : List TimedEvent) → words_in events ≡ filter_map word_of (events_in events)
of_events [] = refl
of_events (e ∷ events) = ap (cons_option (word_of e.event)) (of_events events)

all_words : (passed : List ℕ) (lone : Option ℕ) (ended : Bool) → filter_map word_of ((passed_words passed ++ lone_word lone) ++ cond ended (Disconnect ∷ []) []) ≡ passed ++ option_to_list lone
all_words [] None true = refl
all_words [] (Some w) true = refl
all_words [] word ended = refl
all_words (w ∷ passed) lone ended = ap (λ (ws : List ℕ). w ∷ ws) (all_words passed lone ended)

pub session_words : (s : Session) (ended : Bool) (events : List TimedEvent) → events_in events ≡ session_events s ended → words_in events ≡ s.passed ++ option_to_list s.lone
session_words s ended events are = of_events events ∙ ap (filter_map word_of) are ∙ all_words s.passed s.lone ended

all_codes : (codes : List ℕ) → filter_map word_of (idle_stretch codes) ≡ codes
all_codes [] = refl
all_codes (code ∷ codes) = ap (λ (ws : List ℕ). code ∷ ws) (all_codes codes)

pub idle_words : (codes : List ℕ) (events : List TimedEvent) → events_in events ≡ idle_stretch codes → words_in events ≡ codes
idle_words codes events are = of_events events ∙ ap (filter_map word_of) are ∙ all_codes codes

-- ---- the numbers of sessions

numbered_from : (w : Bool) (c number : ℕ) (before after : List (List TimedEvent)) → lines_from w c number (before ++ after) ≡ lines_from w c number before ++ lines_from w c (number + count_by is_session before) after
numbered_from w c number [] after = let same : number ≡ number + 0 = omega arith in ap (λ (k : ℕ). lines_from w c k after) same
numbered_from w c number (stretch ∷ before) after =
    let others = lines_from w c (next_number number stretch) before in
    ap (λ (text : List ℕ). stretch_text w c number stretch ++ text) (numbered_from w c (next_number number stretch) before after)
    ∙ sym (append_assoc (stretch_text w c number stretch) others (lines_from w c (next_number number stretch + count_by is_session before) after))
    ∙ ap (λ (k : ℕ). (stretch_text w c number stretch ++ others) ++ lines_from w c k after) (one_more (is_session stretch) (sum_by-cons (λ (s : List TimedEvent). cond (is_session s) 1 0) stretch before))
  where
    one_more : (b : Bool) {total : ℕ} → total ≡ cond b 1 0 + count_by is_session before → cond b (number + 1) number + count_by is_session before ≡ number + total
    one_more b all = grind arith

pub numbered : (w : Bool) (c : ℕ) (before after : List (List TimedEvent)) → lines_from w c 1 (before ++ after) ≡ lines_from w c 1 before ++ lines_from w c (1 + count_by is_session before) after
numbered w c before after = numbered_from w c 1 before after
