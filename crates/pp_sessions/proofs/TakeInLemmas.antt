-- The lines of a channel, event by event.
use Rattle.std.proofs.Common.{◌≡◌, ◌≢◌, ℕ, ◌+◌, ◌-◌, ◌<◌, ◌≤◌, Bool, true, false, ◌||◌, cond, eqb, List, [], ◌∷◌, ◌++◌, length, drop, take, get_or, Option, None, Some, refl, sym, ap, subst, ◌∙◌, append_assoc, arith}
use Rattle.std.specs.Int.{from_bool}
use Rattle.std.specs.List.{cons_option}
use Rattle.std.proofs.lemmas.Bool.{cond-true, eq-eqb, ne_eqb}
use Rattle.std.proofs.lemmas.List.{append-nil, length-drop, take_all, take_more, drop-append-le, drop_at}
use Rattle.std.proofs.lemmas.List.Elements.{filter_map-append}
use Rattle.pp_channel.specs.declared.event.Event.TheVariants.{Activate}
use Rattle.pp_machine.specs.MachineState.{MachineState, is_opened}
use Rattle.pp_machine.specs.declared.trace.Trace.{Trace}
use Rattle.pp_sessions.specs.OpenStretch.{IsOpen, IsUncut, Open, TakesIn, open_at}
use Rattle.pp_sessions.specs.SessionsText.{lines_from, line_and_words}
use Rattle.pp_sessions.specs.Stretches.{are_parted, begins_session, stretches, tally_of, word_of, words_in}
use Rattle.pp_sessions.specs.TimedEvents.{opening_events, timed_event, timed_events, timed_on}
use Rattle.pp_sessions.specs.declared.tally.Moment.TheVariants.{DeadStart}
use Rattle.pp_sessions.specs.declared.{tally.TimedEvent.TimedEvent, open_stretch.OpenStretch.OpenStretch, tally.Tally.Tally}
use Rattle.pp_sessions.proofs.CutLemmas.{cut-append, last_in, uncut-push}

-- ---- the stretch that is open

none_open : (o : Option Tally) (words : List ℕ) (stretch : List TimedEvent) → o ≡ None → IsOpen o words stretch → stretch ≡ []
none_open o words stretch e is = grind arith

record IsStretch (told : Tally) (words : List ℕ) (stretch : List TimedEvent) : Type 0 where
  first : TimedEvent
  others : List TimedEvent
  is_stretch : stretch ≡ first ∷ others
  is_told : told ≡ tally_of first others
  has_words : words ≡ words_in (first ∷ others)
  uncut : IsUncut are_parted first others

some_open : (o : Option Tally) (told : Tally) (words : List ℕ) (stretch : List TimedEvent) → o ≡ Some told → IsOpen o words stretch → IsStretch told words stretch
some_open o told words stretch e is = grind arith

pub open_again : (o : Option Tally) (words : List ℕ) (told : Tally) (first : TimedEvent) (others : List TimedEvent) → o ≡ Some told → told ≡ tally_of first others → words ≡ words_in (first ∷ others) → IsUncut are_parted first others → IsOpen o words (first ∷ others)
open_again o words told first others is told_is has uncut = subst (λ (x : Option Tally). IsOpen x words (first ∷ others)) (sym is) (told_is, has, uncut)

tells_session : (first : TimedEvent) (others : List TimedEvent) → (tally_of first others).is_session ≡ begins_session first.event
unfolding tally_of
tells_session first others = refl

parted_by : (told : Tally) (first : TimedEvent) (others : List TimedEvent) (e : TimedEvent) (b : Bool) → told ≡ tally_of first others → (told.has_ended || begins_session e.event) ≡ b → are_parted (last_in first others) e ≡ b
unfolding tally_of
parted_by told first others e b is over = grind arith

-- ---- lines

-- the words with those of more events
pub words_more : (events more : List TimedEvent) → words_in (events ++ more) ≡ words_in events ++ words_in more
words_more events more = filter_map-append (λ (e : TimedEvent). word_of e.event) events more

-- ---- an event comes

pub takes_first : (w : Bool) (c : ℕ) (old new : Open) (e : TimedEvent) (told : Tally) → old.tally ≡ None → new.number ≡ old.number → new.tally ≡ Some told → told ≡ tally_of e [] → new.words ≡ words_in (e ∷ []) → TakesIn w c old (e ∷ []) [] new
takes_first w c old new e told none number is told_is has = λ stretch is_open. (
  e ∷ [],
  open_again new.tally new.words told e [] is told_is has tt,
  λ rest.
      ap (λ (es : List TimedEvent). lines_from w c old.number (stretches (es ++ (e ∷ rest)))) (none_open old.tally old.words stretch none is_open)
      ∙ ap (λ (k : ℕ). lines_from w c k (stretches (e ∷ rest))) (sym number),
)

pub takes_more : (w : Bool) (c : ℕ) (old new : Open) (e : TimedEvent) (told more : Tally) → old.tally ≡ Some told → (told.has_ended || begins_session e.event) ≡ false → new.number ≡ old.number → new.tally ≡ Some more
    → ((first : TimedEvent) (others : List TimedEvent) → told ≡ tally_of first others → more ≡ tally_of first (others ++ e ∷ [])) → new.words ≡ old.words ++ words_in (e ∷ []) → TakesIn w c old (e ∷ []) [] new
takes_more w c old new e told more was on number is tells has = λ stretch is_open.
    let s = some_open old.tally told old.words stretch was is_open in (
      (s.first ∷ s.others) ++ e ∷ [],
      open_again new.tally new.words more s.first (s.others ++ e ∷ []) is (tells s.first s.others s.is_told)
          (has ∙ ap (λ (ws : List ℕ). ws ++ words_in (e ∷ [])) s.has_words ∙ sym (words_more (s.first ∷ s.others) (e ∷ []))) (uncut-push are_parted s.first s.others e s.uncut (parted_by told s.first s.others e false s.is_told on)),
      λ rest.
          ap (λ (es : List TimedEvent). lines_from w c old.number (stretches (es ++ (e ∷ rest)))) s.is_stretch
          ∙ ap (λ (es : List TimedEvent). lines_from w c old.number (stretches es)) (sym (append_assoc (s.first ∷ s.others) (e ∷ []) rest))
          ∙ ap (λ (k : ℕ). lines_from w c k (stretches (((s.first ∷ s.others) ++ e ∷ []) ++ rest))) (sym number),
    )

pub takes_next : (w : Bool) (c : ℕ) (old new : Open) (e : TimedEvent) (told next : Tally) → old.tally ≡ Some told → (told.has_ended || begins_session e.event) ≡ true → new.number ≡ cond told.is_session (old.number + 1) old.number → new.tally ≡ Some next
    → next ≡ tally_of e [] → new.words ≡ words_in (e ∷ []) → TakesIn w c old (e ∷ []) (line_and_words w c old.number told old.words) new
takes_next w c old new e told next was over number is next_is has = λ stretch is_open.
    let s = some_open old.tally told old.words stretch was is_open in (
      e ∷ [],
      open_again new.tally new.words next e [] is next_is has tt,
      λ rest.
          ap (λ (es : List TimedEvent). lines_from w c old.number (stretches (es ++ (e ∷ rest)))) s.is_stretch
          ∙ ap (lines_from w c old.number) (cut-append are_parted s.first s.others (e ∷ rest) s.uncut (parted_by told s.first s.others e true s.is_told over))
          ∙ ap (λ (t : Tally). line_and_words w c old.number t (words_in (s.first ∷ s.others)) ++ lines_from w c (cond (begins_session s.first.event) (old.number + 1) old.number) (stretches (e ∷ rest))) (sym s.is_told)
          ∙ ap (λ (ws : List ℕ). line_and_words w c old.number told ws ++ lines_from w c (cond (begins_session s.first.event) (old.number + 1) old.number) (stretches (e ∷ rest))) (sym s.has_words)
          ∙ ap (λ (b : Bool). line_and_words w c old.number told old.words ++ lines_from w c (cond b (old.number + 1) old.number) (stretches (e ∷ rest))) (sym (tells_session s.first s.others) ∙ sym (ap (λ (t : Tally). t.is_session) s.is_told))
          ∙ ap (λ (k : ℕ). line_and_words w c old.number told old.words ++ lines_from w c k (stretches (e ∷ rest))) (sym number),
    )

-- ---- events come

-- none
pub takes_none : (w : Bool) (c : ℕ) (old : Open) → TakesIn w c old [] [] old
takes_none w c old = λ stretch is_open. (stretch, is_open, λ rest. refl)

-- some, and then some more
pub takes_then : (w : Bool) (c : ℕ) (a b d : Open) (es fs : List TimedEvent) (xs ys : List ℕ) → TakesIn w c a es xs b → TakesIn w c b fs ys d → TakesIn w c a (es ++ fs) (xs ++ ys) d
takes_then w c a b d es fs xs ys first then = grind (arith, append_assoc)

-- no event has come
abbrev pub nothing_open : Open
nothing_open = record { number = 1; tally = None; words = [] }

-- all events have come: the line of the stretch that is open is the last
pub takes_all : (w : Bool) (c : ℕ) (events : List TimedEvent) (printed : List ℕ) (last : Open) (told : Tally) → TakesIn w c nothing_open events printed last → last.tally ≡ Some told → lines_from w c 1 (stretches events) ≡ printed ++ line_and_words w c last.number told last.words
takes_all w c events printed last told takes is =
    let (stretch, is_open, lines) = takes [] tt in
    let s = some_open last.tally told last.words stretch is is_open in
    ap (λ (es : List TimedEvent). lines_from w c 1 (stretches es)) (sym (append-nil events))
    ∙ lines []
    ∙ ap (λ (es : List TimedEvent). printed ++ lines_from w c last.number (stretches (es ++ []))) s.is_stretch
    ∙ ap (λ (parts : List (List TimedEvent)). printed ++ lines_from w c last.number parts) (cut-append are_parted s.first s.others [] s.uncut tt)
    ∙ ap (λ (text : List ℕ). printed ++ text) (append-nil (line_and_words w c last.number (tally_of s.first s.others) (words_in (s.first ∷ s.others))))
    ∙ ap (λ (t : Tally). printed ++ line_and_words w c last.number t (words_in (s.first ∷ s.others))) (sym s.is_told)
    ∙ ap (λ (ws : List ℕ). printed ++ line_and_words w c last.number told ws) (sym s.has_words)

-- or there is none
pub takes_nothing : (w : Bool) (c : ℕ) (events : List TimedEvent) (printed : List ℕ) (last : Open) → TakesIn w c nothing_open events printed last → last.tally ≡ None → lines_from w c 1 (stretches events) ≡ printed
takes_nothing w c events printed last takes is =
    let (stretch, is_open, lines) = takes [] tt in
    ap (λ (es : List TimedEvent). lines_from w c 1 (stretches es)) (sym (append-nil events))
    ∙ lines []
    ∙ ap (λ (es : List TimedEvent). printed ++ lines_from w c last.number (stretches (es ++ []))) (none_open last.tally last.words stretch is is_open)
    ∙ append-nil printed

-- ---- an entry of the trace, and what dead start made

pub takes_these : (w : Bool) (c : ℕ) (old new : Open) (es fs : List TimedEvent) (printed : List ℕ) → es ≡ fs → TakesIn w c old es printed new → TakesIn w c old fs printed new
takes_these w c old new es fs printed same takes = subst (λ (gs : List TimedEvent). TakesIn w c old gs printed new) same takes

pub entry_on : (c : ℕ) (entry : Trace) → entry.channel ≡ c → timed_event entry ∷ [] ≡ timed_on c (entry ∷ [])
entry_on c entry here = ap (λ (b : Bool). cons_option (cond b (Some (timed_event entry)) None) []) (sym (eq-eqb entry.channel c here))

-- the Activate that dead start made
abbrev pub dead_start_event : TimedEvent
dead_start_event = record { moment = DeadStart; event = Activate }

pub takes_dead_start : (w : Bool) (c : ℕ) (m : MachineState) (opened : Bool) (told : Tally) → opened ≡ is_opened c m → opened ≡ true → told ≡ tally_of dead_start_event [] → TakesIn w c nothing_open (opening_events c m) [] (record { number = 1; tally = Some told; words = [] })
takes_dead_start w c m opened told is so told_is =
    let new : Open = record { number = 1; tally = Some told; words = [] } in
    takes_these w c nothing_open new (dead_start_event ∷ []) (opening_events c m) [] (sym (cond-true (is_opened c m) (dead_start_event ∷ []) [] (sym is ∙ so))) (takes_first w c nothing_open new dead_start_event told refl refl refl told_is refl)

-- all entries have come
pub takes_whole : (w : Bool) (c : ℕ) (m : MachineState) (entries : List Trace) (index : ℕ) (printed : List ℕ) (current : OpenStretch) → length entries ≤ index → entries ≡ m.trace
    → TakesIn w c nothing_open (opening_events c m ++ timed_on c (take index entries)) printed (open_at c (take index entries) current) → TakesIn w c nothing_open (timed_events c m) printed (open_at c entries current)
takes_whole w c m entries index printed current past are takes = grind (arith, takes_these, nothing_open, take_all)

-- ---- how many events have come

-- the events of an entry more
pub timed_more : (c : ℕ) (trace : List Trace) (i : ℕ) (entry : Trace) → i < length trace → entry ≡ get_or trace i entry → timed_on c (take (i + 1) trace) ≡ timed_on c (take i trace) ++ timed_on c (entry ∷ [])
timed_more c trace i entry within is =
    ap (timed_on c) (take_more trace i entry within ∙ ap (λ (e : Trace). take i trace ++ e ∷ []) (sym is))
    ∙ filter_map-append (λ (e : Trace). cond (eqb e.channel c) (Some (timed_event e)) None) (take i trace) (entry ∷ [])

-- ---- the words of the stretch that is open

-- the entries from a place on
pub rest_of : (s : ℕ) (past : List Trace) → take (length past - s) (drop s past) ≡ drop s past
rest_of s past = take_all (length past - s) (drop s past) (omega (arith, length-drop s past))

-- with an entry more
pub open_words_more : (c s : ℕ) (past : List Trace) (entry : Trace) → s ≤ length past
    → words_in (timed_on c (drop s (past ++ entry ∷ []))) ≡ words_in (timed_on c (drop s past)) ++ words_in (timed_on c (entry ∷ []))
open_words_more c s past entry low = grind (arith, drop-append-le, filter_map-append, words_more)

-- of an entry alone
pub open_words_first : (c : ℕ) (past : List Trace) (entry : Trace) → words_in (timed_on c (drop (length past) (past ++ entry ∷ []))) ≡ words_in (timed_on c (entry ∷ []))
open_words_first c past entry = ap (λ (es : List Trace). words_in (timed_on c es)) (drop_at past (entry ∷ []) (length past) refl)

-- an entry on another channel
pub entry_off : (c : ℕ) (entry : Trace) → entry.channel ≢ c → timed_on c (entry ∷ []) ≡ []
entry_off c entry off = ap (λ (b : Bool). cons_option (cond b (Some (timed_event entry)) None) []) (ne_eqb entry.channel c off)

pub takes_other : (w : Bool) (c : ℕ) (past : List Trace) (entry : Trace) (o : OpenStretch) → o.start ≤ length past → timed_on c (entry ∷ []) ≡ []
    → TakesIn w c (open_at c past o) (timed_on c (entry ∷ [])) [] (open_at c (past ++ entry ∷ []) o)
takes_other w c past entry o low none =
    let same : words_in (timed_on c (drop o.start past)) ≡ words_in (timed_on c (drop o.start (past ++ entry ∷ []))) =
    sym (open_words_more c o.start past entry low ∙ ap (λ (es : List TimedEvent). words_in (timed_on c (drop o.start past)) ++ words_in es) none ∙ append-nil (words_in (timed_on c (drop o.start past)))) in
    subst (λ (ws : List ℕ). TakesIn w c (open_at c past o) (timed_on c (entry ∷ [])) [] (record { number = o.number; tally = o.tally; words = ws })) same
    (takes_these w c (open_at c past o) (open_at c past o) [] (timed_on c (entry ∷ [])) [] (sym none) (takes_none w c (open_at c past o)))

-- the number of the next session
pub number_after : (b : Bool) (number one : ℕ) → one ≡ from_bool b → number + one ≡ cond b (number + 1) number
number_after b number one is = grind arith
