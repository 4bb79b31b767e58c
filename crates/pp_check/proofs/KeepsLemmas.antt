-- What the judge keeps, one line more.
use Rattle.std.proofs.Common.{◌≡◌, ◌≢◌, ℕ, ◌+◌, ◌<◌, ◌≤◌, ◌==◌, Bool, true, false, List, [], ◌∷◌, ◌++◌, length, get_or, Some, None, Result, Ok, Err, refl, sym, ap, ◌∙◌, subst, add-zero, arith, inl, inr}
use Rattle.std.specs.Prelude.{IsTrue, count_by, slice_set, if◌then◌else◌}
use Rattle.std.specs.List.{cons_option, filter_map}
use Rattle.std.proofs.lemmas.Bool.{cases_eq, eq-eqb, eqb-true, ne_eqb}
use Rattle.std.proofs.lemmas.List.{get_or-set_other, get_or-set_same, get_or_read, length-append, length-set, length_push}
use Rattle.std.proofs.lemmas.List.Sums.{sum_by-cons, sum_by_push}
use Rattle.pp_numbers.specs.ChannelNo.{channel_places, channel_count, channel_index, names_channel}
use Rattle.pp_channel.specs.Answer.{channel_state}
use Rattle.pp_channel.specs.History.{IsLawful}
use Rattle.pp_channel.specs.declared.{channel_state.ChannelState.ChannelState, event.Event.Event}
use Rattle.pp_channel.specs.declared.event.Event.TheVariants.{Activate}
use Rattle.pp_check.specs.Judge.{Happens, IsRead, Keeps, KeepsEvents, tally, tally_of}
use Rattle.pp_check.specs.LawfulTrace.{Fits, IsLawfulTrace, event_on, events_on, history, is_opened, last_turn, turn_of}
use Rattle.pp_check.specs.Verdict.{begins_session, is_activate, tells_event}
use Rattle.pp_check.specs.declared.{judge.Judge.Judge, channel_tally.ChannelTally.ChannelTally, trace_fault.TraceFlaw.TraceFlaw, trace_line.TraceLine.TraceLine}
use Rattle.pp_check.specs.declared.trace_line.TraceLine.TheVariants as says
use Rattle.pp_check.proofs.TraceLemmas.{events_more, events_same, history_more, history_same, last_turn_same, lawful_push}

-- ---- counts

pub count_more : (p : TraceLine → Bool) (lines : List TraceLine) (line : TraceLine) → count_by p (lines ++ line ∷ []) ≡ count_by p lines + (if p line then 1 else 0)
count_more p lines line = sum_by_push (λ x. if p x then 1 else 0) lines line

-- ---- the line of an event

-- a line that tells an event of channel c
pub record IsEventLine (c : ℕ) (e : Event) (line : TraceLine) : Type 0 where
  pub elsewhere : (d : ℕ) → d ≢ c → event_on d line ≡ None
  pub told : tells_event line ≡ true
  pub begins : begins_session line ≡ is_activate e

pub record IsHere (c channel : ℕ) (e told : Event) : Type 0 where
  pub channel_is : channel ≡ c
  pub event_is : told ≡ e

pub here_by : (c channel : ℕ) (e told : Event) (b : Bool) → (channel == c) ≡ b → (if b then Some told else None) ≡ Some e → IsHere c channel e told
here_by c channel e told true same is = record { channel_is = eqb-true channel c same; event_is = cc }
here_by c channel e told false same is = absurd cc

elsewhere_by : (c channel d : ℕ) (told : Event) → channel ≡ c → d ≢ c → (if channel == d then Some told else None) ≡ None
elsewhere_by c channel d told same other = grind (arith, ne_eqb)

pub event_line : (c : ℕ) (e : Event) (line : TraceLine) → event_on c line ≡ Some e → IsEventLine c e line
event_line c e (says.AtTurn turn channel told) is = grind (arith, here_by, elsewhere_by)
event_line c e (says.Numbered number channel told) is = grind (arith, here_by, elsewhere_by)
event_line c e line is = absurd cc

-- ---- a line without an event

pub tally_same : (opened : List Bool) (lines : List TraceLine) (line : TraceLine) (c : ℕ) → event_on c line ≡ None → tally opened (lines ++ line ∷ []) c ≡ tally opened lines c
unfolding tally
tally_same opened lines line c none = grind (arith, history_same, events_same)

-- a line that tells no event
pub record TellsNone (line : TraceLine) : Type 0 where
  pub event : (c : ℕ) → event_on c line ≡ None
  pub turn : turn_of line ≡ None
  pub told : tells_event line ≡ false
  pub begins : begins_session line ≡ false

pub keeps_without_event : (opened : List Bool) (lines : List TraceLine) (judge : Judge) (line : TraceLine) → Keeps opened lines judge → Fits opened lines line → TellsNone line → Keeps opened (lines ++ line ∷ []) judge
keeps_without_event opened lines judge line k fits none = record {
  kept = record {
    lawful = lawful_push opened lines line k.kept.lawful fits (λ c.
        let P : List Event → Type 0 = λ h. IsLawful h in
        subst P (sym (history_same opened lines line c (none.event c))) (k.kept.lawful.histories c));
    each_channel = k.kept.each_channel;
    channels = λ c names. k.kept.channels c names ∙ sym (tally_same opened lines line c (none.event c));
    events = let more = count_more tells_event lines line in k.kept.events ∙ sym (more ∙ ap (λ (b : Bool). count_by tells_event lines + (if b then 1 else 0)) none.told ∙ add-zero (count_by tells_event lines));
    sessions = let more = count_more begins_session lines line in k.kept.sessions ∙ sym (more ∙ ap (λ (b : Bool). count_by begins_session lines + (if b then 1 else 0)) none.begins ∙ add-zero (count_by begins_session lines));
  };
  last_turn = k.last_turn ∙ sym (last_turn_same lines line none.turn);
}

pub nothing_told : TellsNone says.Other
nothing_told = record { event = λ c. refl; turn = refl; told = refl; begins = refl }

pub state_told : (channel : ℕ) (state : ChannelState) → TellsNone (says.Standing channel state)
state_told channel state = record { event = λ c. refl; turn = refl; told = refl; begins = refl }

-- ---- a line with an event

-- what is kept of a channel after one event more
abbrev pub tally_after : ChannelTally → ChannelState → ChannelTally
tally_after s state = record { state = state; events = s.events + 1; is_opened = s.is_opened }

pub tally_more : (opened : List Bool) (lines : List TraceLine) (line : TraceLine) (c : ℕ) (e : Event) → event_on c line ≡ Some e → tally opened (lines ++ line ∷ []) c ≡ tally_after (tally opened lines c) (channel_state (history opened lines c ++ e ∷ []))
unfolding tally
tally_more opened lines line c e is = grind (arith, history_more, events_more, length_push)

module _ (opened : List Bool) (lines : List TraceLine) (tallies : List ChannelTally) (line : TraceLine) (c : ℕ) (e : Event) (is : event_on c line ≡ Some e) (names : IsTrue (names_channel c)) (all : length tallies ≡ channel_count) where
  next : ChannelState → List ChannelTally
  next state = slice_set tallies (channel_index c) (tally_after (tally_of tallies c) state)

  pub tallies_more : (state : ChannelState) → state ≡ channel_state (history opened lines c ++ e ∷ []) → ((d : ℕ) → IsTrue (names_channel d) → tally_of tallies d ≡ tally opened lines d)
      → (d : ℕ) → IsTrue (names_channel d) → tally_of (slice_set tallies (channel_index c) (tally_after (tally_of tallies c) state)) d ≡ tally opened (lines ++ line ∷ []) d
  tallies_more state same kept d named = grind (arith, cases_eq, tally_after, get_or-set_same, channel_places.place_below, tally_more, get_or-set_other, channel_places.one_place, tally_same, event_line)

  histories_more : IsLawful (history opened lines c ++ e ∷ []) → IsLawfulTrace opened lines → (d : ℕ) → IsLawful (history opened (lines ++ line ∷ []) d)
  histories_more more lawful d = elim (cases_eq d c) [
    | inl at ↦
        let P : List Event → Type 0 = λ h. IsLawful h in
        subst P (sym (history_more opened lines line c e is) ∙ ap (λ (k : ℕ). history opened (lines ++ line ∷ []) k) (sym at)) more
    | inr other ↦
        let P : List Event → Type 0 = λ h. IsLawful h in
        subst P (sym (history_same opened lines line d ((event_line c e line is).elsewhere d other))) (lawful.histories d)
  ]

  pub keeps_event : (events sessions : ℕ) (state : ChannelState) → KeepsEvents opened lines tallies events sessions → Fits opened lines line → IsLawful (history opened lines c ++ e ∷ []) → state ≡ channel_state (history opened lines c ++ e ∷ [])
      → KeepsEvents opened (lines ++ line ∷ []) (slice_set tallies (channel_index c) (tally_after (tally_of tallies c) state)) (events + 1) (sessions + (if is_activate e then 1 else 0))
  keeps_event events sessions state k fits more same =
      let a_line = event_line c e line is in
      record {
        lawful = lawful_push opened lines line k.lawful fits (histories_more more k.lawful);
        each_channel = length-set tallies (channel_index c) (tally_after (tally_of tallies c) state) ∙ all;
        channels = tallies_more state same k.channels;
        events = ap (λ (n : ℕ). n + 1) k.events ∙ sym (count_more tells_event lines line ∙ ap (λ (b : Bool). count_by tells_event lines + (if b then 1 else 0)) a_line.told);
        sessions = ap (λ (n : ℕ). n + (if is_activate e then 1 else 0)) k.sessions ∙ sym (count_more begins_session lines line ∙ ap (λ (b : Bool). count_by begins_session lines + (if b then 1 else 0)) a_line.begins);
      }

-- ---- the number of the next event

length_opening : (b : Bool) (e : Event) (es : List Event) → length ((if b then e ∷ [] else []) ++ es) ≡ (if b then length es + 1 else length es)
length_opening true e es = grind (arith, length-append)
length_opening false e es = refl

-- the number of a channel's next event
abbrev pub next_number : ChannelTally → ℕ
next_number s = if s.is_opened then s.events + 1 else s.events

pub next_number_is : (opened : List Bool) (lines : List TraceLine) (c : ℕ) → next_number (tally opened lines c) ≡ length (history opened lines c)
unfolding tally
next_number_is opened lines c = sym (length_opening (is_opened opened c) Activate (events_on c lines))

-- ---- bounds

count_first : (p : TraceLine → Bool) (line : TraceLine) (lines : List TraceLine) → count_by p (line ∷ lines) ≡ (if p line then 1 else 0) + count_by p lines
count_first p line lines = sum_by-cons (λ x. if p x then 1 else 0) line lines

-- one line more with its event, or without one
event_by_test : (b : Bool) (told : Event) (es : List Event) (n : ℕ) → length es ≤ n → length (cons_option (if b then Some told else None) es) ≤ 1 + n
event_by_test true told es n rest = omega (arith, rest)
event_by_test false told es n rest = omega (arith, rest)

event_by_line : (c : ℕ) (line : TraceLine) (es : List Event) (n : ℕ) → length es ≤ n → length (cons_option (event_on c line) es) ≤ (if tells_event line then 1 else 0) + n
event_by_line c (says.AtTurn turn channel told) es n rest = event_by_test (channel == c) told es n rest
event_by_line c (says.Numbered number channel told) es n rest = event_by_test (channel == c) told es n rest
event_by_line c line es n rest = omega (arith, rest)

some_events : (c : ℕ) (lines : List TraceLine) → length (events_on c lines) ≤ count_by tells_event lines
unfolding events_on
some_events c [] = omega arith
some_events c (line ∷ lines) =
    let more = event_by_line c line (filter_map (event_on c) lines) (count_by tells_event lines) (some_events c lines) in
    subst (λ (n : ℕ). length (cons_option (event_on c line) (filter_map (event_on c) lines)) ≤ n) (sym (count_first tells_event line lines)) more

pub few_events : (opened : List Bool) (lines : List TraceLine) (judge : Judge) (c : ℕ) → KeepsEvents opened lines judge.channels judge.events judge.sessions → IsTrue (names_channel c) → (tally_of judge.channels c).events ≤ judge.events
unfolding tally
few_events opened lines judge c k names = grind (arith, some_events)

session_by_test : (b : Bool) (m n : ℕ) → m ≤ n → (if b then 1 else 0) + m ≤ 1 + n
session_by_test true m n rest = omega (arith, rest)
session_by_test false m n rest = omega (arith, rest)

session_by_line : (line : TraceLine) (m n : ℕ) → m ≤ n → (if begins_session line then 1 else 0) + m ≤ (if tells_event line then 1 else 0) + n
session_by_line (says.AtTurn turn channel told) m n rest = session_by_test (is_activate told) m n rest
session_by_line (says.Numbered number channel told) m n rest = session_by_test (is_activate told) m n rest
session_by_line line m n rest = omega (arith, rest)

-- each session that begins is an event
pub few_sessions : (lines : List TraceLine) → count_by begins_session lines ≤ count_by tells_event lines
few_sessions [] = omega arith
few_sessions (line ∷ lines) =
    let more = session_by_line line (count_by begins_session lines) (count_by tells_event lines) (few_sessions lines) in
    omega (arith, more, count_first begins_session line lines, count_first tells_event line lines)

-- ---- what is read and written at a channel's place

pub read_tally : (tallies : List ChannelTally) (c place : ℕ) (s : ChannelTally) → s ≡ get_or tallies place s → place ≡ channel_index c → place < channel_count → length tallies ≡ channel_count → get_or tallies place s ≡ tally_of tallies c
read_tally tallies c place s read at below all = grind (arith, get_or_read)

pub kept_as : (opened : List Bool) (lines : List TraceLine) (tallies others : List ChannelTally) (events m n : ℕ) → tallies ≡ others → m ≡ n → KeepsEvents opened lines tallies events m → KeepsEvents opened lines others events n
kept_as opened lines tallies others events m n same also k = grind arith

-- ---- the lines of events, and what they come to

pub at_turn_here : (turn c : ℕ) (e : Event) → event_on c (says.AtTurn turn c e) ≡ Some e
at_turn_here turn c e = ap (λ (b : Bool). if b then Some e else None) (eq-eqb c c refl)

pub numbered_here : (number c : ℕ) (e : Event) → event_on c (says.Numbered number c e) ≡ Some e
numbered_here number c e = ap (λ (b : Bool). if b then Some e else None) (eq-eqb c c refl)

pub judged_by : (opened : List Bool) (lines : List TraceLine) (line : TraceLine) (judge : Judge) (r : Result (Unit {0}) TraceFlaw) → judge.last_turn ≡ last_turn (lines ++ line ∷ []) → Happens opened lines line judge r → IsRead opened lines (Some line) judge r
judged_by opened lines line judge (Ok done) same k = record { kept = k; last_turn = same }
judged_by opened lines line judge (Err flaw) same k = k
