-- What is shown of a machine tells the history of each of its channels: the text has the events of the
-- trace, and they tell whether an Activate of dead start stands in front of them.
use Rattle.std.proofs.Common.{◌≡◌, ◌∙◌, Bool, true, false, List, [], ◌∷◌, ◌++◌, Option, Some, None, sym, ap, arith}
use Rattle.std.specs.Prelude.{◌↔◌, if◌then◌else◌}
use Rattle.pp_channel.specs.History.{IsLawful}
use Rattle.pp_channel.specs.declared.event.Event.{Event}
use Rattle.pp_channel.specs.declared.event.Event.TheVariants.{Activate}
use Rattle.pp_channel.proofs.HistoryLemmas.{state_at}
use Rattle.pp_channel.proofs.HistoryWalk.{State, Inactive, Empty, step, walk, walk_none}
use Rattle.pp_machine.specs.Headline.{HoldsOnEachChannel, events_on, opening_history}
use Rattle.pp_machine.specs.MachineState.{MachineState, history_of, is_opened}
use Rattle.pp_text.specs.TextLaw.{AgreeOnText, AreSameHistories}

-- whether anything has happened on a channel
abbrev pub is_used : List Event → Bool
is_used [] = false
is_used (e ∷ h) = true

pub both_used : (h other : List Event) → (h ≡ []) ↔ (other ≡ []) → is_used h ≡ is_used other
both_used h other both = grind arith

abbrev opening : Bool → List Event
opening is_open = if is_open then Activate ∷ [] else []

-- no history goes on from a step that is not allowed
goes_on : (o : Option State) (events : List Event) (s : State) → walk o events ≡ Some s → o ≡ None → ⊥
goes_on o events s is none = grind (arith, walk_none, walk)

-- no event is allowed both on an inactive channel and on one that was just opened
not_both : (e : Event) → (step Inactive e ≡ None → ⊥) → (step Empty e ≡ None → ⊥) → ⊥
not_both e inactive empty = grind arith

-- so one of two histories with the same later events can't be opened alone
not_opened_alone : (events : List Event) → IsLawful (Activate ∷ events) → IsLawful events → is_used (Activate ∷ events) ≡ is_used events → ⊥
not_opened_alone [] opened closed used = cc
not_opened_alone (e ∷ events) opened closed used =
    let after = state_at (Activate ∷ e ∷ events) opened in
    let alone = state_at (e ∷ events) closed in
    not_both e (goes_on (step Inactive e) events alone.0 alone.1) (goes_on (step Empty e) events after.0 after.1)

-- two histories of a channel, each its opening history followed by the same events
pub one_history : (a b : Bool) (events h other : List Event) → h ≡ opening a ++ events → other ≡ opening b ++ events → IsLawful h → IsLawful other
    → is_used h ≡ is_used other → h ≡ other
one_history a b events h other is also lawful keeps used = grind (arith, is_used, not_opened_alone)

pub text_tells_histories : (named others : List Bool) (one other : MachineState) → HoldsOnEachChannel one → HoldsOnEachChannel other → AgreeOnText named others one other
    → AreSameHistories one.histories other.histories
text_tells_histories named others one other holds also agree c is =
    one_history (is_opened c one) (is_opened c other) (events_on c one.trace) (history_of c one) (history_of c other) (holds c is).traced
    ((also c is).traced ∙ ap (λ trace. opening_history c other ++ events_on c trace) (sym agree.trace)) (holds c is).lawful (also c is).lawful (both_used (history_of c one) (history_of c other) (agree.channels c is).unused)
