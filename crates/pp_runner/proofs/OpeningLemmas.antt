-- The opening line, one channel after another.
use Rattle.std.proofs.Common.{◌≡◌, ◌≢◌, ℕ, ◌+◌, ◌<◌, ◌≤◌, Bool, true, false, List, [], ◌∷◌, ◌++◌, length, sym, ap, ◌∙◌, ⊎_elim, arith}
use mathlib.Core.Logic.{dite}
use native.Mathlib.Decide.{ℕ_discrete}
use Rattle.std.specs.Prelude.{if◌then◌else◌, nat_lt}
use Rattle.std.proofs.lemmas.Bool.{cases_lt, lt-ltb, le-ltb}
use Rattle.std.proofs.lemmas.List.{get_or_past}
use Rattle.pp_numbers.specs.ChannelNo.{channel_places, channel_count, channel_index, channel_number}
use Rattle.pp_line.specs.LineState.{LineState}
use Rattle.pp_line.specs.Merge.{IsOpeningLog, times_logged}
use Rattle.pp_line.specs.LineLog.{IsWithin, event_entry}
use Rattle.pp_runner.specs.Types.{Entry, Event}
use Rattle.pp_channel.specs.declared.event.Event.TheVariants.{Activate}
use Rattle.pp_line.proofs.MergeLemmas.{times_within}
use Rattle.pp_line.proofs.OpeningLemmas.{opening_more, opening_same}
use Rattle.pp_machine.specs.Headline.{opening_history}
use Rattle.pp_machine.specs.MachineState.{MachineState, is_opened}
use Rattle.pp_runner.specs.WorkerState.{HasSeen}

-- the opening histories of the channels before a place
abbrev pub opened_before : ℕ → MachineState → ℕ → List Event
opened_before place m c = if nat_lt (channel_index c) place then opening_history c m else []

-- No other number has the place of a channel.
own_place : (c place : ℕ) → place < channel_count → channel_index c ≡ place → c ≡ channel_number place
own_place c place below is = channel_places.one_place (channel_number place) c (channel_places.number_named place below) (is ∙ sym (channel_places.place_of_number place below))

before_it : (place : ℕ) (m : MachineState) (c : ℕ) → channel_index c < place → opened_before place m c ≡ opening_history c m
before_it place m c l = ap (λ b. if b then opening_history c m else []) (lt-ltb (channel_index c) place l)

not_before_it : (place : ℕ) (m : MachineState) (c : ℕ) → place ≤ channel_index c → opened_before place m c ≡ []
not_before_it place m c l = ap (λ b. if b then opening_history c m else []) (le-ltb (channel_index c) place l)

-- every other channel is before the next place where it is before this one
same_before : (place : ℕ) (m : MachineState) (c : ℕ) → place < channel_count → c ≢ channel_number place → opened_before (place + 1) m c ≡ opened_before place m c
same_before place m c below other = grind (arith, before_it, own_place, not_before_it, cases_lt)

-- the channel at a place has not been told of before
pub unlogged : (place : ℕ) (m : MachineState) (log : List Entry) → place < channel_count → IsOpeningLog (opened_before place m) log → times_logged (channel_number place) 0 log ≡ 0
unlogged place m log below is =
    let here = channel_places.place_of_number place below in
    let none : length (opened_before place m (channel_number place)) ≡ 0 = ap length (not_before_it place m (channel_number place) (omega (arith, here))) in
    is.no_other (channel_number place) 0 (omega (arith, none))

-- one that dead start opened
pub one_opened : (place : ℕ) (m : MachineState) (log : List Entry) → place < channel_count → is_opened (channel_number place) m ≡ true → IsOpeningLog (opened_before place m) log → IsOpeningLog (opened_before (place + 1) m) (log ++ event_entry (channel_number place) 0 Activate ∷ [])
one_opened place m log below opened is =
    let here = channel_places.place_of_number place below in
    opening_more (opened_before place m) (opened_before (place + 1) m) (channel_number place) log
    (not_before_it place m (channel_number place) (omega (arith, here)))
    (before_it (place + 1) m (channel_number place) (omega (arith, here)) ∙ ap (λ b. if b then Activate ∷ [] else []) opened)
    (λ c other. same_before place m c below other) is

-- one that it did not open
pub one_not_opened : (place : ℕ) (m : MachineState) (log : List Entry) → place < channel_count → is_opened (channel_number place) m ≡ false → IsOpeningLog (opened_before place m) log → IsOpeningLog (opened_before (place + 1) m) log
one_not_opened place m log below not_opened is =
    let here = channel_places.place_of_number place below in
    let n = channel_number place in
    let now : opened_before place m n ≡ opened_before (place + 1) m n =
    not_before_it place m n (omega (arith, here))
    ∙ sym (before_it (place + 1) m n (omega (arith, here)) ∙ ap (λ b. if b then Activate ∷ [] else []) not_opened) in
    opening_same (opened_before place m) (opened_before (place + 1) m) log
    (λ c. dite (ℕ_discrete c n) (λ (e : c ≡ n). ap (opened_before place m) e ∙ now ∙ sym (ap (opened_before (place + 1) m) e)) (λ (other : c ≢ n). sym (same_before place m c below other))) is

-- all channels were gone over; a number that names none has no opening history
pub all_opened : (m : MachineState) (log : List Entry) → length m.opened ≡ channel_count → IsOpeningLog (opened_before channel_count m) log → IsOpeningLog (λ c. opening_history c m) log
all_opened m log each is =
    opening_same (opened_before channel_count m) (λ c. opening_history c m) log
    (λ c. ⊎_elim (λ (l : channel_index c < channel_count). before_it channel_count m c l)
    (λ (l : channel_count ≤ channel_index c).
    not_before_it channel_count m c l ∙ sym (ap (λ b. if b then Activate ∷ [] else []) (get_or_past m.opened (channel_index c) false (omega (arith, each, l))))) (cases_lt (channel_index c) channel_count)) is

few_opened : (opened : Bool) → length (if opened then Activate ∷ [] else []) ≤ 1
few_opened true = omega arith
few_opened false = omega arith

-- a line has seen the opening histories of which its log tells
pub opened_seen : (m : MachineState) (line : LineState) → IsWithin line.view.seen line.log.entries → IsOpeningLog (λ c. opening_history c m) line.log.entries → HasSeen (λ c. length (opening_history c m)) line
opened_seen m line within is = record {
  countable = λ c. let few : length (opening_history c m) ≤ 1 = few_opened (is_opened c m) in omega (arith, few);
  seen = λ c.
      let few : length (opening_history c m) ≤ 1 = few_opened (is_opened c m) in
      ⊎_elim (λ (some : 0 < length (opening_history c m)).
      let told = is.once c 0 some in
      let seen = times_within c 0 line.view.seen line.log.entries within (omega (arith, told)) in
      omega (arith, few, seen))
      (λ (none : length (opening_history c m) ≤ 0). omega (arith, none)) (cases_lt 0 (length (opening_history c m)));
}
