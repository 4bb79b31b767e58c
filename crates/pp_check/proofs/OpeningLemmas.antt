-- What the judge keeps before the first line.
use Rattle.std.proofs.Common.{◌≡◌, ℕ, ◌<◌, ◌≤◌, Bool, true, false, List, [], ◌∷◌, ◌++◌, length, get_or, replicate, None, refl, sym, ap, ◌∙◌, subst, arith}
use Rattle.std.specs.Prelude.{◌&&◌, IsTrue, nat_lt, if◌then◌else◌}
use Rattle.std.proofs.lemmas.Bool.{le-ltb, lt-ltb}
use Rattle.std.proofs.lemmas.List.{append-nil, get_or-replicate}
use Rattle.pp_channel.proofs.AnswerLemmas.{lawful_with_event}
use Rattle.pp_numbers.specs.ChannelNo.{channel_places, channel_count, names_channel}
use Rattle.pp_channel.proofs.HistoryLemmas.{lawful_empty}
use Rattle.pp_channel.specs.History.{IsLawful}
use Rattle.pp_channel.specs.declared.chan_op.ChanOp.TheVariants as operations
use Rattle.pp_channel.specs.declared.event.Event.{Event}
use Rattle.pp_channel.specs.declared.event.Event.TheVariants.{Activate}
use Rattle.pp_check.specs.Judge.{Keeps, new_tally, tally, tally_of}
use Rattle.pp_check.specs.LawfulTrace.{IsLawfulTrace, events_on, history, is_opened, last_turn, opening, turns}
use Rattle.pp_check.specs.TraceLine.{empty}
use Rattle.pp_check.specs.declared.channel_tally.ChannelTally.{ChannelTally}

-- of a channel that was opened
abbrev pub opened_tally : ChannelTally
opened_tally = record { state = empty; events = 0; is_opened = true }

abbrev pub tally_by : Bool → ChannelTally
tally_by is_open = if is_open then opened_tally else new_tally

-- the tallies of the first n places at which these channels are open; behind them nothing is told
abbrev pub AreOpenedTo : ℕ → List Bool → List ChannelTally → Type 0
AreOpenedTo n opened tallies = (k : ℕ) → k < channel_count → get_or tallies k new_tally ≡ tally_by (nat_lt k n && get_or opened k false)

-- ---- no channel, and all channels

pub none_opened : (opened : List Bool) → AreOpenedTo 0 opened (replicate channel_count new_tally)
none_opened opened k below =
    get_or-replicate channel_count k new_tally new_tally below
    ∙ ap (λ (b : Bool). tally_by (b && get_or opened k false)) (sym (le-ltb k 0 (omega arith)))

-- all places
pub all_opened : (n : ℕ) (opened : List Bool) (tallies : List ChannelTally) → channel_count ≤ n → AreOpenedTo n opened tallies → (c : ℕ) → IsTrue (names_channel c) → tally_of tallies c ≡ tally_by (is_opened opened c)
all_opened n opened tallies past are c names = grind (arith, channel_places.place_below, tally_by, lt-ltb)

-- ---- before the first line

no_events : (c : ℕ) → events_on c [] ≡ []
unfolding events_on
no_events c = refl

first_history : (opened : List Bool) (c : ℕ) → history opened [] c ≡ opening opened c
first_history opened c = ap (λ (es : List Event). opening opened c ++ es) (no_events c) ∙ append-nil (opening opened c)

pub lawful_opening : (b : Bool) → IsLawful (if b then Activate ∷ [] else [])
lawful_opening true = (lawful_with_event [] operations.Activate Activate lawful_empty refl)
lawful_opening false = lawful_empty

tally_is : (opened : List Bool) (c : ℕ) → tally_by (is_opened opened c) ≡ tally opened [] c
unfolding tally events_on
tally_is opened c = grind (arith, tally_by)

pub lawful_start : (opened : List Bool) → IsLawfulTrace opened []
lawful_start opened = record {
  histories = λ c. let P : List Event → Type 0 = λ h. IsLawful h in subst P (sym (first_history opened c)) (lawful_opening (is_opened opened c));
  each_fits = λ k less. absurd (omega (arith, less));
}

no_turn : last_turn [] ≡ None
unfolding last_turn turns
no_turn = refl

pub keeps_opening : (n : ℕ) (opened : List Bool) (tallies : List ChannelTally) → channel_count ≤ n → length tallies ≡ channel_count → AreOpenedTo n opened tallies → Keeps opened [] (record { channels = tallies; last_turn = None; events = 0; sessions = 0 })
keeps_opening n opened tallies past all are = record {
  kept = record {
    lawful = lawful_start opened;
    each_channel = all;
    channels = λ c names. all_opened n opened tallies past are c names ∙ tally_is opened c;
    events = refl;
    sessions = refl;
  };
  last_turn = sym no_turn;
}
