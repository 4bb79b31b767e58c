-- What happens on a channel from one Activate to the next Disconnect, and the words that pass.
-- (Manual 60100000, data channels: a register of one word. A processor puts a word into it while it
-- is empty, another takes the word, and then the next may come.)
use Rattle.std.specs.Prelude.{ℕ, List, [], ◌∷◌, ◌++◌, map, Option, Some, None, option_to_list, filter_map, flat_map}
use Rattle.pp_channel.specs.declared.event.Event.{Event}

-- A session: the words put and then taken, in order, and perhaps a last word, put and not taken.
pub record Session : Type 0 where
  pub passed : List ℕ
  pub lone : Option ℕ

-- its events: Activate, a Put and a Take for each word that passed, and a Put for the lone word
abbrev pub body : Session → List Event
body s = Event.Activate ∷ flat_map (λ w. Event.Put w ∷ Event.Take w ∷ []) s.passed
    ++ map (λ w. Event.Put w) (option_to_list s.lone)

abbrev pub word_put : Event → Option ℕ
word_put (Event.Put w) = Some w
word_put _ = None

abbrev pub word_taken : Event → Option ℕ
word_taken (Event.Take w) = Some w
word_taken _ = None

abbrev pub puts : List Event → List ℕ
puts events = filter_map word_put events

abbrev pub takes : List Event → List ℕ
takes events = filter_map word_taken events
