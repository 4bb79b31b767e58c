-- The law of the words that pass on a channel, over every session of its history.
-- In every session the words taken are the first of the words put, in their order, and at most one
-- word put is not taken. It waits in the register, or it is lost if a Disconnect finds the channel
-- full. No word is put or taken outside a session; function codes are sent there.
use Rattle.std.specs.Prelude.{◌≡◌, ◌≢◌, ℕ, ◌+◌, ◌≤◌, List, [], ◌∷◌, ◌++◌, length, IsTrue, All, Some, None}
use Rattle.std.specs.List.{last_or}
use Rattle.pp_channel.specs.declared.event.Event.{Event}
use Rattle.pp_channel.specs.History.{active, full, waiting}
use Rattle.pp_channel.specs.Session.{puts, takes}

-- A session of h up to some moment: an Activate after the events `before`, and then `inside`, in
-- which no Disconnect comes; `after` is the rest of h.
pub record IsSession (h before inside after : List Event) : Type 0 where
  pub place : h ≡ before ++ Event.Activate ∷ inside ++ after
  pub unbroken : All (λ e. e ≢ Event.Disconnect) inside

abbrev pub IsPrefix : {X : Type 0} → List X → List X → Type 0
IsPrefix {X} some all = (others : List X) × (some ++ others ≡ all)

-- the words taken are the first of the words put, and all but at most one
pub record PassesInOrder (inside : List Event) : Type 0 where
  pub in_order : IsPrefix (takes inside) (puts inside)
  pub all_but_one : length (puts inside) ≤ length (takes inside) + 1

-- all words put were taken but w
abbrev pub IsUntaken : List Event → ℕ → Type 0
IsUntaken inside w = puts inside ≡ takes inside ++ w ∷ []

-- after the events h the channel is full with w, whose Put is the last event
pub record IsFullWith (h : List Event) (w : ℕ) : Type 0 where
  pub is_full : IsTrue (full h)
  pub waits : waiting h ≡ Some w
  pub put_last : last_or None h ≡ Some (Event.Put w)

pub record KeepsLaw (h : List Event) : Type 0 where
  -- at every moment of every session
  pub in_order : (before inside after : List Event)
      → IsSession h before inside after → PassesInOrder inside
  -- a word that is not taken when a Disconnect ends the session: the Disconnect finds the channel
  -- full with it, and comes directly after its Put
  pub lost : (before inside later : List Event) (w : ℕ)
      → IsSession h before inside (Event.Disconnect ∷ later) → IsUntaken inside w
      → IsFullWith (before ++ Event.Activate ∷ inside) w
  -- a word that is not taken in the session that is open
  pub kept : (before inside : List Event) (w : ℕ)
      → IsSession h before inside [] → IsUntaken inside w → IsFullWith h w
  -- outside a session
  pub no_put_outside : (before later : List Event) (w : ℕ)
      → h ≡ before ++ Event.Put w ∷ later → IsTrue (active before)
  pub no_take_outside : (before later : List Event) (w : ℕ)
      → h ≡ before ++ Event.Take w ∷ later → IsTrue (active before)
