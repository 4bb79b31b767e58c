-- What an event leaves of the headline.
use Rattle.std.proofs.Common.{◌≡◌, ◌≢◌, ℕ, zero, suc, ◌<◌, false, IsTrue, List, [], ◌∷◌, ◌++◌, length, replicate, slice_set, get_or, refl, append_assoc, eq-eqb, inl, inr, get_or-set_same, get_or-set_other, arith}
use Rattle.std.proofs.lemmas.List.{append-nil}
use Rattle.std.proofs.lemmas.List.Elements.{filter_map-append}
use Rattle.std.proofs.lemmas.Bool.{ne_eqb}
use Rattle.std.proofs.lemmas.Bool.Decides.{eqb_tells}
use Rattle.pp_numbers.specs.ChannelNo.{names_channel, channel_index}
use Rattle.pp_channel.specs.History.{IsLawful}
use Rattle.pp_channel.specs.Law.{KeepsLaw}
use Rattle.pp_channel.specs.declared.event.Event.{Event}
use Rattle.pp_machine.specs.Headline.{HoldsOnChannel, events_on}
use Rattle.pp_machine.specs.declared.trace.Trace.{Trace}

-- each of a row of channels without history has none, also past the last
empty_at : (n c : ℕ) → get_or (replicate n (let h : List Event = [] in h)) c [] ≡ []
empty_at zero c = refl
empty_at (suc n) zero = refl
empty_at (suc n) (suc c) = empty_at n c

-- the headline holds of channels without history
pub headline_of_none : (hs : List (List Event)) (n : ℕ) (h : List Event) → hs ≡ replicate n [] → h ≡ [] → IsLawful h → KeepsLaw h → (c : ℕ) → HoldsOnChannel [] [] (get_or hs c [])
headline_of_none hs n h is none lawful law c = grind (arith, empty_at)

-- the channel of the event
on_own : (opening before : List Event) (trace : List Trace) (entry : Trace) (after : List Event) → HoldsOnChannel opening (events_on entry.channel trace) before → after ≡ before ++ entry.event ∷ [] → IsLawful after → KeepsLaw after → HoldsOnChannel opening (events_on entry.channel (trace ++ entry ∷ [])) after
on_own opening before trace entry after old is lawful law = grind (arith, append_assoc, filter_map-append, eq-eqb)

-- any other channel
on_other : (d : ℕ) (opening history : List Event) (trace : List Trace) (entry : Trace) → entry.channel ≢ d → HoldsOnChannel opening (events_on d trace) history → HoldsOnChannel opening (events_on d (trace ++ entry ∷ [])) history
on_other d opening history trace entry apart old = grind (arith, append-nil, filter_map-append, ne_eqb)

-- the headline with one more event, whose entry of the trace names its channel
pub headline_after_event : (opening : ℕ → List Event) (before after : List (List Event)) (trace : List Trace) (entry : Trace)
    → after ≡ slice_set before (channel_index entry.channel) (get_or before (channel_index entry.channel) [] ++ entry.event ∷ [])
    → channel_index entry.channel < length before
    → IsTrue (names_channel entry.channel)
    → ((d : ℕ) → IsTrue (names_channel d) → channel_index d ≡ channel_index entry.channel → d ≡ entry.channel)
    → ((d : ℕ) → IsTrue (names_channel d) → HoldsOnChannel (opening d) (events_on d trace) (get_or before (channel_index d) []))
    → IsLawful (get_or after (channel_index entry.channel) [])
    → KeepsLaw (get_or after (channel_index entry.channel) [])
    → (d : ℕ) → IsTrue (names_channel d) → HoldsOnChannel (opening d) (events_on d (trace ++ entry ∷ [])) (get_or after (channel_index d) [])
headline_after_event opening before after trace entry is within named own old lawful law d names =
    let i = channel_index entry.channel in
    elim (eqb_tells (channel_index d) i) as (λ _. HoldsOnChannel (opening d) (events_on d (trace ++ entry ∷ [])) (get_or after (channel_index d) [])) [
      | inl same ↦ grind (arith, get_or-set_same, on_own)
      | inr apart ↦ grind (arith, get_or-set_other, on_other)
    ]

-- no channel is opened where none is
pub none_opened : (n c : ℕ) → get_or (replicate n false) c false ≡ false
none_opened zero c = refl
none_opened (suc n) zero = refl
none_opened (suc n) (suc c) = none_opened n c
