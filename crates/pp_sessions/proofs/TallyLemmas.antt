-- What the line of a stretch tells, with an event more.
use Rattle.std.proofs.Common.{◌≡◌, false, List, [], ◌∷◌, ◌++◌, length, None, Some, refl, sym, ap, ◌∙◌, arith}
use Rattle.std.specs.List.{last_or}
use Rattle.std.proofs.lemmas.List.{append-nil, length-append, length_push, map-append}
use Rattle.std.proofs.lemmas.List.Elements.{filter_map-append}
use Rattle.std.proofs.lemmas.List.Sums.{fold_push}
use Rattle.pp_channel.specs.Session.{puts, takes, word_put, word_taken}
use Rattle.pp_channel.specs.declared.event.Event.{Event}
use Rattle.pp_numbers.proofs.LastElements.{after_last-found, after_last-push, last_or-push}
use Rattle.pp_sessions.specs.OpenStretch.{untaken_after, with_event}
use Rattle.pp_sessions.specs.SessionsLaw.{TellsMoments}
use Rattle.pp_sessions.specs.Stretches.{begins_session, ends_session, tally_of, untaken}
use Rattle.pp_sessions.specs.TimedEvents.{events_in}
use Rattle.pp_sessions.specs.declared.{tally.TimedEvent.TimedEvent, tally.Tally.Tally}
use Rattle.pp_sessions.proofs.CutLemmas.{last_in}

pub untaken_more : (events : List Event) (e : Event) → untaken (events ++ e ∷ []) ≡ untaken_after e (untaken events)
untaken_more events e = grind (arith, last_or-push, after_last-found, after_last-push, filter_map-append, append-nil)

-- a stretch with an event more
tally_more : (first : TimedEvent) (others : List TimedEvent) (e : TimedEvent) → tally_of first (others ++ e ∷ []) ≡ with_event (tally_of first others) e
unfolding tally_of
tally_more first others e = with_fields (last_in first (others ++ e ∷ [])) (events_in (first ∷ others ++ e ∷ [])) (fold_push (λ before event. event) first others e) (map-append (λ (x : TimedEvent). x.event) (first ∷ others) (e ∷ []))
  where
    with_fields : (last : TimedEvent) (events : List Event) → last ≡ e → events ≡ events_in (first ∷ others) ++ e.event ∷ [] →
        record { is_session = begins_session first.event; has_ended = ends_session last.event; from = first.moment; to = last.moment; events = length events; put = length (puts events); taken = length (takes events); untaken = untaken events }
        ≡ with_event (record { is_session = begins_session first.event; has_ended = ends_session (last_in first others).event; from = first.moment; to = (last_in first others).moment; events = length (events_in (first ∷ others)); put = length (puts (events_in (first ∷ others))); taken = length (takes (events_in (first ∷ others))); untaken = untaken (events_in (first ∷ others)) }) e
    with_fields last events is_last are = rw (
      is_last,
      are,
      untaken_more (events_in (first ∷ others)) e.event,
      length_push (events_in (first ∷ others)) e.event,
      filter_map-append word_put (events_in (first ∷ others)) (e.event ∷ []),
      filter_map-append word_taken (events_in (first ∷ others)) (e.event ∷ []),
      length-append (puts (events_in (first ∷ others))) (puts (e.event ∷ [])),
      length-append (takes (events_in (first ∷ others))) (takes (e.event ∷ [])),
    ) refl

pub tally_with : (told more : Tally) (first : TimedEvent) (others : List TimedEvent) (e : TimedEvent) → more ≡ with_event told e → told ≡ tally_of first others → more ≡ tally_of first (others ++ e ∷ [])
tally_with told more first others e made is = made ∙ ap (λ (t : Tally). with_event t e) is ∙ sym (tally_more first others e)

pub tally_alone : (e : TimedEvent) → with_event (record { is_session = begins_session e.event; has_ended = false; from = e.moment; to = e.moment; events = 0; put = 0; taken = 0; untaken = None }) e ≡ tally_of e []
unfolding tally_of
tally_alone e = grind (arith, untaken_more)

last_is : (first : TimedEvent) (others : List TimedEvent) → last_or (Some first) others ≡ Some (last_in first others)
last_is first [] = refl
last_is first (next ∷ others) = last_is next others

-- the turns of a stretch are those of its first event and its last
pub moments_told : (first : TimedEvent) (others : List TimedEvent) → TellsMoments first others (tally_of first others)
unfolding tally_of
moments_told first others = grind (arith, last_is)
