-- Which answers fit, answers that are all given, and replays, an answer at a time.
use Rattle.std.proofs.Common.{◌≡◌, ℕ, Bool, true, false, Option, None, Some, refl, suc, ◌+◌, List, [], ◌∷◌, ◌++◌, length, if◌then◌else◌, ap, ◌∙◌, arith, append_assoc, append-nil, ◌<◌, ◌≤◌, drop, get_or}
use Rattle.std.specs.Prelude.{if◌then◌else◌}
use Rattle.pp_channel.specs.Answer.{event_with, only_looks, operation_of, ready_at, reply_by, reply_made, reply_shown, seen_answered, state_reply}
use Rattle.pp_channel.specs.declared.{chan_op.ChanOp.ChanOp, channel_state.ChannelState.ChannelState, seen.Seen.Seen, event.Event.Event, flags.Flags.Flags, reply.Reply.Reply}
use Rattle.pp_channel.specs.declared.seen.Seen.TheVariants.{Did, Saw}
use Rattle.pp_processor.specs.Replay.{reply_fits, fits, replayed, given_count, collected_along, contribution}
use Rattle.pp_processor.specs.NeedAndEffect.{need, processor_after}
use Rattle.pp_processor.specs.Processor.{Processor}
use Rattle.pp_processor.specs.declared.answer.Answer.{Answer}
use Rattle.std.proofs.lemmas.List.{drop_more, drop_all}
use Rattle.pp_channel.specs.declared.chan_op.ChanOp.TheVariants as operations
use Rattle.pp_channel.specs.declared.event.Event.TheVariants as events
use Rattle.pp_channel.specs.declared.reply.Reply.TheVariants as replies

-- the reply to an operation that makes an event fits it
pub made_fits : (e : Event) → reply_fits (operation_of e) (reply_made e) ≡ true
made_fits events.Activate = refl
made_fits events.Disconnect = refl
made_fits (events.Put w) = refl
made_fits (events.Take w) = refl
made_fits (events.Function w) = refl

-- and so does the reply if it makes none
pub shown_fits : (op : ChanOp) (state : ChannelState) → reply_fits op (reply_shown op state) ≡ true
shown_fits operations.Probe state = refl
shown_fits op state = refl

-- so each reply of a channel fits
fits_where : (ready : Bool) (op : ChanOp) (state : ChannelState) (word : Option ℕ)
    → reply_fits op (reply_by op state (if ready then event_with op word else None)) ≡ true
fits_where false op state word = shown_fits op state
fits_where true operations.Take state None = refl
fits_where true operations.Take state (Some w) = refl
fits_where true op state word = refl

pub state_fits : (op : ChanOp) (state : ChannelState) → reply_fits op (state_reply op state) ≡ true
state_fits op state = fits_where (ready_at op state.flags) op state state.register

-- Held fits each operation of an event
pub held_fits : (e : Event) (f : Flags) → reply_fits (operation_of e) (replies.Held f) ≡ true
held_fits events.Activate f = refl
held_fits events.Disconnect f = refl
held_fits (events.Put w) f = refl
held_fits (events.Take w) f = refl
held_fits (events.Function w) f = refl

-- and none that only looks
pub acts_where_held : (op : ChanOp) (f : Flags) → reply_fits op (replies.Held f) ≡ true
    → only_looks op ≡ false
acts_where_held operations.Probe f fits = absurd cc
acts_where_held op f fits = refl

-- a reply that fits determines what the operation did or saw
pub tells_where_fits : (op : ChanOp) (reply : Reply) → reply_fits op reply ≡ true
    → (what : Seen) × (seen_answered op reply ≡ Some what)
tells_where_fits op (replies.Flags f) fits = (Saw f, refl)
tells_where_fits op (replies.Held f) fits = (Saw f, refl)
tells_where_fits operations.Activate replies.Done fits = (Did events.Activate, refl)
tells_where_fits operations.Disconnect replies.Done fits = (Did events.Disconnect, refl)
tells_where_fits (operations.Put w) replies.Done fits = (Did (events.Put w), refl)
tells_where_fits (operations.Function w) replies.Done fits = (Did (events.Function w), refl)
tells_where_fits operations.Take (replies.Word w) fits = (Did (events.Take w), refl)
tells_where_fits op reply fits = absurd cc

-- each of these answers fits where it is given, and they leave this processor
abbrev pub Gives : Processor → List Answer → Processor → Type 0
Gives pp [] new = pp ≡ new
Gives pp (x ∷ xs) new = (fits (need pp) x ≡ true) × Gives (processor_after pp x) xs new

pub replayed-Gives : (xs : List Answer) (pp new : Processor) → Gives pp xs new
    → replayed pp xs ≡ new
unfolding replayed
replayed-Gives [] pp new g = g
replayed-Gives (x ∷ xs) pp new g = rw g.0 (replayed-Gives xs (processor_after pp x) new g.1)

pub given_count-Gives : (xs : List Answer) (pp new : Processor) → Gives pp xs new
    → given_count pp xs ≡ length xs
unfolding given_count
given_count-Gives [] pp new g = refl
given_count-Gives (x ∷ xs) pp new g = grind (arith, given_count-Gives xs (processor_after pp x) new g.1)

-- answers that are all counted are all given
counted-cons : (b : Bool) (m n : ℕ) → (if b then m + 1 else 0) ≡ suc n → (b ≡ true) × (m ≡ n)
counted-cons true m n e = (refl, omega arith)
counted-cons false m n e = absurd (omega arith)

pub Gives-counted : (xs : List Answer) (pp : Processor) → given_count pp xs ≡ length xs
    → Gives pp xs (replayed pp xs)
unfolding given_count replayed
Gives-counted [] pp e = refl
Gives-counted (x ∷ xs) pp e =
    let front =
    counted-cons (fits (need pp) x) (given_count (processor_after pp x) xs) (length xs) e in
    (front.0, rw front.0 (Gives-counted xs (processor_after pp x) front.1))

pub Gives-cons : (pp middle new : Processor) (x : Answer) (xs : List Answer)
    → fits (need pp) x ≡ true → processor_after pp x ≡ middle → Gives middle xs new
    → Gives pp (x ∷ xs) new
Gives-cons pp middle new x xs f e g = (f, rw e g)

pub Gives-to : (pp new other : Processor) (xs : List Answer) → Gives pp xs new → new ≡ other
    → Gives pp xs other
Gives-to pp new other xs g e = rw (← e) g

pub Gives-append : (xs ys : List Answer) (pp middle new : Processor) → Gives pp xs middle
    → Gives middle ys new → Gives pp (xs ++ ys) new
Gives-append [] ys pp middle new g h = rw g h
Gives-append (x ∷ xs) ys pp middle new g h = grind (arith, Gives-append xs ys (processor_after pp x) middle new g.1 h)

-- one more answer, if all before it are given and it fits

pub replayed-push : (xs : List Answer) (pp : Processor) (x : Answer) → given_count pp xs ≡ length xs
    → fits (need (replayed pp xs)) x ≡ true
    → replayed pp (xs ++ x ∷ []) ≡ processor_after (replayed pp xs) x
replayed-push xs pp x e f =
    replayed-Gives (xs ++ x ∷ []) pp _
    (Gives-append xs (x ∷ []) pp (replayed pp xs) _ (Gives-counted xs pp e) (f, refl))

pub given_count-push : (xs : List Answer) (pp : Processor) (x : Answer)
    → given_count pp xs ≡ length xs → fits (need (replayed pp xs)) x ≡ true
    → given_count pp (xs ++ x ∷ []) ≡ length (xs ++ x ∷ [])
given_count-push xs pp x e f =
    given_count-Gives (xs ++ x ∷ []) pp _
    (Gives-append xs (x ∷ []) pp (replayed pp xs) (processor_after (replayed pp xs) x)
    (Gives-counted xs pp e) (f, refl))

collected_along-Gives : {X : Type 0} (tells : ChanOp → Reply → Option X) (xs : List Answer)
    (pp new : Processor) (x : Answer) → Gives pp xs new → fits (need new) x ≡ true
    → collected_along tells pp (xs ++ x ∷ [])
    ≡ collected_along tells pp xs ++ contribution tells (need new) x
unfolding collected_along
collected_along-Gives tells [] pp new x g f = grind (arith, append-nil)
collected_along-Gives tells (y ∷ xs) pp new x g f = grind (arith, append_assoc, collected_along-Gives tells xs (processor_after pp y) new x g.1 f)

pub collected_along-push : {X : Type 0} (tells : ChanOp → Reply → Option X) (xs : List Answer)
    (pp : Processor) (x : Answer) → given_count pp xs ≡ length xs
    → fits (need (replayed pp xs)) x ≡ true
    → collected_along tells pp (xs ++ x ∷ [])
    ≡ collected_along tells pp xs ++ contribution tells (need (replayed pp xs)) x
collected_along-push tells xs pp x e f =
    collected_along-Gives tells xs pp (replayed pp xs) x (Gives-counted xs pp e) f

-- the answers from i on are the one at i and the rest
drop-front : (xs : List Answer) (i : ℕ) (x : Answer) → i < length xs → get_or xs i x ≡ x →
    drop i xs ≡ x ∷ drop (i + 1) xs
drop-front xs i x h e = drop_more xs i x h ∙ ap (λ y. y ∷ drop (i + 1) xs) e

pub replayed_more : (pp : Processor) (xs : List Answer) (i : ℕ) (x : Answer) → i < length xs → get_or xs i x ≡ x →
    fits (need pp) x ≡ true → replayed (processor_after pp x) (drop (i + 1) xs) ≡ replayed pp (drop i xs)
unfolding replayed
replayed_more pp xs i x h e f = rw (drop-front xs i x h e, f) refl

pub replayed_stops : (pp : Processor) (xs : List Answer) (i : ℕ) (x : Answer) → i < length xs → get_or xs i x ≡ x →
    fits (need pp) x ≡ false → replayed pp (drop i xs) ≡ pp
unfolding replayed
replayed_stops pp xs i x h e f = rw (drop-front xs i x h e, f) refl

pub replayed_end : (pp : Processor) (xs : List Answer) (i : ℕ) → length xs ≤ i → replayed pp (drop i xs) ≡ pp
unfolding replayed
replayed_end pp xs i h = rw (drop_all i xs h) refl

pub given_count_more : (pp : Processor) (xs : List Answer) (i : ℕ) (x : Answer) → i < length xs →
    get_or xs i x ≡ x → fits (need pp) x ≡ true →
    given_count pp (drop i xs) ≡ given_count (processor_after pp x) (drop (i + 1) xs) + 1
unfolding given_count
given_count_more pp xs i x h e f = rw (drop-front xs i x h e, f) refl

pub given_count_stops : (pp : Processor) (xs : List Answer) (i : ℕ) (x : Answer) → i < length xs →
    get_or xs i x ≡ x → fits (need pp) x ≡ false → given_count pp (drop i xs) ≡ 0
unfolding given_count
given_count_stops pp xs i x h e f = rw (drop-front xs i x h e, f) refl

pub given_count_end : (pp : Processor) (xs : List Answer) (i : ℕ) → length xs ≤ i → given_count pp (drop i xs) ≡ 0
unfolding given_count
given_count_end pp xs i h = rw (drop_all i xs h) refl

pub ruleset replays = (replayed_more, replayed_stops, given_count_more, given_count_stops, replayed_end, given_count_end)
