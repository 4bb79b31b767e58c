-- The words of a stretch, entry by entry.
use Rattle.std.proofs.Common.{◌≡◌, ℕ, ◌+◌, ◌%◌, ◌<◌, ◌≤◌, List, [], ◌∷◌, ◌++◌, length, take, get_or, Some, sym, ap, ◌∙◌, append_assoc, ◌⊎◌, arith}
use Rattle.std.proofs.lemmas.List.{append-nil, take_all}
use Rattle.pp_channel.specs.declared.event.Event.{Event}
use Rattle.pp_channel.specs.declared.event.Event.TheVariants.{Function, Put}
use Rattle.pp_machine.specs.declared.trace.Trace.{Trace}
use Rattle.pp_sessions.specs.SessionsText.{one_word, words_from}
use Rattle.pp_sessions.specs.Stretches.{word_of, words_in}
use Rattle.pp_sessions.specs.TimedEvents.{timed_on}
use Rattle.pp_sessions.proofs.TakeInLemmas.{entry_on, timed_more, words_more}

pub word_either : (e : Event) (word : ℕ) → (e ≡ Put word) ⊎ (e ≡ Function word) → word_of e ≡ Some word
word_either e word h2 = grind arith

pub one_entry : (c : ℕ) (entry : Trace) (count word : ℕ) (rest : List ℕ) → entry.channel ≡ c → word_of entry.event ≡ Some word
    → words_from count (words_in (timed_on c (entry ∷ [])) ++ rest) ≡ one_word count word ++ words_from ((count + 1) % 8) rest
one_entry c entry count word rest here made = grind (arith, entry_on)

pub all_printed : (c i count : ℕ) (trace : List Trace) (printed : List ℕ) → length trace ≤ i
    → ((rest : List ℕ) → words_from 0 (words_in (timed_on c (take i trace)) ++ rest) ≡ printed ++ words_from count rest)
    → printed ++ words_from count [] ≡ words_from 0 (words_in (timed_on c trace))
all_printed c i count trace printed high told =
    sym (told [])
    ∙ ap (words_from 0) (append-nil (words_in (timed_on c (take i trace))))
    ∙ ap (λ (es : List Trace). words_from 0 (words_in (timed_on c es))) (take_all i trace high)

-- an entry more
pub entry_printed : (c i count next : ℕ) (trace : List Trace) (entry : Trace) (printed more : List ℕ) → i < length trace → entry ≡ get_or trace i entry
    → ((rest : List ℕ) → words_from 0 (words_in (timed_on c (take i trace)) ++ rest) ≡ printed ++ words_from count rest)
    → ((rest : List ℕ) → words_from count (words_in (timed_on c (entry ∷ [])) ++ rest) ≡ more ++ words_from next rest)
    → (rest : List ℕ) → words_from 0 (words_in (timed_on c (take (i + 1) trace)) ++ rest) ≡ (printed ++ more) ++ words_from next rest
entry_printed c i count next trace entry printed more within is told further rest =
    let done = words_in (timed_on c (take i trace)) in
    let own = words_in (timed_on c (entry ∷ [])) in
    ap (λ (ws : List ℕ). words_from 0 (ws ++ rest)) (ap words_in (timed_more c trace i entry within is) ∙ words_more (timed_on c (take i trace)) (timed_on c (entry ∷ [])))
    ∙ ap (words_from 0) (append_assoc done own rest)
    ∙ told (own ++ rest)
    ∙ ap (λ (text : List ℕ). printed ++ text) (further rest)
    ∙ sym (append_assoc printed more (words_from next rest))
