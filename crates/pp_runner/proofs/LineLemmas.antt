-- A line after a call: it is the same line, later.
use Rattle.std.proofs.Common.{◌≡◌, ℕ, Bool, true, false, suc, ◌<◌, ◌≤◌, ◌==◌, ◌+◌, ◌-◌, ◌*◌, List, [], ◌∷◌, ◌++◌, All, Some, length, map, refl, sym, ap, ◌∙◌, subst, append_assoc, arith}
use Rattle.std.specs.Prelude.{if◌then◌else◌, is_some, slice_set}
use Rattle.std.specs.List.{flat_map}
use Rattle.std.proofs.lemmas.Grind.{flat_map-append}
use Rattle.std.proofs.lemmas.Bool.{eq-eqb}
use Rattle.std.proofs.lemmas.List.{append-nil, length-append}
use Rattle.std.proofs.lemmas.List.Elements.{All-append, All-cons, All-head, All-nil, All-push, All-tail}
use Rattle.std.proofs.Math.Nat.{suc-mul, mul-one, zero-mul}
use Rattle.pp_line.proofs.LineAnswers.{number_later}
use Rattle.pp_line.proofs.LineKnowledge.{all_looked}
use Rattle.pp_numbers.proofs.WrittenNumbers.{set_raises}
use Rattle.pp_numbers.specs.ChannelNo.{channel_index}
use Rattle.pp_line.specs.ChannelWord.{number_in}
use Rattle.pp_line.specs.LineLog.{LogState, with_seen, seen_on}
use Rattle.pp_channel.specs.Answer.{flags_shown}
use Rattle.pp_line.specs.LineState.{LineState, IsActed, IsAnsweredBy, IsWornOut, number_after}
use Rattle.pp_channel.specs.History.{history_on}
use Rattle.pp_runner.specs.Types.{ChanOp, Did, Entry, Event, FoundWord, Numbered, Reply, Saw, Seen}
use Rattle.pp_processor.specs.NeedAndEffect.{need}
use Rattle.pp_processor.specs.Processor.{Processor}
use Rattle.pp_runner.proofs.ReplyLemmas.{line_reply_fits, sight_of}
use Rattle.pp_line.proofs.OrderLemmas.{length-extended}
use Rattle.pp_runner.specs.WorkerState.{AreFoundByOne, NoneOlder, IsSameLine, HasOperated, operations}
use Rattle.pp_runner.specs.End.{WasHeld}

-- nothing came
pub same_line_still : (line : LineState) → IsSameLine line line
same_line_still line = record { shares = refl; whole = refl; table = refl; central = refl; program_orders = refl; seen = λ happened has. has; none_older = λ happened has none. none }

-- after two parts of a worker's way
pub same_line_twice : (line mid after : LineState) → IsSameLine line mid → IsSameLine mid after → IsSameLine line after
same_line_twice line mid after a b = grind arith

after_if : (number : ℕ) (shows : Bool) → number ≤ (if shows then number else number + 1)
after_if number true = omega arith
after_if number false = omega arith

after_number : (number : ℕ) (reply : Reply) → number ≤ number_after number reply
after_number number reply = after_if number (is_some (flags_shown reply))

none_older_noted : (happened : ℕ → ℕ) (log : LogState) (c number : ℕ) (what : Seen) → happened c ≤ number → NoneOlder happened log.entries → NoneOlder happened (with_seen log c number (Some what)).entries
none_older_noted happened log c number (Did e) later none =
    All-push (λ (entry : Entry). happened entry.channel ≤ entry.number) log.entries (record { channel = c; number = number; what = Did e }) none later
none_older_noted happened log c number (Saw f) later none =
    all_looked (λ (entry : Entry). happened entry.channel ≤ entry.number) log (record { channel = c; number = number; what = Saw f }) later none

-- an answer came
pub same_line_acted : (line after : LineState) (c : ℕ) (op : ChanOp) (r : Numbered) → IsActed line c op r after → IsSameLine line after
same_line_acted line after c op r acted =
    let number : ℕ = number_after r.number r.reply in
    let later = number_later line after c op r acted in
    let seen : after.view.seen ≡ slice_set line.view.seen (channel_index c) number = ap (λ l. l.view.seen) acted.after_is in
    let s = sight_of c op r.reply (line_reply_fits (history_on c acted.histories) op r acted.answer) in
    let log : after.log ≡ with_seen line.log c r.number (Some s.what) = ap (λ l. l.log) acted.after_is ∙ s.noted line.log r.number in
    let raised : (d : ℕ) → seen_on d line.view.seen ≤ seen_on d (slice_set line.view.seen (channel_index c) number) =
    λ d. set_raises line.view.seen (channel_index c) number (channel_index d) (let more = after_number r.number r.reply in omega (arith, later, more)) in record {
      shares = ap (λ l. l.view.shares) acted.after_is;
      whole = ap (λ l. l.view.whole) acted.after_is;
      table = ap (λ l. l.table) acted.after_is;
      central = ap (λ l. l.view.central) acted.after_is;
      program_orders = ap (λ l. length l.view.program_orders) acted.after_is ∙ length-extended line.view.program_orders _;
      seen = λ happened has. record {
        countable = has.countable;
        seen = λ d. subst (λ (numbers : List ℕ). happened d ≤ seen_on d numbers) (sym seen) (let had = has.seen d in let r = raised d in omega (arith, had, r));
      };
      none_older = λ happened has none. subst (λ (l : LogState). NoneOlder happened l.entries) (sym log)
          (none_older_noted happened line.log c r.number s.what (let had = has.seen c in omega (arith, had, later)) none);
    }

-- what one operation found
operated_once : (words : List FoundWord) (line after : LineState) → AreFoundByOne words → after.view.found ≡ line.view.found ++ words → HasOperated 1 line after
operated_once words line after are found = record {
  finds = words ∷ [];
  each = All-cons AreFoundByOne words [] are (All-nil AreFoundByOne);
  number = refl;
  found = found ∙ ap (λ ws. line.view.found ++ ws) (sym (append-nil words));
}

-- these words, each found on channel c
abbrev found_on : ℕ → List ℕ → List FoundWord
found_on c words = map (λ word. record { channel = c; word = word }) words

found_by : (c loaded number : ℕ) (at_once : Bool) (words : List ℕ) → map number_in words ≡ loaded ∷ (if at_once then [] else number ∷ []) → (at_once ≡ false → loaded < number) → AreFoundByOne (found_on c words)
found_by c loaded number at_once [] found later = absurd cc
found_by c loaded number at_once (word ∷ []) found later = tt
found_by c loaded number true (word ∷ other ∷ rest) found later = absurd cc
found_by c loaded number false (word ∷ other ∷ []) found later = grind arith
found_by c loaded number false (word ∷ other ∷ more ∷ rest) found later = absurd cc

found_by_answer : (history : List Event) (c : ℕ) (op : ChanOp) (r : Numbered) (words : List ℕ) → map number_in words ≡ r.loaded ∷ (if r.number == r.loaded then [] else r.number ∷ []) → IsAnsweredBy history op r → AreFoundByOne (found_on c words)
found_by_answer history c op r words found answered =
    found_by c r.loaded r.number (r.number == r.loaded) words found (λ other. (answered.lost (λ same. let at_once = eq-eqb r.number r.loaded same in absurd cc)).later)

-- an answer came
pub operated_acted : (line after : LineState) (c : ℕ) (op : ChanOp) (r : Numbered) → IsActed line c op r after → HasOperated 1 line after
operated_acted line after c op r acted =
    operated_once (found_on c acted.words) line after (found_by_answer (history_on c acted.histories) c op r acted.words acted.words_found acted.answer)
    (ap (λ l. l.view.found) acted.after_is)

-- the channel was found worn
pub operated_worn : (line after : LineState) (c : ℕ) (op : ChanOp) → IsWornOut line c op after → HasOperated 1 line after
operated_worn line after c op worn =
    operated_once (record { channel = c; word = worn.word } ∷ []) line after tt (ap (λ l. l.view.found) worn.after_is)

-- no operation
pub operated_not : (line : LineState) → HasOperated 0 line line
operated_not line = record { finds = []; each = All-nil AreFoundByOne; number = refl; found = sym (append-nil line.view.found) }

-- no try yet
pub operated_none : (each : ℕ) (line : LineState) → HasOperated (0 * each) line line
operated_none each line = subst (λ (n : ℕ). HasOperated n line line) (sym (zero-mul each)) (operated_not line)

-- some operations, and then some more
pub operated_twice : (n m : ℕ) (line mid after : LineState) → HasOperated n line mid → HasOperated m mid after → HasOperated (n + m) line after
operated_twice n m line mid after a b = record {
  finds = a.finds ++ b.finds;
  each = All-append AreFoundByOne a.finds b.finds a.each b.each;
  number = length-append a.finds b.finds ∙ (ap (λ k. k + length b.finds) a.number ∙ ap (λ k. n + k) b.number);
  found = b.found
      ∙ (ap (λ ws. ws ++ flat_map (λ words. words) b.finds) a.found
      ∙ (append_assoc line.view.found (flat_map (λ words. words) a.finds) (flat_map (λ words. words) b.finds)
      ∙ ap (λ ws. line.view.found ++ ws) (sym (flat_map-append (λ words. words) a.finds b.finds))));
}

-- each operation found a word at least
found_each : (finds : List (List FoundWord)) → All AreFoundByOne finds → length finds ≤ length (flat_map (λ words. words) finds)
found_each [] each = omega arith
found_each (words ∷ finds) each =
    let some = found_some words (All-head AreFoundByOne words finds each) in
    let rest = found_each finds (All-tail AreFoundByOne words finds each) in
    omega (arith, some, rest, length-append words (flat_map (λ words. words) finds))
  where
    found_some : (words : List FoundWord) → AreFoundByOne words → 1 ≤ length words
    found_some [] none = absurd none
    found_some (word ∷ more) are = omega arith

pub operated_least : (count : ℕ) (line after : LineState) → HasOperated count line after → length line.view.found + count ≤ length after.view.found
operated_least count line after a = grind (arith, found_each, length-append)

-- one more try of a step
pub operated_again : (tries each : ℕ) (line mid after : LineState) → HasOperated (tries * each) line mid → HasOperated each mid after → HasOperated ((tries + 1) * each) line after
operated_again tries each line mid after a b =
    let next : tries + 1 ≡ suc tries = omega arith in
    subst (λ (n : ℕ). HasOperated n line after) (sym (ap (λ n. n * each) next ∙ suc-mul tries each)) (operated_twice (tries * each) each line mid after a b)

-- a number of tries of a step, by a count of all tries
pub operated_tries : (first last made each : ℕ) (line after : LineState) → last ≡ first + made → HasOperated (made * each) line after → HasOperated ((last - first) * each) line after
operated_tries first last made each line after count a = grind arith

-- the same, and one more try
pub operated_more : (first last held each again : ℕ) (line mid after : LineState) → last ≡ first + (held + 1) → again ≡ each → HasOperated (held * each) line mid → HasOperated again mid after → HasOperated ((last - first) * each) line after
operated_more first last held each again line mid after count same a b =
    operated_tries first last (held + 1) each line after count (operated_again held each line mid after a (subst (λ (n : ℕ). HasOperated n mid after) same b))

-- a step at which the processor was held makes one operation at each try
pub held_operates : (pp : Processor) (log : List Entry) → WasHeld pp log → operations (need pp) ≡ 1
held_operates pp log was = ap operations was.needs.is

pub operated_held : (tries : ℕ) (pp : Processor) (log : List Entry) (line after : LineState) → WasHeld pp log → HasOperated (tries * operations (need pp)) line after → HasOperated tries line after
operated_held tries pp log line after was a = grind (arith, held_operates, mul-one)
