-- The accesses of an answer, among those of its line.
use Rattle.std.proofs.Common.{◌≡◌, ℕ, ◌<◌, ◌≤◌, Bool, true, false, List, [], ◌∷◌, ◌++◌, length, map, take, Option, None, Some, refl, sym, ap, ◌∙◌, subst, inl, inr, arith, append_assoc}
use Rattle.std.specs.Prelude.{◌==◌, ◌↔◌, ◌⊎◌, if◌then◌else◌, IsTrue, MatchBool, IfSome, IfNone}
use Rattle.std.specs.Option.{option_map, option_or, option_to_list}
use Rattle.std.proofs.lemmas.Bool.{cases_eq, eq-eqb, ne_eqb}
use Rattle.std.proofs.lemmas.List.{append-nil, length-take-le, map-append, take_all}
use Rattle.std.proofs.lemmas.List.Elements.{All-pop, filter_map-append}
use Rattle.pp_numbers.specs.Subsequence.{IsSubsequence}
use Rattle.pp_numbers.proofs.Subsequences.{stands_append, stands_later, stands_more, stands_whole}
use Rattle.pp_line.proofs.ChannelWordLemmas.{number_of_word, flags_of_word}
use Rattle.pp_channel.proofs.FrontLemmas.{twelve_bits_take}
use Rattle.pp_channel.proofs.EachHistory.{bits_on}
use Rattle.pp_line.proofs.LineAnswers.{answers_as_made}
use Rattle.pp_line.proofs.OrderLemmas.{entries_more}
use Rattle.pp_channel.specs.Answer.{IsAnswer, event_answered, flags_of, flags_shown, seen_answered}
use Rattle.pp_channel.proofs.AnswerLemmas.{shows_flags}
use Rattle.pp_line.specs.ChannelWord.{number_in, flags_in}
use Rattle.pp_channel.specs.History.{HasTwelveBitWords, history_on}
use Rattle.pp_line.specs.LineLog.{event_entry, look_entry}
use Rattle.pp_line.specs.LineState.{LineState, IsActed, IsAnsweredBy, number_after}
use Rattle.pp_line.specs.LineView.{look_by, reads, writes}
use Rattle.pp_line.specs.Order.{entries_among, extended, on_channels, write_number, writes_among}
use Rattle.pp_line.specs.SharedWords.{IsFound}
use Rattle.pp_runner.specs.Types.{Access, Answer, ChanOp, Did, Entry, Event, Flags, FoundWord, Need, Numbered, Reply, Saw, Seen}
use Rattle.pp_processor.specs.NeedAndEffect.{need, processor_after}
use Rattle.pp_processor.specs.Processor.{Processor}
use Rattle.pp_processor.specs.Replay.{OfChannel, contribution, fits, given_count, replayed}
use Rattle.pp_processor.proofs.ReplayLemmas.{Gives, Gives-counted}
use Rattle.pp_runner.specs.Accesses.{accesses_by, AreAccessesOf}
use Rattle.pp_runner.specs.WorkerState.{HasMade, HasLooked, IsAnswered}
use Rattle.pp_runner.specs.WorkerReport.{IsBySize}

-- the word that an operation found last has the number of its answer
record HasLast (number : ℕ) (words : List ℕ) : Type 0 where
  pub front : List ℕ
  pub word : ℕ
  pub words_are : words ≡ front ++ word ∷ []
  pub number_is : number_in word ≡ number

last_of : (number loaded : ℕ) (at_once : Bool) (words : List ℕ) → (at_once ≡ true → loaded ≡ number) → map number_in words ≡ loaded ∷ (if at_once then [] else number ∷ []) → HasLast number words
last_of number loaded at_once [] same is = absurd cc
last_of number loaded true (word ∷ []) same is =
    let first : number_in word ≡ loaded = cc in record { front = []; word = word; words_are = refl; number_is = first ∙ same refl }
last_of number loaded false (word ∷ []) same is = absurd cc
last_of number loaded true (word ∷ other ∷ words) same is = absurd cc
last_of number loaded false (word ∷ other ∷ []) same is =
    let second : number_in other ≡ number = cc in record { front = word ∷ []; word = other; words_are = refl; number_is = second }
last_of number loaded false (word ∷ other ∷ more ∷ words) same is = absurd cc

last_word : (r : Numbered) (words : List ℕ) → map number_in words ≡ r.loaded ∷ (if r.number == r.loaded then [] else r.number ∷ []) → HasLast r.number words
last_word r words is = grind (arith, cases_eq, last_of, eq-eqb, ne_eqb)

-- the flags that an answer shows are those after its number of events
some_flags : (f g : Flags) → Some f ≡ Some g → f ≡ g
some_flags f g is = cc

shown_at_once : (h after : List Event) (op : ChanOp) (reply : Reply) (f : Flags) → IsAnswer h op reply after → flags_shown reply ≡ Some f → f ≡ flags_of h
shown_at_once h after op reply f (inl made) shows = grind (arith, answers_as_made)
shown_at_once h after op reply f (inr shown) shows = grind (arith, some_flags, shows_flags)

shown_flags : (h : List Event) (op : ChanOp) (r : Numbered) (f : Flags) → IsAnsweredBy h op r → flags_shown r.reply ≡ Some f → f ≡ flags_of (take r.number h)
shown_flags h op r f by shows =
    elim (cases_eq r.number r.loaded) [
      | inl same ↦ shown_at_once (take r.loaded h) h op r.reply f (by.at_once same) shows ∙ ap (λ n. flags_of (take n h)) (sym same)
      | inr other ↦
          let held = (by.lost other).held in
          let many : length h ≡ number_after r.number (Reply.Held (flags_of h)) = by.now ∙ ap (number_after r.number) held in
          some_flags f (flags_of h) (sym shows ∙ ap flags_shown held) ∙ ap flags_of (sym (take_all r.number h (omega (arith, many))))
    ]

found_flags : (histories : List (List Event)) (c word number : ℕ) → IsFound histories (record { channel = c; word = word }) → HasTwelveBitWords (history_on c histories) → number_in word ≡ number
    → flags_in word ≡ flags_of (take number (history_on c histories))
found_flags histories c word number found bits is = grind (arith, twelve_bits_take, length-take-le, number_of_word, flags_of_word)

-- the look by the last word that an operation found shows the flags of its answer
module _ (line after : LineState) (c : ℕ) (op : ChanOp) (r : Numbered) (acted : IsActed line c op r after) where
  abbrev on_it : ℕ → FoundWord
  on_it word = record { channel = c; word = word }

  last_look : (f : Flags) (last : HasLast r.number acted.words) → flags_shown r.reply ≡ Some f → look_by c last.word ≡ look_entry c r.number f
  last_look f last shows =
      let all : after.view.found ≡ (line.view.found ++ map on_it last.front) ++ on_it last.word ∷ [] =
      ap (λ l. l.view.found) acted.after_is ∙ (ap (λ ws. line.view.found ++ map on_it ws) last.words_are
      ∙ (ap (λ l. line.view.found ++ l) (map-append on_it last.front (last.word ∷ [])) ∙ sym (append_assoc line.view.found (map on_it last.front) (on_it last.word ∷ [])))) in
      let found = (All-pop (IsFound acted.histories) after.view.found (line.view.found ++ map on_it last.front) (Some (on_it last.word)) all acted.known.words_found).1 in
      let flags : flags_in last.word ≡ f = found_flags acted.histories c last.word r.number found (bits_on acted.histories c acted.known.sound.twelve_bits) last.number_is
      ∙ sym (shown_flags (history_on c acted.histories) op r f acted.answer shows) in
      λ j. look_entry c (last.number_is j) (flags j)

  -- the accesses of the line: a look for each word that it found, and the event
  abbrev looks : List Entry
  looks = map (look_by c) acted.words

  abbrev event_made : List Entry
  event_made = option_to_list (option_map (event_entry c r.number) (event_answered op r.reply))

  abbrev pub all_made : List Access
  all_made = on_channels (looks ++ event_made)

  abbrev on_channel : Option Seen → List Access
  on_channel o = map (λ what. Access.OnChannel (record { channel = c; number = r.number; what = what })) (option_to_list o)

  by_event : (made : Option Event) → event_answered op r.reply ≡ made → IsSubsequence (on_channel (option_map (λ e. Did e) made)) all_made
  by_event None is = tt
  by_event (Some e) is = grind (arith, all_made, looks, map-append, on_channel, stands_later)

  by_flags : (shown : Option Flags) → flags_shown r.reply ≡ shown → IsSubsequence (on_channel (option_or (option_map (λ f. Saw f) shown) (option_map (λ e. Did e) (event_answered op r.reply)))) all_made
  by_flags None shows = by_event (event_answered op r.reply) refl
  by_flags (Some f) shows =
      let last = last_word r acted.words acted.words_found in
      let look : Access.OnChannel (look_entry c r.number f) ≡ Access.OnChannel (look_by c last.word) = ap (λ e. Access.OnChannel e) (sym (last_look f last shows)) in
      let all : all_made ≡ on_channels (map (look_by c) last.front) ++ Access.OnChannel (look_by c last.word) ∷ on_channels event_made =
      ap (λ ws. on_channels (map (look_by c) ws ++ event_made)) last.words_are
      ∙ (ap (λ l. on_channels (l ++ event_made)) (map-append (look_by c) last.front (last.word ∷ []))
      ∙ (ap on_channels (append_assoc (map (look_by c) last.front) (look_by c last.word ∷ []) event_made)
      ∙ map-append Access.OnChannel (map (look_by c) last.front) (look_by c last.word ∷ event_made))) in
      subst (IsSubsequence (on_channel (Some (Saw f)))) (sym all)
      (stands_later (on_channel (Some (Saw f))) (on_channels (map (look_by c) last.front)) (Access.OnChannel (look_by c last.word) ∷ on_channels event_made) (inl (look, tt)))

  pub channel_accessed : IsSubsequence (accesses_by r.number (Need.Channel c op) (Answer.Channel r.reply)) all_made
  channel_accessed = by_flags (flags_shown r.reply) refl

-- an operation writes no central word
none_written : (c number : ℕ) (o : Option Seen) → writes_among (map (λ what. Access.OnChannel (record { channel = c; number = number; what = what })) (option_to_list o)) ≡ []
none_written c number None = refl
none_written c number (Some what) = refl

pub no_writes : (number c : ℕ) (op : ChanOp) (x : Answer) → writes_among (accesses_by number (Need.Channel c op) x) ≡ []
no_writes number c op (Answer.Channel reply) = none_written c number (seen_answered op reply)
no_writes number c op Answer.Local = refl
no_writes number c op (Answer.Read word) = refl
no_writes number c op (Answer.Wrote written) = refl

-- the entries of an answer's accesses are its sights, numbered
abbrev pub numbered : ℕ → List (OfChannel Seen) → List Entry
numbered number ss = map (λ s. record { channel = s.channel; number = number; what = s.what }) ss

entries_on : (c number : ℕ) (o : Option Seen) → entries_among (map (λ what. Access.OnChannel (record { channel = c; number = number; what = what })) (option_to_list o))
    ≡ numbered number (map (λ what. record { channel = c; what = what }) (option_to_list o))
entries_on c number None = refl
entries_on c number (Some what) = refl

pub entries_by : (number : ℕ) (n : Need) (x : Answer) → entries_among (accesses_by number n x) ≡ numbered number (contribution seen_answered n x)
entries_by number (Need.Channel c op) (Answer.Channel reply) = entries_on c number (seen_answered op reply)
entries_by number (Need.Channel c op) Answer.Local = refl
entries_by number (Need.Channel c op) (Answer.Read word) = refl
entries_by number (Need.Channel c op) (Answer.Wrote written) = refl
entries_by number Need.Nothing x = refl
entries_by number Need.Local x = refl
entries_by number (Need.Read a) (Answer.Read (Some w)) = refl
entries_by number (Need.Read a) (Answer.Read None) = refl
entries_by number (Need.Read a) Answer.Local = refl
entries_by number (Need.Read a) (Answer.Channel reply) = refl
entries_by number (Need.Read a) (Answer.Wrote written) = refl
entries_by number (Need.Write a w) (Answer.Wrote true) = refl
entries_by number (Need.Write a w) (Answer.Wrote false) = refl
entries_by number (Need.Write a w) Answer.Local = refl
entries_by number (Need.Write a w) (Answer.Channel reply) = refl
entries_by number (Need.Write a w) (Answer.Read word) = refl

extended_none : (program_orders : List (List Access)) → extended program_orders [] ≡ program_orders
extended_none [] = refl
extended_none (t ∷ program_orders) = λ j. append-nil t j ∷ extended_none program_orders j

-- an answer that did or saw nothing on a channel, with its accesses
beside : {size : ℕ} {n : Need} {x : Answer} {before after : LineState} (number : ℕ) (more : List Access) → fits n x ≡ true → IsBySize size n x → contribution seen_answered n x ≡ [] → accesses_by number n x ≡ more → after.log ≡ before.log
    → after.view.program_orders ≡ extended before.view.program_orders more → after.view.written ≡ before.view.written ++ writes_among more → IsAnswered size n x before after
beside {before = before} {after = after} number more fit by_size none accessed log program_orders written = grind (arith, stands_whole)

still : {size : ℕ} {n : Need} {x : Answer} {before after : LineState} → fits n x ≡ true → IsBySize size n x → contribution seen_answered n x ≡ [] → accesses_by 0 n x ≡ [] → after ≡ before → IsAnswered size n x before after
still {before = before} fit by_size none accessed is =
    beside 0 [] fit by_size none accessed (ap (λ l. l.log) is) (ap (λ l. l.view.program_orders) is ∙ sym (extended_none before.view.program_orders)) (ap (λ l. l.view.written) is ∙ sym (append-nil before.view.written))

-- central memory answers
pub read_answer : (size a : ℕ) (found : Option ℕ) (before after : LineState) → IfSome found (λ word. after ≡ record before { view = reads before.view a word }) → IfSome found (λ word. a < size)
    → IfNone found (size ≤ a) → IfNone found (after ≡ before) → IsAnswered size (Need.Read a) (Answer.Read found) before after
read_answer size a (Some word) before after is inside outside same =
    beside 0 (Access.Read a word ∷ []) refl (λ none. absurd cc, λ past. absurd (omega (arith, past, inside))) refl refl (ap (λ l. l.log) is) (ap (λ l. l.view.program_orders) is) (ap (λ l. l.view.written) is ∙ sym (append-nil before.view.written))
read_answer size a None before after is inside outside same = still refl (λ none. outside, λ past. refl) refl refl same

pub write_answer : (size a w : ℕ) (written : Bool) (before after : LineState) → IsTrue written ↔ (a < size)
    → MatchBool written ((number : ℕ) × (after ≡ record before { view = writes before.view a w number })) (after ≡ before) → IsAnswered size (Need.Write a w) (Answer.Wrote written) before after
write_answer size a w true before after by_size is = grind (arith, beside)
write_answer size a w false before after by_size is = still refl by_size refl refl is

-- nothing was asked
pub local_answer : (size : ℕ) (n : Need) (line : LineState) → (n ≡ Need.Nothing) ⊎ (n ≡ Need.Local) → IsAnswered size n Answer.Local line line
local_answer size n line (inl is) = rw is (still refl tt refl refl refl)
local_answer size n line (inr is) = rw is (still refl tt refl refl refl)

-- the accesses of answers, with those of one more
given_to : (xs : List Answer) (pp new : Processor) (made : List Access) (x : Answer) (number : ℕ) → Gives pp xs new → AreAccessesOf pp xs made → AreAccessesOf pp (xs ++ x ∷ []) (made ++ accesses_by number (need new) x)
given_to [] pp new made x number gives is =
    (number, [], (λ j. is j ++ accesses_by number (need (sym gives j)) x) ∙ sym (append-nil (accesses_by number (need pp) x)), refl)
given_to (y ∷ xs) pp new made x number gives is = grind (arith, append_assoc, given_to xs (processor_after pp y) new is.1 x number gives.1 is.3)

-- and the line that made them
pub made_more : (load pp : Processor) (size : ℕ) (xs : List Answer) (x : Answer) (done now : List Entry) (before after : LineState) → (made : HasMade load xs done before.view) → (told : IsAnswered size (need pp) x before after) → pp ≡ replayed load xs
    → given_count load xs ≡ length xs → ((old : List Entry) → IsSubsequence old done → IsSubsequence (old ++ numbered told.number (contribution seen_answered (need pp) x)) now) → HasMade load (xs ++ x ∷ []) now after.view
made_more load pp size xs x done now before after made told same counted goes_on =
    let more : List Access = accesses_by told.number (need pp) x in record {
      accesses = made.accesses ++ more;
      given = subst (λ (q : Processor). AreAccessesOf load (xs ++ x ∷ []) (made.accesses ++ accesses_by told.number (need q) x)) (sym same) (given_to xs load (replayed load xs) made.accesses x told.number (Gives-counted xs load counted) made.given);
      program_order = made.program_order ++ told.more;
      only = told.program_orders ∙ ap (λ ts. extended ts told.more) made.only;
      accessed = stands_append made.accesses made.program_order more told.more made.accessed told.accessed;
      logged = subst (λ (es : List Entry). IsSubsequence es now) (sym (entries_more made.accesses more ∙ ap (λ es. entries_among made.accesses ++ es) (entries_by told.number (need pp) x))) (goes_on (entries_among made.accesses) made.logged);
      written = told.written ∙ ((λ j. made.written j ++ writes_among more) ∙ sym (filter_map-append write_number made.accesses more));
    }

-- a line that has looked made no access more by an answer
pub made_still : (load : Processor) (xs : List Answer) (done : List Entry) (before after : LineState) → HasMade load xs done before.view → HasLooked before after → HasMade load xs done after.view
made_still load xs done before after made looked = grind (arith, stands_more)
