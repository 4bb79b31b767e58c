-- What a call of a line answers, from what its steps told.
use Rattle.std.proofs.Common.{◌≡◌, ℕ, ◌+◌, ◌<◌, ◌≤◌, ◌==◌, List, [], ◌∷◌, ◌++◌, length, take, Some, None, refl, sym, ap, ◌∙◌, subst, arith, append_assoc}
use Rattle.std.specs.Prelude.{Contains, Option, false, if◌then◌else◌, slice_set}
use Rattle.std.specs.Option.{option_map, option_to_list}
use Rattle.std.proofs.lemmas.List.{append-nil, length_push, length-take-le, take_all, take_at, get_or-set_same, set-set, set-get_or}
use Rattle.std.proofs.lemmas.List.Elements.{All-contains, Contains-push}
use Rattle.std.proofs.lemmas.Bool.{cases_eq, eq-eqb, ne_eqb}
use Rattle.pp_line.specs.Types.{ChanOp, Entry, Event, LineView, Numbered, Reply, Seen, WordStep}
use Rattle.pp_channel.specs.declared.event.Event.TheVariants.{Activate}
use Rattle.pp_channel.specs.declared.reply.Reply.TheVariants.{Held}
use Rattle.pp_channel.specs.Answer.{IsAnswer, IsReady, operation_of, reply_made, reply_shown, event_answered, flags_shown, only_looks, seen_answered}
use Rattle.pp_numbers.specs.ChannelNo.{channel_count, channel_index, channel_places}
use Rattle.pp_line.specs.ChannelWord.{number_in, flags_in, greatest_number, state_in, step_from}
use Rattle.pp_channel.specs.History.{IsLawful, HasTwelveBitWords, history_on}
use Rattle.pp_line.specs.LineLog.{LogState, appended, looked, with_seen, event_entry, look_entry, seen_on}
use Rattle.pp_line.specs.LineState.{LineState, number_after, IsActed, IsWornOut, AreClosed}
use Rattle.pp_line.specs.LineSteps.{IsLogOf, Tells, IsLoad, IsWonExchange, IsLostExchange}
use Rattle.pp_line.specs.LineView.{finds, makes, look_by, Knows}
use Rattle.pp_line.specs.Order.{extended, on_channels}
use Rattle.pp_line.proofs.OrderLemmas.{extended_twice}
use Rattle.pp_line.specs.Merge.{Merges, no_opening, IsRecordedBy}
use Rattle.pp_line.specs.SharedWords.{IsFound}
use Rattle.pp_channel.proofs.AnswerLemmas.{shown_makes_none, shows_flags}
use Rattle.pp_line.proofs.ChannelWordLemmas.{Stays, MakesNext, worn_by_table, shown_by_table, next_by_table, ready_at_word, answer_made, answer_shown, number_of_word}
use Rattle.pp_channel.proofs.FrontLemmas.{lawful_take, twelve_bits_take}
use Rattle.pp_line.proofs.MergeLemmas.{with_more, more_is, more_here, put_before}
use Rattle.pp_channel.proofs.LawLemmas.{law_of_lawful}
use Rattle.pp_line.proofs.LineKeeping.{log_of_load}
use Rattle.pp_channel.proofs.EachHistory.{lawful_on, bits_on}
use Rattle.pp_line.proofs.LineKnowledge.{number_told, flags_told, not_older_told, knows_by_log}

-- the histories with that of channel c put in its own place, or in place of a longer one
put_back : (histories : List (List Event)) (c : ℕ) (h : List Event) → h ≡ history_on c histories → slice_set histories (channel_index c) h ≡ histories
put_back histories c h is = ap (λ x. slice_set histories (channel_index c) x) is ∙ set-get_or histories (channel_index c) []

-- what is answered to an operation that makes its event: the event, and no flags
pub record AnswersAsMade (e : Event) : Type 0 where
  pub seen : seen_answered (operation_of e) (reply_made e) ≡ Some (Seen.Did e)
  pub made : event_answered (operation_of e) (reply_made e) ≡ Some e
  pub no_flags : flags_shown (reply_made e) ≡ None

pub answers_as_made : (e : Event) → AnswersAsMade e
answers_as_made Activate = record { seen = refl; made = refl; no_flags = refl }
answers_as_made a = record { seen = refl; made = refl; no_flags = refl }

-- the events of a view after what an answer made
abbrev with_made : List Entry → ℕ → ℕ → Option Event → List Entry
with_made events c n made = events ++ option_to_list (option_map (event_entry c n) made)

none_made : (events : List Entry) (c n : ℕ) (made : Option Event) → made ≡ None → events ≡ with_made events c n made
none_made events c n made none = sym (append-nil events) ∙ ap (with_made events c n) (sym none)

-- an answer at once found one word, an exchange that was lost found two
found_one : (n : ℕ) → n ∷ [] ≡ n ∷ (if n == n then [] else n ∷ [])
found_one n = ap (λ b. n ∷ (if b then [] else n ∷ [])) (sym (eq-eqb n n refl))

found_two : (n k : ℕ) → n < k → n ∷ k ∷ [] ≡ n ∷ (if k == n then [] else k ∷ [])
found_two n k later = ap (λ b. n ∷ (if b then [] else k ∷ [])) (sym (ne_eqb k n (λ same. omega arith)))

-- what a load found last, and the line has seen then
pub found_last : (v w : LineView) (c word : ℕ) → IsLoad c v word w → Contains w.found (record { channel = c; word = word })
found_last v w c word load =
    let P : LineView → Type 0 = λ x. Contains x.found (record { channel = c; word = word }) in
    subst P (sym load.after_is) (Contains-push v.found (record { channel = c; word = word }))

pub seen_last : (v w : LineView) (c word : ℕ) → length v.seen ≡ channel_count → IsLoad c v word w → seen_on c w.seen ≡ number_in word
seen_last v w c word each load = grind (arith, channel_places.place_below, get_or-set_same)

-- the line has this log and this view now, and stands at the same table
pub record IsNow (line : LineState) (log : LogState) (v : LineView) (after : LineState) : Type 0 where
  pub log_is : after.log ≡ log
  pub view_is : after.view ≡ v
  pub table_is : after.table ≡ line.table
  pub log_of : IsLogOf after.view after.log.entries

-- it knows what the view knows
line_knows : {line after : LineState} {log : LogState} {v : LineView} {histories : List (List Event)} → IsNow line log v after → Knows v v.events histories → Knows after.view after.log.entries histories
line_knows {histories = histories} is known = grind (arith, knows_by_log)

-- a line that looked at what its load found
module _ (line : LineState) {now : LineView} {c word : ℕ} (load : IsLoad c line.view word now) (before : IsLogOf line.view line.log.entries) (op : ChanOp) where
  abbrev histories : List (List Event)
  histories = load.tells.histories

  abbrev history : List Event
  history = history_on c histories

  now_lawful : IsLawful history
  now_lawful = lawful_on histories c load.tells.known.sound.lawful

  now_bits : HasTwelveBitWords history
  now_bits = bits_on histories c load.tells.known.sound.twelve_bits

  whole_now : take (number_in word) history ≡ history
  whole_now = take_all (number_in word) history (let n = number_told load.tells in omega arith)

  abbrev Looked : LineState → Type 0
  Looked after = IsNow line (looked line.log (look_entry c (number_in word) (flags_in word))) now after

  looked_at_once : (reply : Reply) (after : LineState) → Looked after
      → with_seen line.log c (number_in word) (seen_answered op reply) ≡ looked line.log (look_entry c (number_in word) (flags_in word))
      → event_answered op reply ≡ None
      → number_after (number_in word) reply ≡ number_in word
      → IsAnswer history op reply history
      → (only_looks op ≡ false → number_in word < greatest_number)
      → IsActed line c op (record { reply = reply; loaded = number_in word; number = number_in word }) after
  looked_at_once reply after is written none counted answer not_worn = record {
    words = word ∷ [];
    words_found = found_one (number_in word);
    after_is = grind (arith, written, none_made, counted);
    histories = histories;
    known = line_knows is load.known_after;
    answer = record {
      now = sym (number_told load.tells) ∙ sym counted;
      at_once = λ _. let P : List Event → Type 0 = λ h. IsAnswer h op reply history in subst P (sym whole_now) answer;
      lost = λ no. absurd (no refl);
    };
    not_older = not_older_told load.tells;
    not_worn = not_worn;
    alone = λ all. (refl, let P : List (List Event) → Type 0 = λ hs. Merges no_opening hs line.log.entries in subst P (sym (put_back histories c (take (number_in word) history) whole_now)) ((knows_by_log before load.tells.known).all_known all).merged);
  }

  pub acted_shown : (step : WordStep) (reply : Reply) (after : LineState) → Stays step → step ≡ step_from op word → reply ≡ reply_shown op (state_in word) → number_in word ≤ greatest_number → Looked after
      → IsActed line c op (record { reply = reply; loaded = number_in word; number = number_in word }) after
  acted_shown step reply after stays stepped replied most is = grind (arith, shown_by_table, shows_flags, looked_at_once, shown_makes_none, answer_shown, now_lawful, now_bits)

  pub worn_by_load : (after : LineState) → WordStep.Worn ≡ step_from op word → IsNow line line.log now after → IsWornOut line c op after
  worn_by_load after stepped is =
      let k = worn_by_table word op stepped in
      record {
        acts = k.0;
        word = word;
        word_found = k.1;
        after_is = λ j. record { log = is.log_is j; view = (is.view_is ∙ load.after_is) j; table = is.table_is j };
        histories = histories;
        known = line_knows is load.known_after;
        worn = sym (number_told load.tells) ∙ k.1;
        all_seen = ap (λ v. seen_on c v.seen) is.view_is ∙ (seen_last line.view now c word before.each_channel load ∙ k.1);
      }

  -- a line that tried an event after its load
  module _ (e : Event) (next : ℕ) (reply : Reply) (after : LineState) (stepped : WordStep.Next next reply e ≡ step_from op word) (most : number_in word ≤ greatest_number) where
    makes_next : MakesNext op word next reply e
    makes_next = next_by_table word op next reply e stepped

    not_worn_yet : only_looks op ≡ false → number_in word < greatest_number
    not_worn_yet acts = let n = makes_next.1 in omega arith

    -- the event was made
    module _ (won : IsWonExchange c now word e after.view) (is : IsNow line (appended line.log (event_entry c (number_in word) e)) after.view after) where
      abbrev made_on : List (List Event)
      made_on = won.tells.histories

      abbrev old : List Event
      old = history_on c made_on

      abbrev longer : List Event
      longer = history_on c (with_more made_on c (e ∷ []))

      old_lawful : IsLawful old
      old_lawful = lawful_on made_on c won.tells.known.sound.lawful

      old_bits : HasTwelveBitWords old
      old_bits = bits_on made_on c won.tells.known.sound.twelve_bits

      longer_is : longer ≡ old ++ e ∷ []
      longer_is = more_here made_on c c (e ∷ []) (let n = channel_places.place_below c won.tells.named in let l = won.tells.known.sound.each_channel in omega arith) refl

      front : take (number_in word) longer ≡ old
      front = ap (take (number_in word)) longer_is ∙ take_at old (e ∷ []) (number_in word) (sym (number_told won.tells))

      counted : number_after (number_in word) reply ≡ number_in word + 1
      counted = grind (arith, answers_as_made)

      written : with_seen line.log c (number_in word) (seen_answered op reply) ≡ appended line.log (event_entry c (number_in word) e)
      written = grind (arith, answers_as_made, ready_at_word, now_lawful, now_bits)

      made : (events : List Entry) → with_made events c (number_in word) (event_answered op reply) ≡ events ++ event_entry c (number_in word) e ∷ []
      made events = grind (arith, answers_as_made, ready_at_word, now_lawful, now_bits)

      opening : slice_set (with_more made_on c (e ∷ [])) (channel_index c) (take (number_in word) longer) ≡ made_on
      opening = ap (λ h. slice_set (with_more made_on c (e ∷ [])) (channel_index c) h) front ∙ put_before made_on c (e ∷ [])

      view_made : after.view ≡ record line.view {
        events = with_made line.view.events c (number_in word) (event_answered op reply);
        seen = slice_set line.view.seen (channel_index c) (number_after (number_in word) reply);
        found = line.view.found ++ record { channel = c; word = word } ∷ [];
        program_orders = extended line.view.program_orders (on_channels (with_made (look_by c word ∷ []) c (number_in word) (event_answered op reply)));
      }
      view_made = won.after_is ∙ (ap (λ v. makes v c (number_in word) e) load.after_is ∙ (λ j. record line.view {
        events = sym (made line.view.events) j;
        seen = (set-set line.view.seen (channel_index c) (number_in word) (number_in word + 1) ∙ ap (λ n. slice_set line.view.seen (channel_index c) n) (sym counted)) j;
        found = line.view.found ++ record { channel = c; word = word } ∷ [];
        program_orders = (extended_twice line.view.program_orders (on_channels (look_by c word ∷ [])) (on_channels (event_entry c (number_in word) e ∷ [])) ∙ ap (λ (es : List Entry). extended line.view.program_orders (on_channels es)) (sym (made (look_by c word ∷ [])))) j;
      }))

      pub acted_made : IsActed line c op (record { reply = reply; loaded = number_in word; number = number_in word }) after
      acted_made = record {
        words = word ∷ [];
        words_found = found_one (number_in word);
        after_is = λ j. record { log = (is.log_is ∙ sym written) j; view = view_made j; table = is.table_is j };
        histories = with_more made_on c (e ∷ []);
        known = line_knows is (subst (Knows after.view after.view.events) (sym (more_is made_on c (e ∷ []))) won.known_after);
        answer = record {
          now = ap length longer_is ∙ (length_push old e ∙ (ap (λ n. n + 1) (sym (number_told won.tells)) ∙ sym counted));
          at_once = λ _.
              let P : List Event → Type 0 = λ h. IsAnswer h op reply longer in
              let Q : List Event → Type 0 = λ h. IsAnswer old op reply h in
              subst P (sym front) (subst Q (sym longer_is) (answer_made word op e next reply makes_next old old_lawful old_bits won.tells.word_is));
          lost = λ no. absurd (no refl);
        };
        not_older = not_older_told load.tells;
        not_worn = not_worn_yet;
        alone = λ all. (
          refl,
          let P : List (List Event) → Type 0 = λ hs. Merges no_opening hs line.log.entries in subst P (sym opening)
              ((knows_by_log (log_of_load load before) won.tells.known).all_known (ap (λ v. v.shares) load.after_is ∙ (all ∙ ap (λ v. v.whole) (sym load.after_is)))).merged,
        );
      }

    -- another event came first
    module _ (found : ℕ) (lost : IsLostExchange c word now found after.view) (is : IsNow line (looked line.log (look_entry c (number_in found) (flags_in found))) after.view after) where
      abbrev found_in : List (List Event)
      found_in = lost.load.tells.histories

      abbrev later : List Event
      later = history_on c found_in

      first : IsFound found_in (record { channel = c; word = word })
      first = All-contains (IsFound found_in) now.found (record { channel = c; word = word }) lost.load.tells.known.words_found (found_last line.view now c word load)

      later_bits : HasTwelveBitWords later
      later_bits = bits_on found_in c lost.load.tells.known.sound.twelve_bits

      first_number : number_in word ≡ first.0
      first_number = ap number_in (sym first.2) ∙ (number_of_word (take first.0 later) (twelve_bits_take first.0 later later_bits) ∙ length-take-le first.0 later first.1)

      was_ready : IsReady (take (number_in word) later) op e
      was_ready =
          let P : ℕ → Type 0 = λ n. IsReady (take n later) op e in
          subst P (sym first_number) (ready_at_word word op e makes_next.2 (take first.0 later) (lawful_take first.0 later (lawful_on found_in c lost.load.tells.known.sound.lawful)) (twelve_bits_take first.0 later later_bits) first.2)

      view_lost : after.view ≡ record line.view {
        events = with_made line.view.events c (number_in found) (event_answered op (Held (flags_in found)));
        seen = slice_set line.view.seen (channel_index c) (number_in found);
        found = line.view.found ++ record { channel = c; word = word } ∷ record { channel = c; word = found } ∷ [];
        program_orders = extended line.view.program_orders (on_channels (with_made (look_by c word ∷ look_by c found ∷ []) c (number_in found) (event_answered op (Held (flags_in found)))));
      }
      view_lost = lost.load.after_is ∙ (ap (λ v. finds v c found) load.after_is ∙ (λ j. record line.view {
        events = none_made line.view.events c (number_in found) (event_answered op (Held (flags_in found))) (shown_makes_none op (Held (flags_in found)) (flags_in found) refl) j;
        seen = set-set line.view.seen (channel_index c) (number_in word) (number_in found) j;
        found = append_assoc line.view.found (record { channel = c; word = word } ∷ []) (record { channel = c; word = found } ∷ []) j;
        program_orders = (extended_twice line.view.program_orders (on_channels (look_by c word ∷ [])) (on_channels (look_by c found ∷ []))
            ∙ ap (λ (es : List Entry). extended line.view.program_orders (on_channels es)) (none_made (look_by c word ∷ look_by c found ∷ []) c (number_in found) (event_answered op (Held (flags_in found))) (shown_makes_none op (Held (flags_in found)) (flags_in found) refl))) j;
      }))

      pub acted_lost : IsActed line c op (record { reply = Held (flags_in found); loaded = number_in word; number = number_in found }) after
      acted_lost =
          let above = lost.later in
          record {
            words = word ∷ found ∷ [];
            words_found = found_two (number_in word) (number_in found) above;
            after_is = λ j. record { log = is.log_is j; view = view_lost j; table = is.table_is j };
            histories = found_in;
            known = line_knows is lost.load.known_after;
            answer = record {
              now = sym (number_told lost.load.tells);
              at_once = λ same. absurd (omega arith);
              lost = λ _. record { later = above; was_ready = (e, was_ready); held = ap (λ f. Held f) (flags_told lost.load.tells) };
            };
            not_older = not_older_told load.tells;
            not_worn = not_worn_yet;
            alone = λ all. absurd (lost.others (ap (λ v. v.shares) load.after_is ∙ (all ∙ ap (λ v. v.whole) (sym load.after_is))));
          }

-- the number of an answer is not below what the line had seen
pub number_later : (line after : LineState) (c : ℕ) (op : ChanOp) (r : Numbered) → IsActed line c op r after → seen_on c line.view.seen ≤ r.number
number_later line after c op r acted = grind (arith, cases_eq)

-- a line that holds every share tells the histories whole
pub told_whole : {v : LineView} {log : List Entry} {c word : ℕ} → IsLogOf v log → (t : Tells v c word) → v.shares ≡ v.whole → IsRecordedBy log v.seen t.histories
told_whole is tells all = (knows_by_log is tells.known).all_known all

pub closed_by : (line : LineState) (histories : List (List Event)) → Knows line.view line.log.entries histories → line.view.shares ≡ line.view.whole → AreClosed line histories
closed_by line histories known all = grind (arith, law_of_lawful)
