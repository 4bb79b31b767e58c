-- What the word of a history says, the word after one more event, and what a step from a word says of its histories.
use Rattle.std.proofs.Common.{◌≡◌, ◌≢◌, ℕ, ◌+◌, ◌/◌, ◌%◌, ◌^◌, ◌==◌, ◌&&◌, Bool, true, false, List, [], ◌∷◌, ◌++◌, length, Option, Some, None, refl, sym, ap, ◌∙◌, subst, inl, inr, arith}
use Rattle.std.specs.Prelude.{if◌then◌else◌, not, unwrap_or, ◌⊎◌}
use Rattle.std.specs.List.{last_or}
use Rattle.std.proofs.lemmas.Bool.{eq-eqb, ne_eqb, eqb-false, eqb-true}
use Rattle.std.proofs.lemmas.List.{length_push}
use Rattle.pp_line.specs.Types.{ChanOp, Event, Flags, Reply, WordStep}
use Rattle.pp_channel.specs.Session.{puts, takes}
use Rattle.pp_channel.specs.History.{IsLawful, HasTwelveBitWord, HasTwelveBitWords, active, full, waiting, last_stretch}
use Rattle.pp_channel.specs.Answer.{IsReady, IsAnswer, channel_state, only_looks, reply_shown, event_by, event_of, flags_of, reply_made}
use Rattle.pp_line.specs.ChannelWord.{packed, history_word, number_in, flags_in, register_in, greatest_number, waiting_in, state_in, word_with, step_from, StepsFrom}
use Rattle.pp_channel.proofs.AnswerLemmas.{acts_where_made, look_makes_none, answered_where_none, ready_of_table, table_of_ready, none_without_ready, lawful_with_event, flags_by_table, word_by_table}
use Rattle.pp_channel.proofs.HistoryLemmas.{waiting_small}

-- what was packed is read again
record IsPacked (n : ℕ) (flags : Flags) (r : ℕ) : Type 0 where
  number : number_in (packed n flags r) ≡ n
  register : register_in (packed n flags r) ≡ r
  active : (packed n flags r / 2 ^ 13 % 2 == 1) ≡ flags.active
  full : (packed n flags r / 2 ^ 12 % 2 == 1) ≡ flags.full

word_is_packed : (h : List Event) → HasTwelveBitWords h → IsPacked (length h) (flags_of h) (unwrap_or (waiting h) 0)
word_is_packed h bits = grind (arith, waiting_small, eq-eqb, ne_eqb)

-- what the word of a history says of it, be the history lawful or not
pub number_of_word : (h : List Event) → HasTwelveBitWords h → number_in (history_word h) ≡ length h
number_of_word h bits = (word_is_packed h bits).number

pub flags_of_word : (h : List Event) → HasTwelveBitWords h → flags_in (history_word h) ≡ flags_of h
flags_of_word h bits = let is = word_is_packed h bits in λ j. record { active = is.active j; full = is.full j }

last_is : (w : ℕ) (ws : List ℕ) → Some (unwrap_or (last_or (Some w) ws) 0) ≡ last_or (Some w) ws
last_is w [] = refl
last_is w (v ∷ ws) = last_is v ws

waits_in : (a : Bool) (ps ts : List ℕ) (b : Bool) → (length ps == length ts + 1) ≡ b
    → (if a && (a && b) then Some (unwrap_or (if a && b then last_or None ps else None) 0) else None) ≡ (if a && b then last_or None ps else None)
waits_in false ps ts b is = refl
waits_in true ps ts false is = refl
waits_in true (p ∷ ps) ts true is = last_is p ps
waits_in true [] ts true is = absurd (omega (arith, eqb-true 0 (length ts + 1) is))

pub waiting_of_word : (h : List Event) → HasTwelveBitWords h → waiting_in (history_word h) ≡ waiting h
waiting_of_word h bits =
    ap (λ g. if g.active && g.full then Some (register_in (history_word h)) else None) (flags_of_word h bits)
    ∙ (ap (λ r. if active h && full h then Some r else None) ((word_is_packed h bits).register)
    ∙ waits_in (active h) (puts (last_stretch h)) (takes (last_stretch h)) (length (puts (last_stretch h)) == length (takes (last_stretch h)) + 1) refl)

pub event_of_word : (op : ChanOp) (h : List Event) → HasTwelveBitWords h → event_by op (flags_in (history_word h)) (waiting_in (history_word h)) ≡ event_of op h
event_of_word op h bits = grind (arith, flags_of_word, waiting_of_word)

-- the same of a word that is known to be that of a history
pub number_at_word : (word : ℕ) (h : List Event) → HasTwelveBitWords h → history_word h ≡ word → number_in word ≡ length h
number_at_word word h bits same = ap number_in (sym same) ∙ number_of_word h bits

event_at_word : (op : ChanOp) (word : ℕ) (o : Option Event) (h : List Event) → HasTwelveBitWords h → history_word h ≡ word → event_by op (flags_in word) (waiting_in word) ≡ o → event_of op h ≡ o
event_at_word op word o h bits same is = sym (event_of_word op h bits) ∙ (ap (λ w. event_by op (flags_in w) (waiting_in w)) same ∙ is)

state_of_word : (h : List Event) → HasTwelveBitWords h → state_in (history_word h) ≡ channel_state h
state_of_word h bits = grind (arith, flags_of_word, waiting_of_word)

-- the word of a lawful history with an event by which it stays lawful
word_after_event : (h : List Event) (e : Event) → IsLawful h → HasTwelveBitWords h → IsLawful (h ++ e ∷ []) → word_with (history_word h) e ≡ history_word (h ++ e ∷ [])
word_after_event h e l bits more = grind (arith, number_of_word, length_push, flags_by_table, word_by_table)

-- the step of an operation that only looks or not, on a word that can count no more or not, by the event that it would make
abbrev step_shown : ℕ → Bool → Option Event → WordStep
step_shown word looks None = if looks then WordStep.Look (flags_in word) else WordStep.Held (flags_in word)
step_shown word looks (Some e) = WordStep.Next (word_with word e) (reply_made e) e

abbrev step_if : ℕ → Bool → Bool → Option Event → WordStep
step_if word looks most o = if not looks && most then WordStep.Worn else step_shown word looks o

step_is : (op : ChanOp) (word : ℕ) → step_from op word ≡ step_if word (only_looks op) (number_in word == greatest_number) (event_by op (flags_in word) (waiting_in word))
step_is op word = grind (arith, step_if)

steps_below : (op : ChanOp) (word : ℕ) (o : Option Event) → (only_looks op ≡ false → number_in word ≢ greatest_number) → event_by op (flags_in word) (waiting_in word) ≡ o → step_from op word ≡ step_shown word (only_looks op) o
steps_below op word o room is = grind (arith, step_is, step_shown, ne_eqb)

-- a step that leaves the word as it is
abbrev pub Stays : WordStep → Type 0
Stays (WordStep.Look f) = Unit {0}
Stays (WordStep.Held f) = Unit {0}
Stays (WordStep.Next next reply e) = ⊥
Stays WordStep.Worn = ⊥

pub stays_either : (step : WordStep) → ((f : Flags) × (step ≡ WordStep.Look f)) ⊎ ((f : Flags) × (step ≡ WordStep.Held f)) → Stays step
stays_either step (inl (f, is)) = subst Stays (sym is) tt
stays_either step (inr (f, is)) = subst Stays (sym is) tt

-- what each step says of the word
pub worn_by_table : (word : ℕ) (op : ChanOp) → WordStep.Worn ≡ step_from op word → (only_looks op ≡ false) × (number_in word ≡ greatest_number)
worn_by_table word op is = grind (arith, step_is, eqb-true, step_if)

pub shown_by_table : (word : ℕ) (op : ChanOp) (step : WordStep) → Stays step → step ≡ step_from op word
    → (only_looks op ≡ false → number_in word ≢ greatest_number) × (event_by op (flags_in word) (waiting_in word) ≡ None)
shown_by_table word op step stays is = grind (arith, step_is, eqb-false, step_if)

-- what a step that makes an event says of the word
abbrev pub MakesNext : ChanOp → ℕ → ℕ → Reply → Event → Type 0
MakesNext op word next reply e = (only_looks op ≡ false) × (number_in word ≢ greatest_number) × (event_by op (flags_in word) (waiting_in word) ≡ Some e) × (next ≡ word_with word e) × (reply ≡ reply_made e)

pub next_by_table : (word : ℕ) (op : ChanOp) (next : ℕ) (reply : Reply) (e : Event) → WordStep.Next next reply e ≡ step_from op word → MakesNext op word next reply e
next_by_table word op next reply e is =
    let made = by_step (only_looks op) (number_in word == greatest_number) (event_by op (flags_in word) (waiting_in word)) (is ∙ step_is op word) in
    let acts = acts_where_made op (flags_in word) (waiting_in word) e made.1 in
    (acts, eqb-false (number_in word) greatest_number (made.0 acts), made.1, made.2, made.3)
  where
    by_step : (looks most : Bool) (o : Option Event) → WordStep.Next next reply e ≡ step_if word looks most o → (looks ≡ false → most ≡ false) × (o ≡ Some e) × (next ≡ word_with word e) × (reply ≡ reply_made e)
    by_step false true o is = absurd cc
    by_step true most None is = absurd cc
    by_step false false None is = absurd cc
    by_step true most (Some d) is = grind arith
    by_step false false (Some d) is = grind arith

-- each history of the word goes on with the event to one of the next word
pub next_word : (word : ℕ) (op : ChanOp) (e : Event) (next : ℕ) (reply : Reply) → WordStep.Next next reply e ≡ step_from op word → HasTwelveBitWord e
    → (h : List Event) → IsLawful h → HasTwelveBitWords h → history_word h ≡ word
    → IsLawful (h ++ e ∷ []) × HasTwelveBitWord e × (history_word (h ++ e ∷ []) ≡ next)
next_word word op e next reply stepped small h l bits same =
    let makes = next_by_table word op next reply e stepped in
    let more = lawful_with_event h op e l (event_at_word op word (Some e) h bits same makes.2) in
    (more, small, sym (word_after_event h e l bits more) ∙ (ap (λ w. word_with w e) same ∙ sym makes.3))

-- what the answer is on a history of the word
pub ready_at_word : (word : ℕ) (op : ChanOp) (e : Event) → event_by op (flags_in word) (waiting_in word) ≡ Some e → (h : List Event) → IsLawful h → HasTwelveBitWords h → history_word h ≡ word → IsReady h op e
ready_at_word word op e made h l bits same = ready_of_table h op e l (event_at_word op word (Some e) h bits same made)

pub answer_made : (word : ℕ) (op : ChanOp) (e : Event) (next : ℕ) (reply : Reply) → MakesNext op word next reply e
    → (h : List Event) → IsLawful h → HasTwelveBitWords h → history_word h ≡ word → IsAnswer h op reply (h ++ e ∷ [])
answer_made word op e next reply makes h l bits same =
    inl (e, record { ready = ready_at_word word op e makes.2 h l bits same; answered = makes.4; recorded = refl })

pub answer_shown : (word : ℕ) (op : ChanOp) (step : WordStep) → Stays step → step ≡ step_from op word
    → (h : List Event) → IsLawful h → HasTwelveBitWords h → history_word h ≡ word → IsAnswer h op (reply_shown op (state_in word)) h
answer_shown word op step stays is h l bits same = grind (arith, shown_by_table, answered_where_none, event_at_word, state_of_word)

-- the step is the one by the histories
steps_from_word : (h : List Event) (op : ChanOp) → IsLawful h → HasTwelveBitWords h → StepsFrom h op (step_from op (history_word h))
steps_from_word h op l bits =
    let n = number_of_word h bits in
    record {
      looks = grind (arith, steps_below, event_of_word, look_makes_none, flags_of_word);
      ready = λ e room r.
          steps_below op (history_word h) (Some e) (λ acts most. omega arith) (event_of_word op h bits ∙ table_of_ready h l op e r)
          ∙ ap (λ w. WordStep.Next w (reply_made e) e) (word_after_event h e l bits r.lawful);
      not_ready = λ acts room never.
          steps_below op (history_word h) None (λ acts most. omega arith) (event_of_word op h bits ∙ none_without_ready h l op never (event_of op h) refl)
          ∙ ap (λ look. step_shown (history_word h) look None) acts
          ∙ ap (λ f. WordStep.Held f) (flags_of_word h bits);
      worn = grind (arith, step_is, eq-eqb);
    }

pub steps_as_histories : (word : ℕ) (op : ChanOp) (step : WordStep) → step ≡ step_from op word → (h : List Event) → IsLawful h → HasTwelveBitWords h → history_word h ≡ word → StepsFrom h op step
steps_as_histories word op step is h l bits same = grind (arith, steps_from_word)
