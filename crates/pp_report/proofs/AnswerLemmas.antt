-- An answer that moved its processor: it is local, or a channel gives it at the moment that its sight tells.
use Rattle.std.proofs.Common.{◌≡◌, ◌≢◌, ℕ, ◌<◌, ◌≤◌, true, false, List, [], ◌∷◌, ◌++◌, Some, None, refl, sym, ap, ◌∙◌, subst, inl, inr, arith}
use Rattle.std.specs.Prelude.{◌⊎◌, map}
use Rattle.std.specs.Option.{option_to_list}
use Rattle.std.proofs.lemmas.Bool.{cases_lt}
use Rattle.pp_channel.specs.Answer.{event_of, flags_of, channel_state, operation_of, ready_at, reply_made, reply_by, reply_to, seen_answered}
use Rattle.pp_channel.proofs.AnswerLemmas.{held_at, table_of_ready}
use Rattle.pp_channel.specs.History.{IsLawful}
use Rattle.pp_report.specs.Types.{Access, Answer, ChanOp, Did, Entry, Event, Flags, Need, Outcome, Reply, Saw, Seen}
use Rattle.pp_processor.specs.Block.{block_word}
use Rattle.pp_processor.proofs.ReplayLemmas.{acts_where_held, tells_where_fits}
use Rattle.pp_processor.specs.NeedAndEffect.{need, outcome}
use Rattle.pp_processor.specs.Processor.{Processor}
use Rattle.pp_processor.specs.Replay.{fits, reply_fits}
use Rattle.pp_processor.specs.Step.{need_of}
use Rattle.pp_processor.specs.declared.{block.BlockKind.BlockKind}
use Rattle.pp_processor.proofs.StepLemmas.{at_rest, nothing_at_rest}
use Rattle.pp_runner.specs.Accesses.{accesses_by}
use Rattle.pp_runner.specs.WorkerReport.{IsBySize}
use Rattle.pp_report.proofs.MachineLemmas.{Past, Serves, serves_local, serves_no_word, serves_no_write}

-- an answer that fits, moves its processor, and goes by the size of central memory
pub record GoesOn (size : ℕ) (pp : Processor) (x : Answer) : Type 0 where
  pub fit : fits (need pp) x ≡ true
  pub moved : outcome pp x ≡ Outcome.Moved
  pub by_size : IsBySize size (need pp) x

-- the answer of a channel, and what it did or saw
pub record IsOfChannel (needed : Need) (x : Answer) : Type 0 where
  pub c : ℕ
  pub op : ChanOp
  pub reply : Reply
  pub needs_it : needed ≡ Need.Channel c op
  pub is : x ≡ Answer.Channel reply
  pub fit : reply_fits op reply ≡ true
  pub what : Seen
  pub tells : seen_answered op reply ≡ Some what

-- an answer that accessed something
pub record IsAccess (needed : Need) (x : Answer) : Type 0 where
  pub access : ℕ → Access
  pub given : (number : ℕ) → accesses_by number needed x ≡ access number ∷ []

-- any other changes nothing
pub record IsAside (size : ℕ) (needed : Need) (x : Answer) : Type 0 where
  pub serves : (past : Past) → Serves size needed x past past
  pub given : (number : ℕ) → accesses_by number needed x ≡ []

not_inside : (a size : ℕ) → (a < size → ⊥) → size ≤ a
not_inside a size not = elim (cases_lt a size) [ inl less ↦ absurd (not less) | inr past ↦ past ]

-- what an operation did or saw, as an access
on_channel : ℕ → ℕ → Seen → Access
on_channel c number what = Access.OnChannel (record { channel = c; number = number; what = what })

accessed_on : (c number : ℕ) (op : ChanOp) (reply : Reply) (what : Seen) → seen_answered op reply ≡ Some what → accesses_by number (Need.Channel c op) (Answer.Channel reply) ≡ on_channel c number what ∷ []
unfolding on_channel
accessed_on c number op reply what tells = ap (λ o. map (λ what. Access.OnChannel (record { channel = c; number = number; what = what })) (option_to_list o)) tells

kinds : (size : ℕ) (needed : Need) (x : Answer) → fits needed x ≡ true → needed ≢ Need.Nothing → IsBySize size needed x → IsAside size needed x ⊎ IsAccess needed x
kinds size Need.Nothing x fit some by_size = absurd (some refl)
kinds size Need.Local Answer.Local fit some by_size = inl (record { serves = serves_local size; given = λ number. refl })
kinds size Need.Local x fit some by_size = absurd cc
kinds size (Need.Channel c op) (Answer.Channel reply) fit some by_size =
    let tells = tells_where_fits op reply fit in
    inr (record { access = λ number. on_channel c number tells.0; given = λ number. accessed_on c number op reply tells.0 tells.1 })
kinds size (Need.Channel c op) x fit some by_size = absurd cc
kinds size (Need.Read a) (Answer.Read None) fit some by_size = inl (record { serves = λ past. serves_no_word size a past (by_size.0 refl); given = λ number. refl })
kinds size (Need.Read a) (Answer.Read (Some w)) fit some by_size = inr (record { access = λ number. Access.Read a w; given = λ number. refl })
kinds size (Need.Read a) x fit some by_size = absurd cc
kinds size (Need.Write a w) (Answer.Wrote false) fit some by_size =
    inl (record { serves = λ past. serves_no_write size a w past (not_inside a size (λ less. let no = by_size.1 less in absurd cc)); given = λ number. refl })
kinds size (Need.Write a w) (Answer.Wrote true) fit some by_size = inr (record { access = λ number. Access.Write a w number; given = λ number. refl })
kinds size (Need.Write a w) x fit some by_size = absurd cc

pub kind_of : (size : ℕ) (pp : Processor) (x : Answer) → GoesOn size pp x → IsAside size (need pp) x ⊎ IsAccess (need pp) x
kind_of size pp x goes = grind (arith, kinds, at_rest, nothing_at_rest)

-- the answer that made an access
pub record IsOnChannel (needed : Need) (x : Answer) (entry : Entry) : Type 0 where
  pub of : IsOfChannel needed x
  pub channel : of.c ≡ entry.channel
  pub seen : of.what ≡ entry.what

abbrev pub MadeBy : Access → Need → Answer → Type 0
MadeBy (Access.OnChannel entry) needed x = IsOnChannel needed x entry
MadeBy (Access.Read a w) needed x = (needed ≡ Need.Read a) × (x ≡ Answer.Read (Some w))
MadeBy (Access.Write a w number) needed x = (needed ≡ Need.Write a w) × (x ≡ Answer.Wrote true)

only : (one access : Access) → one ∷ [] ≡ access ∷ [] → one ≡ access
only one access is = cc

pub made_by : (needed : Need) (x : Answer) (number : ℕ) (access : Access) → fits needed x ≡ true → accesses_by number needed x ≡ access ∷ [] → MadeBy access needed x
unfolding on_channel
made_by (Need.Channel c op) (Answer.Channel reply) number access fit is =
    let tells = tells_where_fits op reply fit in
    subst (λ (a : Access). MadeBy a (Need.Channel c op) (Answer.Channel reply)) (only (on_channel c number tells.0) access (sym (accessed_on c number op reply tells.0 tells.1) ∙ is)) (record {
      of = record { c = c; op = op; reply = reply; needs_it = refl; is = refl; fit = fit; what = tells.0; tells = tells.1 };
      channel = refl;
      seen = refl;
    })
made_by (Need.Channel c op) x number access fit is = absurd cc
made_by Need.Nothing x number access fit is = absurd cc
made_by Need.Local x number access fit is = absurd cc
made_by (Need.Read a) (Answer.Read None) number access fit is = absurd cc
made_by (Need.Read a) (Answer.Read (Some w)) number access fit is = subst (λ (b : Access). MadeBy b (Need.Read a) (Answer.Read (Some w))) (only (Access.Read a w) access is) (refl, refl)
made_by (Need.Read a) x number access fit is = absurd cc
made_by (Need.Write a w) (Answer.Wrote false) number access fit is = absurd cc
made_by (Need.Write a w) (Answer.Wrote true) number access fit is = subst (λ (b : Access). MadeBy b (Need.Write a w) (Answer.Wrote true)) (only (Access.Write a w number) access is) (refl, refl)
made_by (Need.Write a w) x number access fit is = absurd cc

-- a block that a channel ended by being inactive: its operation was not ready
inactive : (kind : BlockKind) (place : ℕ) (pp : Processor) (c : ℕ) (op : ChanOp) (f : Flags) → need_of (block_word kind place pp) ≡ Need.Channel c op → f.active ≡ false → ready_at op f ≡ false
inactive kind place pp c op f is none = grind arith

pub held_not_ready : (pp : Processor) (c : ℕ) (op : ChanOp) (f : Flags) → need pp ≡ Need.Channel c op → outcome pp (Answer.Channel (Reply.Held f)) ≡ Outcome.Moved → ready_at op f ≡ false
unfolding need outcome
held_not_ready pp c op f needed moved = grind (arith, inactive)

-- what a channel with this history answers where the sight is a look at it as it is
pub record IsLookAnswer (h : List Event) (op : ChanOp) (reply : Reply) : Type 0 where
  pub is : reply_to op h ≡ reply
  pub none : event_of op h ≡ None

pub look_answer : (size : ℕ) (pp : Processor) (x : Answer) (h : List Event) (f : Flags) (goes : GoesOn size pp x) (of : IsOfChannel (need pp) x) → of.what ≡ Saw f → f ≡ flags_of h → IsLookAnswer h of.op of.reply
look_answer size pp x h f goes of look now = grind (arith, held_not_ready, held_at, acts_where_held)

-- and where it is the next event
pub record IsEventAnswer (h : List Event) (op : ChanOp) (reply : Reply) (e : Event) : Type 0 where
  pub is : reply_to op h ≡ reply
  pub made : event_of op h ≡ Some e

event_made : (op : ChanOp) (reply : Reply) (e : Event) → reply_fits op reply ≡ true → seen_answered op reply ≡ Some (Did e) → (operation_of e ≡ op) × (reply_made e ≡ reply)
event_made op reply e fit told = grind arith

pub event_answer : (pp : Processor) (x : Answer) (h : List Event) (e : Event) (of : IsOfChannel (need pp) x) → of.what ≡ Did e → IsLawful h → IsLawful (h ++ e ∷ []) → IsEventAnswer h of.op of.reply e
event_answer pp x h e of did lawful next =
    let made = event_made of.op of.reply e of.fit (of.tells ∙ ap (λ w. Some w) did) in
    let ready : event_of of.op h ≡ Some e = table_of_ready h lawful of.op e (record { operation = made.0; lawful = next }) in record {
      is = ap (reply_by of.op (channel_state h)) ready ∙ made.1;
      made = ready;
    }
