-- The table of operations gives the answer of a channel on lawful histories, and no other is one;
-- operations that only look, and those that act, in the table.
use Rattle.std.proofs.Common.{◌≡◌, ℕ, ◌==◌, Bool, true, false, List, [], ◌∷◌, ◌++◌, Option, Some, None, refl, sym, ap, ◌∙◌, subst, inl, inr, arith}
use Rattle.std.specs.Prelude.{◌↔◌, if◌then◌else◌, is_some, ℕ, ◌⊎◌}
use Rattle.std.specs.Option.{option_to_list}
use Rattle.std.proofs.lemmas.List.{append-nil}
use Rattle.std.proofs.lemmas.List.Elements.{All-push}
use Rattle.std.proofs.lemmas.Bool.{eqb-true}
use Rattle.pp_channel.specs.declared.{event.Event.Event, chan_op.ChanOp.ChanOp, reply.Reply.Reply, flags.Flags.Flags, channel_state.ChannelState.ChannelState}
use Rattle.pp_channel.specs.History.{IsLawful, HasTwelveBitWord, HasTwelveBitWords, full, waiting}
use Rattle.pp_channel.specs.Answer.{operation_of, IsReady, IsAnswer, channel_state, event_by, event_of, flags_of, flags_after, reply_by, reply_shown, reply_to, history_after, event_answered, flags_shown, only_looks}
use Rattle.pp_channel.specs.Session.{word_put}
use Rattle.pp_channel.proofs.HistoryWalk.{State, Inactive, Empty, Holding, step, step_take, walk, walk-append}
use Rattle.pp_channel.proofs.HistoryLemmas.{is_active, held_word, Fits, active_at, full_at, waiting_at, state_at, lawful_next}

-- the table at a state
abbrev flags_at : State → Flags
flags_at s = record { active = is_active s; full = is_some (held_word s) }

abbrev event_at : ChanOp → State → Option Event
event_at op s = event_by op (flags_at s) (held_word s)

flags_are : (h : List Event) (s : State) → Fits h s → flags_of h ≡ flags_at s
flags_are h s f = ap (λ a. record { active = a; full = full h }) (active_at h s f) ∙ ap (λ b. record { active = is_active s; full = b }) (full_at h s f)

event_is : (op : ChanOp) (h : List Event) (s : State) → Fits h s → event_of op h ≡ event_at op s
event_is op h s f = grind (arith, flags_are, flags_at, waiting_at)

-- a step leads to the flags and the register that the table has after its event
abbrev LeadsTo : State → Event → State → Type 0
LeadsTo s e t = (flags_at t ≡ flags_after e) × (held_word t ≡ word_put e)

leads_as : (s : State) (e : Event) (u t : State) → Some u ≡ Some t → LeadsTo s e u → LeadsTo s e t
leads_as s e u t same q = let is : u ≡ t = cc in let P : State → Type 0 = λ x. LeadsTo s e x in subst P is q

leads_by_take : (w v : ℕ) (b : Bool) (t : State) → (if b then Some Empty else None) ≡ Some t → LeadsTo (Holding w) (Event.Take v) t
leads_by_take w v true t on = leads_as (Holding w) (Event.Take v) Empty t on (refl, refl)
leads_by_take w v false t on = absurd cc

leads : (s : State) (e : Event) (t : State) → step s e ≡ Some t → LeadsTo s e t
leads Inactive Event.Activate t on = leads_as Inactive Event.Activate Empty t on (refl, refl)
leads Inactive (Event.Function v) t on = leads_as Inactive (Event.Function v) Inactive t on (refl, refl)
leads Inactive Event.Disconnect t on = absurd cc
leads Inactive (Event.Put v) t on = absurd cc
leads Inactive (Event.Take v) t on = absurd cc
leads Empty Event.Disconnect t on = leads_as Empty Event.Disconnect Inactive t on (refl, refl)
leads Empty (Event.Put v) t on = leads_as Empty (Event.Put v) (Holding v) t on (refl, refl)
leads Empty Event.Activate t on = absurd cc
leads Empty (Event.Take v) t on = absurd cc
leads Empty (Event.Function v) t on = absurd cc
leads (Holding w) Event.Disconnect t on = leads_as (Holding w) Event.Disconnect Inactive t on (refl, refl)
leads (Holding w) (Event.Take v) t on = leads_by_take w v (v == w) t on
leads (Holding w) Event.Activate t on = absurd cc
leads (Holding w) (Event.Put v) t on = absurd cc
leads (Holding w) (Event.Function v) t on = absurd cc

-- where the table has an event, the operation makes it and the state goes on
abbrev GoesOn : ChanOp → State → Event → Type 0
GoesOn op s e = (operation_of e ≡ op) × ((t : State) × (step s e ≡ Some t))

goes_as : (op : ChanOp) (s : State) (x e : Event) → Some x ≡ Some e → GoesOn op s x → GoesOn op s e
goes_as op s x e same g = let is : x ≡ e = cc in let P : Event → Type 0 = λ y. GoesOn op s y in subst P is g

goes_on : (op : ChanOp) (s : State) (e : Event) → event_at op s ≡ Some e → GoesOn op s e
goes_on ChanOp.Activate Inactive e is = goes_as ChanOp.Activate Inactive Event.Activate e is (refl, (Empty, refl))
goes_on (ChanOp.Function w) Inactive e is = goes_as (ChanOp.Function w) Inactive (Event.Function w) e is (refl, (Inactive, refl))
goes_on ChanOp.Disconnect Empty e is = goes_as ChanOp.Disconnect Empty Event.Disconnect e is (refl, (Inactive, refl))
goes_on (ChanOp.Put w) Empty e is = goes_as (ChanOp.Put w) Empty (Event.Put w) e is (refl, (Holding w, refl))
goes_on ChanOp.Disconnect (Holding w) e is = goes_as ChanOp.Disconnect (Holding w) Event.Disconnect e is (refl, (Inactive, refl))
goes_on ChanOp.Take (Holding w) e is = goes_as ChanOp.Take (Holding w) (Event.Take w) e is (refl, (Empty, step_take w))
goes_on ChanOp.Probe s e is = absurd cc
goes_on ChanOp.Activate Empty e is = absurd cc
goes_on ChanOp.Activate (Holding w) e is = absurd cc
goes_on (ChanOp.Function v) Empty e is = absurd cc
goes_on (ChanOp.Function v) (Holding w) e is = absurd cc
goes_on ChanOp.Disconnect Inactive e is = absurd cc
goes_on (ChanOp.Put v) Inactive e is = absurd cc
goes_on (ChanOp.Put v) (Holding w) e is = absurd cc
goes_on ChanOp.Take Inactive e is = absurd cc
goes_on ChanOp.Take Empty e is = absurd cc

-- an event that may come next is the table's
taken_event : (w v : ℕ) (b : Bool) → (v == w) ≡ b → (t : State) → (if b then Some Empty else None) ≡ Some t → event_at ChanOp.Take (Holding w) ≡ Some (Event.Take v)
taken_event w v true same t on = ap (λ x. Some (Event.Take x)) (sym (eqb-true v w same))
taken_event w v false same t on = absurd cc

stepped_event : (s : State) (e : Event) (t : State) → step s e ≡ Some t → event_at (operation_of e) s ≡ Some e
stepped_event Inactive Event.Activate t on = refl
stepped_event Inactive (Event.Function v) t on = refl
stepped_event Inactive Event.Disconnect t on = absurd cc
stepped_event Inactive (Event.Put v) t on = absurd cc
stepped_event Inactive (Event.Take v) t on = absurd cc
stepped_event Empty Event.Disconnect t on = refl
stepped_event Empty (Event.Put v) t on = refl
stepped_event Empty Event.Activate t on = absurd cc
stepped_event Empty (Event.Take v) t on = absurd cc
stepped_event Empty (Event.Function v) t on = absurd cc
stepped_event (Holding w) Event.Disconnect t on = refl
stepped_event (Holding w) (Event.Take v) t on = taken_event w v (v == w) refl t on
stepped_event (Holding w) Event.Activate t on = absurd cc
stepped_event (Holding w) (Event.Put v) t on = absurd cc
stepped_event (Holding w) (Event.Function v) t on = absurd cc

-- the state before an event that keeps a history lawful, and the step from it
step_before : (h : List Event) (e : Event) → IsLawful h → IsLawful (h ++ e ∷ []) → (s : State) × Fits h s × ((t : State) × (step s e ≡ Some t) × Fits (h ++ e ∷ []) t)
step_before h e l more =
    let s = state_at h l in
    let t = state_at (h ++ e ∷ []) more in
    let on : step s.0 e ≡ Some t.0 = sym (walk-append (Some Inactive) h (e ∷ []) ∙ ap (λ o. walk o (e ∷ [])) s.1) ∙ t.1 in
    (s.0, s.2, (t.0, on, t.2))

-- the event of the table is the one that keeps the history lawful
pub ready_of_table : (h : List Event) (op : ChanOp) (e : Event) → IsLawful h → event_of op h ≡ Some e → IsReady h op e
ready_of_table h op e l is =
    let s = state_at h l in
    let g = goes_on op s.0 e (sym (event_is op h s.0 s.2) ∙ is) in
    record { operation = g.0; lawful = lawful_next h l e g.1.0 g.1.1 }

pub table_of_ready : (h : List Event) → IsLawful h → (op : ChanOp) (e : Event) → IsReady h op e → event_of op h ≡ Some e
table_of_ready h l op e r =
    let s = step_before h e l r.lawful in
    event_is op h s.0 s.1 ∙ (ap (λ x. event_at x s.0) (sym r.operation) ∙ stepped_event s.0 e s.2.0 s.2.1)

pub ready_by_table : (h : List Event) (op : ChanOp) (e : Event) → IsLawful h → IsReady h op e ↔ (event_of op h ≡ Some e)
ready_by_table h op e l = (table_of_ready h l op e, ready_of_table h op e l)

-- after an event the flags and the register are those of the table
pub flags_by_table : (h : List Event) (e : Event) → IsLawful h → IsLawful (h ++ e ∷ []) → flags_of (h ++ e ∷ []) ≡ flags_after e
flags_by_table h e l more =
    let s = step_before h e l more in
    flags_are (h ++ e ∷ []) s.2.0 s.2.2 ∙ (leads s.0 e s.2.0 s.2.1).0

pub word_by_table : (h : List Event) (e : Event) → IsLawful h → IsLawful (h ++ e ∷ []) → waiting (h ++ e ∷ []) ≡ word_put e
word_by_table h e l more =
    let s = step_before h e l more in
    waiting_at (h ++ e ∷ []) s.2.0 s.2.2 ∙ (leads s.0 e s.2.0 s.2.1).1

-- the answer of the table is the channel's
answer_with : (h : List Event) → IsLawful h → (op : ChanOp) (o : Option Event) → event_of op h ≡ o → IsAnswer h op (reply_by op (channel_state h) o) (h ++ option_to_list o)
answer_with h l op (Some e) is = inl (e, record { ready = ready_of_table h op e l is; answered = refl; recorded = refl })
answer_with h l op None is =
    inr (record { not_ready = λ e r. let some = table_of_ready h l op e r in cc; answered = refl; unchanged = append-nil h })

pub answered_by_table : (h : List Event) (op : ChanOp) (reply : Reply) (after : List Event) → IsLawful h → reply ≡ reply_to op h → after ≡ history_after op h → IsAnswer h op reply after
answered_by_table h op reply after l r a = grind (arith, answer_with)

pub answered_where_none : (h : List Event) (op : ChanOp) (reply : Reply) → IsLawful h → event_of op h ≡ None → reply ≡ reply_shown op (channel_state h) → IsAnswer h op reply h
answered_where_none h op reply l none shown =
    inr (record { not_ready = λ e r. let some = table_of_ready h l op e r in cc; answered = shown; unchanged = refl })

-- and no other is
pub none_without_ready : (h : List Event) → IsLawful h → (op : ChanOp) → ((e : Event) → ¬ IsReady h op e) → (o : Option Event) → event_of op h ≡ o → event_of op h ≡ None
none_without_ready h l op never None is = is
none_without_ready h l op never (Some e) is = absurd (never e (ready_of_table h op e l is))

only_answer : (h : List Event) → IsLawful h → (op : ChanOp) (reply : Reply) (after : List Event) → IsAnswer h op reply after → (reply ≡ reply_to op h) × (after ≡ history_after op h)
only_answer h l op reply after (inl (e, made)) =
    let is = table_of_ready h l op e made.ready in
    (made.answered ∙ sym (ap (λ o. reply_by op (channel_state h) o) is), made.recorded ∙ sym (ap (λ o. h ++ option_to_list o) is))
only_answer h l op reply after (inr shown) = grind (arith, none_without_ready, append-nil)

pub answer_by_table : (h : List Event) (op : ChanOp) (reply : Reply) (after : List Event) → IsLawful h → IsAnswer h op reply after ↔ ((reply ≡ reply_to op h) × (after ≡ history_after op h))
answer_by_table h op reply after l = (only_answer h l op reply after, λ p. answered_by_table h op reply after l p.0 p.1)

-- a lawful history stays lawful; callers that keep histories of their own use this too
pub lawful_with_event : (h : List Event) (op : ChanOp) (e : Event) → IsLawful h → event_of op h ≡ Some e → IsLawful (h ++ e ∷ [])
lawful_with_event h op e l is = (ready_of_table h op e l is).lawful

-- what a channel keeps beside its history
abbrev pub IsKept : Flags → Option ℕ → List Event → Type 0
IsKept flags register h =
    IsLawful h × HasTwelveBitWords h × (flags ≡ flags_of h) × (register ≡ waiting h)

-- the same with one more event
pub kept_with_event : {flags flags' : Flags} {register register' : Option ℕ} {value h h' : List Event} → (e : Event) → IsKept flags register h → h ≡ value → IsLawful (value ++ e ∷ []) → HasTwelveBitWord e → flags' ≡ flags_after e → register' ≡ word_put e → h' ≡ h ++ e ∷ [] → IsKept flags' register' h'
kept_with_event {h} e k same more bits flags_is register_is history_is =
    let lawful_more : IsLawful (h ++ e ∷ []) = rw same more in
    rw (flags_is, register_is, history_is) (
      lawful_more,
      All-push HasTwelveBitWord h e k.1 bits,
      sym (flags_by_table h e k.0 lawful_more),
      sym (word_by_table h e k.0 lawful_more),
    )

-- a word is in the register exactly where the channel is full
pub full_register : (flags : Flags) (register : Option ℕ) (h : List Event) → IsKept flags register h → is_some register ≡ full h
full_register flags register h k =
    let s = state_at h k.0 in
    ap is_some (k.3 ∙ waiting_at h s.0 s.2) ∙ sym (full_at h s.0 s.2)

-- an operation that only looks makes no event
pub look_makes_none : (op : ChanOp) (f : Flags) (word : Option ℕ) → only_looks op ≡ true
    → event_by op f word ≡ None
look_makes_none ChanOp.Probe f word looks = refl
look_makes_none op f word looks = absurd cc

-- and is not held
pub look_not_held : (op : ChanOp) (state : ChannelState) (f : Flags) → only_looks op ≡ true
    → reply_shown op state ≡ Reply.Held f → ⊥
look_not_held ChanOp.Probe state f looks held = cc
look_not_held op state f looks held = cc

-- any other operation that makes none is held
pub held_at : (op : ChanOp) (state : ChannelState) → only_looks op ≡ false
    → reply_shown op state ≡ Reply.Held state.flags
held_at ChanOp.Probe state acts = absurd cc
held_at op state acts = refl

-- if none is made, the reply shows the flags
pub shows_flags : (op : ChanOp) (state : ChannelState)
    → flags_shown (reply_shown op state) ≡ Some state.flags
shows_flags ChanOp.Probe state = refl
shows_flags op state = refl

-- and after one that shows them, none was made
pub shown_makes_none : (op : ChanOp) (reply : Reply) (f : Flags) → flags_shown reply ≡ Some f
    → event_answered op reply ≡ None
shown_makes_none op (Reply.Flags g) f shows = refl
shown_makes_none op (Reply.Held g) f shows = refl
shown_makes_none op Reply.Done f shows = absurd cc
shown_makes_none op (Reply.Word w) f shows = absurd cc

-- an operation either looks or acts, and one that makes an event acts
pub looks_or_acts : (b : Bool) → (b ≡ true) ⊎ (b ≡ false)
looks_or_acts true = inl refl
looks_or_acts false = inr refl

pub acts_where_made : (op : ChanOp) (f : Flags) (word : Option ℕ) (e : Event)
    → event_by op f word ≡ Some e → only_looks op ≡ false
acts_where_made op f word e made = grind (arith, looks_or_acts, look_makes_none)
