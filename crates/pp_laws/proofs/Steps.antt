-- One more step of any order keeps it beside the list.
use Rattle.std.proofs.Common.{◌≡◌, ◌≢◌, ℕ, suc, ◌<◌, ◌≤◌, IsTrue, List, [], ◌∷◌, ◌++◌, length, take, get_or, Option, Some, None, refl, sym, ap, ◌∙◌, subst, inl, inr, arith}
use Rattle.std.specs.Option.{option_to_list}
use Rattle.std.proofs.lemmas.Bool.{cases_eq, cases_lt}
use Rattle.std.proofs.lemmas.List.{length_push}
use Rattle.pp_channel.specs.Answer.{event_of, reply_to, history_after}
use Rattle.pp_numbers.specs.ChannelNo.{channel_count, channel_index, names_channel}
use Rattle.pp_channel.specs.declared.{chan_op.ChanOp.ChanOp, event.Event.Event}
use Rattle.pp_machine.specs.MachineState.{MachineState, processor_of, history_of}
use Rattle.pp_machine.specs.MachineStep.{answer_to, counted, stepped}
use Rattle.pp_processor.specs.NeedAndEffect.{need, processor_after}
use Rattle.pp_processor.specs.Processor.{IsAtRest}
use Rattle.pp_numbers.specs.PpNo.{processor_count}
use Rattle.pp_processor.specs.declared.{answer.Answer.Answer, need.Need.Need}
use Rattle.pp_processor.specs.declared.need.Need.TheVariants.{Channel, Local}
use Rattle.pp_machine.proofs.MachineStepLemmas.{stepped_at_rest}
use Rattle.pp_run.specs.Determinacy.{IsDeterminate, Stays, TurnsInPlace, DoesTheSame, at_moment, processor_at, history_at, made_on, MayFind}
use Rattle.pp_run.specs.Determinacy.MayFind.{channel_advances, processor_advances, both_advance}
use Rattle.pp_run.proofs.StepFacts.{own_step, other_step, histories_by, histories_none, history_here, history_elsewhere, history_unless, word_unless, central_by, made_here, made_unless, length_processors, length_histories, length_central}
use Rattle.pp_run.proofs.Moments.{moment_next, moment_each, run_central, mono, flat, channel_to, made_still}
use Rattle.pp_laws.proofs.Standing.{Owns, word_of, Goes, IsNext, Follows, put_at, put_same, put_other, put_all, by_answers, words_alike, catch_up}

-- the order goes on with processor q's next step: q comes further, and no other
pub record Advances (ns : List ℕ) (m now : MachineState) (reached : ℕ → ℕ) (q : ℕ) : Type 0 where
  pub new_reached : ℕ → ℕ
  pub new_stood : ℕ → ℕ
  pub follows : Follows ns m now new_reached new_stood
  pub further : suc (reached q) ≤ new_reached q
  pub others : (x : ℕ) → x ≢ q → new_reached x ≡ reached x

channel_parts : (c e : ℕ) (op oq : ChanOp) → Channel c op ≡ Channel e oq → (c ≡ e) × (op ≡ oq)
channel_parts c e op oq same = ((cc), (cc))

channel_step : (q c : ℕ) (op : ChanOp) (n : MachineState) → need (processor_of q n) ≡ Channel c op → processor_of q (stepped q n) ≡ processor_after (processor_of q n) (Answer.Channel (reply_to op (history_of c n)))
channel_step q c op n e = own_step q n ∙ ap (λ x. processor_after (processor_of q n) (answer_to x n)) e

module _ (ns : List ℕ) (m : MachineState) (all : length m.processors ≡ processor_count) (each : length m.histories ≡ channel_count) (d : IsDeterminate ns m) where
  module _ (now : MachineState) (reached stood : ℕ → ℕ) (f : Follows ns m now reached stood) where
    -- a step that leaves its processor, the histories and central memory
    pub kept : (n : ℕ) → processor_of n (stepped n now) ≡ processor_of n now → (stepped n now).histories ≡ now.histories → (stepped n now).central ≡ now.central → ((c : ℕ) → made_on c (stepped n now).trace ≡ made_on c now.trace) → Follows ns m (stepped n now) reached stood
    kept n pp hs cs es =
        let s = f.stands in
        record {
          stands = record {
            all = length_processors n now ∙ s.all;
            each = length_histories n now ∙ s.each;
            size = length_central n now ∙ s.size;
            within = s.within;
            processor = λ q. elim (cases_eq q n) [
              | inl same ↦ subst (λ (k : ℕ). processor_of k (stepped n now) ≡ processor_at ns m k (reached k)) (sym same) (pp ∙ s.processor n)
              | inr other ↦ other_step q n now s.all other ∙ s.processor q
            ];
            history = λ c. ap (λ (h : List (List Event)). get_or h (channel_index c) []) hs ∙ s.history c;
            made = λ c names. es c ∙ s.made c names;
            may = s.may;
            word = λ q a owns. ap (λ (ws : List ℕ). get_or ws a 0) cs ∙ s.word q a owns;
          };
          next = f.next;
        }

    pub kept_by_stay : (n c : ℕ) (op : ChanOp) → need (processor_of n now) ≡ Channel c op → Stays op (processor_of n now) (history_of c now) → Follows ns m (stepped n now) reached stood
    kept_by_stay n c op e stay =
        kept n
        (own_step n now ∙ ap (λ x. processor_after (processor_of n now) (answer_to x now)) e ∙ stay.stays)
        (histories_none n c op now e stay.no_event)
        (central_by n now (Channel c op) e)
        (λ k. made_unless n k now (λ oq g.
        let parts = channel_parts c k op oq (sym e ∙ g) in
        subst (λ (j : ℕ). event_of oq (history_of j now) ≡ None) parts.0 (subst (λ (o : ChanOp). event_of o (history_of c now) ≡ None) parts.1 stay.no_event)))

    pub kept_at_rest : (n : ℕ) → IsAtRest (processor_of n now) → Follows ns m (stepped n now) reached stood
    kept_at_rest n rests =
        let same : stepped n now ≡ record now { turns = counted now.turns } = stepped_at_rest n now rests in
        kept n (ap (λ k. processor_of n k) same) (ap (λ (k : MachineState). k.histories) same) (ap (λ (k : MachineState). k.central) same) (λ c. ap (λ (k : MachineState). made_on c k.trace) same)

    pub kept_in_place : (n : ℕ) → TurnsInPlace (processor_of n now) → Follows ns m (stepped n now) reached stood
    kept_in_place n turns =
        kept n
        (own_step n now ∙ ap (λ x. processor_after (processor_of n now) (answer_to x now)) turns.needs ∙ turns.stays)
        (histories_by n now Local turns.needs)
        (central_by n now Local turns.needs)
        (λ c. made_unless n c now (λ op g. (let bad : Local ≡ Channel c op = sym turns.needs ∙ g in absurd (cc))))

    -- the order makes q's next step, of which the list says what it leaves
    pub advance : (q : ℕ) → Goes ns m q (reached q) → (new_stood : ℕ → ℕ)
        → processor_of q (stepped q now) ≡ processor_of q (stepped q (at_moment ns m (reached q)))
        → ((c : ℕ) → history_of c (stepped q now) ≡ history_at ns m c (new_stood c))
        → ((c : ℕ) → IsTrue (names_channel c) → made_on c (stepped q now).trace ≡ made_on c (at_moment ns m (new_stood c)).trace)
        → ((c : ℕ) → MayFind ns m q c (suc (reached q)) (new_stood c))
        → ((x c : ℕ) → x ≢ q → MayFind ns m x c (reached x) (new_stood c))
        → Advances ns m (stepped q now) reached q
    advance q go new_stood pp hist made_by may_q may_others =
        let s = f.stands in
        let t = reached q in
        let M = at_moment ns m t in
        let within : t < length ns = go.within in
        let step : at_moment ns m (suc t) ≡ stepped q M = moment_next ns m t within ∙ ap (λ k. stepped k M) go.mine in
        let c = catch_up ns m all each d (length ns) q (suc t) (omega arith) (omega arith) in
        let sizes : length now.central ≡ length M.central = s.size ∙ sym (run_central (take t ns) m) in
        let new_reached = put_at reached q c.to in
        record {
          new_reached = new_reached;
          new_stood = new_stood;
          follows = record {
            stands = record {
              all = length_processors q now ∙ s.all;
              each = length_histories q now ∙ s.each;
              size = length_central q now ∙ s.size;
              within = put_all (λ x v. v ≤ length ns) reached q c.to c.within (λ x other. s.within x);
              processor = put_all (λ x v. processor_of x (stepped q now) ≡ processor_at ns m x v) reached q c.to
                  (pp ∙ ap (λ k. processor_of q k) (sym step) ∙ sym c.processor)
                  (λ x other. other_step x q now s.all other ∙ s.processor x);
              history = hist;
              made = made_by;
              may = put_all (λ x v. (k : ℕ) → MayFind ns m x k v (new_stood k)) reached q c.to
                  (λ k. c.may k (new_stood k) (may_q k))
                  (λ x other k. may_others x k other);
              word = put_all (λ x v. (a : ℕ) → Owns ns m x a → word_of a (stepped q now) ≡ word_of a (at_moment ns m v)) reached q c.to
                  (λ a owns. words_alike q a now M (s.processor q) sizes (s.word q a owns) ∙ ap (λ k. word_of a k) (sym step) ∙ sym (c.word a owns))
                  (λ x other a owns. word_unless q a now (λ w e. other (sym (owns t within w (ap (λ k. need (processor_at ns m k t)) go.mine ∙ ap (λ p. need p) (sym (s.processor q)) ∙ e)) ∙ go.mine)) ∙ s.word x a owns);
            };
            next = put_all (λ x v. IsNext ns m x v) reached q c.to c.next (λ x other. f.next x);
          };
          further = subst (λ (k : ℕ). suc t ≤ k) (sym (put_same reached q c.to)) c.later;
          others = λ x other. put_other reached q c.to x other;
        }

    pub off_channel : (q : ℕ) (x : Need) → Goes ns m q (reached q) → need (processor_at ns m q (reached q)) ≡ x
        → ((c : ℕ) (op : ChanOp) → x ≡ Channel c op → ⊥) → answer_to x now ≡ answer_to x (at_moment ns m (reached q))
        → Advances ns m (stepped q now) reached q
    off_channel q x go e off answer =
        let s = f.stands in
        let t = reached q in
        let M = at_moment ns m t in
        let e_now : need (processor_of q now) ≡ x = ap (λ p. need p) (s.processor q) ∙ e in
        advance q go stood
        (by_answers q now M x (s.processor q) e answer)
        (λ c. history_unless q c now s.each (λ op g. absurd (off c op (sym e_now ∙ g))) ∙ s.history c)
        (λ c names. made_unless q c now (λ op g. absurd (off c op (sym e_now ∙ g))) ∙ s.made c names)
        (λ c. processor_advances t (stood c) (s.may q c) (inr (λ op g. absurd (off c op (sym e ∙ g)))))
        (λ y c other. s.may y c)

    pub the_same : (q c : ℕ) (op : ChanOp) → Goes ns m q (reached q) → need (processor_at ns m q (reached q)) ≡ Channel c op
        → DoesTheSame op (processor_at ns m q (reached q)) (history_at ns m c (stood c)) (history_at ns m c (reached q))
        → Advances ns m (stepped q now) reached q
    the_same q c op go e same =
        let s = f.stands in
        let t = reached q in
        let M = at_moment ns m t in
        let e_now : need (processor_of q now) ≡ Channel c op = ap (λ p. need p) (s.processor q) ∙ e in
        let none : event_of op (history_of c now) ≡ None = ap (λ h. event_of op h) (s.history c) ∙ same.no_event in
        let hs : (stepped q now).histories ≡ now.histories = histories_none q c op now e_now none in
        advance q go stood
        (channel_step q c op now e_now
        ∙ ap (λ p. processor_after p (Answer.Channel (reply_to op (history_of c now)))) (s.processor q)
        ∙ ap (λ h. processor_after (processor_of q M) (Answer.Channel (reply_to op h))) (s.history c)
        ∙ same.same
        ∙ sym (channel_step q c op M e))
        (λ k. ap (λ (h : List (List Event)). get_or h (channel_index k) []) hs ∙ s.history k)
        (λ k names. made_unless q k now (λ oq g.
        let parts = channel_parts c k op oq (sym e_now ∙ g) in
        subst (λ (j : ℕ). event_of oq (history_of j now) ≡ None) parts.0 (subst (λ (o : ChanOp). event_of o (history_of c now) ≡ None) parts.1 none)) ∙ s.made k names)
        (λ k. processor_advances t (stood k) (s.may q k) (inr (λ oq g.
        let parts = channel_parts c k op oq (sym e ∙ g) in
        inr (subst (λ (j : ℕ). DoesTheSame oq (processor_of q M) (history_at ns m j (stood j)) (history_at ns m j t)) parts.0
        (subst (λ (o : ChanOp). DoesTheSame o (processor_of q M) (history_at ns m c (stood c)) (history_at ns m c t)) parts.1 same)))))
        (λ y k other. s.may y k)

    event_made : (q c : ℕ) (op : ChanOp) (event : Event) → Goes ns m q (reached q) → need (processor_at ns m q (reached q)) ≡ Channel c op
        → IsTrue (names_channel c) → history_at ns m c (stood c) ≡ history_at ns m c (reached q)
        → event_of op (history_at ns m c (reached q)) ≡ Some event
        → Advances ns m (stepped q now) reached q
    event_made q c op event go e names same made =
        let s = f.stands in
        let t = reached q in
        let M = at_moment ns m t in
        let within : t < length ns = go.within in
        let step : at_moment ns m (suc t) ≡ stepped q M = moment_next ns m t within ∙ ap (λ k. stepped k M) go.mine in
        let e_now : need (processor_of q now) ≡ Channel c op = ap (λ p. need p) (s.processor q) ∙ e in
        let after : history_at ns m c (suc t) ≡ history_after op (history_at ns m c t) = ap (λ k. history_of c k) step ∙ history_here q c op M (moment_each ns m each t) names e in
        let longer : history_at ns m c (suc t) ≡ history_at ns m c t ++ event ∷ [] = after ∙ ap (λ (o : Option Event). history_at ns m c t ++ option_to_list o) made in
        let early : stood c ≤ t = elim (cases_lt t (stood c)) [
          | inl late ↦ absurd (omega (arith, ap (λ (h : List Event). length h) longer, length_push (history_at ns m c t) event, ap (λ (h : List Event). length h) same, mono ns m each c (suc t) (stood c) (omega arith)))
          | inr past ↦ past
        ] in
        let between : (u : ℕ) → stood c ≤ u → u < t → history_at ns m c (suc u) ≡ history_at ns m c u = λ u low high. flat ns m each c (stood c) t u same low high in
        advance q go (put_at stood c (suc t))
        (by_answers q now M (Channel c op) (s.processor q) e (ap (λ h. Answer.Channel (reply_to op h)) (s.history c ∙ same)))
        (put_all (λ k v. history_of k (stepped q now) ≡ history_at ns m k v) stood c (suc t)
        (history_here q c op now s.each names e_now ∙ ap (λ h. history_after op h) (s.history c ∙ same) ∙ sym after)
        (λ k other. history_elsewhere q k c op now s.each e_now other ∙ s.history k))
        (put_all (λ k v. IsTrue (names_channel k) → made_on k (stepped q now).trace ≡ made_on k (at_moment ns m v).trace) stood c (suc t)
        (λ is. made_here q c op event now e_now (ap (λ h. event_of op h) (s.history c ∙ same) ∙ made)
        ∙ ap (λ (es : List (ℕ × Event)). es ++ (q, event) ∷ []) (s.made c names ∙ sym (made_still ns m each c (stood c) t names early between))
        ∙ sym (made_here q c op event M e made)
        ∙ ap (λ (k : MachineState). made_on c k.trace) (sym step))
        (λ k other is. made_unless q k now (λ oq g. absurd (other (sym (channel_parts c k op oq (sym e_now ∙ g)).0))) ∙ s.made k is))
        (put_all (λ k v. MayFind ns m q k (suc t) v) stood c (suc t)
        (both_advance t (channel_to ns m each q c t (stood c) t (s.may q c) early between))
        (λ k other. processor_advances t (stood k) (s.may q k) (inr (λ oq g. absurd (other (sym (channel_parts c k op oq (sym e ∙ g)).0))))))
        (λ y k other. put_all (λ j v. MayFind ns m y j (reached y) v) stood c (suc t)
        (channel_advances (reached y) t (channel_to ns m each y c (reached y) (stood c) t (s.may y c) early between) (inl (λ is. other (sym is ∙ go.mine))))
        (λ j apart. s.may y j) k)

    -- where the channel stands as it did then
    pub as_then : (q c : ℕ) (op : ChanOp) → Goes ns m q (reached q) → need (processor_at ns m q (reached q)) ≡ Channel c op
        → IsTrue (names_channel c) → history_at ns m c (stood c) ≡ history_at ns m c (reached q)
        → Advances ns m (stepped q now) reached q
    as_then q c op go e names same = by_event (event_of op (history_at ns m c (reached q))) refl
      where
        by_event : (o : Option Event) → event_of op (history_at ns m c (reached q)) ≡ o → Advances ns m (stepped q now) reached q
        by_event None none = the_same q c op go e (record {
          no_event = ap (λ h. event_of op h) same ∙ none;
          nor_there = none;
          same = ap (λ h. processor_after (processor_at ns m q (reached q)) (Answer.Channel (reply_to op h))) same;
        })
        by_event (Some event) made = event_made q c op event go e names same made
