-- Replies of a line: each goes with its operation, and the log tells what it did or saw.
use Rattle.pp_runner.specs.Types.{Answer, ChanOp, Event, Need, Numbered, Reply, Seen}
use Rattle.std.proofs.Common.{◌≡◌, ℕ, true, List, [], ◌∷◌, ◌++◌, Some, refl, sym, ap, ◌∙◌, subst, inl, inr, arith}
use Rattle.std.specs.Prelude.{take}
use Rattle.std.proofs.lemmas.Bool.{cases_eq}
use Rattle.std.proofs.lemmas.List.{append-nil}
use Rattle.pp_channel.specs.Answer.{IsAnswer, seen_answered, flags_of}
use Rattle.pp_line.specs.LineLog.{LogState, with_seen, IsMonotone}
use Rattle.pp_line.specs.LineState.{LineState, IsActed, IsAnsweredBy, IsLost}
use Rattle.pp_channel.specs.History.{history_on}
use Rattle.pp_processor.proofs.ReplayLemmas.{held_fits, made_fits, shown_fits, tells_where_fits}
use Rattle.pp_processor.specs.Replay.{OfChannel, fits, reply_fits, contribution}
use Rattle.pp_runner.proofs.AccessLemmas.{all_made, channel_accessed, no_writes}
use Rattle.pp_runner.specs.WorkerState.{IsAnswered, IsNoted}

answer_fits : (h after : List Event) (op : ChanOp) (reply : Reply) → IsAnswer h op reply after → reply_fits op reply ≡ true
answer_fits h after op reply is = grind (arith, made_fits, shown_fits)

lost_fits : (h : List Event) (op : ChanOp) (r : Numbered) → IsLost h op r → reply_fits op r.reply ≡ true
lost_fits h op r lost = rw (lost.held, ← lost.was_ready.1.operation) (held_fits lost.was_ready.0 (flags_of h))

-- the reply of a line goes with its operation
pub line_reply_fits : (h : List Event) (op : ChanOp) (r : Numbered) → IsAnsweredBy h op r → reply_fits op r.reply ≡ true
line_reply_fits h op r by =
    elim (cases_eq r.number r.loaded) [
      | inl same ↦ answer_fits (take r.loaded h) h op r.reply (by.at_once same)
      | inr other ↦ lost_fits h op r (by.lost other)
    ]

-- what a reply did or saw on channel c, and how the log takes it
pub record IsSight (c : ℕ) (op : ChanOp) (reply : Reply) : Type 0 where
  pub what : Seen
  pub is : contribution seen_answered (Need.Channel c op) (Answer.Channel reply) ≡ record { channel = c; what = what } ∷ []
  pub noted : (log : LogState) (number : ℕ) → with_seen log c number (seen_answered op reply) ≡ with_seen log c number (Some what)

pub sight_of : (c : ℕ) (op : ChanOp) (reply : Reply) → reply_fits op reply ≡ true → IsSight c op reply
sight_of c op reply fit = grind (arith, tells_where_fits)

-- an answer to an operation is a reply that goes with it
pub record IsReplyTo (op : ChanOp) (x : Answer) : Type 0 where
  pub reply : Reply
  pub is : x ≡ Answer.Channel reply
  pub fits : reply_fits op reply ≡ true

pub reply_to_channel : (c : ℕ) (op : ChanOp) (x : Answer) → fits (Need.Channel c op) x ≡ true → IsReplyTo op x
reply_to_channel c op (Answer.Channel reply) fit = record { reply = reply; is = refl; fits = fit }
reply_to_channel c op Answer.Local fit = absurd cc
reply_to_channel c op (Answer.Read word) fit = absurd cc
reply_to_channel c op (Answer.Wrote written) fit = absurd cc

-- what a line answers, as the answer to the need
pub acted_answer : (size c : ℕ) (op : ChanOp) (r : Numbered) (before after : LineState) → IsActed before c op r after → (IsMonotone before.log.entries → IsMonotone after.log.entries)
    → IsAnswered size (Need.Channel c op) (Answer.Channel r.reply) before after
acted_answer size c op r before after acted monotone =
    let fit : reply_fits op r.reply ≡ true = line_reply_fits (history_on c acted.histories) op r acted.answer in
    let s = sight_of c op r.reply fit in
    let log : after.log ≡ with_seen before.log c r.number (Some s.what) = ap (λ l. l.log) acted.after_is ∙ s.noted before.log r.number in record {
      fits = fit;
      by_size = tt;
      number = r.number;
      noted = subst (λ (ss : List (OfChannel Seen)). IsNoted r.number ss before.log after.log) (sym s.is) log;
      more = all_made before after c op r acted;
      program_orders = ap (λ l. l.view.program_orders) acted.after_is;
      accessed = channel_accessed before after c op r acted;
      written = ap (λ l. l.view.written) acted.after_is ∙ sym (ap (λ ws. before.view.written ++ ws) (no_writes r.number c op (Answer.Channel r.reply)) ∙ append-nil before.view.written);
      monotone = monotone;
    }
