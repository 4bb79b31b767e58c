use Rattle.std.proofs.Common.{ℕ, Bool, arith, rules, true, false, ◌≡◌, ◌+◌, sym, ap, ◌∙◌, length}
use Rattle.std.specs.Prelude.{slice_set, if◌then◌else◌}
use Rattle.pp_numbers.specs.ChannelNo.{channel_count}
use Rattle.pp_check.specs.Judge.{tally, tally_of}
use Rattle.pp_check.specs.LawfulTrace.{history}
use Rattle.pp_check.specs.Verdict.{is_activate}
use Rattle.pp_check.proofs.KeepsLemmas.{few_events, few_sessions, keeps_event, kept_as, tally_after}
use Rattle.pp_check.proofs.judge.Judge.happen.Goals as goal
use Rattle.pp_check.proofs.judge.Judge.happen.Goals.{then-matches, else-matches}

pub overflow_add-self : goal.overflow_add-self
overflow_add-self c = grind (arith, few_events)

pub overflow_add-self-then-matches : goal.overflow_add-self-then-matches
overflow_add-self-then-matches c = grind (arith, few_sessions)

pub returns-in_default-clause-happens : goal.returns-in_default-clause-happens
unfolding tally
returns-in_default-clause-happens c = grind arith

pub returns-clause-happens : goal.returns-clause-happens
unfolding tally
returns-clause-happens c = λ opened lines line k fits is.
    let e = c.args.event in
    let tallies = c.args.self.now.channels in
    let all : length tallies ≡ channel_count = search rules in
    let read = c.tally_of-tally.ensures.kept in
    let names = c.tally_of-tally.ensures.names in
    let more = c.in-Some.ensures.lawful (history opened lines c.args.channel) (k.lawful.histories c.args.channel) (ap (λ s. s.state) (read ∙ k.channels c.args.channel names)) in
    let kept = keeps_event opened lines tallies line c.args.channel e is names all c.args.self.now.events c.args.self.now.sessions c.in-Some.state k fits more.0 more.1 in
    let written = ap (λ s. slice_set tallies c.index.result (tally_after s c.in-Some.state)) (sym read) in
    let moved = ap (λ i. slice_set tallies i (tally_after (tally_of tallies c.args.channel) c.in-Some.state)) (sym c.index.ensures.place) in
    elim c.if-matches.branch [
      | then-matches w ↦ rw w.self-is (kept_as _ _ _ _ _ _ _ (moved ∙ written) (begun (is_activate e) c.args.self.now.sessions (search rules)) kept)
      | else-matches w ↦ rw w.self-is (kept_as _ _ _ _ _ _ _ (moved ∙ written) (going_on (is_activate e) c.args.self.now.sessions (search rules)) kept)
    ]
  where
    begun : (b : Bool) (n : ℕ) → b ≡ true → n + (if b then 1 else 0) ≡ n + 1
    begun b n is = ap (λ (t : Bool). n + (if t then 1 else 0)) is

    going_on : (b : Bool) (n : ℕ) → b ≡ false → n + (if b then 1 else 0) ≡ n
    going_on b n is = ap (λ (t : Bool). n + (if t then 1 else 0)) is ∙ none n
      where
        none : (n : ℕ) → n + 0 ≡ n
        none n = omega arith
