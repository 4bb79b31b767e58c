use Rattle.std.proofs.Common.{ℕ, ◌≤◌, refl, sym, ap, ◌∙◌, subst, arith}
use Rattle.pp_line.specs.Types.{ChanOp, Entry, Numbered}
use Rattle.pp_channel.specs.Answer.{reply_shown}
use Rattle.pp_line.specs.ChannelWord.{number_in, flags_in, greatest_number}
use Rattle.pp_line.specs.LineLog.{LogState, event_entry, look_entry, appended, looked, IsMonotone, IsWithin}
use Rattle.pp_line.specs.LineState.{LineState, IsActed}
use Rattle.pp_line.proofs.ChannelWordLemmas.{next_word, stays_either}
use Rattle.pp_line.proofs.LineAnswers.{acted_shown, worn_by_load, acted_made, acted_lost, number_later}
use Rattle.pp_line.proofs.MonotoneLemmas.{rising_answer}
use Rattle.pp_line.proofs.line.Line.act.Goals as goal
use Rattle.pp_line.proofs.line.Line.act.Goals.{in-Look, in-Next+in-Ok, in-Next+in-Err}

-- what a line that acted writes goes on monotone
rising_acted : (line : LineState) (c : ℕ) (op : ChanOp) (r : Numbered) (after : LineState) → IsWithin line.view.seen line.log.entries → IsActed line c op r after → IsMonotone line.log.entries → IsMonotone after.log.entries
rising_acted line c op r after within acted monotone =
    subst (λ (log : LogState). IsMonotone log.entries) (sym (ap (λ (l : LineState). l.log) acted.after_is))
    (rising_answer line.view.seen line.log c r.number within (number_later line after c op r acted) monotone op r.reply)

-- a look, or an operation that is not ready
pub look-requires-clause-found : goal.look-requires-clause-found
look-requires-clause-found g c = grind arith

-- an operation that is ready
pub try_event-requires-clause-next : goal.try_event-requires-clause-next
try_event-requires-clause-next g c =
    next_word c.load-word.result c.args.op c.in-Next.event c.in-Next.next c.in-Next.reply (c.in-Next.ensures).table ((c.in-Next.ensures).twelve_bits c.in-Next.next c.in-Next.reply c.in-Next.event refl)

-- what was answered
pub returns-clause-ok : goal.returns-clause-ok
returns-clause-ok g c =
    let load = c.load-word.ensures in
    let loaded = c.number_in-loaded.ensures in
    let most = subst (λ (n : ℕ). n ≤ greatest_number) loaded.value loaded.at_most in
    elim c.match-advance.branch [
      | in-Look w ↦
          let look = w.look.ensures in
          let entry : Entry = look_entry c.args.channel (number_in c.load-word.result) (flags_in c.load-word.result) in
          rw (w.self-is, w.number-is, loaded.value)
          (acted_shown _ load.load load.log_before c.args.op c.advance.result w.reply_shown.result w.look.new.self (stays_either c.advance.result w.in-Look.is) c.advance.ensures.table (w.reply_shown.ensures ∙ ap (reply_shown c.args.op) w.state_in.ensures) most
          (record { log_is = look.written ∙ ap (λ (log : LogState). looked log entry) load.log; view_is = look.view; table_is = look.table ∙ load.table; log_of = look.log_after }))
      | in-Next+in-Ok w ↦
          let next = w.in-Next in
          let entry : Entry = event_entry c.args.channel (number_in c.load-word.result) next.event in
          rw (w.self-is, w.number-is, loaded.value)
          (acted_made _ load.load load.log_before c.args.op next.event next.next next.reply w.try_event.new.self next.ensures.table most w.in-Ok.ensures.won
          (record { log_is = w.in-Ok.ensures.event_written ∙ ap (λ (log : LogState). appended log entry) load.log; view_is = refl; table_is = w.try_event.ensures.table ∙ load.table; log_of = w.try_event.ensures.log_after }))
      | in-Next+in-Err w ↦
          let next = w.in-Next in
          let found = w.in-Err.found in
          let entry : Entry = look_entry c.args.channel (number_in found) (flags_in found) in
          rw (w.self-is, w.number-is, loaded.value, w.flags_in.ensures, w.number_in.ensures.value)
          (acted_lost _ load.load load.log_before c.args.op next.event next.next next.reply w.try_event.new.self next.ensures.table most found w.in-Err.ensures.lost
          (record { log_is = w.in-Err.ensures.look_written ∙ ap (λ (log : LogState). looked log entry) load.log; view_is = refl; table_is = w.try_event.ensures.table ∙ load.table; log_of = w.try_event.ensures.log_after }))
    ]

pub returns-clause-monotone : goal.returns-clause-monotone
returns-clause-monotone g c monotone = rising_acted _ c.args.channel c.args.op _ _ c.load-word.ensures.log_before.within (returns-clause-ok g c) monotone

-- a worn channel
pub returns-in-Worn : goal.returns-in-Worn
returns-in-Worn g c =
    let load = c.load-word.ensures in
    let worn = worn_by_load _ load.load load.log_before c.args.op c.load-word.new.self (c.in-Worn.ensures).table (record { log_is = load.log; view_is = refl; table_is = load.table; log_of = load.log_after }) in record {
      ok = tt;
      worn = worn;
      monotone = λ monotone. subst (λ (log : LogState). IsMonotone log.entries) (sym load.log) monotone;
      shares = ap (λ (line : LineState). line.view.shares) worn.after_is;
      whole = ap (λ (line : LineState). line.view.whole) worn.after_is;
      table = ap (λ (line : LineState). line.table) worn.after_is;
      within = load.log_after.within;
    }
