use Rattle.std.proofs.Common.{◌≡◌, ◌∙◌, ℕ, ◌+◌, ◌-◌, ◌<◌, List, [], ◌∷◌, ◌++◌, true, false, sym, ap, subst, arith}
use Rattle.pp_numbers.specs.ChannelNo.{channel_count, channel_number}
use Rattle.pp_line.specs.LineState.{LineState}
use Rattle.pp_line.specs.Merge.{IsOpeningLog, times_logged}
use Rattle.pp_line.specs.LineLog.{IsWithin, event_entry}
use Rattle.pp_line.specs.declared.entry.Entry.{Entry}
use Rattle.pp_line.proofs.OpeningLemmas.{activated, never_worn}
use Rattle.pp_channel.specs.declared.chan_op.ChanOp.{ChanOp}
use Rattle.pp_channel.specs.declared.event.Event.TheVariants.{Activate}
use Rattle.pp_machine.specs.MachineState.{is_opened}
use Rattle.pp_runner.proofs.OpeningLemmas.{opened_before, unlogged, one_opened, one_not_opened, all_opened, opened_seen}
use Rattle.pp_runner.proofs.opening.opening_line.Goals.{then-opened+in-Ok, else-opened}
use Rattle.pp_runner.proofs.opening.opening_line.Goals as goal

pub unreachable-requires : goal.unreachable-requires
unreachable-requires g c =
    let log = c.loop-place.line.log.entries in
    let unlogged_here = ap (λ n. times_logged n 0 log) c.at-channel.ensures.number
    ∙ unlogged c.loop-place.place c.args.machine.now log (omega (arith, c.loop-place-test.true)) c.loop-place.invariant.opened in
    never_worn c.loop-place.line c.act.new.self c.at-channel.result ChanOp.Activate (c.loop-place.invariant.shares ∙ sym c.loop-place.invariant.whole) unlogged_here c.in_default.ensures.worn

pub loop-place-preserved : goal.loop-place-preserved
loop-place-preserved g c =
    let place : ℕ = c.loop-place.place in
    let m = c.args.machine.now in
    let before = c.loop-place.line in
    let below : place < channel_count = omega (arith, c.loop-place-test.true) in
    elim c.if-opened.branch [
      | then-opened+in-Ok w ↦
          let opened : is_opened (channel_number place) m ≡ true = sym (ap (λ n. is_opened n m) c.at-channel.ensures.number) ∙ (sym c.opened.ensures ∙ w.if-opened.true) in
          let unlogged_here = ap (λ n. times_logged n 0 before.log.entries) c.at-channel.ensures.number ∙ unlogged place m before.log.entries below c.loop-place.invariant.opened in
          let made = activated before w.act.new.self c.at-channel.result w.in-Ok._done (omega (arith, c.at-channel.ensures.place, below)) (c.loop-place.invariant.shares ∙ sym c.loop-place.invariant.whole) unlogged_here w.in-Ok.ensures.ok in
          let log = ap (λ l. l.log) w.line-is ∙ made.written in
          let entries : c.if-opened.line.log.entries ≡ before.log.entries ++ event_entry (channel_number place) 0 Activate ∷ [] =
          ap (λ l. l.entries) log ∙ ap (λ n. before.log.entries ++ event_entry n 0 Activate ∷ []) c.at-channel.ensures.number in
          let room : c.if-opened.line.log.room ≡ before.log.room - 1 = ap (λ l. l.room) log in
          record {
            opened = subst (λ (es : List Entry). IsOpeningLog (opened_before (place + 1) m) es) (sym entries) (one_opened place m before.log.entries below opened c.loop-place.invariant.opened);
            within = subst (λ (l : LineState). IsWithin l.view.seen l.log.entries) (sym w.line-is) w.act.ensures.within;
            room = omega (arith, room, c.loop-place.invariant.room);
            shares = ap (λ l. l.view.shares) w.line-is ∙ (w.act.ensures.shares ∙ c.loop-place.invariant.shares);
            whole = ap (λ l. l.view.whole) w.line-is ∙ (w.act.ensures.whole ∙ c.loop-place.invariant.whole);
            no_write = ap (λ l. l.view.written) w.line-is ∙ (ap (λ l. l.view.written) w.in-Ok.ensures.ok.after_is ∙ c.loop-place.invariant.no_write);
            central = ap (λ l. l.view.central) w.line-is ∙ (ap (λ l. l.view.central) w.in-Ok.ensures.ok.after_is ∙ c.loop-place.invariant.central);
          }
      | else-opened w ↦
          let not_opened : is_opened (channel_number place) m ≡ false = sym (ap (λ n. is_opened n m) c.at-channel.ensures.number) ∙ (sym c.opened.ensures ∙ w.if-opened.false) in
          let entries : c.if-opened.line.log.entries ≡ before.log.entries = ap (λ l. l.log.entries) w.line-is in
          let room : c.if-opened.line.log.room ≡ before.log.room = ap (λ l. l.log.room) w.line-is in
          record {
            opened = subst (λ (es : List Entry). IsOpeningLog (opened_before (place + 1) m) es) (sym entries) (one_not_opened place m before.log.entries below not_opened c.loop-place.invariant.opened);
            within = subst (λ (l : LineState). IsWithin l.view.seen l.log.entries) (sym w.line-is) c.loop-place.invariant.within;
            room = omega (arith, room, c.loop-place.invariant.room);
            shares = ap (λ l. l.view.shares) w.line-is ∙ c.loop-place.invariant.shares;
            whole = ap (λ l. l.view.whole) w.line-is ∙ c.loop-place.invariant.whole;
            no_write = ap (λ l. l.view.written) w.line-is ∙ c.loop-place.invariant.no_write;
            central = ap (λ l. l.view.central) w.line-is ∙ c.loop-place.invariant.central;
          }
    ]

pub returns : goal.returns
returns g c =
    let place : c.loop-place.place ≡ channel_count = omega (arith, c.loop-place-test.false, c.loop-place.auto.place-end) in
    let m = c.args.machine.now in
    let line = c.loop-place.line in
    let before = c.loop-place.invariant in
    let opening = all_opened m line.log.entries c.is_sound.ensures.opened (subst (λ (k : ℕ). IsOpeningLog (opened_before k m) line.log.entries) place before.opened) in record {
      opening = opening;
      seen = opened_seen m line before.within opening;
      whole = before.whole;
      shares = before.shares;
      no_write = before.no_write;
      central = before.central;
    }
