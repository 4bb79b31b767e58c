use Rattle.std.proofs.Common.{◌≡◌, ◌<◌, ◌∙◌, ap, sym, subst, arith, get_or, slice_set, get_or-set_same, length}
use Rattle.std.proofs.lemmas.List.{get_or_read, length-set}
use Rattle.pp_processor.specs.Processor.{Processor, no_processor, is_running, IsAtRest}
use Rattle.pp_machine.specs.Quiet.{IsAhead}
use Rattle.pp_machine.proofs.QuietLemmas.{none_are_ahead, ahead_with_rest, ahead_together, ahead_again}
use Rattle.pp_machine.proofs.quiet.+run_ahead.Goals as goal

pub returns-then-most-eq0-clause-ahead : goal.returns-then-most-eq0-clause-ahead
returns-then-most-eq0-clause-ahead g t c = λ m same. none_are_ahead c.args.round c.args.place m c.args.processors.now.items

pub returns-then-not-is_running-clause-ahead : goal.returns-then-not-is_running-clause-ahead
returns-then-not-is_running-clause-ahead g t c = λ m beside.
    let ps = c.args.processors.now.items in
    let place = c.args.place in
    let inside : place < length ps = omega arith in
    let read = get_or_read ps place c.index.result.now inside c.index.ensures no_processor in
    let state : c.state.result ≡ (get_or ps place no_processor).state = c.state.ensures.value ∙ ap (λ (pp : Processor). pp.state) read in
    let rests : IsAtRest (get_or ps place no_processor) = λ running. let on = ap is_running (state ∙ running) in cc in
    ahead_with_rest c.run_ahead.result c.args.round place m ps c.run_ahead.new.processors.items rests (c.run_ahead.ensures.ahead m beside)

pub returns-then-all-made-clause-ahead : goal.returns-then-all-made-clause-ahead
returns-then-all-made-clause-ahead g t c = λ m beside.
    let ps = c.args.processors.now.items in
    let place = c.args.place in
    let qs = c.run_ahead-all.new.processors.items in
    let inside : place < length ps = omega arith in
    let turn : place < c.args.round = omega arith in
    let read = get_or_read ps place c.index-2.result.now inside c.index-2.ensures no_processor in
    let held : c.copy-before.result ≡ get_or ps place no_processor = c.copy-before.ensures ∙ read in
    let lent : c.index_mut.result.now ≡ get_or ps place no_processor = get_or_read ps place c.index_mut.result.now inside c.index_mut.ensures.value no_processor in
    let first : IsAhead c.run_quiet_steps-made.result m c.copy-before.result c.run_quiet_steps-made.new.pp =
    subst (λ (pp : Processor). IsAhead c.run_quiet_steps-made.result m pp c.run_quiet_steps-made.new.pp) (lent ∙ sym held) (c.run_quiet_steps-made.ensures.ahead m beside) in
    let within : place < length qs = omega (arith, c.run_ahead-all.ensures.as_many) in
    let within_back : place < length (slice_set qs place c.copy-before.result) = omega (arith, length-set qs place c.copy-before.result) in
    let back : c.index_mut-then-all-made-2.result.now ≡ c.copy-before.result =
    get_or_read (slice_set qs place c.copy-before.result) place c.index_mut-then-all-made-2.result.now within_back c.index_mut-then-all-made-2.ensures.value no_processor
    ∙ get_or-set_same qs place c.copy-before.result no_processor within in
    let then : IsAhead c.run_quiet_steps-again.result m c.copy-before.result c.run_quiet_steps-again.new.pp =
    subst (λ (pp : Processor). IsAhead c.run_quiet_steps-again.result m pp c.run_quiet_steps-again.new.pp) back (c.run_quiet_steps-again.ensures.ahead m beside) in
    ahead_again c.run_quiet_steps-again.result c.run_ahead-all.result c.run_quiet_steps-made.result c.args.round place m ps c.run_ahead-all.new.processors.items c.copy-before.result c.run_quiet_steps-made.new.pp c.run_quiet_steps-again.new.pp
    inside turn held first c.if-all-made.true (c.run_ahead-all.ensures.ahead m beside) then c.run_quiet_steps-again.ensures.most (c.run_quiet_steps-again.ensures.exact m beside)

pub returns-else-all-made-clause-ahead : goal.returns-else-all-made-clause-ahead
returns-else-all-made-clause-ahead g t c = λ m beside.
    let ps = c.args.processors.now.items in
    let place = c.args.place in
    let inside : place < length ps = omega arith in
    let turn : place < c.args.round = omega arith in
    let same : c.run_quiet_steps-made.result ≡ c.run_ahead-all.result = omega arith in
    let lent : c.index_mut.result.now ≡ get_or ps place no_processor = get_or_read ps place c.index_mut.result.now inside c.index_mut.ensures.value no_processor in
    let first : IsAhead c.run_ahead-all.result m (get_or ps place no_processor) c.run_quiet_steps-made.new.pp =
    subst (λ k. IsAhead k m (get_or ps place no_processor) c.run_quiet_steps-made.new.pp) same
    (subst (λ (pp : Processor). IsAhead c.run_quiet_steps-made.result m pp c.run_quiet_steps-made.new.pp) lent (c.run_quiet_steps-made.ensures.ahead m beside)) in
    ahead_together c.run_ahead-all.result c.args.round place m ps c.run_ahead-all.new.processors.items c.run_quiet_steps-made.new.pp inside turn first (c.run_ahead-all.ensures.ahead m beside)
