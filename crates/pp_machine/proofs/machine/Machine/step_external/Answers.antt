use Rattle.std.proofs.Common.{◌≡◌, length, arith, refl, sym, ap, ◌∙◌, subst, slice_set, slice_get}
use Rattle.std.specs.Prelude.{nat_lt}
use Rattle.std.proofs.lemmas.List.{length-set}
use Rattle.pp_processor.specs.NextStep.{IsNext}
use Rattle.pp_machine.specs.MachineState.{MachineState, processor_of}
use Rattle.pp_machine.specs.MachineStep.{answer_to, served, taken}
use Rattle.pp_processor.specs.NeedAndEffect.{need, outcome}
use Rattle.pp_processor.specs.Processor.{Processor}
use Rattle.pp_processor.specs.declared.{answer.Answer.Answer, need.Need.Need}
use Rattle.pp_processor.specs.declared.answer.Answer.TheVariants as answers
use Rattle.pp_processor.specs.declared.need.Need.TheVariants.{Channel, Read, Write}
use Rattle.pp_processor.proofs.ReplayLemmas.{state_fits}
use Rattle.pp_machine.proofs.TakenLemmas.{own_processor, taken_by, stepped_for, outcome_for, with_processors}
use Rattle.pp_machine.proofs.machine.Machine.step_external.Goals as goal

pub wants_next-requires : goal.wants_next-requires
wants_next-requires g c = grind (arith, own_processor)

pub give_local-outcome-requires-clause-next : goal.give_local-outcome-requires-clause-next
give_local-outcome-requires-clause-next g c = subst (λ (pp : Processor). IsNext c.args.next.now c.args.d pp) (sym (own_processor c.args.n c.self.view_is c.index-i.ensures.place (omega (arith, c.index-i.ensures.below, c.self.invariant.processors)) c.index_mut.ensures.value)) c.requires

pub invariant_of-self : goal.invariant_of-self
invariant_of-self g c = grind (arith, with_processors, length-set)

pub give_reply-outcome-requires-clause-next : goal.give_reply-outcome-requires-clause-next
give_reply-outcome-requires-clause-next g c = subst (λ (pp : Processor). IsNext c.args.next.now c.args.d pp) (sym (own_processor c.args.n (c.self-in-Channel.view_is ∙ c.in_ok-reply-in-Channel.ensures.ok) c.index-i.ensures.place (omega (arith, c.index-i.ensures.below, c.self-in-Channel.invariant.processors)) c.index_mut-in-Channel.ensures.value)) c.requires

pub invariant_of-self-in-Channel : goal.invariant_of-self-in-Channel
invariant_of-self-in-Channel g c = grind (arith, with_processors, length-set)

pub give_reply-outcome-requires-clause-fits : goal.give_reply-outcome-requires-clause-fits
give_reply-outcome-requires-clause-fits g c = grind (arith, own_processor, state_fits)

pub give_central-requires-clause-next : goal.give_central-requires-clause-next
give_central-requires-clause-next g c = subst (λ (pp : Processor). IsNext c.args.next.now c.args.d pp) (sym (own_processor c.args.n c.self.view_is c.index-i.ensures.place (omega (arith, c.index-i.ensures.below, c.self.invariant.processors)) c.index_mut-in-Read.ensures.value)) c.requires

pub give_central-requires-clause-fits : goal.give_central-requires-clause-fits
give_central-requires-clause-fits g c = grind (arith, own_processor)

pub invariant_of-self-in-Read : goal.invariant_of-self-in-Read
invariant_of-self-in-Read g c = grind (arith, with_processors, length-set)

pub give_written-requires-clause-next : goal.give_written-requires-clause-next
give_written-requires-clause-next g c = subst (λ (pp : Processor). IsNext c.args.next.now c.args.d pp) (sym (own_processor c.args.n c.self.view_is c.index-i.ensures.place (omega (arith, c.index-i.ensures.below, c.self.invariant.processors)) c.index_mut-in-Write.ensures.value)) c.requires

pub give_written-requires-clause-fits : goal.give_written-requires-clause-fits
give_written-requires-clause-fits g c = grind (arith, own_processor)

pub invariant_of-self-in-Write : goal.invariant_of-self-in-Write
invariant_of-self-in-Write g c = grind (arith, length-set)

pub returns-in_ok-reply-in-Channel-clause-step : goal.returns-in_ok-reply-in-Channel-clause-step
returns-in_ok-reply-in-Channel-clause-step g c =
    let n = c.args.n in
    let m = c.args.self.now in
    let x : Need = Channel c.in-Channel.channel c.in-Channel.op in
    let needs : need (processor_of c.args.n c.args.self.now) ≡ x = ap need (sym (own_processor c.args.n c.self.view_is c.index-i.ensures.place (omega (arith, c.index-i.ensures.below, c.self.invariant.processors)) c.index.ensures)) ∙ (sym c.wants_next.ensures ∙ c.in-Channel.is) in
    let own = own_processor c.args.n (c.self-in-Channel.view_is ∙ c.in_ok-reply-in-Channel.ensures.ok) c.index-i.ensures.place (omega (arith, c.index-i.ensures.below, c.self-in-Channel.invariant.processors)) c.index_mut-in-Channel.ensures.value in
    record {
      ok = taken_by n (answers.Channel c.in_ok-reply-in-Channel.reply) (c.self-in-Channel.view_is ∙ c.in_ok-reply-in-Channel.ensures.ok) c.index-i.ensures.place own c.give_reply-outcome.ensures.after c.count_turn-in-Channel.ensures.turn
          ∙ (ap (λ (y : Answer). taken n y (served n x m)) c.in_ok-reply-in-Channel.ensures.reply ∙ sym (stepped_for n x m needs));
      outcome = c.give_reply-outcome.ensures.outcome
          ∙ (ap (λ (pp : Processor). outcome pp (answers.Channel c.in_ok-reply-in-Channel.reply)) own
          ∙ (ap (λ (y : Answer). outcome (processor_of n m) y) c.in_ok-reply-in-Channel.ensures.reply ∙ sym (outcome_for n x m needs)));
      unchanged_after_memory = tt;
      no_event = λ none. refl;
    }

pub returns-in-Read-clause-step : goal.returns-in-Read-clause-step
returns-in-Read-clause-step g c =
    let n = c.args.n in
    let m = c.args.self.now in
    let x : Need = Read c.in-Read.address in
    let needs : need (processor_of c.args.n c.args.self.now) ≡ x = ap need (sym (own_processor c.args.n c.self.view_is c.index-i.ensures.place (omega (arith, c.index-i.ensures.below, c.self.invariant.processors)) c.index.ensures)) ∙ (sym c.wants_next.ensures ∙ c.in-Read.is) in
    let own = own_processor c.args.n c.self.view_is c.index-i.ensures.place (omega (arith, c.index-i.ensures.below, c.self.invariant.processors)) c.index_mut-in-Read.ensures.value in
    let word : answers.Read c.read-word.result ≡ answer_to x m = ap answers.Read (c.read-word.ensures ∙ ap (λ (k : MachineState). slice_get k.central c.in-Read.address) c.self.view_is) in
    record {
      ok = taken_by n (answers.Read c.read-word.result) c.self.view_is c.index-i.ensures.place own c.give_central.ensures.after c.count_turn-in-Read.ensures.turn
          ∙ (ap (λ (y : Answer). taken n y m) word ∙ sym (stepped_for n x m needs));
      outcome = sym (outcome_for n x m needs ∙ (ap (λ (y : Answer). outcome (processor_of n m) y) (sym word) ∙ (ap (λ (pp : Processor). outcome pp (answers.Read c.read-word.result)) (sym own) ∙ c.give_central.ensures.moved)));
      unchanged_after_memory = tt;
      no_event = λ none. refl;
    }

pub returns-in-Write-clause-step : goal.returns-in-Write-clause-step
returns-in-Write-clause-step g c =
    let n = c.args.n in
    let m = c.args.self.now in
    let x : Need = Write c.in-Write.address c.in-Write.word in
    let needs : need (processor_of c.args.n c.args.self.now) ≡ x = ap need (sym (own_processor c.args.n c.self.view_is c.index-i.ensures.place (omega (arith, c.index-i.ensures.below, c.self.invariant.processors)) c.index.ensures)) ∙ (sym c.wants_next.ensures ∙ c.in-Write.is) in
    let own = own_processor c.args.n c.self.view_is c.index-i.ensures.place (omega (arith, c.index-i.ensures.below, c.self.invariant.processors)) c.index_mut-in-Write.ensures.value in
    let within : answers.Wrote (nat_lt c.get.result c.size.result) ≡ answer_to x m =
    ap (λ a. answers.Wrote (nat_lt a c.size.result)) c.get.ensures.value
    ∙ (ap (λ k. answers.Wrote (nat_lt c.in-Write.address k)) c.size.ensures.value
    ∙ ap (λ (k : MachineState). answers.Wrote (nat_lt c.in-Write.address (length k.central))) c.self.view_is) in
    let view = ap (λ (k : MachineState). record k { central = slice_set k.central c.in-Write.address c.in-Write.word }) c.self.view_is in
    let turn = rw c.write-written.ensures.written at c.count_turn-in-Write.ensures.turn in
    record {
      ok = taken_by n (answers.Wrote (nat_lt c.get.result c.size.result)) view c.index-i.ensures.place own c.give_written.ensures.after turn
          ∙ (ap (λ (y : Answer). taken n y (served n x m)) within ∙ sym (stepped_for n x m needs));
      outcome = sym (outcome_for n x m needs ∙ (ap (λ (y : Answer). outcome (processor_of n m) y) (sym within) ∙ (ap (λ (pp : Processor). outcome pp (answers.Wrote (nat_lt c.get.result c.size.result))) (sym own) ∙ c.give_written.ensures.moved)));
      unchanged_after_memory = tt;
      no_event = λ none. refl;
    }
