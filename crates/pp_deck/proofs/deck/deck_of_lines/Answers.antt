use Rattle.std.proofs.Common.{◌≡◌, Result, Ok, Err, ap, arith, sym, ◌∙◌}
use Rattle.std.specs.Prelude.{◌≢◌}
use Rattle.std.specs.Result.{IfErr, IfOk, result_or}
use Rattle.pp_deck.specs.DeckText.{lines_of}
use Rattle.pp_deck.specs.Reading.{before_lines}
use Rattle.pp_deck.specs.declared.deck_fault.{DeckCode.TheVariants.Memory, DeckFault.DeckFault}
use Rattle.pp_deck.proofs.FieldLemmas.{next_line, no_line, length-lines_of}
use Rattle.pp_deck.proofs.ReadingLemmas.{read_none, read_blank, read_fields, read_flaw, read_all, before_first_turn, central_length}
use Rattle.pp_deck.proofs.StatedLemmas.{size_is, stated_here}
use Rattle.pp_deck.proofs.deck.deck_of_lines.Goals as goal

pub loop-fields-init : goal.loop-fields-init
loop-fields-init g c = record {
  within = omega arith;
  left = c.of-lines.ensures;
  read = read_none c.args.profile (lines_of c.args.text.now) c.in-Ok.reading (c.in-Ok.ensures.ok ∙ ap (before_lines c.args.profile) (c.unwrap_or-size.ensures ∙ size_is c.stated_size-stated.result (lines_of c.args.text.now) c.stated_size-stated.ensures.line));
}

pub overflow_add-number : goal.overflow_add-number
overflow_add-number g c = omega (arith, c.loop-fields.invariant.within, length-lines_of c.args.text.now, c.requires)

pub read_line-requires-clause-size : goal.read_line-requires-clause-size
read_line-requires-clause-size g c = grind (arith, size_is, central_length)

pub read_line-requires-clause-stated : goal.read_line-requires-clause-stated
read_line-requires-clause-stated g c = λ none central.
    let next = next_line _ _ _ _ _ c.loop-fields.invariant.left c.in-Some.ensures.taken in
    stated_here c.stated_size-stated.result (lines_of c.args.text.now) c.loop-fields.number c.in-Some-next_field.first.now _ c.stated_size-stated.ensures.line
    (sym c.loop-fields.invariant.read.behind ∙ none) next.within (next.here ∙ c.in-Some-next_field.ensures.taken) central

pub returns-in-Err-clause-fault : goal.returns-in-Err-clause-fault
returns-in-Err-clause-fault g c =
    let next = next_line _ _ _ _ _ c.loop-fields.invariant.left c.in-Some.ensures.taken in
    λ _. rw (c.fault-in-Err.ensures, c.code.ensures) (read_flaw c.args.profile _ _ _ _ _ _ c.in-Err.flaw c.loop-fields.invariant.read next.within (next.here ∙ c.in-Some-next_field.ensures.taken) c.in-Err.ensures)

pub loop-fields-preserved-in-Some-next_field : goal.loop-fields-preserved-in-Some-next_field
loop-fields-preserved-in-Some-next_field g c =
    let next = next_line _ _ _ _ _ c.loop-fields.invariant.left c.in-Some.ensures.taken in
    record {
      within = omega (arith, next.within);
      left = next.behind;
      read = read_fields c.args.profile _ _ _ _ _ _ _ c.loop-fields.invariant.read next.within (next.here ∙ c.in-Some-next_field.ensures.taken) c.in_default-read_line.ensures;
    }

pub loop-fields-preserved : goal.loop-fields-preserved
loop-fields-preserved g c =
    let next = next_line _ _ _ _ _ c.loop-fields.invariant.left c.in-Some.ensures.taken in
    record {
      within = omega (arith, next.within);
      left = next.behind;
      read = read_blank c.args.profile _ _ _ _ c.loop-fields.invariant.read next.within (next.here ∙ c.in_default-next_field.ensures.none);
    }

pub into_deck-requires : goal.into_deck-requires
into_deck-requires g c = before_first_turn c.args.profile _ _ _ _ c.loop-fields.invariant.read

ok_or_fault : {A E : Type 0} (r : Result A E) (fault : DeckFault) (Q P : A → Type 0) → ((x : A) → Q x → P x) → IfOk r Q → IfOk (result_or r (Err fault)) P
ok_or_fault (Ok x) fault Q P so is = so x is
ok_or_fault (Err e) fault Q P so is = tt

pub returns-clause-ok : goal.returns-clause-ok
returns-clause-ok g c =
    let all = read_all c.args.profile _ _ _ _ c.loop-fields.invariant.read (no_line _ _ _ c.loop-fields.invariant.within c.loop-fields.invariant.left c.in_default-next_line.ensures.none) in
    rw c.or.ensures (ok_or_fault c.into_deck.result c.fault-2.result _ _ (λ deck is. all ∙ ap (λ d. Ok d) (sym is)) c.into_deck.ensures)

not_memory : {A E : Type 0} (r : Result A E) (fault : DeckFault) (P : DeckFault → Type 0) → fault.code ≡ Memory → IfErr (result_or r (Err fault)) (λ fault. fault.code ≢ Memory → P fault)
not_memory (Ok x) fault P is = tt
not_memory (Err e) fault P is = λ other. absurd (other is)

pub returns-clause-fault : goal.returns-clause-fault
returns-clause-fault g c = rw c.or.ensures (not_memory c.into_deck.result c.fault-2.result _ (ap (λ (fault : DeckFault). fault.code) c.fault-2.ensures))
