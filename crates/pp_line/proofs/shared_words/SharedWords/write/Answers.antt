use Rattle.std.proofs.Common.{rules, ◌≡◌, ℕ, ◌+◌, ◌<◌, length, sym, ap, ◌∙◌, subst, arith}
use Rattle.pp_line.specs.declared.rule.LineView.{LineView}
use Rattle.pp_line.specs.LineView.{writes}
use Rattle.pp_line.specs.SharedWords.{place_count}
use Rattle.pp_line.proofs.StepLemmas.{write_allowed}
use Rattle.pp_line.proofs.shared_words.SharedWords.write.Goals as goal

pub store-requires : goal.store-requires
store-requires g c =
    let words : c.word_count.result ≡ place_count + length c.args.self.now.seat.me.0.central = c.word_count.ensures ∙ (ap (λ t. t.shared.table_id.words) c.deref.ensures ∙ c.args.self.now.places) in
    (search rules, search rules, rw c.central_place-place.ensures (write_allowed _ _ _ _ _ c.args.address _ c.args.self.now.unspent (omega (arith, c.if-place-word_count.false, words, c.central_place-place.ensures)) (search rules)))

pub invariant_of-self-2 : goal.invariant_of-self-2
invariant_of-self-2 g c =
    let is = c.store.ensures.2.1 c.args.address c.central_place-place.ensures in
    record {
      places = c.args.self.now.places ∙ ap (λ (v : LineView). place_count + length v.central) (sym is.1);
      seated = c.store.ensures.0 ∙ c.args.self.now.seated;
      no_slots = c.store.ensures.2.0 ∙ c.args.self.now.no_slots;
      unspent = subst (λ (v : LineView). 0 < v.shares) (sym is.1) c.args.self.now.unspent;
    }

pub returns-clause-written : goal.returns-clause-written
returns-clause-written g c =
    subst (λ (word : ℕ). (number : ℕ) × (c.store.new.seat.me.0 ≡ writes c.args.self.now.seat.me.0 c.args.address word number)) c.get.ensures.value
    (c.store.ensures.2.1 c.args.address c.central_place-place.ensures)
