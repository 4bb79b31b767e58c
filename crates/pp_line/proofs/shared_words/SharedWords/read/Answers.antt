use Rattle.std.proofs.Common.{rules, arith, sym, ap, ◌∙◌, subst, ◌≡◌, ◌+◌, ◌<◌, length}
use Rattle.pp_line.specs.declared.rule.LineView.{LineView}
use Rattle.pp_line.specs.SharedWords.{place_count}
use Rattle.pp_line.proofs.StepLemmas.{read_allowed}
use Rattle.pp_line.proofs.shared_words.SharedWords.read.Goals as goal

pub returns-then-place-word_count-clause-outside : goal.returns-then-place-word_count-clause-outside
returns-then-place-word_count-clause-outside g c = grind arith

pub load-word-requires : goal.load-word-requires
load-word-requires g c =
    let words : c.word_count.result ≡ place_count + length c.args.self.now.seat.me.0.central = c.word_count.ensures ∙ (ap (λ t. t.shared.table_id.words) c.deref.ensures ∙ c.args.self.now.places) in
    (search rules, search rules, rw c.central_place-place.ensures (read_allowed _ _ _ _ _ c.args.address c.args.self.now.unspent (omega (arith, c.if-place-word_count.false, words, c.central_place-place.ensures))))

pub invariant_of-self-2 : goal.invariant_of-self-2
invariant_of-self-2 g c =
    let is = c.load-word.ensures.2.1 c.args.address c.central_place-place.ensures in
    record {
      places = c.args.self.now.places ∙ ap (λ (v : LineView). place_count + length v.central) (sym is.after_is);
      seated = c.load-word.ensures.0 ∙ c.args.self.now.seated;
      no_slots = c.load-word.ensures.2.0 ∙ c.args.self.now.no_slots;
      unspent = subst (λ (v : LineView). 0 < v.shares) (sym is.after_is) c.args.self.now.unspent;
    }
