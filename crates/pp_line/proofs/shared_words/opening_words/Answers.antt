use Rattle.std.proofs.Common.{◌≡◌, ◌++◌, ◌∷◌, [], ℕ, List, take, get_or, replicate, sym, ap, ◌∙◌, append_assoc, arith}
use Rattle.std.proofs.lemmas.Grind.{common_steps}
use Rattle.std.proofs.lemmas.List.{take_more, take_all}
use Rattle.pp_line.specs.SharedWords.{place_count}
use Rattle.pp_line.proofs.shared_words.opening_words.Goals as goal

pub loop-word-preserved : goal.loop-word-preserved
loop-word-preserved g c =
    let zeros : List ℕ = replicate place_count 0 in
    let words : List ℕ = c.args.central.now in
    let i : ℕ = c.loop-word.word-index in
    let here : get_or words i 0 ≡ c.get.result = grind (arith, common_steps) in
    record {
      items = c.in_ok-push.ensures.items ∙ ((λ j. c.loop-word.invariant.items j ++ sym here j ∷ []) ∙ (append_assoc zeros (take i words) (get_or words i 0 ∷ []) ∙ ap (λ (l : List ℕ). zeros ++ l) (sym (take_more words i 0 (omega arith)))));
      within = omega arith;
    }

pub returns : goal.returns
returns g c =
    let zeros : List ℕ = replicate place_count 0 in
    let words : List ℕ = c.args.central.now in
    c.loop-word.invariant.items ∙ ap (λ (l : List ℕ). zeros ++ l) (take_all c.loop-word.word-index words (omega arith))
