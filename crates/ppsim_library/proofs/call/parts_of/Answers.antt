use Rattle.std.proofs.Common.{◌∙◌, ◌++◌, [], None, Some, ap, append-nil, arith, map, rules, sym}
use Rattle.std.proofs.lemmas.Str.Pattern.{split_parts}
use Rattle.ppsim_library.specs.Answered.{parts_of}
use Rattle.ppsim_library.proofs.WordLemmas.{first_word, last_word, one_more}
use Rattle.ppsim_library.proofs.call.parts_of.Goals as goal

pub loop-word-preserved : goal.loop-word-preserved
loop-word-preserved g c =
    let parts = split_parts 0 c.loop-word.rest.now (Some (c.in-Some.word, c.in-Some.others)) c.in-Some.ensures.cases (omega arith) in
    let first = first_word c.loop-word.rest.now c.in-Some.word.now c.in-Some.others.now parts.0 parts.1 in (
      search rules,
      ap (λ words. map (λ word. word.now) words ++ parts_of c.in-Some.others.now) c.in_ok-push.ensures.items
          ∙ one_more c.loop-word.words.items c.in-Some.word (parts_of c.in-Some.others.now)
          ∙ ap (λ words. map (λ word. word.now) c.loop-word.words.items ++ words) (sym first)
          ∙ c.loop-word.invariant.1,
    )

pub returns : goal.returns
returns g c =
    let lacks = split_parts 0 c.loop-word.rest.now None c.in_default.ensures.cases (omega arith) in
    ap (map (λ word. word.now)) c.in_ok-push-2.ensures.items
    ∙ sym (append-nil _)
    ∙ one_more c.loop-word.words.items c.loop-word.rest []
    ∙ ap (λ words. map (λ word. word.now) c.loop-word.words.items ++ words) (sym (last_word c.loop-word.rest.now lacks))
    ∙ c.loop-word.invariant.1
