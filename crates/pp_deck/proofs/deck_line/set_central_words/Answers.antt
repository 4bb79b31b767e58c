use Rattle.std.proofs.Common.{◌≡◌, ◌<◌, ◌≤◌, arith, ap, ◌∙◌, length}
use Rattle.std.proofs.lemmas.List.{length-set}
use Rattle.std.proofs.lemmas.Result.{err_from_is_err_and}
use Rattle.pp_deck.proofs.WordsLemmas.{words_more, words_past, words_bad, words_none}
use Rattle.pp_deck.proofs.deck_line.set_central_words.Goals as goal

pub returns-in_err-number : goal.returns-in_err-number
returns-in_err-number g c =
    let p = err_from_is_err_and c.from_residual.result c.from_residual.ensures.1 in
    rw (p.1, p.2) (words_bad _ _ _ _ _ _ _ _ _ _ c.loop-field.invariant.rest c.in-Some.ensures.taken c.in_err-number.ensures.exact)

pub returns-then-not-write_central : goal.returns-then-not-write_central
returns-then-not-write_central g c =
    let at : c.truncated.result ≡ c.loop-field.address = omega (arith, c.truncated.ensures, c.loop-field.invariant.within) in
    let past : length c.args.machine.now.central ≤ c.loop-field.address = grind (arith, c.if-not-write_central.ensures, at, c.loop-field.invariant.size) in
    words_past _ _ _ _ _ _ _ _ _ _ c.loop-field.invariant.rest c.in-Some.ensures.taken c.in_ok-number.ensures.exact past

pub loop-field-preserved : goal.loop-field-preserved
loop-field-preserved g c =
    let at : c.truncated.result ≡ c.loop-field.address = omega (arith, c.truncated.ensures, c.loop-field.invariant.within) in
    let written = c.write_central.ensures.written in
    let below : c.loop-field.address < length c.args.machine.now.central = grind (arith, c.if-not-write_central.ensures, at, c.loop-field.invariant.size) in
    let word : c.truncated-word.result ≡ c.in_ok-number.field-0 = omega (arith, c.truncated-word.ensures, c.in_ok-number.ensures.small) in
    record {
      size = ap (λ m. length m.central) written ∙ length-set c.loop-field.machine.central _ c.truncated-word.result ∙ c.loop-field.invariant.size;
      within = omega (arith, below, c.requires);
      rest = rw (written, at, word) (words_more _ _ _ _ _ _ _ _ _ _ c.loop-field.invariant.rest c.in-Some.ensures.taken c.in_ok-number.ensures.exact below);
    }

pub returns : goal.returns
returns g c = words_none _ _ _ _ _ _ _ c.loop-field.invariant.rest c.in_default.ensures.none
