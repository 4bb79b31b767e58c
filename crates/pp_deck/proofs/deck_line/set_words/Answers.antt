use Rattle.std.proofs.Common.{◌<◌, ◌≤◌, arith, refl}
use Rattle.std.proofs.lemmas.Result.{err_from_is_err_and}
use Rattle.pp_word.specs.Address.{place_count}
use Rattle.pp_deck.proofs.WordsLemmas.{words_more, words_past, words_bad, words_none}
use Rattle.pp_deck.proofs.deck_line.set_words.Goals as goal

pub returns-in_err-word : goal.returns-in_err-word
returns-in_err-word c =
    let p = err_from_is_err_and c.from_residual.result c.from_residual.ensures.1 in
    rw (p.1, p.2) (words_bad _ _ _ _ _ _ _ _ _ _ c.loop-field.invariant.rest c.in-Some.ensures.taken c.in_err-word.ensures)

pub returns-in_default-new : goal.returns-in_default-new
returns-in_default-new c =
    let past : place_count ≤ c.loop-field.place = grind (arith, c.in_default-new.ensures) in
    words_past _ _ _ _ _ _ _ _ _ _ c.loop-field.invariant.rest c.in-Some.ensures.taken c.in_ok-word.ensures past

pub loop-field-preserved : goal.loop-field-preserved
loop-field-preserved c =
    let below : c.loop-field.place < place_count = c.in-Some-new.ensures.fits.0 refl in
    record {
      within = omega (arith, below);
      rest = rw (c.set.ensures, c.in-Some-new.ensures.value) (words_more _ _ _ _ _ _ _ _ _ _ c.loop-field.invariant.rest c.in-Some.ensures.taken c.in_ok-word.ensures below);
    }

pub returns : goal.returns
returns c = words_none _ _ _ _ _ _ _ c.loop-field.invariant.rest c.in_default.ensures.none
