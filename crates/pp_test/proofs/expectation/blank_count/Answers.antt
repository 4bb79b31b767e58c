use Rattle.std.proofs.Common.{rules, tests, ap, length, ◌≡◌, ◌∙◌, Bool, ℕ}
use Rattle.std.proofs.lemmas.Iterator.{YieldsList-from_slice}
use Rattle.std.proofs.lemmas.Iterator.Search.{position_from_yields_List}
use Rattle.std.proofs.lemmas.List.Sums.{prefix_len-le-length}
use Rattle.std.specs.Prelude.{not, position, unwrap_or}
use Rattle.pp_deck.specs.DeckText.{is_blank}
use Rattle.pp_deck.proofs.FieldLemmas.{unwrap_or_position}
use Rattle.pp_test.proofs.expectation.blank_count.Goals as goal

pub returns-clause-is : goal.returns-clause-is
returns-clause-is c =
    let is_character : ℕ → Bool = λ byte. not (is_blank byte) in
    let at : c.position.result ≡ position is_character c.args.text.now = position_from_yields_List is_character _ _ c.position.result c.position.ensures.ran (YieldsList-from_slice c.args.text.now cc) (λ x b q k. search (rules, tests)) in
    c.unwrap_or.ensures ∙ ap (λ o. unwrap_or o (length c.args.text.now)) at ∙ unwrap_or_position is_character c.args.text.now

pub returns-clause-few : goal.returns-clause-few
returns-clause-few c =
    let is_character : ℕ → Bool = λ byte. not (is_blank byte) in
    let at : c.position.result ≡ position is_character c.args.text.now = position_from_yields_List is_character _ _ c.position.result c.position.ensures.ran (YieldsList-from_slice c.args.text.now cc) (λ x b q k. search (rules, tests)) in
    rw (c.unwrap_or.ensures ∙ ap (λ o. unwrap_or o (length c.args.text.now)) at ∙ unwrap_or_position is_character c.args.text.now)
    (prefix_len-le-length (λ byte. not (is_character byte)) c.args.text.now)
