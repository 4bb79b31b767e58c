use Rattle.std.proofs.Common.{rules, tests, ap, length, ◌≡◌, ◌∙◌}
use Rattle.std.proofs.lemmas.Iterator.{YieldsList-from_slice}
use Rattle.std.proofs.lemmas.Iterator.Search.{position_from_yields_List}
use Rattle.std.specs.Prelude.{position, unwrap_or}
use Rattle.pp_deck.specs.DeckText.{is_blank}
use Rattle.pp_deck.proofs.FieldLemmas.{unwrap_or_position}
use Rattle.pp_deck.proofs.fields.field_length.Goals as goal

pub returns : goal.returns
returns c =
    let at : c.position.result ≡ position is_blank c.args.text.now = position_from_yields_List is_blank _ _ c.position.result c.position.ensures.ran (YieldsList-from_slice c.args.text.now cc) (λ x b q k. search (rules, tests)) in
    c.unwrap_or.ensures ∙ ap (λ o. unwrap_or o (length c.args.text.now)) at ∙ unwrap_or_position is_blank c.args.text.now
