use Rattle.std.proofs.Common.{◌≡◌, ◌+◌, sym, ◌∙◌, rules, tests}
use Rattle.std.specs.Prelude.{position}
use Rattle.std.proofs.lemmas.Iterator.{YieldsList-from_slice}
use Rattle.std.proofs.lemmas.Iterator.Search.{position_from_yields_List}
use Rattle.std.proofs.lemmas.List.{take_rest}
use Rattle.pp_condition.specs.ConditionText.{is_equals}
use Rattle.pp_condition.proofs.ConditionTextLemmas.{one_part, two_parts}
use Rattle.pp_condition.proofs.condition_text.parts_of.Goals as goal

pub returns-in-Some : goal.returns-in-Some
returns-in-Some c =
    let field = c.args.field.now in
    let at : c.position.result ≡ position is_equals field = position_from_yields_List is_equals _ _ c.position.result c.position.ensures.ran (YieldsList-from_slice field cc) (λ x b q k. search (rules, tests)) in
    two_parts field _ c.in-Some.place (sym at ∙ c.in-Some.is) (take_rest field (c.in-Some.place + 1))

pub returns-in-None : goal.returns-in-None
returns-in-None c =
    let field = c.args.field.now in
    let at : c.position.result ≡ position is_equals field = position_from_yields_List is_equals _ _ c.position.result c.position.ensures.ran (YieldsList-from_slice field cc) (λ x b q k. search (rules, tests)) in
    one_part field (sym at ∙ c.in-None.is)
