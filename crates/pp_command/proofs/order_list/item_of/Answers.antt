use Rattle.std.proofs.Common.{ℕ, Option, refl, sym, ap, ◌∙◌}
use Rattle.std.specs.Prelude.{take}
use Rattle.std.proofs.lemmas.List.{take_rest}
use Rattle.pp_numbers.specs.Profile.{has_processor}
use Rattle.pp_command.specs.NumberList.{numbered}
use Rattle.pp_command.specs.OrderList.{steps_of}
use Rattle.pp_command.proofs.OrderListLemmas.{by_colon, without_colon}
use Rattle.pp_command.proofs.order_list.item_of.Goals as goal

pub returns-in-Some : goal.returns-in-Some
returns-in-Some c =
    let text = c.args.text.now in
    let place = c.in-Some.place in
    c.item_by.ensures
    ∙ ap (λ (k : Option ℕ). steps_of (numbered (has_processor c.args.profile) (take place text)) k) c.numeral.ensures.exact
    ∙ by_colon c.args.profile text (take place text) _ place (sym c.place_of.ensures ∙ c.in-Some.is) refl (take_rest text _)

pub returns-in-None : goal.returns-in-None
returns-in-None c = c.item_by-in-None.ensures ∙ without_colon c.args.profile c.args.text.now (sym c.place_of.ensures ∙ c.in-None.is)
