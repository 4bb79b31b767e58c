use Rattle.std.proofs.Common.{◌≡◌, sym, ap, ◌∙◌}
use Rattle.std.specs.Prelude.{not}
use Rattle.pp_processor.specs.NeedAndEffect.{processor_after}
use Rattle.pp_processor.specs.declared.answer.Answer.{Answer}
use Rattle.pp_races.specs.Findings.{stays_running}
use Rattle.pp_races.proofs.SettledLemmas.{tested}
use Rattle.pp_races.proofs.settled.turns_in_place.Goals as goal
use Rattle.pp_races.proofs.settled.turns_in_place.Goals.{After-is_none}

after_is : (c : After-is_none) → c.give.new.self ≡ processor_after c.args.pp.now Answer.Local
after_is c = c.give.ensures.after ∙ ap (λ p. processor_after p Answer.Local) c.copy-after.ensures

pub returns-clause-turns : goal.returns-clause-turns
returns-clause-turns c =
    tested c.first_difference.result c.is_none.result c.args.pp.now c.give.new.self c.is_none.ensures c.requires c.first_difference.ensures.same c.first_difference.ensures.differ
    ∙ ap (λ x. stays_running c.args.pp.now x) (after_is c)

pub returns-clause-stays : goal.returns-clause-stays
returns-clause-stays c = λ is. sym (after_is c) ∙ c.first_difference.ensures.same (c.is_none.ensures ∙ ap not is)
