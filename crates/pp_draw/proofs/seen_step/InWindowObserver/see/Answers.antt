use Rattle.std.proofs.Common.{◌≡◌, ◌∷◌, ◌++◌, ℕ, [], true, false, ap, get_or, arith, set, sym, ◌∙◌}
use Rattle.pp_processor.specs.declared.outcome.Outcome.{Outcome}
use Rattle.pp_machine.specs.MachineStep.{step_outcome}
use Rattle.pp_numbers.specs.declared.window.Window.{Window}
use Rattle.pp_run.specs.RunSteps.{RunStep}
use Rattle.pp_draw.specs.SeenStep.{condition_by, earlier_with, found_in, is_shown, seen}
use Rattle.pp_draw.specs.declared.condition.Condition.{Condition}
use Rattle.pp_draw.specs.declared.seen_step.{Found.Found, SeenStep.SeenStep}
use Rattle.pp_draw.proofs.SeenLemmas.{earlier_more, shown_more}
use Rattle.pp_draw.proofs.seen_step.InWindowObserver.see.Goals as goal

-- the step that is told is that of the run
is_seen : (found : Found) (n : ℕ) (outcome : Outcome) (condition : Condition) (step : RunStep) → condition ≡ condition_by found.state outcome found.need found.block
    → found ≡ found_in step → step.processor ≡ n → outcome ≡ step_outcome step.processor step.before → record { turn = found.turn; pp = n; condition = condition } ≡ seen step
is_seen found n outcome condition step by noted own is = grind (arith, by, noted, own, is)

pub returns-in_ok-push-clause-seen : goal.returns-in_ok-push-clause-seen
returns-in_ok-push-clause-seen g c = λ start steps step noted made few has.
    let is = is_seen c.args.found.now c.args.n c.args.outcome c.condition_by.result step c.condition_by.ensures noted made.processor_is made.outcome_is in
    let now : SeenStep = record { turn = c.args.found.now.turn; pp = c.args.n; condition = c.condition_by.result } in
    let shows = c.is_shown.ensures ∙ ap (λ (w : Window). is_shown w now) has.0 ∙ ap (is_shown start.window) is in
    let keeps = c.earlier_with.ensures ∙ ap (λ (w : Window). earlier_with w (get_or c.args.self.now.earlier c.index-place.result c.index-self-place.result) now) has.0
    ∙ ap (earlier_with start.window (get_or c.args.self.now.earlier c.index-place.result c.index-self-place.result)) is in (
      has.0,
      ap (set c.args.self.now.earlier c.index-place.result) keeps
          ∙ earlier_more start.window c.args.self.now.earlier steps step c.args.n c.index-place.result _ has.1 c.index-place.ensures.place c.index-place.ensures.below made.processor_is,
      c.in_ok-push.ensures.items ∙ ap (λ (s : SeenStep). c.args.self.now.shown.items ++ s ∷ []) is
          ∙ shown_more start.window c.args.self.now.shown.items steps step true has.2 (sym shows ∙ c.if-is_shown.true),
    )

pub returns-else-is_shown-clause-seen : goal.returns-else-is_shown-clause-seen
returns-else-is_shown-clause-seen g c = λ start steps step noted made few has.
    let is = is_seen c.args.found.now c.args.n c.args.outcome c.condition_by.result step c.condition_by.ensures noted made.processor_is made.outcome_is in
    let now : SeenStep = record { turn = c.args.found.now.turn; pp = c.args.n; condition = c.condition_by.result } in
    let shows = c.is_shown.ensures ∙ ap (λ (w : Window). is_shown w now) has.0 ∙ ap (is_shown start.window) is in
    let keeps = c.earlier_with.ensures ∙ ap (λ (w : Window). earlier_with w (get_or c.args.self.now.earlier c.index-place.result c.index-self-place.result) now) has.0
    ∙ ap (earlier_with start.window (get_or c.args.self.now.earlier c.index-place.result c.index-self-place.result)) is in (
      has.0,
      ap (set c.args.self.now.earlier c.index-place.result) keeps
          ∙ earlier_more start.window c.args.self.now.earlier steps step c.args.n c.index-place.result _ has.1 c.index-place.ensures.place c.index-place.ensures.below made.processor_is,
      shown_more start.window c.args.self.now.shown.items steps step false has.2 (sym shows ∙ c.if-is_shown.false),
    )
