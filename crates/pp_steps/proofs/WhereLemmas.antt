-- The lines of steps that meet a condition, step by step.
use Rattle.std.proofs.Common.{◌≡◌, ℕ, Bool, true, false, cond, IsTrue, List, [], ◌∷◌, ◌++◌, ◌&&◌, refl, sym, ap, ◌∙◌, append-nil, subst}
use Rattle.std.specs.Prelude.{◌↔◌, map}
use Rattle.pp_condition.specs.Condition.{Meets}
use Rattle.pp_condition.specs.declared.condition.Condition.{Condition}
use Rattle.pp_run.specs.RunSteps.{RunStep}
use Rattle.std.specs.List.{flat_map}
use Rattle.std.proofs.lemmas.List.{map-append}
use Rattle.std.proofs.lemmas.List.Concat.{flat_map-append}
use Rattle.pp_steps.specs.StepsText.{line_text}
use Rattle.pp_steps.specs.StepsWhere.{HasLinesWhere, alone, meets, none, passes}

abbrev pub own_text : Bool → Bool → RunStep → List ℕ
own_text is_chosen meets_it step = cond (is_chosen && meets_it) (line_text (alone step)) []

pub no_lines : (condition : Condition) → HasLinesWhere condition [] []
no_lines condition = record { those = []; are_those = none; text_is = refl }

one_line_more : (those : List RunStep) (step : RunStep) → flat_map line_text (map alone those) ++ line_text (alone step) ≡ flat_map line_text (map alone (those ++ step ∷ []))
one_line_more those step =
    ap (λ own. flat_map line_text (map alone those) ++ own) (sym (append-nil (line_text (alone step))))
    ∙ sym (flat_map-append line_text (map alone those) (alone step ∷ []))
    ∙ ap (flat_map line_text) (sym (map-append alone those (step ∷ [])))

-- with the next step of a run
pub where_more : (condition : Condition) (past : List RunStep) (step : RunStep) (text : List ℕ) (is_chosen meets_it : Bool) → IsTrue meets_it ↔ Meets condition step → HasLinesWhere condition past text
    → HasLinesWhere condition (cond is_chosen (past ++ step ∷ []) past) (text ++ own_text is_chosen meets_it step)
where_more condition past step text true true is so_far = record {
  those = so_far.those ++ step ∷ [];
  are_those = meets past so_far.those step so_far.are_those (is.0 refl);
  text_is = ap (λ t. t ++ line_text (alone step)) so_far.text_is ∙ one_line_more so_far.those step;
}
where_more condition past step text true false is so_far =
    record {
      those = so_far.those;
      are_those = passes past so_far.those step so_far.are_those (λ met. let bad : false ≡ true = is.1 met in absurd (cc));
      text_is = append-nil text ∙ so_far.text_is;
    }
where_more condition past step text false true is so_far = subst (λ (t : List ℕ). HasLinesWhere condition past t) (sym (append-nil text)) so_far
where_more condition past step text false false is so_far = subst (λ (t : List ℕ). HasLinesWhere condition past t) (sym (append-nil text)) so_far
