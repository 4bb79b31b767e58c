use Rattle.std.proofs.Common.{◌≡◌, [], sym, ap, rules, tests, ◌∙◌}
use Rattle.std.specs.Prelude.{position}
use Rattle.std.specs.List.{slice_split}
use Rattle.std.proofs.lemmas.Iterator.{YieldsList-from_slice}
use Rattle.std.proofs.lemmas.Iterator.Search.{position_from_yields_List}
use Rattle.std.specs.Option.{option_map_or}
use Rattle.std.proofs.lemmas.List.{take_rest}
use Rattle.pp_deck.specs.DeckText.{is_line_feed}
use Rattle.pp_numbers.proofs.Pieces.{split_first, split_last}
use Rattle.pp_lint.proofs.text_lines.TextLines.next_line.Goals as goal

pub returns-in-Some-clause-taken : goal.returns-in-Some-clause-taken
returns-in-Some-clause-taken c =
    let at : c.position.result ≡ position is_line_feed c.in_ok-text.text.now = position_from_yields_List is_line_feed _ _ c.position.result c.position.ensures.ran (YieldsList-from_slice c.in_ok-text.text.now cc) (λ x b q k. search (rules, tests)) in
    sym c.self.view_is ∙ ap (λ left. option_map_or (λ text. slice_split is_line_feed text.now) left []) c.in_ok-text.was
    ∙ split_first is_line_feed c.in_ok-text.text.now _ c.in-Some.end (rw c.in-Some.is at at) (take_rest c.in_ok-text.text.now _)

pub returns-in-None-clause-taken : goal.returns-in-None-clause-taken
returns-in-None-clause-taken c =
    let at : c.position.result ≡ position is_line_feed c.in_ok-text.text.now = position_from_yields_List is_line_feed _ _ c.position.result c.position.ensures.ran (YieldsList-from_slice c.in_ok-text.text.now cc) (λ x b q k. search (rules, tests)) in
    sym c.self.view_is ∙ ap (λ left. option_map_or (λ text. slice_split is_line_feed text.now) left []) c.in_ok-text.was ∙ split_last is_line_feed c.in_ok-text.text.now (rw c.in-None.is at at)
