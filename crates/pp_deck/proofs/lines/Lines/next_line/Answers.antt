use Rattle.std.proofs.Common.{◌≡◌, [], sym, ap, rules, tests, ◌∙◌}
use Rattle.std.specs.Prelude.{position}
use Rattle.std.proofs.lemmas.Iterator.{YieldsList-from_slice}
use Rattle.std.proofs.lemmas.Iterator.Search.{position_from_yields_List}
use Rattle.std.specs.Option.{option_map_or}
use Rattle.std.proofs.lemmas.List.{take_rest}
use Rattle.pp_deck.specs.DeckText.{is_line_feed, lines_of}
use Rattle.pp_deck.proofs.FieldLemmas.{line_first, line_last}
use Rattle.pp_deck.proofs.lines.Lines.next_line.Goals as goal

pub returns-in-Some-clause-taken : goal.returns-in-Some-clause-taken
returns-in-Some-clause-taken c =
    let at : c.position.result ≡ position is_line_feed c.in_ok-text.text.now = position_from_yields_List is_line_feed _ _ c.position.result c.position.ensures.ran (YieldsList-from_slice c.in_ok-text.text.now cc) (λ x b q k. search (rules, tests)) in
    rw c.of.ensures (sym c.self.view_is ∙ ap (λ left. option_map_or (λ text. lines_of text.now) left []) c.in_ok-text.was
    ∙ line_first c.in_ok-text.text.now _ c.in-Some.end (rw c.in-Some.is at at) (take_rest c.in_ok-text.text.now _))

pub returns-in-None-clause-taken : goal.returns-in-None-clause-taken
returns-in-None-clause-taken c =
    let at : c.position.result ≡ position is_line_feed c.in_ok-text.text.now = position_from_yields_List is_line_feed _ _ c.position.result c.position.ensures.ran (YieldsList-from_slice c.in_ok-text.text.now cc) (λ x b q k. search (rules, tests)) in
    rw c.of-in-None.ensures (sym c.self.view_is ∙ ap (λ left. option_map_or (λ text. lines_of text.now) left []) c.in_ok-text.was ∙ line_last c.in_ok-text.text.now (rw c.in-None.is at at))
