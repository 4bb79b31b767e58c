use Rattle.std.proofs.Common.{◌≡◌, List, ◌++◌, length, Result, Ok, sym, ap, subst, ◌∙◌}
use Rattle.pp_deck.specs.DeckMeaning.{LoadedDeck, deck_meaning}
use Rattle.pp_deck.specs.declared.deck_fault.DeckFault.{DeckFault}
use Rattle.pp_lint.specs.LintText.{lint_text}
use Rattle.pp_test.specs.JudgedLines.{IsJudgedText}
use Rattle.pp_test.proofs.every_order.lines_of_ending.Goals as goal

one_deck : (read : Result LoadedDeck DeckFault) (one other : LoadedDeck) → read ≡ Ok one → read ≡ Ok other → one ≡ other
one_deck read one other is was = cc

pub run_to_lines-requires : goal.run_to_lines-requires
run_to_lines-requires g c = ap (λ profile. deck_meaning profile c.args.bytes.now) (c.deck_law.ensures.profile c.args.profile c.args.bytes.now _ c.in-Ok.ensures.ok) ∙ c.in-Ok.ensures.ok

pub returns : goal.returns
returns g c = λ deck meant.
    let bytes = c.args.bytes.now in
    let order = c.args.order.now in
    let lines = c.in_ok-lines.lines.items in
    let own : LoadedDeck = record { machine = c.in-Ok.loaded.machine; named = c.in-Ok.loaded.named } in
    let same = one_deck _ own deck c.in-Ok.ensures.ok meant in
    let written : c.extend_from_slice.new.self.items ≡ lines ++ c.args.findings.now = c.in_ok-extend_from_slice.ensures.items in
    subst (λ (d : LoadedDeck). IsJudgedText bytes order (length order) d c.extend_from_slice.new.self.items) same (record {
      run_text = lines;
      run_text_is = c.in_ok-lines.ensures;
      text_is = written ∙ ap (λ (xs : List _). lines ++ xs) (c.requires.found ∙ ap (λ profile. lint_text profile bytes) (sym (c.deck_law.ensures.profile c.args.profile bytes own c.in-Ok.ensures.ok)));
    })
