use Rattle.std.proofs.Common.{◌≡◌, ◌++◌, sym, ap, ◌∙◌}
use Rattle.pp_deck.specs.DeckMeaning.{deck_meaning}
use Rattle.pp_lint.specs.LintText.{lint_text}
use Rattle.pp_test.proofs.judged_lines.lines_to_judge.Goals as goal

pub run_to_lines-requires : goal.run_to_lines-requires
run_to_lines-requires g c = ap (λ profile. deck_meaning profile c.args.bytes.now) (c.deck_law.ensures.profile c.args.profile c.args.bytes.now _ c.requires) ∙ c.requires

pub returns : goal.returns
returns g c =
    let lines = c.in_ok-lines.lines.items in
    let written : c.write_findings.new.writer.items ≡ lines ++ lint_text c.args.profile c.args.bytes.now = c.in_ok-write_findings.ensures in
    record {
      run_text = lines;
      run_text_is = c.in_ok-lines.ensures;
      text_is = written ∙ ap (λ profile. lines ++ lint_text profile c.args.bytes.now) (sym (c.deck_law.ensures.profile c.args.profile c.args.bytes.now _ c.requires));
    }
