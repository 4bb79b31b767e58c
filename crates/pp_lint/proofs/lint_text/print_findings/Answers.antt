use Rattle.std.proofs.Common.{ap, arith, sym, refl}
use Rattle.pp_text.proofs.PrintingLemmas.{prints_on}
use Rattle.pp_lint.specs.LintText.{is_something_found}
use Rattle.pp_lint.proofs.FindingLemmas.{long_deck, marked_deck, plain_deck, prints_finding}
use Rattle.pp_lint.proofs.lint_text.print_findings.Goals as goal

pub returns-then-deck-gt-LONGEST_TEXT-clause-prints : goal.returns-then-deck-gt-LONGEST_TEXT-clause-prints
returns-then-deck-gt-LONGEST_TEXT-clause-prints g c = prints_finding _ _ _ _ _ (long_deck c.args.profile c.args.deck.now c.if-deck-gt-LONGEST_TEXT.true) c.print_finding.ensures

pub returns-then-deck-gt-LONGEST_TEXT-clause-found : goal.returns-then-deck-gt-LONGEST_TEXT-clause-found
returns-then-deck-gt-LONGEST_TEXT-clause-found g c = ap is_something_found (sym (long_deck c.args.profile c.args.deck.now c.if-deck-gt-LONGEST_TEXT.true))

pub returns-in-Some-clause-prints : goal.returns-in-Some-clause-prints
returns-in-Some-clause-prints g c =
    let marked = marked_deck c.args.profile c.args.deck.now c.if-deck-gt-LONGEST_TEXT.false c.in-Some.ensures.cases.0 in
    rw marked (prints_on _ _ _ _ _ _ _ c.print_mark.ensures (rw c.in-Some.ensures.cases.1 at c.print_lines.ensures.prints) refl)

pub returns-in-Some-clause-found : goal.returns-in-Some-clause-found
returns-in-Some-clause-found g c =
    let marked = marked_deck c.args.profile c.args.deck.now c.if-deck-gt-LONGEST_TEXT.false c.in-Some.ensures.cases.0 in
    rw marked (grind arith)

pub returns-in-None-clause-prints : goal.returns-in-None-clause-prints
returns-in-None-clause-prints g c = rw (plain_deck c.args.profile c.args.deck.now c.if-deck-gt-LONGEST_TEXT.false c.in-None.ensures.cases) c.print_lines-in-None.ensures.prints

pub returns-in-None-clause-found : goal.returns-in-None-clause-found
returns-in-None-clause-found g c = rw (plain_deck c.args.profile c.args.deck.now c.if-deck-gt-LONGEST_TEXT.false c.in-None.ensures.cases) c.print_lines-in-None.ensures.found
