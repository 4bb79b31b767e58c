use Rattle.std.proofs.Common.{◌≡◌, ap, arith, map, refl, ◌∙◌}
use Rattle.std.specs.List.{slice_split}
use Rattle.std.proofs.lemmas.List.Sums.{count_by-le-length}
use Rattle.std.proofs.lemmas.List.Splits.{length-slice_split}
use Rattle.pp_deck.specs.DeckText.{fields_of, is_line_feed}
use Rattle.pp_text.proofs.PrintingLemmas.{prints_all, prints_more, prints_nothing}
use Rattle.pp_lint.specs.Findings.{findings_at, findings_in}
use Rattle.pp_lint.specs.LintText.{finding_line, is_something_found}
use Rattle.pp_lint.proofs.FindingLemmas.{before_next, findings_here, found_at, lines_are, next_is, none_left}
use Rattle.pp_lint.proofs.GivenLemmas.{given_here, said_here, small_size}
use Rattle.pp_lint.proofs.RunLemmas.{reached_first, reached_next}
use Rattle.pp_lint.proofs.lint_text.print_lines.Goals as goal

pub loop-line-init : goal.loop-line-init
loop-line-init g c = record {
  most = omega arith;
  left = c.of-lines.ensures;
  before = rw (← lines_are c.args.deck.now) c.before_first-before.ensures;
  reached = reached_first _ _;
  printed = prints_nothing _ _;
  found = refl;
}

pub overflow_add-number : goal.overflow_add-number
overflow_add-number g c =
    let next = next_is _ _ _ c.loop-line.number c.in-Some.line.now c.loop-line.invariant.left c.in-Some.ensures.taken in
    omega (arith, next.within, c.requires.short, length-slice_split is_line_feed c.args.deck.now, count_by-le-length is_line_feed c.args.deck.now)

pub print_line_findings-found-requires : goal.print_line_findings-found-requires
print_line_findings-found-requires g c = small_size c.args.profile _ c.loop-line.number c.loop-line.before c.loop-line.invariant.before

pub loop-line-preserved : goal.loop-line-preserved
loop-line-preserved g c =
    let lines = slice_split is_line_feed c.args.deck.now in
    let next = next_is _ _ _ c.loop-line.number c.in-Some.line.now c.loop-line.invariant.left c.in-Some.ensures.taken in
    let shows = rw (lines_are c.args.deck.now) at c.requires.shows in
    let here = findings_here c.args.profile lines c.loop-line.number c.in-Some.line.now c.loop-line.before c.args.whole.now.alone.items c.loop-line.reached c.loop-line.invariant.before c.loop-line.invariant.reached next.here in
    let also : c.print_line_findings-found.result ≡ is_something_found (findings_at c.args.profile lines c.args.whole.now.alone.items c.loop-line.number) = c.print_line_findings-found.ensures.found c.loop-line.number _ shows refl ∙ ap is_something_found here in
    record {
      most = omega (arith, next.within);
      left = next.left;
      before = c.after_line-before.ensures ∙ before_next c.args.profile lines c.loop-line.number c.in-Some.line.now c.loop-line.before c.loop-line.invariant.before next.within next.here;
      reached = reached_next c.args.profile (map fields_of lines) c.loop-line.number _ _ c.loop-line.reached _ (c.row_after-row.ensures.value ∙ given_here c.args.profile lines c.loop-line.number c.in-Some.line.now c.loop-line.before c.loop-line.invariant.before next.within next.here)
          (said_here c.args.profile lines c.loop-line.number c.in-Some.line.now c.loop-line.before c.loop-line.invariant.before next.within next.here) c.loop-line.invariant.reached
          (c.behind_line-reached.ensures _ c.loop-line.before shows c.row_after-row.ensures.gives);
      printed = prints_more _ _ _ _ finding_line (findings_at c.args.profile lines c.args.whole.now.alone.items) c.loop-line.number c.loop-line.invariant.printed (rw here at (c.print_line_findings-found.ensures.prints c.loop-line.number _ shows refl));
      found = found_at c.args.profile lines c.args.whole.now.alone.items c.loop-line.number c.loop-line.is_found c.print_line_findings-found.result c.loop-line.invariant.found also;
    }

pub returns-clause-prints : goal.returns-clause-prints
unfolding findings_in
returns-clause-prints g c =
    let all = none_left _ _ c.loop-line.number c.loop-line.invariant.left c.in_default.ensures.none c.loop-line.invariant.most in
    rw (← c.requires.alone) (prints_all _ _ _ finding_line (findings_at c.args.profile (slice_split is_line_feed c.args.deck.now) c.args.whole.now.alone.items) c.loop-line.number _ all c.loop-line.invariant.printed)

pub returns-clause-found : goal.returns-clause-found
unfolding findings_in
returns-clause-found g c =
    let all = none_left _ _ c.loop-line.number c.loop-line.invariant.left c.in_default.ensures.none c.loop-line.invariant.most in
    rw (← c.requires.alone) (rw all at c.loop-line.invariant.found)

pub row_after-row-requires : goal.row_after-row-requires
row_after-row-requires g c = small_size c.args.profile _ c.loop-line.number c.loop-line.before c.loop-line.invariant.before
