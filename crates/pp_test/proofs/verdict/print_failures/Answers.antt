use Rattle.std.proofs.Common.{◌≡◌, ◌+◌, ◌++◌, List, length, ap, subst, arith}
use Rattle.std.specs.List.{flat_map}
use Rattle.std.proofs.lemmas.List.Splits.{length-slice_split}
use Rattle.std.proofs.lemmas.List.Sums.{count_by-le-length}
use Rattle.pp_deck.specs.DeckText.{is_line_feed}
use Rattle.pp_text.specs.TextWriter.{Prints}
use Rattle.pp_text.proofs.PrintingLemmas.{prints_nothing, prints_on}
use Rattle.pp_test.specs.Expectations.{Expectation, expectation_in, expectations_from}
use Rattle.pp_test.specs.Verdict.{failure_text, failures, lines_in}
use Rattle.pp_test.proofs.VerdictLemmas.{all_left, characters, count_more, failed_more, few_characters, told_more}
use Rattle.pp_test.proofs.verdict.print_failures.Goals as goal

pub loop-line-init : goal.loop-line-init
loop-line-init g c =
    let deck = c.args.deck.now in
    let lines = lines_in c.args.lines.now in
    let all = all_left deck _ c.of-left.ensures in
    record {
      printed = λ out printed. subst (λ (es : List Expectation). Prints g.W.Write.contents c.args.text.now out (flat_map (failure_text lines) (failures lines es))) all printed;
      all = omega (arith, ap length all);
      failed = omega (arith, ap (λ (es : List Expectation). length (failures lines es)) all);
      fewer = omega arith;
      few = omega arith;
      numbers = omega (arith, ap length c.of-left.ensures, length-slice_split is_line_feed deck, count_by-le-length is_line_feed deck, c.requires);
      characters = omega (arith, ap characters c.of-left.ensures, few_characters deck, c.requires);
    }

pub loop-line-preserved : goal.loop-line-preserved
loop-line-preserved g c =
    let lines = lines_in c.args.lines.now in
    let number = c.loop-line.number + 1 in
    let here = expectation_in number c.in-Some.line.now in
    let rest = expectations_from (number + 1) c.next_line.new.self in
    let all = expectations_from number c.loop-line.left in
    let split : all ≡ here ++ rest = ap (expectations_from number) c.in-Some.ensures.taken in
    let counted = count_more here rest all split in
    let failed = failed_more lines here rest all split in
    let told = c.judge_line-more.ensures in
    record {
      printed = λ out printed. c.loop-line.invariant.printed out (prints_on _ _ _ _ _ _ _ told.prints printed (told_more lines here rest all split));
      all = omega (arith, c.loop-line.invariant.all, counted, told.all);
      failed = omega (arith, c.loop-line.invariant.failed, failed, told.failed);
      fewer = omega (arith, c.loop-line.invariant.fewer, told.few.0);
      few = omega (arith, c.loop-line.invariant.few, told.few.1);
      numbers = omega (arith, c.loop-line.invariant.numbers, ap length c.in-Some.ensures.taken);
      characters = omega (arith, c.loop-line.invariant.characters, ap characters c.in-Some.ensures.taken);
    }

pub returns-clause-prints : goal.returns-clause-prints
returns-clause-prints g c = c.loop-line.invariant.printed c.loop-line.text (rw c.in_default.ensures.none (prints_nothing _ _))
