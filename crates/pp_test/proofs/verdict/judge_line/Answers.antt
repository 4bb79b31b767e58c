use Rattle.std.proofs.Common.{◌≡◌, Bool, true, false, List, ℕ, [], ◌∷◌, length, ap, arith, refl, subst, sym, ◌∙◌}
use Rattle.std.specs.Prelude.{◌==◌}
use Rattle.std.specs.Bool.{beq}
use Rattle.pp_text.specs.TextWriter.{Prints}
use Rattle.pp_text.proofs.PrintingLemmas.{prints_nothing}
use Rattle.pp_test.specs.Expectations.{Expectation, expectation_in, text_of_line, words_of}
use Rattle.pp_test.specs.Nearest.{begin, in_common, nearest}
use Rattle.pp_test.specs.Reading.{IsExpected}
use Rattle.pp_test.specs.Verdict.{failures, lines_in}
use Rattle.pp_test.specs.declared.expectation.Expected.{Expected}
use Rattle.pp_test.proofs.VerdictLemmas.{an_expectation, failed_by, failure_told, few_words, held_by, no_expectation, one_fails, one_holds}
use Rattle.pp_test.proofs.verdict.judge_line.Goals as goal

-- what is judged
abbrev judged : ℕ → List ℕ → Expectation
judged number line = record { line = number; text = text_of_line line }

-- whether its words begin a line, by how many there are and how many are in common
told_near : (expected : Expected) (number : ℕ) (line text near : List ℕ) (common count : ℕ) → IsExpected expected line → near ≡ nearest (words_of (text_of_line line)) (lines_in text)
    → common ≡ in_common (words_of (text_of_line line)) near → count ≡ length (words_of (text_of_line line))
    → (common == count) ≡ begin (words_of (text_of_line line)) (nearest (words_of (text_of_line line)) (lines_in text))
told_near expected number line text near common count read near_is common_is count_is = rw (common_is, count_is, near_is) refl

pub returns-in_default-clause-prints : goal.returns-in_default-clause-prints
returns-in_default-clause-prints g c = rw (no_expectation c.args.number c.args.line.now c.in_default.ensures) (prints_nothing _ _)

pub returns-in_default-clause-all : goal.returns-in_default-clause-all
returns-in_default-clause-all g c = sym (ap length (no_expectation c.args.number c.args.line.now c.in_default.ensures))

pub returns-in_default-clause-failed : goal.returns-in_default-clause-failed
returns-in_default-clause-failed g c = sym (ap (λ (es : List Expectation). length (failures (lines_in c.args.lines.now) es)) (no_expectation c.args.number c.args.line.now c.in_default.ensures))

pub in_common-requires : goal.in_common-requires
in_common-requires g c = let read : IsExpected c.in-Some.expected c.args.line.now = c.in-Some.ensures in
    omega (arith, ap length read.words, few_words c.args.line.now, c.requires)

pub word_count-requires : goal.word_count-requires
word_count-requires g c = let read : IsExpected c.in-Some.expected c.args.line.now = c.in-Some.ensures in
    omega (arith, ap length read.words, few_words c.args.line.now, c.requires)

none_fails : (number : ℕ) (line text : List ℕ) (expected : Expected) (begins : Bool) → IsExpected expected line
    → begins ≡ begin (words_of (text_of_line line)) (nearest (words_of (text_of_line line)) (lines_in text)) → beq begins expected.is_wanted ≡ true
    → failures (lines_in text) (expectation_in number line) ≡ []
none_fails number line text expected begins read near same =
    let e = judged number line in
    ap (failures (lines_in text)) (an_expectation number line read.begins) ∙ one_holds (lines_in text) e (held_by text e begins expected.is_wanted near read.wanted same)

it_fails : (number : ℕ) (line text : List ℕ) (expected : Expected) (begins : Bool) → IsExpected expected line
    → begins ≡ begin (words_of (text_of_line line)) (nearest (words_of (text_of_line line)) (lines_in text)) → beq begins expected.is_wanted ≡ false
    → failures (lines_in text) (expectation_in number line) ≡ judged number line ∷ []
it_fails number line text expected begins read near other =
    let e = judged number line in
    ap (failures (lines_in text)) (an_expectation number line read.begins) ∙ one_fails (lines_in text) e (failed_by text e begins expected.is_wanted near read.wanted other)

pub returns-then-begins-expected-clause-prints : goal.returns-then-begins-expected-clause-prints
returns-then-begins-expected-clause-prints g c =
    let read : IsExpected c.in-Some.expected c.args.line.now = c.in-Some.ensures in
    let near = told_near c.in-Some.expected c.args.number c.args.line.now c.args.lines.now c.nearest-near.result.now c.in_common.result c.word_count.result read
    (rw read.words at c.nearest-near.ensures) (rw read.words at c.in_common.ensures) (rw read.words at c.word_count.ensures) in
    rw (none_fails c.args.number c.args.line.now c.args.lines.now c.in-Some.expected _ read near c.if-begins-expected.true) (prints_nothing _ _)

pub returns-then-begins-expected-clause-all : goal.returns-then-begins-expected-clause-all
returns-then-begins-expected-clause-all g c = let read : IsExpected c.in-Some.expected c.args.line.now = c.in-Some.ensures in
    sym (ap length (an_expectation c.args.number c.args.line.now read.begins))

pub returns-then-begins-expected-clause-failed : goal.returns-then-begins-expected-clause-failed
returns-then-begins-expected-clause-failed g c =
    let read : IsExpected c.in-Some.expected c.args.line.now = c.in-Some.ensures in
    let near = told_near c.in-Some.expected c.args.number c.args.line.now c.args.lines.now c.nearest-near.result.now c.in_common.result c.word_count.result read
    (rw read.words at c.nearest-near.ensures) (rw read.words at c.in_common.ensures) (rw read.words at c.word_count.ensures) in
    sym (ap length (none_fails c.args.number c.args.line.now c.args.lines.now c.in-Some.expected _ read near c.if-begins-expected.true))

pub returns-clause-prints : goal.returns-clause-prints
returns-clause-prints g c =
    let read : IsExpected c.in-Some.expected c.args.line.now = c.in-Some.ensures in
    let near_is : c.nearest-near.result.now ≡ nearest (words_of (text_of_line c.args.line.now)) (lines_in c.args.lines.now) = rw read.words at c.nearest-near.ensures in
    let near = told_near c.in-Some.expected c.args.number c.args.line.now c.args.lines.now c.nearest-near.result.now c.in_common.result c.word_count.result read
    near_is (rw read.words at c.in_common.ensures) (rw read.words at c.word_count.ensures) in
    subst (Prints g.W.Write.contents c.args.text.now c.print_failure.new.text)
    (failure_told (lines_in c.args.lines.now) (judged c.args.number c.args.line.now) _ _ _ (expectation_in c.args.number c.args.line.now) read.text near_is read.wanted
    (it_fails c.args.number c.args.line.now c.args.lines.now c.in-Some.expected _ read near c.if-begins-expected.false))
    c.print_failure.ensures

pub returns-clause-all : goal.returns-clause-all
returns-clause-all g c = let read : IsExpected c.in-Some.expected c.args.line.now = c.in-Some.ensures in
    sym (ap length (an_expectation c.args.number c.args.line.now read.begins))

pub returns-clause-failed : goal.returns-clause-failed
returns-clause-failed g c =
    let read : IsExpected c.in-Some.expected c.args.line.now = c.in-Some.ensures in
    let near = told_near c.in-Some.expected c.args.number c.args.line.now c.args.lines.now c.nearest-near.result.now c.in_common.result c.word_count.result read
    (rw read.words at c.nearest-near.ensures) (rw read.words at c.in_common.ensures) (rw read.words at c.word_count.ensures) in
    sym (ap length (it_fails c.args.number c.args.line.now c.args.lines.now c.in-Some.expected _ read near c.if-begins-expected.false))
