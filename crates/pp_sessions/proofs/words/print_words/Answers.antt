use Rattle.std.proofs.Common.{◌≡◌, ◌≢◌, ◌++◌, [], ℕ, List, eqb, sym, ap, subst, ◌∙◌, arith}
use Rattle.std.proofs.lemmas.Bool.{cond-false, ne_eqb}
use Rattle.std.proofs.lemmas.List.{append-nil}
use Rattle.pp_text.specs.PrintedText.{line_end}
use Rattle.pp_text.specs.TextWriter.{Prints}
use Rattle.pp_sessions.specs.SessionsText.{words_from}
use Rattle.pp_text.proofs.PrintingLemmas.{prints_on, prints_then}
use Rattle.pp_sessions.proofs.WordLemmas.{all_printed, entry_printed}
use Rattle.pp_sessions.proofs.words.print_words.Goals as goal

pub loop-entry-preserved : goal.loop-entry-preserved
loop-entry-preserved g c =
    let (printed, prints, told) = c.loop-entry.invariant.words in
    let (more, out, further) = c.print_entry-count.ensures.words in
    record {
      words = (
        printed ++ more,
        prints_then _ _ _ _ printed more prints out,
        entry_printed c.args.c c.loop-entry.entry-index c.loop-entry.count c.print_entry-count.result c.args.entries.now c.entry-item.result printed more c.loop-entry-test.true c.entry-item.is told further,
      );
      few = c.print_entry-count.ensures.few;
    }

pub returns-then-count-gt0 : goal.returns-then-count-gt0
returns-then-count-gt0 g c =
    let (printed, prints, told) = c.loop-entry.invariant.words in
    let count = c.loop-entry.count in
    let other : count ≢ 0 = λ e. omega (arith, e, c.if-count-gt0.true) in
    prints_on _ _ _ _ printed _ _ prints c.print.ensures
    (ap (λ (text : List ℕ). printed ++ text) (sym (cond-false (eqb count 0) [] line_end (ne_eqb count 0 other))) ∙ all_printed c.args.c c.loop-entry.entry-index count c.args.entries.now printed c.loop-entry-test.false told)

pub returns-else-count-gt0 : goal.returns-else-count-gt0
returns-else-count-gt0 g c =
    let (printed, prints, told) = c.loop-entry.invariant.words in
    let count = c.loop-entry.count in
    let none : count ≡ 0 = omega (arith, c.if-count-gt0.false) in
    subst (Prints _ _ _)
    (sym (append-nil printed) ∙ ap (λ (text : List ℕ). printed ++ text) (ap (λ (k : ℕ). words_from k []) (sym none)) ∙ all_printed c.args.c c.loop-entry.entry-index count c.args.entries.now printed c.loop-entry-test.false told) prints
