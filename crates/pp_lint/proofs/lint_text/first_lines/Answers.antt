use Rattle.std.proofs.Common.{arith, subst, sym, ◌∙◌, map}
use Rattle.std.specs.List.{slice_split}
use Rattle.std.proofs.lemmas.List.{length-map}
use Rattle.std.proofs.lemmas.List.Sums.{count_by-le-length}
use Rattle.std.proofs.lemmas.List.Splits.{length-slice_split}
use Rattle.pp_deck.specs.DeckText.{fields_of, is_line_feed}
use Rattle.pp_lint.specs.FirstLines.{Shows}
use Rattle.pp_lint.proofs.FindingLemmas.{before_next, lines_are, next_is, none_left}
use Rattle.pp_lint.proofs.GivenLemmas.{all_notes, given_here, notes_more, said_here, small_size}
use Rattle.pp_lint.proofs.lint_text.first_lines.Goals as goal

pub loop-line-init : goal.loop-line-init
loop-line-init g c = record {
  most = omega arith;
  left = c.of-lines.ensures;
  before = rw (← lines_are c.args.deck.now) c.before_first-before.ensures;
  shows = c.in_ok-firsts.ensures;
}

pub overflow_add-number : goal.overflow_add-number
overflow_add-number g c =
    let next = next_is _ _ _ c.loop-line.number c.in-Some.line.now c.loop-line.invariant.left c.in-Some.ensures.taken in
    omega (arith, next.within, c.requires, length-slice_split is_line_feed c.args.deck.now, count_by-le-length is_line_feed c.args.deck.now)

pub row_after-row-requires : goal.row_after-row-requires
row_after-row-requires g c = small_size c.args.profile _ c.loop-line.number c.loop-line.before c.loop-line.invariant.before

pub loop-line-preserved : goal.loop-line-preserved
loop-line-preserved g c =
    let lines = slice_split is_line_feed c.args.deck.now in
    let next = next_is _ _ _ c.loop-line.number c.in-Some.line.now c.loop-line.invariant.left c.in-Some.ensures.taken in
    let here = c.row_after-row.ensures.value ∙ given_here c.args.profile lines c.loop-line.number c.in-Some.line.now c.loop-line.before c.loop-line.invariant.before next.within next.here in
    let said = said_here c.args.profile lines c.loop-line.number c.in-Some.line.now c.loop-line.before c.loop-line.invariant.before next.within next.here in
    record {
      most = omega (arith, next.within);
      left = next.left;
      before = c.after_line-before.ensures ∙ before_next c.args.profile lines c.loop-line.number c.in-Some.line.now c.loop-line.before c.loop-line.invariant.before next.within next.here;
      shows = subst (Shows c.note_within.new.self) (notes_more c.args.profile (map fields_of lines) c.loop-line.number c.row_after-row.result _ here said)
          (c.note_within.ensures _ c.loop-line.before (c.note.ensures _ c.loop-line.invariant.shows) c.row_after-row.ensures.gives);
    }

pub returns : goal.returns
returns g c =
    let lines = slice_split is_line_feed c.args.deck.now in
    let all = none_left _ _ c.loop-line.number c.loop-line.invariant.left c.in_default.ensures.none c.loop-line.invariant.most in
    rw (lines_are c.args.deck.now) (subst (Shows c.loop-line.firsts) (all_notes c.args.profile (map fields_of lines) c.loop-line.number (all ∙ sym (length-map lines fields_of))) c.loop-line.invariant.shows)
