use Rattle.std.proofs.Common.{◌≡◌, ◌+◌, suc, ap, arith, sym, ◌∙◌}
use Rattle.pp_word.specs.Address.{place_count}
use Rattle.pp_text.proofs.PrintingLemmas.{◌▹◌, prints_all, prints_more, prints_nothing}
use Rattle.pp_listing.specs.ListedLine.{deck_line}
use Rattle.pp_text.specs.Differences.{places}
use Rattle.pp_state.specs.Changes.{line_from, position_on_line}
use Rattle.pp_state.proofs.ChangeLemmas.{none_at_first}
use Rattle.pp_state.proofs.changes.print_section.Goals as goal

pub loop-place-init : goal.loop-place-init
loop-place-init g c = record {
  text = prints_nothing _ _;
  in_front = sym (none_at_first c.args.before.now.memory c.args.after.now.memory);
  few = omega arith;
}

pub loop-place-preserved : goal.loop-place-preserved
loop-place-preserved g c =
    let next : suc c.loop-place.place ≡ c.loop-place.place + 1 = omega arith in
    record {
      text = prints_more _ _ _ _ deck_line (line_from c.args.before.now.memory c.args.after.now.memory) c.loop-place.place c.loop-place.invariant.text c.print_line_from-in_front.ensures.line;
      in_front = c.print_line_from-in_front.ensures.in_front ∙ ap (position_on_line c.args.before.now.memory c.args.after.now.memory) next;
      few = c.print_line_from-in_front.ensures.few;
    }

pub returns : goal.returns
unfolding places
returns g c =
    c.print_section_line.ensures
    ▹ prints_all _ _ _ deck_line (line_from c.args.before.now.memory c.args.after.now.memory) c.loop-place.place place_count (omega (arith, c.loop-place.auto.place-end, c.loop-place-test.false)) c.loop-place.invariant.text
