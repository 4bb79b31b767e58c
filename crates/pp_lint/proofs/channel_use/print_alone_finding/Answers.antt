use Rattle.std.proofs.Common.{ap, refl, sym}
use Rattle.std.specs.Prelude.{codes}
use Rattle.pp_text.proofs.PrintingLemmas.{◌▹◌, prints_nothing}
use Rattle.pp_lint.specs.ChannelUse.{alone_finding, alone_text}
use Rattle.pp_lint.specs.LintText.{is_something_found}
use Rattle.pp_lint.proofs.ChannelUseLemmas.{alone_is}
use Rattle.pp_lint.proofs.CommentLemmas.{none_found, prints_none}
use Rattle.pp_lint.proofs.FindingLemmas.{prints_ended, prints_finding}
use Rattle.pp_lint.proofs.channel_use.print_alone_finding.Goals as goal

pub returns-in_default : goal.returns-in_default
unfolding alone_finding
returns-in_default g c = record {
  same = refl;
  prints = λ k notes before shows seen number. rw (← c.in_default.ensures) (prints_nothing _ _);
  found = λ k notes before shows seen number. rw (← c.in_default.ensures) refl;
}

pub returns-then-not-is_first-is_alone : goal.returns-then-not-is_first-is_alone
returns-then-not-is_first-is_alone g c = record {
  same = refl;
  prints = λ k notes before shows seen number. prints_none _ _ _ (alone_is c.args.words.now.profile k _ notes _ _ _ before _ _ _ _ _ _ c.in-Some.ensures (c.is_first-is_first.ensures c.args.words.now.profile k notes before shows seen number) (rw c.deref.ensures.value at c.is_alone.ensures) c.sends_function.ensures c.if-not-is_first-is_alone.true);
  found = λ k notes before shows seen number. none_found _ (alone_is c.args.words.now.profile k _ notes _ _ _ before _ _ _ _ _ _ c.in-Some.ensures (c.is_first-is_first.ensures c.args.words.now.profile k notes before shows seen number) (rw c.deref.ensures.value at c.is_alone.ensures) c.sends_function.ensures c.if-not-is_first-is_alone.true);
}

pub returns : goal.returns
unfolding alone_text
returns g c = record {
  same = c.column_of.ensures.same;
  prints = λ k notes before shows seen number.
      prints_finding _ _ _ _ _ (alone_is c.args.words.now.profile k _ notes _ _ _ before _ _ _ _ _ _ c.in-Some.ensures (c.is_first-is_first.ensures c.args.words.now.profile k notes before shows seen number) (rw c.deref.ensures.value at c.is_alone.ensures) c.sends_function.ensures c.if-not-is_first-is_alone.false) (prints_ended (codes " alone") (rw (number, c.column_of.ensures.value, c.field_of.ensures) at c.print_place.ensures)
      (c.print.ensures ▹ (rw (c.octal2.ensures, c.get.ensures.value) at c.print-2.ensures) ▹ c.print-3.ensures ▹ (rw (c.from.ensures, c.get-2.ensures.value) at c.print_short_octal.ensures)) c.print-4.ensures);
  found = λ k notes before shows seen number. sym (ap is_something_found (alone_is c.args.words.now.profile k _ notes _ _ _ before _ _ _ _ _ _ c.in-Some.ensures (c.is_first-is_first.ensures c.args.words.now.profile k notes before shows seen number) (rw c.deref.ensures.value at c.is_alone.ensures) c.sends_function.ensures c.if-not-is_first-is_alone.false));
}
