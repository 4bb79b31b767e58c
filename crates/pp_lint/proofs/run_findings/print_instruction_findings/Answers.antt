use Rattle.std.proofs.Common.{[], ap, refl, sym, ◌∙◌, ◌++◌, ◌∷◌}
use Rattle.pp_lint.specs.RunFindings.{instruction_findings}
use Rattle.pp_lint.proofs.ChannelUseLemmas.{none_seen}
use Rattle.pp_lint.proofs.CommentLemmas.{none_found, none_more, prints_none}
use Rattle.pp_lint.proofs.RunLemmas.{first_found, first_prints, no_instruction}
use Rattle.pp_lint.proofs.run_findings.print_instruction_findings.Goals as goal

pub loop-i-init : goal.loop-i-init
loop-i-init g c = record {
  columns = c.of-columns.ensures;
  before = [];
  seen = none_seen c.args.words.now.profile;
  printed = λ k notes shows number out rest. rest;
  found = λ k notes shows number. refl;
}

pub loop-i-preserved : goal.loop-i-preserved
loop-i-preserved g c =
    let words = c.args.words.now in
    let alone = c.args.deck.now.alone.items in
    let before = c.loop-i.invariant.before in
    record {
      columns = c.print_alone_finding-is_alone.ensures.same ∙ c.print_fault_finding-is_faulty.ensures.same ∙ c.loop-i.invariant.columns;
      before = before ++ c.in-Some.i ∷ [];
      seen = c.see.ensures before c.loop-i.invariant.seen;
      printed = λ k notes shows number out rest. c.loop-i.invariant.printed k notes shows number out
          (first_prints words.profile k words.line.now c.loop-i.columns notes alone words.n words.first c.loop-i.reached _ before _ _ c.in-Some.i _ c.loop-i.invariant.columns c.in-Some.ensures.taken (c.is_reached-is_here.ensures notes shows) (c.behind-reached.ensures notes shows)
          _ _ _ _ _ (c.print_fault_finding-is_faulty.ensures.prints k number) (rw (c.print_fault_finding-is_faulty.ensures.same) at (c.print_alone_finding-is_alone.ensures.prints k notes before shows c.loop-i.invariant.seen number)) rest);
      found = λ k notes shows number.
          first_found words.profile k words.line.now c.loop-i.columns notes alone words.n words.first c.loop-i.reached _ before _ _ c.in-Some.i _ c.loop-i.invariant.columns c.in-Some.ensures.taken (c.is_reached-is_here.ensures notes shows) (c.behind-reached.ensures notes shows)
          c.loop-i.is_found _ _ (c.print_fault_finding-is_faulty.ensures.found k) (rw (c.print_fault_finding-is_faulty.ensures.same) at (c.print_alone_finding-is_alone.ensures.found k notes before shows c.loop-i.invariant.seen number)) ∙ c.loop-i.invariant.found k notes shows number;
    }

pub returns-clause-prints : goal.returns-clause-prints
returns-clause-prints g c = λ k notes shows number.
    let words = c.args.words.now in
    let before = c.loop-i.invariant.before in
    c.loop-i.invariant.printed k notes shows number c.loop-i.text
    (prints_none _ _ _ (ap (instruction_findings words.profile k words.line.now notes c.args.deck.now.alone.items words.n words.first c.loop-i.reached before) c.in_default.ensures.none.0 ∙ no_instruction words.profile k words.line.now notes c.args.deck.now.alone.items words.n words.first c.loop-i.reached before))

pub returns-clause-found : goal.returns-clause-found
returns-clause-found g c = λ k notes shows number.
    let words = c.args.words.now in
    let before = c.loop-i.invariant.before in
    none_more c.loop-i.is_found _ (sym (none_found _ (ap (instruction_findings words.profile k words.line.now notes c.args.deck.now.alone.items words.n words.first c.loop-i.reached before) c.in_default.ensures.none.0 ∙ no_instruction words.profile k words.line.now notes c.args.deck.now.alone.items words.n words.first c.loop-i.reached before)))
    ∙ c.loop-i.invariant.found k notes shows number
