use Rattle.std.proofs.Common.{rules, ◌∙◌, ◌≡◌}
use Rattle.pp_processor.specs.declared.pp_state.PpState.TheVariants.{Running}
use Rattle.pp_text.proofs.PrintingLemmas.{prints_on, prints_then}
use Rattle.pp_listing.proofs.TextLemmas.{start_pieces}
use Rattle.pp_listing.proofs.sections.print_start.Goals as goal
use Rattle.pp_listing.proofs.sections.print_start.Goals.{in-Running, in_default}

pub returns-then-matches : goal.returns-then-matches
returns-then-matches g c =
    let runs : c.args.pp.now.state ≡ Running = elim c.match-matches.branch [
      | in-Running w ↦ search rules
      | in_default w ↦ search rules
    ] in
    prints_on _ _ _ _ _ _ _
    (prints_then _ _ _ _ _ _ (prints_then _ _ _ _ _ _ (prints_then _ _ _ _ _ _ c.print.ensures c.print-then-matches.ensures) c.print-then-matches-2.ensures) c.print-then-matches-3.ensures)
    c.print-then-matches-4.ensures
    (start_pieces c.args.pp.now.state c.args.pp.now.p c.args.pp.now.a _ _ _ _ runs c.octal4.ensures c.octal6.ensures (c.get.ensures.value ∙ c.p.ensures) (c.get-then-matches.ensures.value ∙ c.a.ensures))
