use Rattle.std.proofs.Common.{◌++◌, ◌∷◌, [], take, subst, sym, ap, ◌∙◌}
use Rattle.std.proofs.lemmas.List.{take_all, take_more}
use Rattle.pp_races.specs.Printing.{PrintsFindings}
use Rattle.pp_races.proofs.TextLemmas.{findings_none, findings_on}
use Rattle.pp_races.proofs.printing.print_findings.Goals as goal

pub loop-finding-init : goal.loop-finding-init
loop-finding-init g c = findings_none _ _ _

pub loop-finding-preserved : goal.loop-finding-preserved
loop-finding-preserved g c =
    findings_on _ _ _ _ _ _ _ _ _ _ c.loop-finding.invariant c.print_finding-after.ensures
    (ap (λ x. take c.loop-finding.finding-index c.args.findings.now ++ x ∷ []) c.finding-item.is
    ∙ sym (take_more c.args.findings.now c.loop-finding.finding-index c.finding-item.result c.loop-finding-test.true))

pub returns : goal.returns
returns g c =
    subst (PrintsFindings g.W.Write.contents c.args.text.now c.loop-finding.text c.args.verdict c.loop-finding.after)
    (take_all c.loop-finding.finding-index c.args.findings.now c.loop-finding-test.false) c.loop-finding.invariant
