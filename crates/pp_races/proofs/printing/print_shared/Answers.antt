use Rattle.std.proofs.Common.{◌≡◌, ◌++◌, ◌∷◌, [], length, refl, subst, sym, ap, ◌∙◌, arith}
use Rattle.std.specs.Option.{option_to_list}
use Rattle.pp_races.specs.Findings.{sharing_of}
use Rattle.pp_races.specs.Printing.{PrintsFindings}
use Rattle.pp_races.specs.Watch.{each_below}
use Rattle.pp_races.proofs.EndLemmas.{each_more, each_none}
use Rattle.pp_races.proofs.TextLemmas.{findings_none, findings_on}
use Rattle.pp_races.proofs.printing.print_shared.Goals as goal
use Rattle.pp_races.proofs.printing.print_shared.Goals.{in-Some, in_default}

pub loop-place-init : goal.loop-place-init
loop-place-init g c = λ w are.
    subst (PrintsFindings g.W.Write.contents c.args.text.now c.args.text.now c.args.verdict c.args.verdict) (each_none (sharing_of w) []) (findings_none _ _ _)

pub loop-place-preserved : goal.loop-place-preserved
loop-place-preserved g c = λ w are.
    let place = c.loop-place.place in
    let so_far = c.loop-place.invariant w are in
    let before = each_below place (sharing_of w) in
    let found : option_to_list c.sharing.result ≡ sharing_of w place = c.sharing.ensures w (are place c.loop-place-test.true) in
    elim c.match-sharing.branch [
      | in-Some x ↦
          let one : x.in-Some.finding ∷ [] ≡ sharing_of w place = ap option_to_list (sym x.in-Some.is) ∙ found in
          rw (x.text-is, x.after-is)
          (findings_on g.W.Write.contents _ _ _ _ _ _ before _ _ so_far x.print_finding-after.ensures (each_more (sharing_of w) [] before (before ++ x.in-Some.finding ∷ []) place refl (ap (λ more. before ++ more) one)))
      | in_default x ↦
          let none : [] ≡ sharing_of w place = ap option_to_list (sym x.in_default.is) ∙ found in
          rw (x.text-is, x.after-is)
          (findings_on g.W.Write.contents _ _ _ _ _ _ before _ _ so_far (findings_none _ _ _) (each_more (sharing_of w) [] before (before ++ []) place refl (ap (λ more. before ++ more) none)))
    ]

pub returns : goal.returns
returns g c = λ w are.
    let end : c.loop-place.place ≡ length c.args.uses.now = omega arith in
    subst (λ k. PrintsFindings g.W.Write.contents c.args.text.now c.loop-place.text c.args.verdict c.loop-place.after (each_below k (sharing_of w))) end (c.loop-place.invariant w are)
