use Rattle.std.proofs.Common.{◌≡◌, ℕ, subst, ap, ◌∙◌, ◌++◌, refl, arith}
use Rattle.std.proofs.lemmas.Bool.{cases_lt}
use Rattle.pp_machine.specs.MachineState.{processor_of}
use Rattle.pp_processor.specs.NeedAndEffect.{need}
use Rattle.pp_numbers.specs.PpNo.{processor_count, processor_index, processor_number, processor_places}
use Rattle.pp_races.specs.Findings.{end_of}
use Rattle.pp_races.specs.Soundness.{TurnTestIsExact}
use Rattle.pp_races.specs.Watch.{each_below}
use Rattle.pp_races.specs.WatchTables.{finds}
use Rattle.pp_races.proofs.EndLemmas.{each_more, each_none, end_apart, found_as}
use Rattle.pp_races.proofs.watch_tables.WatchTables.find_unsettled.Goals as goal

pub loop-place-init : goal.loop-place-init
loop-place-init g c = grind (arith, found_as, each_none)

pub loop-place-preserved : goal.loop-place-preserved
loop-place-preserved g c = record {
  found = λ size w are.
      let m = c.args.machine.now in
      let of = λ (k : ℕ). end_of m w (processor_number k) in
      let so_far = each_below c.loop-place.place of in
      found_as _ _ _ _ _ size _ _
      (each_more of w.findings (w.findings ++ so_far) _ c.loop-place.place refl
      (ap (λ x. (w.findings ++ so_far) ++ x) (end_apart (need (processor_of c.at.result m)) c.at.result m w so_far ∙ ap (λ k. end_of m w k) c.at.ensures.number)))
      (c.in_ok-find_end.ensures.found size (finds so_far w) (c.loop-place.invariant.found size w are));
  turns = grind (arith, cases_lt);
}

pub returns-clause-found : goal.returns-clause-found
returns-clause-found g c = λ size w are.
    let end : c.loop-place.place ≡ processor_count = omega arith in
    rw end at (c.loop-place.invariant.found size w are)

pub returns-clause-turns : goal.returns-clause-turns
returns-clause-turns g c = λ q named.
    subst (λ (k : ℕ). TurnTestIsExact c.args.machine.now k) (processor_places.number_of_place q named)
    (c.loop-place.invariant.turns (processor_index q) (omega (arith, processor_places.place_below q named)))
