-- Where one list of steps has the only ending of a machine, any list of all its endings has one.
use Rattle.std.proofs.Common.{◌≡◌, ℕ, ◌<◌, ◌≤◌, List, [], ◌∷◌, length, subst, inl, inr, arith}
use Rattle.std.specs.Prelude.{slice_index_or}
use Rattle.std.proofs.lemmas.Bool.{cases_lt}
use Rattle.pp_machine.specs.Headline.{IsMachine}
use Rattle.pp_machine.specs.MachineState.{MachineState}
use Rattle.pp_machine.specs.Run.{run}
use Rattle.pp_run.specs.Determinacy.{IsQuiet}
use Rattle.pp_ends.specs.Ending.{StandAlike}
use Rattle.pp_orders.specs.Endings.{AreAllEndings, AreEndings, LeadsTo, after_order}
use Rattle.pp_orders.proofs.AlikeLemmas.{lawful, leads_back, leads_to, reaches}
use Rattle.pp_orders.proofs.EndingsLemmas.{reaches_on}
use Rattle.pp_ends.proofs.RepeatLemmas.{run_lawful}
use Rattle.pp_standings.specs.Standing.{standing}
use Rattle.pp_orders.proofs.LawLemmas.{one_of_them, quiet_end}

module _ (m : MachineState) (whole : IsMachine m) (ns : List ℕ) (only : AreAllEndings m (ns ∷ [])) (quiet : IsQuiet (run ns m)) (orders : List (List ℕ)) where
  -- an ending leads to how that list leaves the machine
  leads_there : AreEndings m orders → (k : ℕ) → k < length orders → LeadsTo (after_order m orders k) (run ns m)
  leads_there are k lt =
      let other = one_of_them m (ns ∷ []) whole only (slice_index_or orders k []) (are.ends k lt) in
      let first : other.0 ≡ 0 = omega (arith, other.1) in
      subst (λ (i : ℕ). LeadsTo (after_order m orders k) (after_order m (ns ∷ []) i)) first other.2

  -- so it leads to each
  leads_from : AreEndings m orders → (k : ℕ) → k < length orders → LeadsTo (run ns m) (after_order m orders k)
  leads_from are k lt =
      leads_back (after_order m orders k) (run ns m) (run_lawful (slice_index_or orders k []) m (lawful m whole)) (run_lawful ns m (lawful m whole)) (are.ends k lt) (leads_there are k lt)

  leads_both : AreEndings m orders → (i k : ℕ) → i < length orders → k < length orders → i ≡ k
  leads_both are i k here there =
      let one = run_lawful (slice_index_or orders i []) m (lawful m whole) in
      let other = run_lawful (slice_index_or orders k []) m (lawful m whole) in
      let between = run_lawful ns m (lawful m whole) in
      are.apart i k here there (leads_to (after_order m orders i) (after_order m orders k) one
      (reaches_on (standing (after_order m orders i)) (standing (run ns m)) (standing (after_order m orders k))
      (reaches (after_order m orders i) (run ns m) one between (leads_there are i here))
      (reaches (run ns m) (after_order m orders k) between other (leads_from are k there))))

  pub at_most_one : AreEndings m orders → length orders ≤ 1
  at_most_one are = elim (cases_lt 1 (length orders)) [
    | inl more ↦ absurd (omega (arith, leads_both are 0 1 (omega (arith, more)) more))
    | inr few ↦ omega (arith, few)
  ]

  pub one_ending : AreAllEndings m orders → (length orders ≡ 1) × StandAlike (run ns m) (after_order m orders 0)
  one_ending all = grind (arith, quiet_end, at_most_one)
