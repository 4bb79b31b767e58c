-- No run has two endings.
use Rattle.std.proofs.Common.{◌≡◌, ℕ, ◌+◌, ◌-◌, ◌≤◌, refl, sym, ap, ◌∙◌, inl, inr, arith}
use Rattle.std.proofs.lemmas.Bool.{cases_lt}
use Rattle.pp_machine.specs.MachineState.{MachineState}
use Rattle.pp_ends.specs.declared.ending.Ending.{Ending}
use Rattle.pp_ends.specs.declared.ending.Ending.TheVariants as endings
use Rattle.pp_ends.specs.declared.ending.Ending.TheVariants.{AtRest, GoingOn, Stuck}
use Rattle.pp_ends.specs.Ending.{FirstRepeats, EndsWith, IsStillFrom}

no_sooner : (t u turns : ℕ) (m : MachineState) → IsStillFrom t turns m → IsStillFrom u turns m → u ≤ t
no_sooner t u turns m s other = elim (cases_lt t u) [
  | inr no_less ↦ no_less
  | inl less ↦ absurd (other.first (u - 1) (omega (arith, less))
      (s.waits (u - 1) (omega (arith, less)) (omega (arith, less, other.within))))
]

one_turn : (t u turns : ℕ) (m : MachineState) → IsStillFrom t turns m → IsStillFrom u turns m → t ≡ u
one_turn t u turns m s other = omega (arith, no_sooner t u turns m s other, no_sooner u t turns m other s)

one_repetition : (t n u k turns : ℕ) (m : MachineState) → FirstRepeats t n turns m → FirstRepeats u k turns m
    → (t ≡ u) × (n ≡ k)
one_repetition t n u k turns m one other =
    let sums : t + n ≡ u + k = omega (arith, one.least u k other.repeats, other.least t n one.repeats) in
    let starts : t ≡ u = omega (arith, one.with_it u k other.repeats (sym sums), other.with_it t n one.repeats sums) in
    (starts, omega (arith, sums, starts))

pub one_ending : (one other : Ending) (turns : ℕ) (m : MachineState) → EndsWith one turns m → EndsWith other turns m → one ≡ other
one_ending (AtRest t) (AtRest u) turns m a b = ap (λ (k : ℕ). AtRest k) (one_turn t u turns m a.ends.still b.ends.still)
one_ending (Stuck t) (Stuck u) turns m a b = ap (λ (k : ℕ). Stuck k) (one_turn t u turns m a.ends.still b.ends.still)
one_ending (endings.Repeats t n) (endings.Repeats u k) turns m a b =
    let same = one_repetition t n u k turns m a.1 b.1 in
    ap (λ (i : ℕ). endings.Repeats i n) same.0 ∙ ap (λ (i : ℕ). endings.Repeats u i) same.1
one_ending GoingOn GoingOn turns m a b = refl
one_ending (AtRest t) (Stuck u) turns m a b = absurd (a.at_rest b.running.0 b.running.1)
one_ending (Stuck t) (AtRest u) turns m a b = absurd (b.at_rest a.running.0 a.running.1)
one_ending (AtRest t) (endings.Repeats u k) turns m a b = absurd (b.0 a.ends.quiet)
one_ending (AtRest t) GoingOn turns m a b = absurd (b.moves a.ends.quiet)
one_ending (Stuck t) (endings.Repeats u k) turns m a b = absurd (b.0 a.ends.quiet)
one_ending (Stuck t) GoingOn turns m a b = absurd (b.moves a.ends.quiet)
one_ending (endings.Repeats t n) (AtRest u) turns m a b = absurd (a.0 b.ends.quiet)
one_ending (endings.Repeats t n) (Stuck u) turns m a b = absurd (a.0 b.ends.quiet)
one_ending (endings.Repeats t n) GoingOn turns m a b = absurd (b.goes_on t n a.1.within a.1.repeats)
one_ending GoingOn (AtRest u) turns m a b = absurd (a.moves b.ends.quiet)
one_ending GoingOn (Stuck u) turns m a b = absurd (a.moves b.ends.quiet)
one_ending GoingOn (endings.Repeats u k) turns m a b = absurd (a.goes_on u k b.1.within b.1.repeats)
