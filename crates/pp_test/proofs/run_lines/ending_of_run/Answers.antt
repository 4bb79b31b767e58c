use Rattle.std.proofs.Common.{◌≡◌, ℕ, ◌-◌, ◌<◌, ◌≤◌, List, length, take, inl, inr, Result, Ok, Err, ap, subst, sym, ◌∙◌, arith, refl}
use Rattle.std.specs.Prelude.{◌⊎◌, IfOk, min}
use Rattle.std.proofs.lemmas.Bool.{cases_lt}
use Rattle.std.proofs.lemmas.List.{take_all}
use Rattle.pp_machine.specs.MachineState.{MachineState}
use Rattle.pp_machine.specs.Run.{run}
use Rattle.pp_ends.specs.Ending.{EndsWith}
use Rattle.pp_ends.specs.declared.ending.Ending.{Ending}
use Rattle.pp_test.specs.RunLines.{EndsAfter}
use Rattle.pp_test.proofs.run_lines.ending_of_run.Goals as goal

ok_gives : {X E : Type 0} {P Q : X → Type 0} (r : Result X E) → IfOk r P → ((x : X) → P x → Q x) → IfOk r Q
ok_gives (Ok x) holds gives = gives x holds
ok_gives (Err e) holds gives = tt

least_by : (xs : List ℕ) (n count : ℕ) → count ≡ min (length xs) n → (length xs < n) ⊎ (n ≤ length xs) → take count xs ≡ take n xs
least_by xs n count is (inl short) =
    ap (λ k. take k xs) (omega (arith, is, short)) ∙ take_all (length xs) xs (omega arith) ∙ sym (take_all n xs (omega (arith, short)))
least_by xs n count is (inr long) = ap (λ k. take k xs) (omega (arith, is, long))

ends_so : (first : List ℕ) (turns count rest : ℕ) (m after : MachineState) (ending : Ending) → count ≡ min (length first) turns → rest ≡ turns - count
    → after ≡ run (take count first) m → EndsWith ending rest after → EndsAfter first turns m ending
ends_so first turns count rest m after ending least is ran ends =
    let left : rest ≡ turns - length first = omega (arith, least, is) in
    let stands : after ≡ run (take turns first) m = ran ∙ ap (λ ns. run ns m) (least_by first turns count least (cases_lt (length first) turns)) in
    subst (λ k. EndsWith ending k (run (take turns first) m)) left (subst (EndsWith ending rest) stands ends)

pub returns : goal.returns
returns g c = ok_gives c.find_ending.result c.find_ending.ensures
    (λ ending ends deck meant. ends_so c.args.first.now c.args.turns c.min-count.result _ deck.machine _ ending c.min-count.ensures refl (c.in_ok-deck.ensures deck meant) ends)
