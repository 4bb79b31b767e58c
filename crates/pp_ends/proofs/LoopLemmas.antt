-- Loops, with one more turn.
use Rattle.std.proofs.Common.{◌≡◌, ◌≢◌, ℕ, ◌+◌, ◌≤◌, Bool, true, false, List, length, get_or-set_same, get_or-set_other, refl, sym, ◌∙◌, subst, inl, inr, arith}
use Rattle.std.specs.Prelude.{IsTrue, Option, Some, None}
use Rattle.std.proofs.lemmas.Bool.{cases_eq, cases_lt}
use Rattle.std.proofs.lemmas.List.{length-set}
use Rattle.pp_machine.specs.MachineState.{MachineState}
use Rattle.pp_numbers.specs.PpNo.{names_processor, processor_count, processor_index, processor_places}
use Rattle.pp_numbers.specs.Profile.{processor_in_turn}
use Rattle.pp_run.specs.Determinacy.{Waits}
use Rattle.pp_ends.specs.Ending.{TellsMove, after_turns}
use Rattle.pp_ends.specs.Loops.{IsLoop, MovesIn, TellLoops, TellsLoop, loop_of, noted, place_at, widened}
use Rattle.pp_ends.specs.declared.loops.Loop.{Loop}

later : (n from to turn : ℕ) (m : MachineState) → MovesIn n from to turn m → MovesIn n from (to + 1) turn m
later n from to turn m i = grind arith

earlier : (n from to turn : ℕ) (m : MachineState) → MovesIn n from (to + 1) turn m → turn ≢ to → MovesIn n from to turn m
earlier n from to turn m i apart = grind arith

-- a turn in which the processor doesn't move
stays_more : (found : Option Loop) (n from to : ℕ) (m : MachineState) → ¬ MovesIn n from (to + 1) to m
    → TellsLoop found n from to m → TellsLoop found n from (to + 1) m
stays_more found n from to m rests h2 = grind (arith, cases_eq, earlier, later)

-- a turn in which it moves
moves_more : (found : Option Loop) (n from to : ℕ) (m : MachineState) → MovesIn n from (to + 1) to m
    → TellsLoop found n from to m → IsLoop (widened found (place_at n to m)) n from (to + 1) m
moves_more None n from to m moving none = grind (arith, cases_eq, earlier)
moves_more (Some loop) n from to m moving is = record {
  lowest = elim (cases_lt (place_at n to m) loop.first) [
    | inl below ↦ (to, moving, omega (arith, below))
    | inr above ↦ grind (arith, later)
  ];
  highest = elim (cases_lt loop.last (place_at n to m)) [
    | inl above ↦ (to, moving, omega (arith, above))
    | inr below ↦ grind (arith, later)
  ];
  least = grind (arith, cases_eq, earlier);
  most = grind (arith, cases_eq, earlier);
}

-- the step of a turn, noted
pub loops_more : (loops : List (Option Loop)) (from to n p : ℕ) (m : MachineState) (moved : Bool)
    → length loops ≡ processor_count → from ≤ to → n ≡ processor_in_turn m.profile to
    → IsTrue (names_processor n) → p ≡ place_at n to m
    → TellsMove moved n (after_turns to m) → TellLoops loops from to m
    → TellLoops (noted loops n p moved) from (to + 1) m
loops_more loops from to n p m false places on own names at tells told = grind (arith, stays_more)
loops_more loops from to n p m true places on own names at tells told = λ k named.
    elim (cases_eq k n) [
      | inl same ↦
          let moving : MovesIn n from (to + 1) to m = record {
            from_on = on;
            before = omega arith;
            own = sym own;
            moves = λ waits. tells.moves refl (subst (λ (q : ℕ). Waits q (after_turns to m)) (sym own) waits);
          } in
          let wide : IsLoop (widened (loop_of loops n) p) n from (to + 1) m =
          subst (λ (q : ℕ). IsLoop (widened (loop_of loops n) q) n from (to + 1) m) (sym at)
          (moves_more (loop_of loops n) n from to m moving (told n names)) in
          subst (λ (q : ℕ). TellsLoop (loop_of (noted loops n p true) q) q from (to + 1) m) (sym same)
          (subst (λ (found : Option Loop). TellsLoop found n from (to + 1) m)
          (sym (get_or-set_same loops (processor_index n) (Some (widened (loop_of loops n) p)) None (let low = processor_places.place_below n names in omega (arith, places, low)))) wide)
      | inr apart ↦
          let other : processor_index k ≢ processor_index n = λ same. apart (processor_places.one_place n k names same) in
          subst (λ (found : Option Loop). TellsLoop found k from (to + 1) m)
          (sym (get_or-set_other loops (processor_index n) (processor_index k) (Some (widened (loop_of loops n) p)) None other))
          (stays_more (loop_of loops k) k from to m (λ i. apart (sym i.own ∙ sym own)) (told k named))
    ]

pub noted_places : (loops : List (Option Loop)) (n p : ℕ) (moved : Bool) → length (noted loops n p moved) ≡ length loops
noted_places loops n p moved = grind (arith, length-set)
