-- The turns of a trace rise along every run.
use Rattle.std.proofs.Common.{All, ◌≡◌, ◌∙◌, ℕ, ◌+◌, ◌-◌, ◌^◌, ◌<◌, ◌≤◌, List, [], ◌∷◌, ◌++◌, length, map, min, get_or, Option, Some, None, sym, subst, arith, Bool}
use Rattle.std.specs.Prelude.{option_to_list}
use Rattle.std.specs.List.Sorted.{IsStrictlyIncreasing}
use Rattle.std.proofs.lemmas.Bool.{cases_lt}
use Rattle.std.proofs.lemmas.List.{append-nil, get_or-map, get_or_append_left, get_or_push, length-map, length_push, map-append}
use Rattle.pp_channel.specs.Answer.{event_of}
use Rattle.pp_channel.specs.declared.event.Event.{Event}
use Rattle.pp_machine.specs.Headline.{HoldsOnEachChannel}
use Rattle.pp_machine.specs.MachineState.{MachineState, history_of, processor_of}
use Rattle.pp_machine.specs.MachineStep.{stepped, trace_after}
use Rattle.pp_processor.specs.NeedAndEffect.{need}
use Rattle.pp_machine.specs.Run.{run}
use Rattle.pp_processor.specs.declared.{need.Need.Need}
use Rattle.pp_machine.specs.declared.{trace.Trace.Trace}
use Rattle.pp_processor.specs.declared.need.Need.TheVariants.{Channel}
use Rattle.pp_text.specs.TextLaw.{FitsItsText}
use Rattle.pp_laws.specs.PrintedTrace.{IsPrintable}
use Rattle.pp_check.proofs.FaultLemmas.{increasing_push}

abbrev turns_in : List Trace → List ℕ
turns_in trace = map (λ e. e.turn) trace

-- turns that rise, and are all below the next
pub record Rise (next : ℕ) (ts : List ℕ) : Type 0 where
  pub rising : IsStrictlyIncreasing ts
  pub below : (k : ℕ) → k < length ts → get_or ts k 0 < next

rise_later : (next : ℕ) (ts : List ℕ) → Rise next ts → Rise (next + 1) ts
rise_later next ts rise = record { rising = rise.rising; below = λ k within. let less = rise.below k within in omega (arith, less) }

rise_push : (next : ℕ) (ts : List ℕ) → Rise next ts → Rise (next + 1) (ts ++ next ∷ [])
rise_push next ts rise = grind (arith, increasing_push, cases_lt, get_or_append_left, get_or_push, length_push)

rise_by_event : (n c : ℕ) (m : MachineState) (o : Option Event) → Rise m.turns (turns_in m.trace) → Rise (m.turns + 1) (turns_in (m.trace ++ map (λ e. record { turn = m.turns; pp = n; channel = c; event = e }) (option_to_list o)))
rise_by_event n c m None rise = subst (λ (trace : List Trace). Rise (m.turns + 1) (turns_in trace)) (sym (append-nil m.trace)) (rise_later m.turns (turns_in m.trace) rise)
rise_by_event n c m (Some e) rise = subst (Rise (m.turns + 1)) (sym (map-append (λ e. e.turn) m.trace (record { turn = m.turns; pp = n; channel = c; event = e } ∷ []))) (rise_push m.turns (turns_in m.trace) rise)

rise_by_need : (n : ℕ) (x : Need) (m : MachineState) → Rise m.turns (turns_in m.trace) → Rise (m.turns + 1) (turns_in (trace_after n x m))
rise_by_need n (Channel c op) m rise = rise_by_event n c m (event_of op (history_of c m)) rise
rise_by_need n x m rise = rise_later m.turns (turns_in m.trace) rise

-- a step counts a turn
pub count_step : (n : ℕ) (m : MachineState) → m.turns + 1 < 2 ^ 64 → (stepped n m).turns ≡ m.turns + 1
unfolding stepped
count_step n m few = least m.turns few
  where
    least : (t : ℕ) → t + 1 < 2 ^ 64 → min (t + 1) (2 ^ 64 - 1) ≡ t + 1
    least t few = omega (arith, few)

step_rises : (n : ℕ) (m : MachineState) → m.turns + 1 < 2 ^ 64 → Rise m.turns (turns_in m.trace) → ((stepped n m).turns ≡ m.turns + 1) × Rise (m.turns + 1) (turns_in (stepped n m).trace)
unfolding stepped
step_rises n m few rise = (count_step n m few, rise_by_need n (need (processor_of n m)) m rise)

pub run_rises : (ns : List ℕ) (m : MachineState) → m.turns + length ns < 2 ^ 64 → Rise m.turns (turns_in m.trace) → ((run ns m).turns ≡ m.turns + length ns) × Rise (m.turns + length ns) (turns_in (run ns m).trace)
run_rises [] m few rise = (omega arith, subst (λ (n : ℕ). Rise n (turns_in m.trace)) (omega arith) rise)
run_rises (n ∷ ns) m few rise =
    let step = step_rises n m (omega (arith, few)) rise in
    let more = run_rises ns (stepped n m) (omega (arith, few, step.0)) (subst (λ (t : ℕ). Rise t (turns_in (stepped n m).trace)) (sym step.0) step.1) in
    (more.0 ∙ omega (arith, step.0), subst (λ (t : ℕ). Rise t (turns_in (run ns (stepped n m)).trace)) (omega (arith, step.0)) more.1)

-- so each is below the number of steps
pub run_below : (limit next : ℕ) (trace : List Trace) → Rise next (turns_in trace) → next ≤ limit → All (λ e. e.turn < limit) trace
run_below limit next trace rise few = λ k d within.
    let turn = get_or-map (λ (e : Trace). e.turn) trace k d 0 within in
    let less = rise.below k (omega (arith, within, length-map trace (λ (e : Trace). e.turn))) in
    omega (arith, turn, less, few)

-- a machine that has counted no turn and made no event can be printed after every run
pub run_printable : (named : List Bool) (ns : List ℕ) (m : MachineState) → m.turns ≡ 0 → m.trace ≡ [] → length ns < 10 ^ 19 → HoldsOnEachChannel (run ns m) → FitsItsText named (run ns m) → IsPrintable named (run ns m)
run_printable named ns m no_turn no_event few headline fits =
    let start : Rise m.turns (turns_in m.trace) = subst (λ (t : ℕ). Rise t (turns_in m.trace)) (sym no_turn) (subst (λ (trace : List Trace). Rise 0 (turns_in trace)) (sym no_event) (record { rising = λ k within. absurd (omega (arith, within)); below = λ k within. absurd (omega (arith, within)) })) in
    let rise = run_rises ns m (omega (arith, few, no_turn)) start in
    record {
      headline = headline;
      fits = fits;
      rising = rise.1.rising;
      few_turns = run_below (10 ^ 19) (m.turns + length ns) (run ns m).trace rise.1 (omega (arith, few, no_turn));
    }
