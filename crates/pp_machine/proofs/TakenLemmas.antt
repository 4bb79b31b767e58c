-- A step of a machine, put together from what its parts left in the machine's fields.
use Rattle.std.proofs.Common.{◌≡◌, ℕ, ◌-◌, ◌<◌, List, [], ◌∷◌, ◌++◌, length, length-append, take, get_or, slice_set, Option, None, Some, ap, ◌∙◌, arith}
use Rattle.std.proofs.Math.Seq.{take-append_seam}
use Rattle.std.specs.Prelude.{Bool, IsNone, IsSome, IsTrue, ◌↔◌, if◌then◌else◌}
use Rattle.std.proofs.lemmas.List.{get_or_read, set-get_or}
use Rattle.pp_numbers.specs.ChannelNo.{channel_index}
use Rattle.pp_channel.specs.declared.event.Event.{Event}
use Rattle.pp_machine.specs.Headline.{IsMachine}
use Rattle.pp_machine.specs.MachineState.{MachineState, history_of, processor_of}
use Rattle.pp_machine.specs.MachineStep.{answer_to, counted, served, taken, stepped, step_outcome}
use Rattle.pp_processor.specs.NeedAndEffect.{need, processor_after, outcome}
use Rattle.pp_processor.specs.Processor.{Processor}
use Rattle.pp_numbers.specs.PpNo.{processor_index}
use Rattle.pp_processor.specs.declared.{answer.Answer.Answer, need.Need.Need}
use Rattle.pp_processor.specs.declared.answer.Answer.TheVariants.{Local}
use Rattle.pp_processor.specs.declared.outcome.Outcome.TheVariants.{Moved}
use Rattle.pp_processor.specs.declared.pp_state.PpState.TheVariants.{Running}

-- what was read at the place of processor n is that processor
pub own_processor : {before now : MachineState} {i : ℕ} {pp : Processor} (n : ℕ) → before ≡ now → i ≡ processor_index n → i < length before.processors → pp ≡ get_or before.processors i pp → pp ≡ processor_of n now
own_processor {before} {now} {i} {pp} n view place within read = grind (arith, get_or_read)

-- a machine whose processor n took an answer, and which counted a turn
pub taken_by : {before now new : MachineState} {i : ℕ} {pp after : Processor} (n : ℕ) (x : Answer) → before ≡ now → i ≡ processor_index n → pp ≡ processor_of n now → after ≡ processor_after pp x
    → new ≡ record before { processors = slice_set before.processors i after; turns = counted before.turns } → new ≡ taken n x now
taken_by {before} {now} {new} {i} {pp} {after} n x view place own is new_is = grind arith

-- a machine with other processors, as many as it had, is a whole one
pub with_processors : {m : MachineState} (processors : List Processor) → length processors ≡ length m.processors → IsMachine m → IsMachine (record m { processors = processors })
with_processors processors many is = grind arith

-- what needs nothing from outside moves a running processor
pub moved_alone : (pp : Processor) → pp.state ≡ Running → outcome pp Local ≡ Moved
unfolding outcome
moved_alone pp running = grind arith

-- a choice by whether a number names something, where the search for it is known
pub if_found : {X Y : Type 0} (found : X) (b : Bool) (t e : Y) → (IsSome (Some found) ↔ IsTrue b) → (if b then t else e) ≡ t
if_found found b t e h = grind arith

pub if_missing : {X Y : Type 0} (missing : Option X) (b : Bool) (t e : Y) → missing ≡ None → (IsSome missing ↔ IsTrue b) → (if b then t else e) ≡ e
if_missing missing b t e none h = grind arith

-- a machine that got one of its processors back as it was
pub same_machine : {before now : MachineState} {pp after : Processor} (i : ℕ) → before ≡ now → pp ≡ get_or before.processors i pp → after ≡ pp → record before { processors = slice_set before.processors i after } ≡ now
same_machine {before} {now} {pp} {after} i view read same = grind (arith, set-get_or)

-- a step by what it needs
pub stepped_for : (n : ℕ) (x : Need) (m : MachineState) → need (processor_of n m) ≡ x → stepped n m ≡ taken n (answer_to x m) (served n x m)
unfolding stepped
stepped_for n x m needs = ap (λ x. taken n (answer_to x m) (served n x m)) needs

pub outcome_for : (n : ℕ) (x : Need) (m : MachineState) → need (processor_of n m) ≡ x → step_outcome n m ≡ outcome (processor_of n m) (answer_to x m)
unfolding step_outcome
outcome_for n x m needs = ap (λ x. outcome (processor_of n m) (answer_to x m)) needs

-- what was read at the place of channel n is its history
pub own_history : {before now : MachineState} {i : ℕ} {h : List Event} (n : ℕ) → before ≡ now → i ≡ channel_index n → i < length before.histories → h ≡ get_or before.histories i h → h ≡ history_of n now
own_history {before} {now} {i} {h} n view place within read = grind (arith, get_or_read)

-- a list that lost again what was put at its end
pub popped : {X : Type 0} {before pushed after : List X} {n : ℕ} (e : X) → pushed ≡ before ++ e ∷ [] → n ≡ length pushed → after ≡ take (n - 1) pushed → after ≡ before
popped {X} {before} {pushed} {after} {n} e push count pop =
    let left : n - 1 ≡ length before = omega (arith, count, ap length push, length-append before (e ∷ [])) in
    pop ∙ ap (λ l. take (n - 1) l) push ∙ ap (λ k. take k (before ++ e ∷ [])) left ∙ take-append_seam before (e ∷ [])

-- what is there is not missing
pub some_is_made : {X : Type 0} (made : Option X) (event : X) → made ≡ Some event → IsNone made → ⊥
some_is_made made event is none = grind arith
