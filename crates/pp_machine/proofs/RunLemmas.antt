-- A run with one more step; a step keeps what holds of every channel, and so does a list of steps;
-- what a refused step says.
use Rattle.std.proofs.Common.{◌≡◌, ℕ, zero, suc, ◌+◌, ◌<◌, List, [], ◌∷◌, ◌++◌, take, length, get_or, refl, ap, ◌∙◌, arith, get_or-set_same, ◌≢◌, ◌≤◌, Bool, true, false, IsTrue, map, append-nil, slice_set, sym, subst}
use Rattle.std.proofs.lemmas.List.{take_more, length_push, set-get_or, length-set, set_past}
use Rattle.pp_machine.specs.MachineState.{MachineState, processor_of, history_of}
use Rattle.pp_machine.specs.MachineStep.{stepped, answer_to, served, taken}
use Rattle.pp_numbers.specs.Profile.{processor_in_turn}
use Rattle.pp_machine.specs.Run.{run, barrel}
use Rattle.pp_numbers.specs.declared.profile.Profile.{Profile}
use Rattle.std.specs.Prelude.{Option, Some, None, Result, IsNone, IsSome, IsOk, IsErr, OnOk}
use Rattle.std.specs.Option.{option_to_list}
use Rattle.std.specs.Result.{is_err}
use Rattle.std.proofs.lemmas.Bool.{ne_eqb}
use Rattle.std.proofs.lemmas.List.Elements.{filter_map-append}
use Rattle.pp_channel.specs.Answer.{event_of}
use Rattle.pp_numbers.specs.ChannelNo.{channel_count, channel_index, names_channel, channel_places}
use Rattle.pp_channel.specs.History.{IsLawful}
use Rattle.pp_channel.specs.declared.{chan_op.ChanOp.ChanOp, event.Event.Event}
use Rattle.pp_channel.proofs.AnswerLemmas.{lawful_with_event}
use Rattle.pp_channel.proofs.LawLemmas.{law_of_lawful}
use Rattle.pp_machine.specs.Headline.{HoldsOnChannel, HoldsOnEachChannel, events_on, opening_history}
use Rattle.pp_processor.specs.NeedAndEffect.{need}
use Rattle.pp_processor.specs.declared.{need.Need.Need}
use Rattle.pp_machine.specs.declared.{trace.Trace.Trace}
use Rattle.pp_processor.specs.declared.need.Need.TheVariants.{Nothing, Local, Channel, Read, Write}
use Rattle.pp_machine.proofs.HeadlineLemmas.{headline_after_event}

-- over one step at the end of a list
pub run-append : (ns : List ℕ) (n : ℕ) (m : MachineState)
    → run (ns ++ n ∷ []) m ≡ stepped n (run ns m)
run-append [] n m = refl
run-append (x ∷ ns) n m = run-append ns n (stepped x m)

-- over one more entry of a list
pub run_more : (ns : List ℕ) (i : ℕ) (m : MachineState) → i < length ns
    → run (take (i + 1) ns) m ≡ stepped (get_or ns i 0) (run (take i ns) m)
run_more ns i m h =
    ap (λ ks. run ks m) (take_more ns i 0 h) ∙ run-append (take i ns) (get_or ns i 0) m

-- over two lists
pub run-both : (ns ks : List ℕ) (m : MachineState) → run (ns ++ ks) m ≡ run ks (run ns m)
run-both [] ks m = refl
run-both (n ∷ ns) ks m = run-both ns ks (stepped n m)

-- over one more turn of the barrel
pub barrel_more : (p : Profile) (n : ℕ) (m : MachineState)
    → run (barrel p (n + 1)) m ≡ stepped (processor_in_turn p n) (run (barrel p n) m)
barrel_more p n m = grind (arith, run-append)

-- a machine keeps its profile
pub run_profile : (ns : List ℕ) (m : MachineState) → (run ns m).profile ≡ m.profile
unfolding stepped
run_profile [] m = refl
run_profile (n ∷ ns) m = grind (arith, run_profile ns (stepped n m))

-- as many processors as turns
pub length-barrel : (p : Profile) (turns : ℕ) → length (barrel p turns) ≡ turns
length-barrel p zero = refl
length-barrel p (suc turns) = grind (arith, length_push, length-barrel p turns)

abbrev entry_of : ℕ → ℕ → MachineState → Event → Trace
entry_of n c m e = record { turn = m.turns; pp = n; channel = c; event = e }

-- what a step on channel c leaves, where it makes this event or none
abbrev Leaves : ℕ → ℕ → MachineState → Option Event → Type 0
Leaves n c m o = (d : ℕ) → IsTrue (names_channel d)
    → HoldsOnChannel (opening_history d m) (events_on d (m.trace ++ map (entry_of n c m) (option_to_list o)))
    (get_or (slice_set m.histories (channel_index c) (history_of c m ++ option_to_list o)) (channel_index d) [])

elsewhere : (d : ℕ) (trace : List Trace) (entry : Trace) → entry.channel ≢ d → events_on d (trace ++ entry ∷ []) ≡ events_on d trace
elsewhere d trace entry apart = grind (arith, ne_eqb, filter_map-append, append-nil)

-- a number that names no channel
unnamed : (n c : ℕ) (m : MachineState) (e : Event) → length m.histories ≡ channel_count → (IsTrue (names_channel c) → ⊥) → HoldsOnEachChannel m → Leaves n c m (Some e)
unnamed n c m e each none h d names =
    let past : channel_count ≤ channel_index c = channel_places.place_past c none in
    let apart : c ≢ d = λ is. none (subst (λ (x : ℕ). IsTrue (names_channel x)) (sym is) names) in
    let same : slice_set m.histories (channel_index c) (history_of c m ++ e ∷ []) ≡ m.histories = set_past m.histories (channel_index c) (history_of c m ++ e ∷ []) (omega (arith, each, past)) in
    subst (λ (hs : List (List Event)). HoldsOnChannel (opening_history d m) (events_on d (m.trace ++ entry_of n c m e ∷ [])) (get_or hs (channel_index d) [])) (sym same)
    (subst (λ (es : List Event). HoldsOnChannel (opening_history d m) es (history_of d m)) (sym (elsewhere d m.trace (entry_of n c m e) apart)) (h d names))

on_channel : (n c : ℕ) (op : ChanOp) (m : MachineState) (e : Event) → length m.histories ≡ channel_count → (b : Bool) → names_channel c ≡ b → event_of op (history_of c m) ≡ Some e → HoldsOnEachChannel m → Leaves n c m (Some e)
on_channel n c op m e each true is made h =
    let within : channel_index c < length m.histories = omega (arith, each, channel_places.place_below c is) in
    let lawful : IsLawful (history_of c m ++ e ∷ []) = lawful_with_event (history_of c m) op e (h c is).lawful made in
    let after = slice_set m.histories (channel_index c) (history_of c m ++ e ∷ []) in
    let here : get_or after (channel_index c) [] ≡ history_of c m ++ e ∷ [] = get_or-set_same m.histories (channel_index c) (history_of c m ++ e ∷ []) [] within in
    let lawful_here : IsLawful (get_or after (channel_index c) []) = subst IsLawful (sym here) lawful in
    headline_after_event (λ d. opening_history d m) m.histories after m.trace (entry_of n c m e) refl within is (λ d names same. channel_places.one_place c d is same) h
    lawful_here (law_of_lawful (get_or after (channel_index c) []) lawful_here)
on_channel n c op m e each false is made h = unnamed n c m e each (λ named. let never : true ≡ false = sym named ∙ is in absurd (cc)) h

by_event : (n c : ℕ) (op : ChanOp) (m : MachineState) (o : Option Event) → length m.histories ≡ channel_count → event_of op (history_of c m) ≡ o → HoldsOnEachChannel m → Leaves n c m o
by_event n c op m None each made h = grind (arith, append-nil, set-get_or)
by_event n c op m (Some e) each made h = on_channel n c op m e each (names_channel c) refl made h

served_keeps : (n : ℕ) (x : Need) (m : MachineState) → length m.histories ≡ channel_count → HoldsOnEachChannel m → HoldsOnEachChannel (taken n (answer_to x m) (served n x m))
served_keeps n Nothing m each h = h
served_keeps n Local m each h = h
served_keeps n (Read a) m each h = h
served_keeps n (Write a w) m each h = h
served_keeps n (Channel c op) m each h = by_event n c op m (event_of op (history_of c m)) each refl h

step_keeps : (n : ℕ) (m : MachineState) → length m.histories ≡ channel_count → HoldsOnEachChannel m → HoldsOnEachChannel (stepped n m)
unfolding stepped
step_keeps n m each h = served_keeps n (need (processor_of n m)) m each h

step_each : (n : ℕ) (m : MachineState) → length m.histories ≡ channel_count → length (stepped n m).histories ≡ channel_count
unfolding stepped
step_each n m each = grind (arith, length-set)

pub run_keeps : (ns : List ℕ) (m : MachineState) → length m.histories ≡ channel_count → HoldsOnEachChannel m → HoldsOnEachChannel (run ns m)
run_keeps [] m each h = h
run_keeps (n ∷ ns) m each h = run_keeps ns (stepped n m) (step_each n m each) (step_keeps n m each h)

-- what is true of an answer that is no refusal
pub if_made : {X Y : Type 0} {P : Type 0} (answer : Result X Y) → is_err answer ≡ false → OnOk answer P → P
if_made answer made p = grind arith

-- a step that was refused makes an event, where one that makes none is not refused
pub some_event : {E X Y : Type 0} (event : Option E) (answer : Result X Y) → IsErr answer → (IsNone event → IsOk answer) → IsSome event
some_event event answer refused none = grind (arith)
