-- Dead start, one processor more at a time.
use Rattle.std.proofs.Common.{◌≡◌, ◌≢◌, ℕ, ◌+◌, ◌<◌, Bool, true, false, IsTrue, List, [], ◌∷◌, ◌++◌, length, map, take, set, get_or, refl, sym, ap, subst, ◌∙◌, ⊎_elim, arith, get_or-set_same, get_or-set_other}
use mathlib.Core.Logic.{dite}
use native.Mathlib.Decide.{ℕ_discrete}
use Rattle.std.specs.Prelude.{if◌then◌else◌}
use Rattle.std.specs.List.{range_with_len}
use Rattle.std.proofs.lemmas.Bool.{cases_Bool, cases_lt}
use Rattle.std.proofs.lemmas.List.{append-nil, length-append, nil_from_length, get_or-take, get_or_past, length-set, length-take}
use Rattle.std.proofs.lemmas.List.FromFn.{length-map-range_with_len, get_or-map-range_with_len, fill_by_all}
use Rattle.pp_numbers.specs.ChannelNo.{channel_places, channel_count, channel_index, channel_number, names_channel}
use Rattle.pp_channel.specs.History.{IsLawful}
use Rattle.pp_channel.specs.Law.{KeepsLaw}
use Rattle.pp_channel.specs.declared.event.Event.{Event}
use Rattle.pp_channel.specs.declared.event.Event.TheVariants.{Activate}
use Rattle.pp_machine.specs.DeadStart.{IsBeforeFirstTurn, waits, processor_started, history_started, processors_started, histories_started, opened_where, started, dead_started, with_waiting}
use Rattle.pp_machine.specs.Headline.{HoldsOnChannel, HoldsOnEachChannel, events_on, opening_history, IsMachine}
use Rattle.pp_machine.specs.MachineState.{MachineState, processor_of, history_of, is_opened}
use Rattle.pp_processor.specs.Processor.{Processor, no_processor, waiting_on}
use Rattle.pp_numbers.specs.PpNo.{processor_places, names_processor, processor_count, processor_index, processor_number}
use Rattle.pp_numbers.proofs.PpNoLemmas.{channel_of_processor}

-- nobody waits at first
none_waits : (c : ℕ) → waits [] c ≡ false
none_waits c = ⊎_elim (λ (t : names_processor c ≡ true). rw t refl) (λ (t : names_processor c ≡ false). rw t refl) (cases_Bool (names_processor c))

-- of the next processor it counts whether it waits
waits_next : (place : ℕ) (bs : List Bool) → place < processor_count → waits (take (place + 1) bs) (processor_number place) ≡ get_or bs place false
waits_next place bs below = grind (arith, processor_places.place_of_number, processor_places.number_named, get_or-take)

waits_not_yet : (place : ℕ) (bs : List Bool) → place < processor_count → waits (take place bs) (processor_number place) ≡ false
waits_not_yet place bs below = grind (arith, length-take, processor_places.place_of_number, processor_places.number_named, get_or_past)

-- of every other processor it is known already
waits_other : (place : ℕ) (bs : List Bool) (c : ℕ) → place < processor_count → c ≢ processor_number place → waits (take (place + 1) bs) c ≡ waits (take place bs) c
waits_other place bs c below other = grind (arith, processor_places.number_of_place, cases_Bool, get_or-take, length-take, get_or_past, cases_lt)

-- no channel was opened before the first turn
pub not_opened : (m : MachineState) (c : ℕ) → IsBeforeFirstTurn m → HoldsOnEachChannel m → IsTrue (names_channel c) → is_opened c m ≡ false
not_opened m c before headline named = grind (arith, cases_Bool)

-- where nobody waits nothing changes
pub none_started : (m : MachineState) → IsBeforeFirstTurn m → IsMachine m → dead_started [] m ≡ m
unfolding processors_started histories_started opened_where
none_started m before is =
    let none : (λ (c : ℕ). waits [] c) ≡ (λ c. false) = λ i c. none_waits c i in
    let processors : m.processors ≡ map (λ place. processor_of (processor_number place) m) (range_with_len 0 processor_count) =
    fill_by_all (λ place. processor_of (processor_number place) m) m.processors processor_count no_processor is.processors (λ k l. ap (λ i. get_or m.processors i no_processor) (sym (processor_places.place_of_number k l))) in
    let histories : m.histories ≡ map (λ place. history_of (channel_number place) m) (range_with_len 0 channel_count) =
    fill_by_all (λ place. history_of (channel_number place) m) m.histories channel_count [] is.channels (λ k l. ap (λ i. get_or m.histories i []) (sym (channel_places.place_of_number k l))) in
    let opened : m.opened ≡ map (λ place. false) (range_with_len 0 channel_count) =
    fill_by_all (λ place. false) m.opened channel_count false is.opened (λ k l.
    ap (λ i. get_or m.opened i false) (sym (channel_places.place_of_number k l)) ∙ not_opened m (channel_number k) before is.headline (channel_places.number_named k l)) in
    ap (λ p. started p m) none ∙ (λ i. record m { processors = sym processors i; histories = sym histories i; opened = sym opened i })

-- a list made by places, with one place changed
set_by_places : {X : Type 0} (f g : ℕ → X) (n place : ℕ) (v d : X) → place < n → v ≡ g place → ((k : ℕ) → k < n → k ≢ place → f k ≡ g k) → set (map f (range_with_len 0 n)) place v ≡ map g (range_with_len 0 n)
set_by_places f g n place v d below is others =
    let xs = map f (range_with_len 0 n) in
    let long : length xs ≡ n = length-map-range_with_len f 0 n in
    fill_by_all g (set xs place v) n d (length-set xs place v ∙ long) (λ k l.
    dite (ℕ_discrete k place)
    (λ (same : k ≡ place). ap (λ i. get_or (set xs place v) i d) same ∙ (get_or-set_same xs place v d (omega (arith, long, below)) ∙ (is ∙ sym (ap g same))))
    (λ (other : k ≢ place). get_or-set_other xs place k v d other ∙ (get_or-map-range_with_len f 0 n k k d l (omega arith) ∙ others k l other)))

-- One processor more waits.
started_more : (p q : ℕ → Bool) (m : MachineState) (n : ℕ) → IsTrue (names_processor n) → p n ≡ false → q n ≡ true → ((c : ℕ) → c ≢ n → p c ≡ q c) → with_waiting n (started p m) ≡ started q m
unfolding processors_started histories_started opened_where
started_more p q m n named not_yet now same =
    let i = processor_index n in
    let j = channel_index n in
    let channel = channel_of_processor n named in
    let f : ℕ → Processor = λ place. processor_started p m (processor_number place) in
    let f' : ℕ → Processor = λ place. processor_started q m (processor_number place) in
    let old : processor_of n (started p m) ≡ processor_of n m =
    get_or-map-range_with_len f 0 processor_count i i no_processor (processor_places.place_below n named) (omega arith)
    ∙ (ap (processor_started p m) (processor_places.number_of_place n named) ∙ ap (λ b. if b then waiting_on n (processor_of n m) else processor_of n m) not_yet) in
    let new : waiting_on n (processor_of n m) ≡ f' i =
    sym (ap (processor_started q m) (processor_places.number_of_place n named) ∙ ap (λ b. if b then waiting_on n (processor_of n m) else processor_of n m) now) in
    let processors : set (map f (range_with_len 0 processor_count)) i (waiting_on n (processor_of n (started p m))) ≡ map f' (range_with_len 0 processor_count) =
    set_by_places f f' processor_count i (waiting_on n (processor_of n (started p m))) no_processor (processor_places.place_below n named) (ap (waiting_on n) old ∙ new)
    (λ k l other. let apart : processor_number k ≢ n = λ is. other (sym (processor_places.place_of_number k l) ∙ ap processor_index is) in
    ap (λ b. if b then waiting_on (processor_number k) (processor_of (processor_number k) m) else processor_of (processor_number k) m) (same (processor_number k) apart)) in
    let g : ℕ → List Event = λ place. history_started p m (channel_number place) in
    let g' : ℕ → List Event = λ place. history_started q m (channel_number place) in
    let histories : set (map g (range_with_len 0 channel_count)) j (Activate ∷ []) ≡ map g' (range_with_len 0 channel_count) =
    set_by_places g g' channel_count j (Activate ∷ []) [] (channel_places.place_below n channel)
    (sym (ap (history_started q m) (channel_places.number_of_place n channel) ∙ ap (λ b. if b then Activate ∷ [] else history_of n m) now))
    (λ k l other. let apart : channel_number k ≢ n = λ is. other (sym (channel_places.place_of_number k l) ∙ ap channel_index is) in
    ap (λ b. if b then Activate ∷ [] else history_of (channel_number k) m) (same (channel_number k) apart)) in
    let h : ℕ → Bool = λ place. p (channel_number place) in
    let h' : ℕ → Bool = λ place. q (channel_number place) in
    let opened : set (map h (range_with_len 0 channel_count)) j true ≡ map h' (range_with_len 0 channel_count) =
    set_by_places h h' channel_count j true false (channel_places.place_below n channel)
    (sym (ap q (channel_places.number_of_place n channel) ∙ now))
    (λ k l other. same (channel_number k) (λ is. other (sym (channel_places.place_of_number k l) ∙ ap channel_index is))) in
    λ x. record m { processors = processors x; histories = histories x; opened = opened x }

pub one_more : (place : ℕ) (bs : List Bool) (m : MachineState) → place < processor_count → get_or bs place false ≡ true → with_waiting (processor_number place) (dead_started (take place bs) m) ≡ dead_started (take (place + 1) bs) m
one_more place bs m below waiting = grind (arith, started_more, processor_places.number_named, waits_not_yet, waits_next, waits_other)

-- its channel has no history yet
pub still_unused : (place : ℕ) (bs : List Bool) (m : MachineState) → place < processor_count → IsBeforeFirstTurn m → history_of (processor_number place) (dead_started (take place bs) m) ≡ []
unfolding processors_started histories_started opened_where
still_unused place bs m below before =
    let n = processor_number place in
    let channel = channel_of_processor n (processor_places.number_named place below) in
    let g : ℕ → List Event = λ k. history_started (waits (take place bs)) m (channel_number k) in
    get_or-map-range_with_len g 0 channel_count (channel_index n) (channel_index n) [] (channel_places.place_below n channel) (omega arith)
    ∙ (ap (history_started (waits (take place bs)) m) (channel_places.number_of_place n channel)
    ∙ (ap (λ b. if b then Activate ∷ [] else history_of n m) (waits_not_yet place bs below) ∙ before.histories n channel))

none_behind : {X : Type 0} (xs ys : List X) → [] ≡ xs ++ ys → ys ≡ []
none_behind xs ys none =
    let whole : length (xs ++ ys) ≡ 0 = ap length (sym none) in
    let parts = length-append xs ys in
    nil_from_length ys (omega (arith, whole, parts))

-- The headline where one channel is opened that had no history.
pub headline_after_opening : (m : MachineState) (n : ℕ) (own : List Event) → IsTrue (names_processor n) → history_of n m ≡ [] → own ≡ Activate ∷ [] → IsLawful own → KeepsLaw own → IsMachine m → HoldsOnEachChannel (with_waiting n m)
headline_after_opening m n own named unused is lawful law machine c names =
    let j = channel_index n in
    let channel = channel_of_processor n named in
    let within : j < length m.histories = omega (arith, channel_places.place_below n channel, machine.channels) in
    let within_opened : j < length m.opened = omega (arith, channel_places.place_below n channel, machine.opened) in
    let after = with_waiting n m in
    dite (ℕ_discrete c n)
    (λ (same : c ≡ n).
    let history : history_of n after ≡ Activate ∷ [] = get_or-set_same m.histories j (Activate ∷ []) [] within in
    let opening : opening_history n after ≡ Activate ∷ [] = ap (λ b. if b then Activate ∷ [] else []) (get_or-set_same m.opened j true false within_opened) in
    let traced : [] ≡ opening_history n m ++ events_on n m.trace = sym unused ∙ (machine.headline n channel).traced in
    let quiet : events_on n m.trace ≡ [] = none_behind (opening_history n m) (events_on n m.trace) traced in
    let here : HoldsOnChannel (opening_history n after) (events_on n after.trace) (history_of n after) = record {
      traced = history ∙ (sym opening ∙ (sym (append-nil (opening_history n after)) ∙ ap (λ es. opening_history n after ++ es) (sym quiet)));
      lawful = subst IsLawful (is ∙ sym history) lawful;
      law = subst KeepsLaw (is ∙ sym history) law;
    } in
    subst (λ (d : ℕ). HoldsOnChannel (opening_history d after) (events_on d after.trace) (history_of d after)) (sym same) here)
    (λ (other : c ≢ n).
    let apart : channel_index c ≢ j = λ e. other (sym (channel_places.number_of_place c names) ∙ (ap channel_number e ∙ channel_places.number_of_place n channel)) in
    let history : history_of c after ≡ history_of c m = get_or-set_other m.histories j (channel_index c) (Activate ∷ []) [] apart in
    let opening : opening_history c after ≡ opening_history c m = ap (λ b. if b then Activate ∷ [] else []) (get_or-set_other m.opened j (channel_index c) true false apart) in
    subst (λ (o : List Event). HoldsOnChannel o (events_on c m.trace) (history_of c after)) (sym opening)
    (subst (λ (h : List Event). HoldsOnChannel (opening_history c m) (events_on c m.trace) h) (sym history) (machine.headline c names)))
