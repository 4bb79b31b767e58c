-- Steps of a machine, by its processors and its histories.
use Rattle.std.proofs.Common.{append_assoc, cond, eqb, false, true, ◌≤◌, ◌≡◌, ◌≢◌, ℕ, ◌+◌, ◌<◌, List, [], ◌∷◌, ◌++◌, length, get_or, set, Some, None, refl, sym, ap, ◌∙◌, subst, arith}
use Rattle.std.specs.Prelude.{IsTrue, All, slice_index, slice_set}
use Rattle.std.specs.List.{sum_by}
use Rattle.std.proofs.lemmas.Bool.{le-ltb, cases_eq, lt-ltb}
use Rattle.std.proofs.lemmas.Option.{slice_get_past, slice_get-get_or}
use Rattle.std.proofs.lemmas.List.{append-nil, length-append, length-set, set-get_or, set_past, get_or-set_same, get_or-set_other}
use Rattle.std.proofs.lemmas.List.Elements.{All-append, All-cons, All-nil}
use Rattle.std.proofs.lemmas.List.Sums.{fold-append}
use Rattle.pp_channel.specs.Answer.{event_of, reply_to}
use Rattle.pp_numbers.specs.ChannelNo.{channel_count, names_channel, channel_places}
use Rattle.pp_channel.specs.History.{history_on}
use Rattle.pp_report.specs.Types.{Answer, ChanOp, Event, Moved, Need, Profile, Reply}
use Rattle.pp_machine.specs.MachineState.{MachineState, processor_of, history_of}
use Rattle.pp_machine.specs.MachineStep.{stepped, step_outcome, answer_to, histories_after, central_after}
use Rattle.pp_processor.specs.NeedAndEffect.{need, outcome, processor_after}
use Rattle.pp_numbers.specs.PpNo.{processor_index, processor_number, processor_places}
use Rattle.pp_processor.specs.Processor.{Processor, no_processor}
use Rattle.pp_numbers.proofs.PpNoLemmas.{number_at}
use Rattle.pp_numbers.specs.Profile.{has_processor, processors_in}
use Rattle.pp_numbers.proofs.ProfileLemmas.{has_at, most_processors}
use Rattle.pp_machine.specs.Run.{run}
use Rattle.pp_report.specs.Serial.{answers_along}

-- what has come to pass: the history of each channel, and the words of central memory
pub record Past : Type 0 where
  pub happened : ℕ → List Event
  pub words : List ℕ

-- a machine has these processors; its channels and its central memory, of this size, are as this left them
pub record Stands (size : ℕ) (m : MachineState) (pps : List Processor) (past : Past) : Type 0 where
  pub processors : m.processors ≡ pps
  pub channels : length m.histories ≡ channel_count
  pub histories : (c : ℕ) → history_of c m ≡ past.happened c
  pub central : m.central ≡ past.words
  pub sized : length past.words ≡ size

-- each of these steps moves its processor
abbrev pub AllMove : MachineState → List ℕ → Type 0
AllMove m [] = Unit {0}
AllMove m (n ∷ ns) = (step_outcome n m ≡ Moved) × AllMove (stepped n m) ns

all_move : (m : MachineState) (ns ks : List ℕ) → AllMove m ns → AllMove (run ns m) ks → AllMove m (ns ++ ks)
all_move m [] ks a b = b
all_move m (n ∷ ns) ks a b = (a.0, all_move (stepped n m) ns ks a.1 b)

-- processors, and by place the answers that each is still to get
pub record Group : Type 0 where
  pub pps : List Processor
  pub left : List (List Answer)

-- how many answers they are still to get
abbrev pub all_left : Group → ℕ
all_left group = sum_by (λ (xs : List Answer). length xs) group.left

along_more : (n : ℕ) (m : MachineState) (ks ns : List ℕ) → answers_along n (ks ++ ns) m ≡ answers_along n ks m ++ answers_along n ns (run ks m)
along_more n m [] ns = refl
along_more n m (k ∷ ks) ns = grind (arith, append_assoc, along_more n (stepped k m) ks ns)

-- steps of processors of the profile, each of which moves its processor, lead a machine to one that stands so,
-- and the processors get these answers
pub record IsLed (size : ℕ) (p : Profile) (m : MachineState) (before after : Group) (later : Past) (ns : List ℕ) : Type 0 where
  pub count : length ns + all_left after ≡ all_left before
  pub named : All (λ n. IsTrue (has_processor p n)) ns
  pub moved : AllMove m ns
  pub stands : Stands size (run ns m) after.pps later
  pub answers : (place : ℕ) → place < processors_in p → answers_along (processor_number place) ns m ++ get_or after.left place [] ≡ get_or before.left place []

-- some steps lead each machine that stands so to one that stands so
abbrev pub Leads : ℕ → Profile → Group → Past → Group → Past → Type 0
Leads size p before past after later = (m : MachineState) → Stands size m before.pps past → (ns : List ℕ) × IsLed size p m before after later ns

pub leads_none : (size : ℕ) (p : Profile) (one : Group) (past : Past) → Leads size p one past one past
leads_none size p one past m stands = ([], record { count = omega arith; named = All-nil (λ n. IsTrue (has_processor p n)); moved = tt; answers = λ place _. refl; stands = stands })

pub leads_on : (size : ℕ) (p : Profile) (one two three : Group) (first second third : Past) → Leads size p one first two second → Leads size p two second three third → Leads size p one first three third
leads_on size p one two three first second third a b m stands =
    let s = a m stands in
    let t = b (run s.0 m) s.1.stands in
    let both : run t.0 (run s.0 m) ≡ run (s.0 ++ t.0) m = sym (fold-append (λ k n. stepped n k) m s.0 t.0) in (
      s.0 ++ t.0,
      record {
        count = omega (arith, length-append s.0 t.0, s.1.count, t.1.count);
        named = All-append (λ n. IsTrue (has_processor p n)) s.0 t.0 s.1.named t.1.named;
        moved = all_move m s.0 t.0 s.1.moved t.1.moved;
        stands = subst (λ (k : MachineState). Stands size k three.pps third) both t.1.stands;
        answers = grind (arith, along_more, append_assoc);
      },
    )

-- what a need does to channels and central memory
pub record Serves (size : ℕ) (needed : Need) (x : Answer) (past later : Past) : Type 0 where
  pub answers_so : (m : MachineState) (pps : List Processor) → Stands size m pps past → answer_to needed m ≡ x
  pub channels : (m : MachineState) (pps : List Processor) → Stands size m pps past → length (histories_after needed m) ≡ channel_count
  pub histories : (m : MachineState) (pps : List Processor) → Stands size m pps past → (c : ℕ) → history_on c (histories_after needed m) ≡ later.happened c
  pub central : (m : MachineState) (pps : List Processor) → Stands size m pps past → central_after needed m ≡ later.words
  pub sized : length past.words ≡ size → length later.words ≡ size

pub serves_by : (size : ℕ) (n k : Need) (x y : Answer) (past later : Past) → n ≡ k → x ≡ y → Serves size k y past later → Serves size n x past later
serves_by size n k x y past later needed answered serves = rw (needed, answered) serves

-- one step of the processor at a place
pub leads_step : (size : ℕ) (p : Profile) (one two : Group) (place : ℕ) (x : Answer) (past later : Past) → place < processors_in p → outcome (get_or one.pps place no_processor) x ≡ Moved
    → Serves size (need (get_or one.pps place no_processor)) x past later → two.pps ≡ set one.pps place (processor_after (get_or one.pps place no_processor) x)
    → ((other : ℕ) → cond (eqb other place) (x ∷ []) [] ++ get_or two.left other [] ≡ get_or one.left other []) → 1 + all_left two ≡ all_left one → Leads size p one past two later
unfolding stepped step_outcome
leads_step size p one two place x past later inside moved serves next given fewer m stands =
    let pps = one.pps in
    let most = most_processors p in
    let n = processor_number place in
    let at : processor_index n ≡ place = processor_places.place_of_number place (omega (arith, inside, most)) in
    let pp : processor_of n m ≡ get_or pps place no_processor = λ j. get_or (stands.processors j) (at j) no_processor in
    let answer : answer_to (need (processor_of n m)) m ≡ x = ap (λ q. answer_to (need q) m) pp ∙ serves.answers_so m pps stands in (
      n ∷ [],
      record {
        count = omega (arith, fewer);
        named = All-cons (λ k. IsTrue (has_processor p k)) n [] (has_at p place (omega (arith, inside, most)) ∙ lt-ltb place (processors_in p) inside) (All-nil (λ k. IsTrue (has_processor p k)));
        moved = ((λ j. outcome (pp j) (answer j)) ∙ moved, tt);
        answers = grind (arith, eqb, number_at, append-nil);
        stands = grind (arith, set);
      },
    )

-- what changes nothing
serves_same : (size : ℕ) (needed : Need) (x : Answer) (past : Past) → ((m : MachineState) (pps : List Processor) → Stands size m pps past → (answer_to needed m ≡ x) × (histories_after needed m ≡ m.histories) × (central_after needed m ≡ m.central))
    → Serves size needed x past past
serves_same size needed x past same = record {
  answers_so = λ m pps stands. (same m pps stands).0;
  channels = λ m pps stands. ap length (same m pps stands).1 ∙ stands.channels;
  histories = λ m pps stands c. ap (history_on c) (same m pps stands).1 ∙ stands.histories c;
  central = λ m pps stands. (same m pps stands).2 ∙ stands.central;
  sized = λ is. is;
}

-- nothing from outside
pub serves_local : (size : ℕ) (past : Past) → Serves size Need.Local Answer.Local past past
serves_local size past = serves_same size Need.Local Answer.Local past (λ m pps stands. (refl, refl, refl))

-- an operation that makes no event
pub serves_look : (size c : ℕ) (op : ChanOp) (reply : Reply) (past : Past) → reply_to op (past.happened c) ≡ reply → event_of op (past.happened c) ≡ None → Serves size (Need.Channel c op) (Answer.Channel reply) past past
serves_look size c op reply past replied none = grind (arith, serves_same, append-nil, set-get_or)

pub serves_event : (size c : ℕ) (op : ChanOp) (reply : Reply) (e : Event) (past later : Past) → IsTrue (names_channel c) → reply_to op (past.happened c) ≡ reply → event_of op (past.happened c) ≡ Some e
    → (later.happened c ≡ past.happened c ++ e ∷ []) → ((d : ℕ) → c ≢ d → later.happened d ≡ past.happened d) → past.words ≡ later.words → Serves size (Need.Channel c op) (Answer.Channel reply) past later
serves_event size c op reply e past later names replied made here elsewhere words = grind (arith, length-set, cases_eq, channel_places.place_below, get_or-set_same, get_or-set_other, channel_places.one_place)

-- central memory: a word is found, and one is written
pub serves_read : (size a w : ℕ) (past : Past) → slice_index past.words a ≡ w → a < size → Serves size (Need.Read a) (Answer.Read (Some w)) past past
serves_read size a w past found inside = grind (arith, serves_same, slice_get-get_or)

pub serves_write : (size a w : ℕ) (past later : Past) → a < size → ((c : ℕ) → past.happened c ≡ later.happened c) → slice_set past.words a w ≡ later.words → Serves size (Need.Write a w) (Answer.Wrote true) past later
serves_write size a w past later inside same words = grind (arith, lt-ltb, length-set)

-- past its size none is found, and none is written
pub serves_no_word : (size a : ℕ) (past : Past) → size ≤ a → Serves size (Need.Read a) (Answer.Read None) past past
serves_no_word size a past behind = grind (arith, serves_same, slice_get_past)

pub serves_no_write : (size a w : ℕ) (past : Past) → size ≤ a → Serves size (Need.Write a w) (Answer.Wrote false) past past
serves_no_write size a w past behind = grind (arith, serves_same, le-ltb, set_past)
