-- How the machine of any order of steps stands beside one list of steps, and how it stays so.
use Rattle.std.proofs.Common.{◌≡◌, ◌≢◌, ℕ, zero, suc, ◌+◌, ◌<◌, ◌≤◌, ◌==◌, IsTrue, List, length, slice_set, take, get_or, refl, sym, ap, ◌∙◌, subst, inl, inr, arith}
use Rattle.std.specs.Prelude.{◌⊎◌, if◌then◌else◌, slice_get}
use Rattle.std.proofs.lemmas.Bool.{cases_eq, cases_lt, eq-eqb, ne_eqb}
use Rattle.std.proofs.lemmas.List.{get_or-set_same, get_or-set_other, set_past}
use Rattle.std.proofs.lemmas.Option.{slice_get-get_or, slice_get_past}
use Rattle.pp_numbers.specs.ChannelNo.{channel_count, names_channel}
use Rattle.pp_channel.specs.declared.{chan_op.ChanOp.ChanOp, event.Event.Event}
use Rattle.pp_machine.specs.MachineState.{MachineState, processor_of, history_of}
use Rattle.pp_machine.specs.MachineStep.{answer_to, stepped}
use Rattle.pp_processor.specs.NeedAndEffect.{need, processor_after}
use Rattle.pp_processor.specs.Processor.{Processor}
use Rattle.pp_numbers.specs.PpNo.{processor_count}
use Rattle.pp_processor.specs.declared.need.Need.{Need}
use Rattle.pp_processor.specs.declared.need.Need.TheVariants.{Write}
use Rattle.pp_run.specs.Determinacy.{Waits, IsDeterminate, IsRaceFree, Stays, at_moment, processor_at, history_at, need_at, made_on, MayFind}
use Rattle.pp_run.specs.Determinacy.MayFind.{processor_advances}
use Rattle.pp_run.proofs.StepFacts.{own_step, other_step, word_unless, central_by, event_by_need}
use Rattle.pp_run.proofs.Moments.{moment_next, run_processors}

-- no step of the list but q's writes this central word
abbrev pub Owns : List ℕ → MachineState → ℕ → ℕ → Type 0
Owns ns m q a = (u : ℕ) → u < length ns → (w : ℕ) → need_at ns m u ≡ Write a w → get_or ns u 0 ≡ q

abbrev pub word_of : ℕ → MachineState → ℕ
word_of a m = get_or m.central a 0

-- each processor stands as at the moment that it has reached, each channel as at the moment at which
-- it stood, and each may find each; a word is as its owner left it
pub record Stands (ns : List ℕ) (m now : MachineState) (reached stood : ℕ → ℕ) : Type 0 where
  pub all : length now.processors ≡ processor_count
  pub each : length now.histories ≡ channel_count
  pub size : length now.central ≡ length m.central
  pub within : (q : ℕ) → reached q ≤ length ns
  pub processor : (q : ℕ) → processor_of q now ≡ processor_at ns m q (reached q)
  pub history : (c : ℕ) → history_of c now ≡ history_at ns m c (stood c)
  pub made : (c : ℕ) → IsTrue (names_channel c) → made_on c now.trace ≡ made_on c (at_moment ns m (stood c)).trace
  pub may : (q c : ℕ) → MayFind ns m q c (reached q) (stood c)
  pub word : (q a : ℕ) → Owns ns m q a → word_of a now ≡ word_of a (at_moment ns m (reached q))

-- processor q's next step, from moment t on, is step t, which is timely; or it has none
pub record Goes (ns : List ℕ) (m : MachineState) (q t : ℕ) : Type 0 where
  pub within : t < length ns
  pub mine : get_or ns t 0 ≡ q
  pub timely : IsRaceFree ns m t

abbrev pub IsNext : List ℕ → MachineState → ℕ → ℕ → Type 0
IsNext ns m q t = (t ≡ length ns) ⊎ Goes ns m q t

pub record Follows (ns : List ℕ) (m now : MachineState) (reached stood : ℕ → ℕ) : Type 0 where
  pub stands : Stands ns m now reached stood
  pub next : (q : ℕ) → IsNext ns m q (reached q)

-- from moment t processor q comes to its next step, past steps that wait and those of others
pub record CatchUp (ns : List ℕ) (m : MachineState) (q t : ℕ) : Type 0 where
  pub to : ℕ
  pub later : t ≤ to
  pub within : to ≤ length ns
  pub next : IsNext ns m q to
  pub processor : processor_at ns m q to ≡ processor_at ns m q t
  pub may : (c s : ℕ) → MayFind ns m q c t s → MayFind ns m q c to s
  pub word : (a : ℕ) → Owns ns m q a → word_of a (at_moment ns m to) ≡ word_of a (at_moment ns m t)

-- a function changed at one place
pub put_at : (ℕ → ℕ) → ℕ → ℕ → ℕ → ℕ
put_at f q v x = if x == q then v else f x

pub put_same : (f : ℕ → ℕ) (q v : ℕ) → put_at f q v q ≡ v
unfolding put_at
put_same f q v = ap (λ b. if b then v else f q) (eq-eqb q q refl)

pub put_other : (f : ℕ → ℕ) (q v x : ℕ) → x ≢ q → put_at f q v x ≡ f x
unfolding put_at
put_other f q v x apart = ap (λ b. if b then v else f x) (ne_eqb x q apart)

pub put_all : (B : ℕ → ℕ → Type 0) (f : ℕ → ℕ) (q v : ℕ) → B q v → ((x : ℕ) → x ≢ q → B x (f x)) → (x : ℕ) → B x (put_at f q v x)
put_all B f q v here there x = grind (arith, cases_eq, put_at, put_same, put_other)

-- the same step of one processor in two machines
answers_by : (q : ℕ) (one other : MachineState) (x : Need) → need (processor_of q one) ≡ x → need (processor_of q other) ≡ x → answer_to x one ≡ answer_to x other → answer_to (need (processor_of q one)) one ≡ answer_to (need (processor_of q other)) other
answers_by q one other x e f same = ap (λ y. answer_to y one) e ∙ same ∙ ap (λ y. answer_to y other) (sym f)

own_alike : (q : ℕ) (one other : MachineState) → processor_of q one ≡ processor_of q other → answer_to (need (processor_of q one)) one ≡ answer_to (need (processor_of q other)) other → processor_of q (stepped q one) ≡ processor_of q (stepped q other)
own_alike q one other pp answer = own_step q one ∙ ap (λ p. processor_after p (answer_to (need (processor_of q one)) one)) pp ∙ ap (λ x. processor_after (processor_of q other) x) answer ∙ sym (own_step q other)

pub by_answers : (q : ℕ) (one other : MachineState) (x : Need) → processor_of q one ≡ processor_of q other → need (processor_of q other) ≡ x → answer_to x one ≡ answer_to x other → processor_of q (stepped q one) ≡ processor_of q (stepped q other)
by_answers q one other x pp e same = own_alike q one other pp (answers_by q one other x (ap (λ p. need p) pp ∙ e) e same)

-- a word that is the same in both stays so
set_alike : (xs ys : List ℕ) (b w a : ℕ) → length xs ≡ length ys → get_or xs a 0 ≡ get_or ys a 0 → get_or (slice_set xs b w) a 0 ≡ get_or (slice_set ys b w) a 0
set_alike xs ys b w a lengths same = grind (arith, cases_eq, cases_lt, get_or-set_same, set_past, get_or-set_other)

pub words_alike : (q a : ℕ) (one other : MachineState) → processor_of q one ≡ processor_of q other → length one.central ≡ length other.central → word_of a one ≡ word_of a other → word_of a (stepped q one) ≡ word_of a (stepped q other)
words_alike q a one other pp lengths same = grind (arith, word_of, word_unless, central_by, set_alike)

pub read_alike : (a : ℕ) (one other : MachineState) → length one.central ≡ length other.central → word_of a one ≡ word_of a other → slice_get one.central a ≡ slice_get other.central a
read_alike a one other lengths same = grind (arith, cases_lt, slice_get-get_or, slice_get_past)

pub stays_alike : (op : ChanOp) (one other : Processor) (here there : List Event) → one ≡ other → here ≡ there → Stays op other there → Stays op one here
stays_alike op one other here there pp h s = grind arith

module _ (ns : List ℕ) (m : MachineState) (all : length m.processors ≡ processor_count) (each : length m.histories ≡ channel_count) (d : IsDeterminate ns m) where
  extended : (q t : ℕ) → t < length ns → processor_at ns m q (suc t) ≡ processor_at ns m q t → ((c s : ℕ) → MayFind ns m q c t s → MayFind ns m q c (suc t) s) → ((a : ℕ) → Owns ns m q a → word_of a (at_moment ns m (suc t)) ≡ word_of a (at_moment ns m t)) → CatchUp ns m q (suc t) → CatchUp ns m q t
  extended q t h pp may word c = grind arith

  here : (q t : ℕ) → t ≤ length ns → IsNext ns m q t → CatchUp ns m q t
  here q t h next = grind arith

  -- past a step of another
  past_other : (q t : ℕ) → t < length ns → get_or ns t 0 ≢ q → CatchUp ns m q (suc t) → CatchUp ns m q t
  past_other q t h other c =
      let n = get_or ns t 0 in
      let M = at_moment ns m t in
      let next : at_moment ns m (suc t) ≡ stepped n M = moment_next ns m t h in
      extended q t h
      (ap (λ k. processor_of q k) next ∙ other_step q n M (run_processors (take t ns) m ∙ all) (λ same. other (sym same)))
      (λ channel s found. processor_advances t s found (inl other))
      (λ a owns. ap (λ k. word_of a k) next ∙ word_unless n a M (λ w e. other (owns t h w e)))
      c

  -- past a step of its own that waits
  past_waiting : (q t : ℕ) → t < length ns → get_or ns t 0 ≡ q → Waits (get_or ns t 0) (at_moment ns m t) → CatchUp ns m q (suc t) → CatchUp ns m q t
  past_waiting q t h mine waits c =
      let n = get_or ns t 0 in
      let M = at_moment ns m t in
      let next : at_moment ns m (suc t) ≡ stepped n M = moment_next ns m t h in
      let w : Waits q M = subst (λ (k : ℕ). Waits k M) mine waits in
      let step : at_moment ns m (suc t) ≡ stepped q M = next ∙ ap (λ k. stepped k M) mine in
      extended q t h
      (ap (λ k. processor_of q k) step ∙ w.processor)
      (λ channel s found. processor_advances t s found (inr (λ op e. inl (record {
        no_event = sym (event_by_need q channel op M e) ∙ w.event;
        stays = sym (ap (λ x. processor_after (processor_of q M) x) (ap (λ x. answer_to x M) e)) ∙ sym (own_step q M) ∙ w.processor;
      }))))
      (λ a owns. ap (λ k. word_of a k) step ∙ ap (λ (ws : List ℕ). get_or ws a 0) w.central)
      c

  pub catch_up : (k q t : ℕ) → t ≤ length ns → length ns ≤ t + k → CatchUp ns m q t
  catch_up zero q t h k_enough = here q t h (inl (omega arith))
  catch_up (suc k) q t h k_enough = elim (cases_lt t (length ns)) [
    | inr past ↦ here q t h (inl (omega arith))
    | inl below ↦ elim (cases_eq (get_or ns t 0) q) [
      | inr other ↦ past_other q t below other (catch_up k q (suc t) (omega arith) (omega arith))
      | inl mine ↦ elim (d.race_free.steps t below) [
        | inl waits ↦ past_waiting q t below mine waits (catch_up k q (suc t) (omega arith) (omega arith))
        | inr timely ↦ here q t h (inr (record { within = below; mine = mine; timely = timely }))
      ]
    ]
  ]
