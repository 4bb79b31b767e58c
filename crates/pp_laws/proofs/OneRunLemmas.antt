-- A report by threads beside a run that tells the result of every order of steps.
use Rattle.std.proofs.Common.{◌≡◌, ℕ, ◌+◌, ◌-◌, ◌<◌, ◌≤◌, List, [], ◌∷◌, length, take, drop, get_or, map, refl, sym, ap, ◌∙◌, subst, inl, inr, arith}
use Rattle.std.specs.Prelude.{◌⊎◌, All}
use Rattle.std.proofs.lemmas.Bool.{cases_lt}
use Rattle.std.proofs.lemmas.List.{ext_get_or, get_or_append_left, get_or-append_right, get_or-drop, length-map}
use Rattle.std.proofs.lemmas.List.Elements.{All-cons, All-head, All-map, All-nil, All-tail}
use Rattle.pp_numbers.specs.ChannelNo.{channel_count, channel_number, channel_places}
use Rattle.pp_channel.specs.History.{history_on}
use Rattle.pp_report.specs.Types.{Access, Answer, ChanOp, End, Entry, Need, PpState, Report, Worker}
use Rattle.pp_machine.specs.MachineState.{MachineState, history_of, processor_of}
use Rattle.pp_processor.specs.NeedAndEffect.{need}
use Rattle.pp_numbers.specs.PpNo.{processor_count, processor_index, processor_number, processor_places}
use Rattle.pp_processor.specs.Processor.{Processor, IsAtRest, no_processor}
use Rattle.pp_numbers.specs.Profile.{processors_in}
use Rattle.pp_machine.specs.Run.{run}
use Rattle.pp_machine.proofs.MachineStepLemmas.{event_at_rest, stepped_at_rest}
use Rattle.pp_run.specs.Determinacy.{AreAlike, IsQuiet, ShowsParts, Stays, TurnsInPlace, Waits}
use Rattle.pp_run.proofs.Moments.{run_histories, run_processors}
use Rattle.pp_run.proofs.StepFacts.{central_by, event_by, event_by_need, own_step}
use Rattle.pp_runner.specs.End.{IsEnd}
use Rattle.pp_numbers.specs.Limits.{RunLimits}
use Rattle.pp_runner.specs.Report.{IsReportOf}
use Rattle.pp_runner.specs.WorkerReport.{AreWorkers}
use Rattle.pp_report.specs.Serial.{LeadsToReport, processors_left}
use Rattle.pp_laws.specs.OneRun.{CannotMove, EndsAtRest, IsOver, ShowsPartsOf}

-- a step that waits
waits_at_rest : (n : ℕ) (m : MachineState) → IsAtRest (processor_of n m) → Waits n m
waits_at_rest n m rests = grind (arith, stepped_at_rest, event_at_rest)

waits_in_place : (n : ℕ) (m : MachineState) → TurnsInPlace (processor_of n m) → Waits n m
waits_in_place n m turns = grind (arith, own_step, event_by, central_by)

waits_for : (n c : ℕ) (op : ChanOp) (m : MachineState) → need (processor_of n m) ≡ Need.Channel c op → Stays op (processor_of n m) (history_of c m) → Waits n m
waits_for n c op m needs stays = grind (arith, own_step, event_by_need, central_by)

module _ {A : Type 0} (others : List ℕ) (m : MachineState) (report : Report A) (order : List Access) (leads : LeadsToReport others m report order) where
  abbrev now : MachineState
  now = run others m

  -- its processors and histories are those of the report
  stands : (n : ℕ) → processor_of n now ≡ get_or (processors_left m report) (processor_index n) no_processor
  stands n = ap (λ (pps : List Processor). get_or pps (processor_index n) no_processor) leads.processors

  happened : (c : ℕ) → history_of c now ≡ history_on c report.channels
  happened c = ap (history_on c) leads.histories

  pub shows_parts : (ns : List ℕ) → ShowsParts ns m now → ShowsPartsOf ns m report
  shows_parts ns parts = record {
    processors = λ n. let part = parts.processors n in (part.0, sym (stands n) ∙ part.1);
    channels = λ c. let part = parts.channels c in (part.0, sym (happened c) ∙ part.1.history);
  }

  pub leads_alike : (ns : List ℕ) → length m.processors ≡ processor_count → length m.histories ≡ channel_count → AreAlike now (run ns m) → LeadsToReport ns m report order
  leads_alike ns all each alike =
      let many = run_processors ns m ∙ all in
      let channels = run_histories ns m ∙ each in
      record {
        processors = ext_get_or no_processor (run ns m).processors now.processors (run_processors ns m ∙ sym (run_processors others m)) (λ k inside.
            subst (λ (i : ℕ). get_or (run ns m).processors i no_processor ≡ get_or now.processors i no_processor)
            (processor_places.place_of_number k (omega (arith, inside, many))) (sym (alike.processors (processor_number k))))
            ∙ leads.processors;
        histories = ext_get_or [] (run ns m).histories now.histories (run_histories ns m ∙ sym (run_histories others m)) (λ k inside.
            subst (λ (i : ℕ). get_or (run ns m).histories i [] ≡ get_or now.histories i [])
            (channel_places.place_of_number k (omega (arith, inside, channels))) (sym (alike.histories (channel_number k))))
            ∙ leads.histories;
        central = sym alike.central ∙ leads.central;
      }

  -- a processor of the report that could not move does not move
  waits_as_left : (n : ℕ) (pp : Processor) → processor_of n now ≡ pp → CannotMove report pp → Waits n now
  waits_as_left n pp is (inl rests) = waits_at_rest n now (subst IsAtRest (sym is) rests)
  waits_as_left n pp is (inr (inl turns)) = waits_in_place n now (subst TurnsInPlace (sym is) turns)
  waits_as_left n pp is (inr (inr waits)) = grind (arith, waits_for, now, happened)

  pub is_quiet : length report.ends.items ≡ processors_in m.profile → ((n : ℕ) → processors_in m.profile ≤ processor_index n → IsAtRest (processor_of n m)) → IsOver report → IsQuiet now
  is_quiet count lacked over = record { waits = λ n. by_place n (cases_lt (processor_index n) (processors_in m.profile)) }
    where
      by_place : (n : ℕ) → (processor_index n < processors_in m.profile) ⊎ (processors_in m.profile ≤ processor_index n) → Waits n now
      by_place n (inl inside) =
          let many = length-map report.ends.items (λ (w : Worker A). w.pp) in
          let pps = map (λ (w : Worker A). w.pp) report.ends.items in
          let lies : processor_index n < length pps = omega (arith, inside, many, count) in
          let is = stands n ∙ get_or_append_left pps (drop (processors_in m.profile) m.processors) no_processor (processor_index n) lies in
          waits_as_left n (get_or pps (processor_index n) no_processor) is
          (All-map (λ pp. CannotMove report pp) (λ (w : Worker A). w.pp) report.ends.items over (processor_index n) no_processor lies)
      by_place n (inr past) =
          let many = length-map report.ends.items (λ (w : Worker A). w.pp) in
          let k = processors_in m.profile in
          let pps = map (λ (w : Worker A). w.pp) report.ends.items in
          let at : k + (processor_index n - k) ≡ processor_index n = omega (arith, past) in
          let is : processor_of n now ≡ processor_of n m =
          stands n
          ∙ (get_or-append_right pps (drop k m.processors) k (processor_index n) no_processor (many ∙ count) past
          ∙ (get_or-drop k m.processors (processor_index n - k) no_processor
          ∙ ap (λ i. get_or m.processors i no_processor) at)) in
          waits_as_left n (processor_of n m) is (inl (lacked n past))

-- a worker that ended at rest
rests_by : (steps : ℕ) (finish : End) (pp : Processor) (answers : List Answer) (log : List Entry) → IsEnd steps finish pp answers log → EndsAtRest finish → IsAtRest pp
rests_by steps End.Stopped pp answers log is rests running = grind arith
rests_by steps (End.Fault number) pp answers log is rests running =
    let fault = (is.fault number).0 refl in
    let bad : PpState.Fault number ≡ PpState.Running = sym fault ∙ running in
    cc
rests_by steps End.Steps pp answers log is rests running = rests
rests_by steps End.Patience pp answers log is rests running = rests
rests_by steps End.Memory pp answers log is rests running = rests
rests_by steps End.Worn pp answers log is rests running = rests

all_rest : {A : Type 0} (P : Worker A → Type 0) (size steps : ℕ) (loads : List Processor) (ws : List (Worker A)) → ((w : Worker A) → IsAtRest w.pp → P w) → AreWorkers loads size steps ws
    → All (λ w. EndsAtRest w.finish) ws → All P ws
all_rest P size steps [] [] rests are ended = All-nil P
all_rest P size steps [] (w ∷ ws) rests are ended = absurd are
all_rest P size steps (load ∷ loads) [] rests are ended = absurd are
all_rest {A} P size steps (load ∷ loads) (w ∷ ws) rests are ended =
    let E : Worker A → Type 0 = λ v. EndsAtRest v.finish in
    All-cons P w ws (rests w (rests_by steps w.finish w.pp w.answers.items w.log.items are.0.finish (All-head E w ws ended)))
    (all_rest P size steps loads ws rests are.1 (All-tail E w ws ended))

pub over_at_rest : {A : Type 0} (limits : RunLimits) (m : MachineState) (report : Report A) → IsReportOf limits m report → All (λ w. EndsAtRest w.finish) report.ends.items → IsOver report
over_at_rest {A} limits m report said ended =
    all_rest (λ (w : Worker A). CannotMove report w.pp) (length m.central) limits.steps (take (processors_in m.profile) m.processors) report.ends.items
    (λ w rests. inl rests) said.workers ended
