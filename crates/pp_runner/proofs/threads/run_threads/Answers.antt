use Rattle.std.proofs.Common.{◌≡◌, ◌≤◌, ◌∙◌, ℕ, ◌+◌, ◌*◌, vec_len, List, ◌∷◌, ◌++◌, length, map, take, sym, ap, subst, arith}
use Rattle.std.specs.Prelude.{All}
use Rattle.std.specs.List.{filter, flat_map}
use Rattle.std.proofs.lemmas.List.{length-take-le}
use Rattle.std.proofs.lemmas.List.Elements.{All-tail, All-weaker}
use Rattle.std.proofs.lemmas.List.Folds.{flat_map-map}
use Rattle.std.proofs.lemmas.Slice.Zip.{AllZip-long}
use Rattle.pp_line.specs.LineState.{LineState, IsSplitFrom, all_joined, lines_of, SeesAtLeast}
use Rattle.pp_line.specs.Merge.{IsRecordedBy, Merges, no_opening}
use Rattle.pp_channel.specs.History.{history_on}
use Rattle.pp_line.specs.LineLog.{seen_on}
use Rattle.pp_runner.specs.Types.{Access, Entry, Event}
use Rattle.pp_line.proofs.JoinedLines.{joined_entries, joined_whole, same_logs}
use Rattle.pp_line.proofs.OpeningLemmas.{merges_after}
use Rattle.pp_line.proofs.OrderLemmas.{order_later}
use Rattle.pp_line.specs.Order.{IsTotalOrderOf, ExtendsEach, IsDrawnFrom, FindsWords, AreMade, entries_among, writes_among}
use Rattle.pp_machine.specs.Headline.{opening_history}
use Rattle.pp_numbers.specs.Profile.{processors_in}
use Rattle.pp_numbers.proofs.ProfileLemmas.{most_processors}
use Rattle.pp_runner.proofs.ReportLemmas.{ended_tables, ended_shares, ended_begun, ended_left}
use Rattle.pp_runner.proofs.LateAccesses.{is_late, late_entries, late_finds, made_late}
use Rattle.pp_runner.specs.Accesses.{HaveAccessed}
use Rattle.pp_runner.specs.Crew.{worker_of}
use Rattle.pp_runner.specs.WorkerReport.{IsWorker, AreWorkers, logs_of}
use Rattle.pp_runner.proofs.threads.run_threads.Goals as goal

pub close_with-requires : goal.close_with-requires
close_with-requires g c =
    let steps = c.args.limits.steps in
    let first = c.in_ok-first.first in
    let many = c.in_ok-first.ensures.each_processor in
    let loads = take (vec_len c.in_ok-first.lines) c.args.machine.now.processors in
    let crew = c.in_ok-crew.crew.items in
    let ended = rw c.of.ensures at c.in_ok-crew.ensures in
    let few = most_processors c.args.machine.now.profile in
    let each : length loads ≡ vec_len c.in_ok-first.lines = length-take-le (vec_len c.in_ok-first.lines) c.args.machine.now.processors (omega (arith, c.is_sound.ensures.processors, few, many)) in
    let shares = ended_shares c.size.result steps first loads crew first ended in (
      -- what lines leave together takes as much memory as a report
      c.requires-raw.1.1.1.1.1.1.1.1.0,
      (
        ended_tables c.size.result steps first loads crew ended,
        omega (arith, shares, each, many, c.in_ok-first.ensures.first.shares, c.in_ok-first.ensures.first.whole),
      ),
    )

pub returns : goal.returns
returns g c =
    let p = c.args.machine.now.profile in
    let steps = c.args.limits.steps in
    let size = c.size.result in
    let first = c.in_ok-first.first in
    let many = c.in_ok-first.ensures.each_processor in
    let processors = c.args.machine.now.processors in
    let loads = take (vec_len c.in_ok-first.lines) processors in
    let crew = c.in_ok-crew.crew.items in
    let lines = lines_of crew in
    let logs = c.in_ok-logs.field-0.logs.items in
    let ws = map worker_of logs in
    let channels = c.in_ok-logs.field-0.channels in
    let ended = rw c.of.ensures at c.in_ok-crew.ensures in
    let closed = c.in_ok-logs.ensures.channels in
    let few = most_processors p in
    let each : length loads ≡ vec_len c.in_ok-first.lines = length-take-le (vec_len c.in_ok-first.lines) processors (omega (arith, c.is_sound.ensures.processors, few, many)) in
    let shares = ended_shares size steps first loads crew first ended in
    let whole = joined_whole first lines in
    let known : IsRecordedBy (all_joined first lines).log.entries (all_joined first lines).view.seen channels = closed.known.all_known (omega (arith, shares, whole, each, many, c.in_ok-first.ensures.first.shares, c.in_ok-first.ensures.first.whole)) in
    let opening : ℕ → List Event = λ k. opening_history k c.args.machine.now in
    let given = c.in_ok-workers.ensures in
    let sized : size ≡ length c.args.machine.now.central = c.size.ensures.value ∙ ap length c.central.ensures in
    let same : logs_of ws ≡ flat_map (λ l. l.log.entries) lines = flat_map-map (λ w. w.log.items) worker_of logs ∙ same_logs crew logs c.in_ok-logs.ensures.logs in
    let seen : All (λ l. (k : ℕ) → seen_on k l.view.seen ≤ length (history_on k channels)) lines = All-weaker (λ (l : LineState). SeesAtLeast l (all_joined first lines)) (λ (l : LineState). (k : ℕ) → seen_on k l.view.seen ≤ length (history_on k channels))
    (λ l less k. let all = known.counted k in let here = less k in omega (arith, all, here)) lines c.in_ok-logs.ensures.nothing_forgotten in
    let has = c.in_ok-first.ensures.first.seen in
    let begun = ended_begun size steps first loads crew (λ k. length (opening k)) has ended in
    let merged = merges_after opening channels first.log.entries (flat_map (λ l. l.log.entries) lines) c.in_ok-first.ensures.first.opening
    (subst (λ (log : List Entry). Merges no_opening channels log) (joined_entries first lines) closed.merged) in
    let in_order = c.in_ok-logs.ensures.order in
    let order : List Access = filter (is_late opening channels merged.begins) in_order.order in
    let left = ended_left size steps first opening channels merged.begins has (λ k. length (history_on k channels)) in_order.order loads crew logs c.in_ok-logs.ensures.logs seen
    (All-tail (λ (l : LineState). ExtendsEach in_order.order l.view.program_orders) first lines in_order.program_orders) (All-tail (λ (l : LineState). IsDrawnFrom l.view.program_orders l.log.entries) first lines in_order.logs) ended in
    let writes : flat_map (λ l. l.view.written) (first ∷ lines) ≡ flat_map writes_among left.accesses = (λ j. c.in_ok-first.ensures.first.no_write j ++ left.written j) in record {
      each_processor = ap length given ∙ (AllZip-long (λ load w. IsWorker load size steps w) loads ws left.workers ∙ (each ∙ many));
      workers = rw given (subst (λ (k : ℕ). AreWorkers (take (processors_in p) processors) k steps ws) sized
          (subst (λ (k : ℕ). AreWorkers (take k processors) size steps ws) many left.workers));
      each_channel = closed.known.sound.each_channel;
      lawful = closed.known.sound.lawful;
      law = closed.law;
      twelve_bits = closed.known.sound.twelve_bits;
      merged = rw (given, same) merged;
      begun = rw (given, same) begun;
      order = order;
      total = subst (IsTotalOrderOf opening channels) (sym (late_entries opening channels merged.begins in_order.order)) (order_later opening channels (entries_among in_order.order) merged.begins in_order.total);
      finds = late_finds opening channels merged.begins c.args.machine.now.central in_order.order (subst (λ (words : List ℕ). FindsWords words in_order.order) c.in_ok-first.ensures.first.central in_order.finds);
      accesses = left.accesses;
      accessed = rw given (subst (λ (k : ℕ). HaveAccessed (take k processors) order ws left.accesses) many left.accessed);
      made = made_late opening channels merged.begins (flat_map writes_among left.accesses) in_order.order (subst (λ (ws : List ℕ). AreMade ws in_order.order) writes in_order.made);
      worn = rw given left.worn;
    }

pub run_crew-requires-after_bounds : goal.run_crew-requires-after_bounds
run_crew-requires-after_bounds g c κs within = record {
  each = c.is_sound.ensures.processors;
  count = let most = most_processors c.args.machine.now.profile in omega (arith, most, c.in_ok-first.ensures.each_processor, c.in_ok-first.lines.ok.0);
  central = ap (λ (l : LineState). length l.view.central) c.of.ensures ∙ ap length c.in_ok-first.ensures.first.central ∙ sym (c.size.ensures.value ∙ ap length c.central.ensures);
  fresh = rw c.of.ensures (subst (λ (steps : ℕ). All (IsSplitFrom c.in_ok-first.first (2 * steps + 1)) c.in_ok-first.lines.items) c.steps.ensures.value c.in_ok-first.ensures.fresh);
}
