-- Workers that have ended, each with the log of its line.
use Rattle.std.proofs.Common.{◌≡◌, ℕ, ◌+◌, ◌≤◌, List, [], ◌∷◌, ◌++◌, map, length, refl, sym, ap, ◌∙◌, subst, arith}
use Rattle.std.specs.Prelude.{All}
use Rattle.std.specs.List.{AllZip, filter, flat_map}
use Rattle.std.specs.declared.vec.Vec.{Vec}
use Rattle.std.proofs.lemmas.List.Elements.{All-append, All-cons, All-head, All-nil, All-tail}
use Rattle.std.proofs.lemmas.Slice.Zip.{AllZip-long}
use Rattle.pp_line.specs.LineState.{LineState, joined, all_joined, lines_of, IsLogBeside}
use Rattle.pp_channel.specs.History.{history_on}
use Rattle.pp_channel.specs.Law.{IsPrefix}
use Rattle.pp_line.specs.Order.{ExtendsEach, IsDrawnFrom, writes_among}
use Rattle.pp_runner.specs.Types.{Access, Ended, Entry, Event, Worker}
use Rattle.pp_line.specs.LineLog.{seen_on}
use Rattle.pp_processor.specs.Processor.{Processor}
use Rattle.pp_runner.proofs.CrewLemmas.{same_seen}
use Rattle.pp_runner.proofs.EndLemmas.{worn_later}
use Rattle.pp_runner.proofs.LateAccesses.{is_late, late_accessed}
use Rattle.pp_runner.specs.Accesses.{HaveAccessed}
use Rattle.pp_runner.specs.Crew.{IsEnded, HasEnded, worker_of}
use Rattle.pp_runner.specs.WorkerState.{HasSeen, NoneOlder}
use Rattle.pp_runner.specs.End.{WornWithCause}
use Rattle.pp_runner.specs.WorkerReport.{AreWorkers}

module _ {A : Type 0} (size steps : ℕ) (family : LineState) where
  -- what holds of each that has ended
  ended_each : (P : Ended A × LineState → Type 0) → ((load : Processor) (ended : Ended A × LineState) → HasEnded size steps family load ended → P ended)
      → (loads : List Processor) (crew : List (Ended A × LineState)) → AllZip (HasEnded size steps family) loads crew → All P crew
  ended_each P one [] [] all = All-nil P
  ended_each P one [] (ended ∷ crew) all = absurd all
  ended_each P one (p ∷ loads) [] all = absurd all
  ended_each P one (p ∷ loads) (ended ∷ crew) all = All-cons P ended crew (one p ended all.0) (ended_each P one loads crew all.1)

  -- the lines are of one family, and have a share each
  pub ended_tables : (loads : List Processor) (crew : List (Ended A × LineState)) → AllZip (HasEnded size steps family) loads crew → All (λ ended. ended.1.table ≡ family.table) crew
  ended_tables loads crew all = ended_each (λ ended. ended.1.table ≡ family.table) (λ load ended one. one.has.same_line.table ∙ one.fresh.table) loads crew all

  shares_of : (crew : List (Ended A × LineState)) (first : LineState) → All (λ ended. ended.1.view.shares ≡ 1) crew → (all_joined first (lines_of crew)).view.shares ≡ first.view.shares + length crew
  shares_of [] first each = omega arith
  shares_of (ended ∷ crew) first each =
      let P : Ended A × LineState → Type 0 = λ ended. ended.1.view.shares ≡ 1 in
      let one = All-head P ended crew each in
      let rest = shares_of crew (joined first ended.1) (All-tail P ended crew each) in
      omega (arith, one, rest)

  pub ended_shares : (loads : List Processor) (crew : List (Ended A × LineState)) (first : LineState) → AllZip (HasEnded size steps family) loads crew → (all_joined first (lines_of crew)).view.shares ≡ first.view.shares + length loads
  ended_shares loads crew first all =
      let count = AllZip-long (HasEnded size steps family) loads crew all in
      let sum = shares_of crew first (ended_each (λ ended. ended.1.view.shares ≡ 1) (λ load ended one. one.has.same_line.shares ∙ ap (λ v. v.shares) one.fresh.view) loads crew all) in
      omega (arith, count, sum)

  -- nothing that a worker did or saw is older than what its line's family had seen
  begun_one : (happened : ℕ → ℕ) → HasSeen happened family → (load : Processor) (ended : Ended A × LineState) → HasEnded size steps family load ended → NoneOlder happened ended.1.log.entries
  begun_one happened has load ended one = grind (arith, same_seen)

  all_entries : (P : Entry → Type 0) (crew : List (Ended A × LineState)) → All (λ ended. All P ended.1.log.entries) crew → All P (flat_map (λ l. l.log.entries) (lines_of crew))
  all_entries P [] each = All-nil P
  all_entries P (ended ∷ crew) each =
      let Q : Ended A × LineState → Type 0 = λ ended. All P ended.1.log.entries in
      All-append P ended.1.log.entries (flat_map (λ l. l.log.entries) (lines_of crew)) (All-head Q ended crew each) (all_entries P crew (All-tail Q ended crew each))

  pub ended_begun : (loads : List Processor) (crew : List (Ended A × LineState)) (happened : ℕ → ℕ) → HasSeen happened family → AllZip (HasEnded size steps family) loads crew → NoneOlder happened (flat_map (λ l. l.log.entries) (lines_of crew))
  ended_begun loads crew happened has all =
      all_entries (λ entry. happened entry.channel ≤ entry.number) crew (ended_each (λ ended. NoneOlder happened ended.1.log.entries) (begun_one happened has) loads crew all)

-- What workers leave beside these lines: none ended as worn without cause, and what they wrote are the writes among their accesses.
pub record AreLeft {A : Type 0} (loads : List Processor) (size steps : ℕ) (happened : ℕ → ℕ) (order : List Access) (lines : List LineState) (ws : List (Worker A)) : Type 0 where
  pub workers : AreWorkers loads size steps ws
  pub worn : All (λ w. WornWithCause happened w.finish w.pp) ws
  pub accesses : List (List Access)
  pub accessed : HaveAccessed loads order ws accesses
  pub written : flat_map (λ l. l.view.written) lines ≡ flat_map writes_among accesses

abbrev HasFew : (ℕ → ℕ) → LineState → Type 0
HasFew happened l = (c : ℕ) → seen_on c l.view.seen ≤ happened c

abbrev IsExtended : List Access → LineState → Type 0
IsExtended order l = ExtendsEach order l.view.program_orders

abbrev IsDrawn : LineState → Type 0
IsDrawn l = IsDrawnFrom l.view.program_orders l.log.entries

module _ {A : Type 0} (size steps : ℕ) (family : LineState) (opening : ℕ → List Event) (histories : List (List Event)) (begins : (c : ℕ) → IsPrefix (opening c) (history_on c histories)) (has : HasSeen (λ c. length (opening c)) family)
    (happened : ℕ → ℕ) (order : List Access) where
  pub ended_left : (loads : List Processor) (crew : List (Ended A × LineState)) (logs : List (Ended A × Vec Entry A)) → AllZip (λ ended log. IsLogBeside ended log) crew logs
      → All (HasFew happened) (lines_of crew) → All (IsExtended order) (lines_of crew) → All IsDrawn (lines_of crew) → AllZip (HasEnded size steps family) loads crew
      → AreLeft loads size steps happened (filter (is_late opening histories begins) order) (lines_of crew) (map worker_of logs)
  ended_left [] [] [] beside few extends drawn all = record { workers = tt; worn = All-nil (λ (w : Worker A). WornWithCause happened w.finish w.pp); accesses = []; accessed = tt; written = refl }
  ended_left [] [] (log ∷ logs) beside few extends drawn all = absurd beside
  ended_left [] (ended ∷ crew) logs beside few extends drawn all = absurd all
  ended_left (p ∷ loads) [] logs beside few extends drawn all = absurd all
  ended_left (p ∷ loads) (ended ∷ crew) [] beside few extends drawn all = absurd beside
  ended_left (p ∷ loads) (ended ∷ crew) (log ∷ logs) beside few extends drawn all =
      let l = ended.1 in
      let w : Worker A = worker_of log in
      let one : IsEnded p size steps all.0.line log.0 l = subst (λ (e : Ended A). IsEnded p size steps all.0.line e l) (sym beside.0.0) all.0.has in
      let more = ended_left loads crew logs beside.1 (All-tail (HasFew happened) l (lines_of crew) few) (All-tail (IsExtended order) l (lines_of crew) extends) (All-tail IsDrawn l (lines_of crew) drawn) all.1 in record {
        workers = (one.worker log.1 beside.0.1, more.workers);
        worn = All-cons (λ (w : Worker A). WornWithCause happened w.finish w.pp) w (map worker_of logs)
            (worn_later (λ c. seen_on c l.view.seen) happened w.finish w.pp (All-head (HasFew happened) l (lines_of crew) few) one.worn) more.worn;
        accesses = one.made.accesses ∷ more.accesses;
        accessed = (
          late_accessed opening histories begins p order w l one.made (begun_one size steps family (λ c. length (opening c)) has p ended all.0)
              (All-head (IsExtended order) l (lines_of crew) extends) (All-head IsDrawn l (lines_of crew) drawn) beside.0.1,
          more.accessed,
        );
        written = λ j. one.made.written j ++ more.written j;
      }
