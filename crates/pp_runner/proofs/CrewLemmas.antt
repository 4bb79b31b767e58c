-- A worker and its line more.
use Rattle.std.proofs.Common.{◌≡◌, ℕ, ◌+◌, ◌-◌, ◌*◌, ◌<◌, ◌≤◌, List, [], ◌∷◌, ◌++◌, length, take, sym, ap, ◌∙◌, subst, arith}
use Rattle.std.specs.Prelude.{Some, All}
use Rattle.std.proofs.lemmas.List.{take_more, length-append}
use Rattle.std.proofs.lemmas.List.Elements.{All-pop, All-push, All-weaker}
use Rattle.pp_numbers.specs.Subsequence.{IsSubsequence}
use Rattle.pp_numbers.proofs.Subsequences.{stands_more}
use Rattle.pp_line.specs.LineState.{LineState, IsSplitFrom}
use Rattle.pp_line.specs.Order.{entries_among}
use Rattle.pp_line.specs.LineView.{parent_view}
use Rattle.pp_line.specs.LineLog.{IsMonotone, seen_on}
use Rattle.pp_runner.specs.Types.{End, Ended, Entry}
use Rattle.pp_machine.specs.MachineState.{MachineState, processor_of}
use Rattle.pp_processor.specs.Processor.{Processor}
use Rattle.pp_numbers.specs.PpNo.{processor_count, processor_index}
use Rattle.pp_processor.specs.Replay.{looks_and_events}
use Rattle.pp_runner.proofs.WorkerStateLemmas.{work_begun}
use Rattle.pp_runner.proofs.LogLemmas.{stands_done}
use Rattle.pp_runner.proofs.LineLemmas.{operated_least, same_line_still, same_line_twice}
use Rattle.pp_runner.specs.Crew.{AreReady, IsEnded, HasOpened}
use Rattle.pp_runner.specs.WorkerState.{IsAtWork, HasSeen, IsSameLine, HasOperated}
use Rattle.pp_runner.specs.End.{IsEnd, WornWithCause}
use Rattle.pp_runner.specs.WorkerReport.{events_in, sights_in}
use Rattle.pp_runner.specs.declared.end.End.TheVariants.{Patience}

-- a line that has seen what another has
pub same_seen : (happened : ℕ → ℕ) (line after : LineState) → after.view.seen ≡ line.view.seen → HasSeen happened line → HasSeen happened after
same_seen happened line after is has = grind arith

-- a worker that makes no further step, and whose line has its log
pub work_ended : {A : Type 0} (load : Processor) (size steps : ℕ) (line : LineState) (ended : Ended A) → IsAtWork load size steps ended.pp ended.answers.items line → length ended.answers.items ≤ steps
    → IsEnd steps ended.finish ended.pp ended.answers.items line.log.entries → WornWithCause (λ c. seen_on c line.view.seen) ended.finish ended.pp → IsEnded load size steps line ended line
work_ended load size steps line ended work few finish worn =
    let s = work_begun work in record {
      worker = λ log is. record {
        pp = work.pp_is;
        all_given = work.all_given;
        all_moved = work.all_moved;
        by_size = work.by_size;
        events = ap events_in is ∙ work.events;
        sights = subst (λ (es : List Entry). IsSubsequence (looks_and_events load ended.answers.items) (sights_in es)) (sym is) (stands_done work.done line.log _ s work.sights);
        monotone = subst IsMonotone (sym is) work.monotone;
        few_answers = few;
        few_entries = omega (arith, ap length is, s.few, work.few_entries);
        finish = subst (IsEnd steps ended.finish ended.pp ended.answers.items) (sym is) finish;
      };
      made = record {
        accesses = work.made.accesses;
        given = work.made.given;
        program_order = work.made.program_order;
        only = work.made.only;
        accessed = work.made.accessed;
        logged = subst (IsSubsequence (entries_among work.made.accesses)) (sym s.is) (stands_more (entries_among work.made.accesses) work.done s.rest work.made.logged);
        written = work.made.written;
      };
      worn = worn;
      same_line = same_line_still line;
    }

-- a worker that has ended began with the line that it had at first
pub ended_since : {A : Type 0} (load : Processor) (size steps : ℕ) (line mid : LineState) (ended : Ended A × LineState) → IsSameLine line mid → IsEnded load size steps mid ended.0 ended.1 → IsEnded load size steps line ended.0 ended.1
ended_since load size steps line mid ended same one =
    record { worker = one.worker; made = one.made; worn = one.worn; same_line = same_line_twice line mid ended.1 same one.same_line }

-- a worker that has given up, with the line that it had at first, at the beginning of its last step, and at its end
pub gave_up : {A : Type 0} (patience : ℕ) (line mid after : LineState) (finish : End) (ended : Ended A × LineState) → length line.view.found ≤ length mid.view.found → (finish ≡ Patience → HasOperated patience mid after)
    → ended.1 ≡ after → ended.0.finish ≡ finish → (ended.0.finish ≡ Patience → length line.view.found + patience ≤ length ended.1.view.found)
gave_up patience line mid after finish ended more operated same was = grind (arith, operated_least)

-- one that has not
pub not_given_up : {A : Type 0} (patience : ℕ) (line : LineState) (finish : End) (ended : Ended A × LineState) → (finish ≡ Patience → ⊥)
    → ended.0.finish ≡ finish → (ended.0.finish ≡ Patience → length line.view.found + patience ≤ length ended.1.view.found)
not_given_up patience line finish ended other was = λ is. absurd (other (sym was ∙ is))

-- the first processors, with the one that comes next
pub processors_push : (m : MachineState) (n left total : ℕ) (load : Processor) → processor_index n ≡ left → left < length m.processors → total ≡ left + 1 → load ≡ processor_of n m → take total m.processors ≡ take left m.processors ++ load ∷ []
processors_push m n left total load at below sum is = grind (arith, take_more)

-- the last line, and those before it
pub record IsTaken (m : MachineState) (size steps : ℕ) (family line : LineState) (others : List LineState) : Type 0 where
  pub each : length m.processors ≡ processor_count
  pub count : length others < processor_count
  pub fresh : IsSplitFrom family (2 * steps + 1) line
  pub fresh_others : All (IsSplitFrom family (2 * steps + 1)) others
  pub central : length family.view.central ≡ size

pub taken_of : (m : MachineState) (size steps : ℕ) (family line : LineState) (lines others : List LineState) → lines ≡ others ++ line ∷ [] → AreReady m size steps family lines → IsTaken m size steps family line others
taken_of m size steps family line lines others is ready =
    let parts = All-pop (IsSplitFrom family (2 * steps + 1)) lines others (Some line) is ready.fresh in record {
      each = ready.each;
      count = omega (arith, ready.count, ap length is, length-append others (line ∷ []));
      fresh = parts.1;
      fresh_others = parts.0;
      central = ready.central;
    }

-- those before the last are ready too
pub ready_before : (m : MachineState) (size steps : ℕ) (family line : LineState) (others : List LineState) → IsTaken m size steps family line others → AreReady m size steps family others
ready_before m size steps family line others taken = grind arith

-- a line that gives a share to another has one less, and has opened what it had
pub opened_split : (m : MachineState) (all some : ℕ) (first after : LineState) → after ≡ record first { view = parent_view first.view } → HasOpened m all some first → HasOpened m all (some - 1) after
opened_split m all some first after is has = grind (arith, same_seen)

-- a line that gives a share to another is of the same family as before
pub split_more : (room : ℕ) (first after line : LineState) (lines : List LineState) → after ≡ record first { view = parent_view first.view } → IsSplitFrom first room line →
    All (IsSplitFrom first room) lines → All (IsSplitFrom after room) (lines ++ line ∷ [])
split_more room first after line lines is split all =
    let same : (other : LineState) → IsSplitFrom first room other → IsSplitFrom after room other = λ other b. subst (λ (parent : LineState). IsSplitFrom parent room other) (sym is) (record { log = b.log; view = b.view; table = b.table }) in
    All-push (IsSplitFrom after room) lines line (All-weaker (IsSplitFrom first room) (IsSplitFrom after room) same lines all) (same line split)
