-- What a report of a run tells of its ends, and its text of the processors named.
use Rattle.std.proofs.Common.{◌≡◌, ℕ, Bool, true, false, List, [], ◌∷◌, Option, None, All, take, length, refl, sym, arith}
use Rattle.std.specs.Prelude.{IsTrue, if◌then◌else◌}
use Rattle.std.proofs.lemmas.Bool.{ltb-true}
use Rattle.std.proofs.lemmas.Option.{slice_get_cases}
use Rattle.std.proofs.lemmas.List.Elements.{All-nil}
use Rattle.std.specs.List.{AllZip}
use Rattle.pp_machine.specs.MachineState.{MachineState}
use Rattle.pp_processor.specs.Processor.{Processor}
use Rattle.pp_numbers.specs.PpNo.{is_named}
use Rattle.pp_numbers.specs.Profile.{processors_in, has_processor}
use Rattle.pp_numbers.specs.declared.profile.Profile.{Profile}
use Rattle.pp_deck.specs.DeckLaw.{NamesWithin}
use Rattle.pp_runner.specs.Report.{IsReportOf}
use Rattle.pp_numbers.specs.Limits.{RunLimits}
use Rattle.pp_runner.specs.End.{HasEndNumber}
use Rattle.pp_runner.specs.WorkerReport.{IsWorker}
use Rattle.pp_runner.specs.declared.{report.Report.Report, worker.Worker.Worker}
use Rattle.pp_report.specs.ReportLaw.{ShownEnd, end_of, shown_of}
use Rattle.pp_text.specs.TextLaw.{NameAlike}

each_numbered : {Z : Type 0} (size steps : ℕ) (loads : List Processor) (workers : List (Worker Z))
    → AllZip (λ load w. IsWorker load size steps w) loads workers → All (λ (w : Worker Z). HasEndNumber w.finish) workers
each_numbered {Z} size steps [] [] each = All-nil (λ (w : Worker Z). HasEndNumber w.finish)
each_numbered {Z} size steps [] (w ∷ ws) each = absurd each
each_numbered {Z} size steps (load ∷ loads) [] each = absurd each
each_numbered {Z} size steps (load ∷ loads) (w ∷ ws) each = grind (arith, each_numbered size steps loads ws each.1)

-- a worker of a run that ended at a fault is at a numbered one
pub report_numbered : {Z : Type 0} (limits : RunLimits) (machine : MachineState) (report : Report Z) → IsReportOf limits machine report → All (λ (w : Worker Z). HasEndNumber w.finish) report.ends.items
report_numbered {Z} limits machine report is = each_numbered _ limits.steps (take (processors_in machine.profile) machine.processors) report.ends.items is.workers

-- where each that is named is shown, it is named just where it is shown
shown_where_named : (b d : Bool) (s t : Option ShownEnd) → (b ≡ true → s ≡ None → ⊥) → (d ≡ true → t ≡ None → ⊥) → (if b then s else None) ≡ (if d then t else None) → b ≡ d
shown_where_named true true s t _ _ e = refl
shown_where_named true false s t some _ e = absurd (some refl e)
shown_where_named false true s t _ some e = absurd (some refl (sym e))
shown_where_named false false s t _ _ e = refl

has_end : {Z : Type 0} (p : Profile) (n : ℕ) (report : Report Z) → length report.ends.items ≡ processors_in p → IsTrue (has_processor p n) → end_of n report ≡ None → ⊥
unfolding has_processor
has_end {Z} p n report all has none = grind (arith, slice_get_cases, ltb-true)

-- a processor that is named has its line
named_shown : {Z : Type 0} (p : Profile) (named : List Bool) (n : ℕ) (report : Report Z) → NamesWithin p named → length report.ends.items ≡ processors_in p → is_named named n ≡ true → end_of n report ≡ None → ⊥
named_shown p named n report within all is = grind (arith, has_end)

-- which processors are named is shown by a report with a worker for each processor of its profile
pub report_names : {Y Z : Type 0} (p q : Profile) (named others : List Bool) (one : Report Y) (other : Report Z) → NamesWithin p named → NamesWithin q others
    → length one.ends.items ≡ processors_in p → length other.ends.items ≡ processors_in q
    → ((n : ℕ) → shown_of named n one ≡ shown_of others n other) → NameAlike named others
report_names {Y} {Z} p q named others one other within also_within each also same n =
    shown_where_named (is_named named n) (is_named others n) (end_of n one) (end_of n other) (named_shown p named n one within each) (named_shown q others n other also_within also) (same n)
