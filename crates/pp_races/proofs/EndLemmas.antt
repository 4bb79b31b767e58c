-- What is found at the end of a run.
use Rattle.std.proofs.Common.{◌≡◌, ℕ, ◌+◌, Bool, true, false, IsTrue, List, [], ◌∷◌, ◌++◌, Option, refl, sym, ap, ap₂, ◌∙◌, append-nil, append_assoc}
use Rattle.std.specs.Prelude.{not, if◌then◌else◌}
use Rattle.pp_numbers.specs.Tables.{tabulate}
use Rattle.pp_numbers.proofs.TableLemmas.{tabulate_same}
use Rattle.pp_channel.specs.Answer.{flags_of}
use Rattle.pp_channel.specs.declared.{chan_op.ChanOp.ChanOp, flags.Flags.Flags}
use Rattle.pp_machine.specs.MachineState.{MachineState, processor_of, history_of}
use Rattle.pp_numbers.specs.PpNo.{each_processor, names_processor, processor_count, processor_number, processor_places}
use Rattle.pp_processor.specs.declared.need.Need.{Need}
use Rattle.pp_processor.specs.declared.need.Need.TheVariants.{Channel}
use Rattle.pp_machine.specs.declared.trace.Trace.{Trace}
use Rattle.pp_text.proofs.PrintingLemmas.{each_below_suc}
use Rattle.pp_races.specs.Findings.{end_by_need, held_before, is_shared, sharing_of}
use Rattle.pp_races.specs.OtherFlags.{waits_at}
use Rattle.pp_races.specs.Tables.{IsUseOf, Looks, has_bit}
use Rattle.pp_races.specs.Watch.{Watch, asking_step, each_below, first_race}
use Rattle.pp_races.specs.declared.{asking_step.AskingStep.AskingStep, cursor.Cursor.Cursor, finding.Finding.Finding, missed.Missed.Missed, word_use.WordUse.WordUse}
use Rattle.pp_races.specs.WatchTables.{AreKept, finds}
use Rattle.pp_races.specs.declared.finding.Finding.TheVariants.{GoingOn, Shared}
use Rattle.pp_races.proofs.CursorLemmas.{first_race_same}

-- ---- lists that grow place by place

pub each_none : {X : Type 0} (of : ℕ → List X) (first : List X) → first ≡ first ++ each_below 0 of
unfolding each_below
each_none of first = sym (append-nil first)

pub each_more : {X : Type 0} (of : ℕ → List X) (first found next : List X) (place : ℕ) → found ≡ first ++ each_below place of → next ≡ found ++ of place → next ≡ first ++ each_below (place + 1) of
each_more of first found next place found_is next_is =
    next_is ∙ ap (λ x. x ++ of place) found_is ∙ append_assoc first (each_below place of) (of place) ∙ ap (λ x. first ++ x) (each_below_suc place of)

-- ---- a processor

-- the tables, of which more is found
pub found_more : (events : List (List Missed)) (cursors : List Cursor) (looks : List Looks) (uses : List WordUse) (found next more : List Finding) (words : ℕ) (w : Watch) → next ≡ found ++ more
    → AreKept events cursors looks uses found words w → AreKept events cursors looks uses next words (finds more w)
found_more events cursors looks uses found next more words w next_is are = record {
  cursors_are = are.cursors_are;
  looks_are = are.looks_are;
  words_are = are.words_are;
  uses_are = are.uses_are;
  found_are = next_is ∙ ap (λ x. x ++ more) are.found_are;
}

-- the same, by equal findings
pub found_as : (events : List (List Missed)) (cursors : List Cursor) (looks : List Looks) (uses : List WordUse) (found : List Finding) (words : ℕ) (w : Watch) (findings : List Finding) → w.findings ≡ findings
    → AreKept events cursors looks uses found words w → AreKept events cursors looks uses found words (record w { findings = findings })
found_as events cursors looks uses found words w findings same are = record {
  cursors_are = are.cursors_are;
  looks_are = are.looks_are;
  words_are = are.words_are;
  uses_are = are.uses_are;
  found_are = are.found_are ∙ same;
}

-- what is found of a processor does not depend on other findings
pub end_apart : (x : Need) (q : ℕ) (m : MachineState) (w : Watch) (more : List Finding) → end_by_need x q m (finds more w) ≡ end_by_need x q m w
end_apart Need.Local q m w more = refl
end_apart a q m w more = refl

module _ (m : MachineState) (w : Watch) (n c : ℕ) (op : ChanOp) (waits : Bool) (waits_is : waits ≡ waits_at op (processor_of n m) (flags_of (history_of c m))) where
  pub goes_on : waits ≡ false → GoingOn n ∷ [] ≡ end_by_need (Channel c op) n m w
  goes_on fails = ap (λ (t : Bool). if t then held_before (asking_step n c m) (first_race (λ f. not (waits_at op (processor_of n m) f)) (w.missed n c)) else GoingOn n ∷ []) (sym fails ∙ waits_is)

  pub is_held : (race : Option Trace) (step : AskingStep) (test : Flags → Bool) → waits ≡ true → step ≡ asking_step n c m → race ≡ first_race test (w.missed n c) → ((f : Flags) → test f ≡ not (waits_at op (processor_of n m) f))
      → held_before step race ≡ end_by_need (Channel c op) n m w
  is_held race step test holds step_is race_is tests =
      ap (λ (s : AskingStep). held_before s race) step_is
      ∙ ap (λ (r : Option Trace). held_before (asking_step n c m) r) (race_is ∙ first_race_same test (λ f. not (waits_at op (processor_of n m) f)) tests (w.missed n c))
      ∙ ap (λ (t : Bool). if t then held_before (asking_step n c m) (first_race (λ f. not (waits_at op (processor_of n m) f)) (w.missed n c)) else GoingOn n ∷ []) (sym holds ∙ waits_is)

-- ---- central words

flags_are : (mask : ℕ) (test : ℕ → Bool) (flags : List Bool) → flags ≡ tabulate processor_count (λ place. has_bit mask (processor_number place))
    → ((q : ℕ) → IsTrue (names_processor q) → has_bit mask q ≡ test q) → flags ≡ each_processor test
flags_are mask test flags is same =
    is ∙ tabulate_same false processor_count (λ place. has_bit mask (processor_number place)) (λ place. test (processor_number place))
    (λ place low. same (processor_number place) (processor_places.number_named place low))

module _ (w : Watch) (a : ℕ) (use_of : WordUse) (writers users : List Bool) (is : IsUseOf w.wrote w.used a use_of)
    (writers_are : writers ≡ tabulate processor_count (λ place. has_bit use_of.writers (processor_number place)))
    (users_are : users ≡ tabulate processor_count (λ place. has_bit use_of.users (processor_number place))) where
  both : (λ (x y : List Bool). if is_shared x y then Shared a x y ∷ [] else []) writers users ≡ sharing_of w a
  both = ap₂ (λ (x y : List Bool). if is_shared x y then Shared a x y ∷ [] else [])
      (flags_are use_of.writers (w.wrote a) writers writers_are is.wrote) (flags_are use_of.users (w.used a) users users_are is.used)

  pub sharing_is : is_shared writers users ≡ true → Shared a writers users ∷ [] ≡ sharing_of w a
  sharing_is shared = ap (λ (t : Bool). if t then Shared a writers users ∷ [] else []) (sym shared) ∙ both

  pub sharing_not : is_shared writers users ≡ false → [] ≡ sharing_of w a
  sharing_not apart = ap (λ (t : Bool). if t then Shared a writers users ∷ [] else []) (sym apart) ∙ both
