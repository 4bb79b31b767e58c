-- What a look leaves in the tables.
use Rattle.std.proofs.Common.{◌≡◌, ℕ, ◌<◌, Bool, IsTrue, List, ◌++◌, length, slice_set, Option, Some, None, sym, ap, ◌∙◌, subst}
use Rattle.std.specs.Prelude.{if◌then◌else◌}
use Rattle.std.specs.Option.{option_or}
use Rattle.pp_channel.specs.Answer.{flags_of}
use Rattle.pp_numbers.specs.ChannelNo.{names_channel}
use Rattle.pp_channel.specs.declared.{chan_op.ChanOp.ChanOp, flags.Flags.Flags}
use Rattle.pp_machine.specs.MachineState.{MachineState, processor_of, history_of}
use Rattle.pp_numbers.specs.PpNo.{names_processor}
use Rattle.pp_machine.specs.declared.trace.Trace.{Trace}
use Rattle.pp_races.specs.ByFlags.{at}
use Rattle.pp_races.specs.Cursor.{IsCursor}
use Rattle.pp_races.specs.OtherFlags.{found_at, is_alike, is_race}
use Rattle.pp_races.specs.Tables.{Looks, cursor_of, entry_place, events_of, looks_of}
use Rattle.pp_races.specs.Watch.{Watch, asking_step, first_race, from_alike, looked, race_before}
use Rattle.pp_races.specs.WatchTables.{AreKept}
use Rattle.pp_races.specs.declared.{asking_step.AskingStep.AskingStep, by_flags.ByFlags.ByFlags, cursor.Cursor.Cursor, finding.Finding.Finding, missed.Missed.Missed, word_use.WordUse.WordUse}
use Rattle.pp_races.proofs.CursorLemmas.{first_race_same, from_alike_same}
use Rattle.pp_races.proofs.EntryLemmas.{cursors_set, looks_set, put_here, put_other}

pub look_kept : (m : MachineState) (w : Watch) (n c : ℕ) (op : ChanOp) (words : ℕ) (events : List (List Missed)) (cursors : List Cursor) (looks : List Looks) (uses : List WordUse) (found next : List Finding) (cursor : Cursor) (new : Looks) (alike races : ByFlags Bool) (race : Option Trace) (step : AskingStep)
    → IsTrue (names_processor n) → IsTrue (names_channel c) → entry_place n c < length cursors → entry_place n c < length looks
    → ((f : Flags) → at alike f ≡ is_alike (found_at op (processor_of n m) (flags_of (history_of c m)) f))
    → ((f : Flags) → at races f ≡ is_race (found_at op (processor_of n m) (flags_of (history_of c m)) f))
    → step ≡ asking_step n c m
    → race ≡ first_race (at races) (w.missed n c)
    → next ≡ found ++ race_before step race
    → IsCursor (events_of events c) (from_alike (at alike) (w.missed n c)) cursor
    → ((f : Flags) → at new f ≡ option_or (at (looks_of looks n c) f) (if at alike f then None else Some step))
    → AreKept events cursors looks uses found words w
    → AreKept events (slice_set cursors (entry_place n c) cursor) (slice_set looks (entry_place n c) new) uses next words (looked n c op m w)
look_kept m w n c op words events cursors looks uses found next cursor new alike races race step n_named c_named within also alike_is races_are step_is race_is next_is cursor_is new_is are = record {
  cursors_are = cursors_set events (looked n c op m w) cursors n c cursor n_named c_named within
      (subst (λ (x : List Missed). IsCursor (events_of events c) x cursor) (from_alike_same (at alike) _ alike_is (w.missed n c) ∙ sym (put_here n c _ w.missed)) cursor_is)
      (λ q e q_named e_named apart. subst (λ (x : List Missed). IsCursor (events_of events e) x (cursor_of cursors q e)) (sym (put_other n c q e _ w.missed apart)) (are.cursors_are q e q_named e_named));
  looks_are = looks_set (looked n c op m w) looks n c new n_named c_named also
      (λ f. new_is f ∙ ap (λ (o : Option AskingStep). option_or o (if at alike f then None else Some step)) (are.looks_are n c n_named c_named f)
      ∙ ap (λ (t : Bool). option_or (w.looks n c f) (if t then None else Some step)) (alike_is f)
      ∙ ap (λ (s : AskingStep). option_or (w.looks n c f) (if is_alike (found_at op (processor_of n m) (flags_of (history_of c m)) f) then None else Some s)) step_is
      ∙ ap (λ (l : Flags → Option AskingStep). l f) (sym (put_here n c _ w.looks)))
      (λ q e q_named e_named apart f. are.looks_are q e q_named e_named f ∙ ap (λ (l : Flags → Option AskingStep). l f) (sym (put_other n c q e _ w.looks apart)));
  words_are = are.words_are;
  uses_are = are.uses_are;
  found_are = next_is ∙ ap (λ (x : List Finding). x ++ race_before step race) are.found_are
      ∙ ap (λ (s : AskingStep). w.findings ++ race_before s race) step_is
      ∙ ap (λ (r : Option Trace). w.findings ++ race_before (asking_step n c m) r) (race_is ∙ first_race_same (at races) _ races_are (w.missed n c));
}
