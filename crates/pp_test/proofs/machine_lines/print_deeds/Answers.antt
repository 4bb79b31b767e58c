use Rattle.std.proofs.Common.{◌≡◌, ℕ, ◌+◌, ◌<◌, ◌++◌, List, [], ◌∷◌, length, take, sym, ap, ◌∙◌, arith}
use Rattle.std.specs.Prelude.{slice_index_or}
use Rattle.std.specs.List.{flat_map}
use Rattle.std.proofs.lemmas.List.{append-nil, take_more}
use Rattle.std.proofs.lemmas.List.Concat.{flat_map-append}
use Rattle.pp_machine.specs.declared.trace.Trace.{Trace}
use Rattle.pp_text.proofs.PrintingLemmas.{prints_nothing, prints_on}
use Rattle.pp_test.specs.RunLines.{deed_line}
use Rattle.pp_test.proofs.machine_lines.print_deeds.Goals as goal

-- their text so far, and one more line
deeds_go_on : (events : List Trace) (i : ℕ) (e : Trace) → i < length events → e ≡ slice_index_or events i e
    → flat_map deed_line (take i events) ++ deed_line e ≡ flat_map deed_line (take (i + 1) events)
deeds_go_on events i e within at =
    sym (ap (flat_map deed_line) (take_more events i e within ∙ ap (λ x. take i events ++ x ∷ []) (sym at)) ∙ (flat_map-append deed_line (take i events) (e ∷ []) ∙ ap (λ l. flat_map deed_line (take i events) ++ l) (append-nil (deed_line e))))

pub loop-entry-init : goal.loop-entry-init
loop-entry-init g c = prints_nothing _ _

pub loop-entry-preserved : goal.loop-entry-preserved
loop-entry-preserved g c =
    let within : c.loop-entry.entry-index < length c.args.events.now = omega arith in
    prints_on _ _ _ _ _ _ _ c.loop-entry.invariant c.print_deed.ensures
    (deeds_go_on c.args.events.now c.loop-entry.entry-index c.entry-item.result within c.entry-item.is)
