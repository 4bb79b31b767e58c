use Rattle.std.proofs.Common.{[], ◌∷◌, refl, sym, ap, ◌∙◌, length}
use Rattle.std.specs.List.{fold}
use Rattle.std.proofs.lemmas.List.{take_all}
use Rattle.std.proofs.lemmas.List.Sums.{fold_more}
use Rattle.pp_line.specs.Merge.{with_entry}
use Rattle.pp_line.proofs.RecordedLemmas.{count-filled}
use Rattle.pp_line.proofs.recorded_history.put_log.Goals as goal

pub loop-entry-init : goal.loop-entry-init
loop-entry-init g c = record { each = c.requires; filled = refl }

pub loop-entry-preserved : goal.loop-entry-preserved
loop-entry-preserved g c =
    let log = c.args.log.now in
    let i = c.loop-entry.entry-index in
    let entry = c.entry-item.result in record {
      each = ap length c.put_entry.ensures ∙ (count-filled (entry ∷ []) c.loop-entry.histories.items ∙ c.loop-entry.invariant.each);
      filled = c.put_entry.ensures ∙ ((λ j. with_entry (c.loop-entry.invariant.filled j) (c.entry-item.is j)) ∙ sym (fold_more with_entry c.args.histories.now.items log i entry c.loop-entry-test.true));
    }

pub returns : goal.returns
returns g c = c.loop-entry.invariant.filled ∙ ap (fold with_entry c.args.histories.now.items) (take_all c.loop-entry.entry-index c.args.log.now c.loop-entry-test.false)
