use Rattle.std.proofs.Common.{rules, ◌≡◌, Vec, List, length, [], ◌++◌, get_or, take, arith, ap, subst, sym, ◌∙◌}
use Rattle.std.specs.List.{flat_map, fold}
use Rattle.std.proofs.lemmas.List.{ext_get_or, get_or_read, length-set, get_or-set_other, take_all}
use Rattle.std.proofs.lemmas.List.Sums.{fold-append}
use Rattle.pp_channel.specs.History.{IsLawful, HasTwelveBitWords}
use Rattle.pp_channel.specs.declared.event.Event.{Event}
use Rattle.pp_channel.proofs.EachHistory.{lawful_at, bits_at}
use Rattle.pp_line.specs.Merge.{with_entry}
use Rattle.pp_line.proofs.ListFacts.{flat_map_more}
use Rattle.pp_line.proofs.RecordedLemmas.{histories_filled, count-filled, placed_more}
use Rattle.pp_line.proofs.recorded_history.recorded_channels.Goals as goal

pub loop-other-init : goal.loop-other-init
loop-other-init g c = grind (arith, count-filled)

pub loop-other-preserved : goal.loop-other-preserved
loop-other-preserved g c = record {
  each = ap length c.put_log-in-loop-other.ensures ∙ (count-filled c.as_slice.result.now c.loop-other.histories.items ∙ c.loop-other.invariant.each);
  filled =
      let before = c.put_log.new.histories.items in
      let recorded = flat_map (λ other. other.1.items) (take c.loop-other.other-index c.args.others.now) in
      c.put_log-in-loop-other.ensures
      ∙ (ap (fold with_entry c.loop-other.histories.items) c.as_slice.ensures.value
      ∙ (ap (λ hs. fold with_entry hs c.other-item.result.1.items) c.loop-other.invariant.filled
      ∙ (sym (fold-append with_entry before recorded c.other-item.result.1.items)
      ∙ ap (fold with_entry before) (sym (flat_map_more (λ other. other.1.items) c.args.others.now c.loop-other.other-index c.other-item.result c.loop-other-test.true c.other-item.is)))));
}

pub of_history-requires : goal.of_history-requires
of_history-requires g c =
    let told = c.requires in
    let taken : c.replace-events.result.items ≡ get_or c.loop-place.histories.items c.loop-place.place [] =
    ap (λ (v : Vec Event g.row.A.Denot). v.items) c.replace-events.ensures.value ∙ (c.history.view_is
    ∙ get_or_read c.loop-place.histories.items c.loop-place.place c.index_mut-history.result.now (omega (arith, c.loop-place.invariant.each_history, c.loop-place-test.true)) c.index_mut-history.ensures.value []) in
    let is = taken ∙ c.loop-place.invariant.left told.0 told.1 c.loop-place.place (omega arith) in record {
      lawful = subst (λ (h : List Event). IsLawful h) (sym is) (lawful_at told.0 c.loop-place.place told.1.sound.lawful);
      twelve_bits = subst (λ (h : List Event). HasTwelveBitWords h) (sym is) (bits_at told.0 c.loop-place.place told.1.sound.twelve_bits);
    }

pub loop-place-init : goal.loop-place-init
loop-place-init g c = record {
  each = search rules;
  each_history = c.loop-other.invariant.each;
  done = λ hs told k below. absurd (omega (arith, below));
  left =
      let unplaced = c.in_ok-histories.histories.items in
      let log = c.args.log.now in
      let others = c.args.others.now in
      let rest = flat_map (λ other. other.1.items) others in
      λ hs told k above. ap (λ all. get_or all k []) (c.loop-other.invariant.filled
      ∙ (ap (λ os. fold with_entry c.put_log.new.histories.items (flat_map (λ other. other.1.items) os)) (take_all c.loop-other.other-index others c.loop-other-test.false)
      ∙ (ap (λ hs. fold with_entry hs rest) c.put_log.ensures
      ∙ (sym (fold-append with_entry unplaced log rest)
      ∙ histories_filled hs unplaced c.args.seen.now (log ++ rest) told c.in_ok-histories.ensures.each_channel c.in_ok-histories.ensures.each_event))));
}

pub loop-place-preserved : goal.loop-place-preserved
loop-place-preserved g c =
    let channels = c.loop-place.channels in
    let place = c.loop-place.place in
    let histories = c.loop-place.histories.items in
    let taken : c.replace-events.result.items ≡ get_or c.loop-place.histories.items c.loop-place.place [] =
    ap (λ (v : Vec Event g.row.A.Denot). v.items) c.replace-events.ensures.value ∙ (c.history.view_is
    ∙ get_or_read c.loop-place.histories.items c.loop-place.place c.index_mut-history.result.now (omega (arith, c.loop-place.invariant.each_history, c.loop-place-test.true)) c.index_mut-history.ensures.value []) in
    let before = c.loop-place.invariant in record {
      each = ap length c.put_channel.ensures ∙ (length-set channels place c.of_history.result ∙ before.each);
      each_history = length-set histories place _ ∙ before.each_history;
      done = λ hs told k below. ap (λ all. get_or all k []) c.put_channel.ensures
          ∙ placed_more [] channels place c.of_history.result (λ i. get_or hs i []) (omega (arith, before.each, c.loop-place-test.true)) (before.done hs told)
          (c.of_history.ensures ∙ (taken ∙ before.left hs told place (omega arith))) k below;
      left = λ hs told k above. get_or-set_other histories place k _ [] (λ is. omega (arith, is, above)) ∙ before.left hs told k (omega (arith, above));
    }

pub returns : goal.returns
returns g c histories told =
    ext_get_or [] c.loop-place.channels histories (c.loop-place.invariant.each ∙ sym told.sound.each_channel) (λ k inside. c.loop-place.invariant.done histories told k (let each = c.loop-place.invariant.each in omega arith))
