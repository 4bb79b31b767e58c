use Rattle.std.proofs.Common.{◌≡◌, ◌+◌, ◌-◌, ℕ, option_map, sym, subst, [], length, map, ◌∙◌, ap, Some, None, slice_index_or, arith}
use Rattle.std.specs.Prelude.{nat_lt, if◌then◌else◌}
use Rattle.std.proofs.Math.ListN.{get_or-map}
use Rattle.std.proofs.lemmas.List.{drop_all, get_or-replicate, length-map, length-replicate}
use Rattle.pp_numbers.specs.ChannelNo.{channel_index}
use Rattle.pp_channel.specs.History.{history_on}
use Rattle.pp_line.specs.Merge.{times_logged}
use Rattle.pp_report.specs.Types.{Worker}
use Rattle.pp_report.proofs.AuthorLemmas.{author_from, author_more, author_of_all}
use Rattle.pp_report.specs.Authors.{authors_on, no_authors}
use Rattle.pp_report.proofs.authors.authors.Goals as goal

pub loop-place-init : goal.loop-place-init
loop-place-init g c =
    let made = c.in_ok-authors.ensures in
    let workers = c.args.workers.now in
    let on : (k : ℕ) → authors_on k (map no_authors c.args.channels.now) ≡ no_authors (history_on k c.args.channels.now) =
    λ k. get_or-map no_authors c.args.channels.now (channel_index k) [] in record {
      each = ap length made ∙ length-map c.args.channels.now no_authors ∙ c.type_inv.channels;
      each_event = λ k. ap (λ all. length (authors_on k all)) made ∙ ap length (on k) ∙ length-replicate _ _;
      found = grind (arith, slice_index_or, get_or-replicate, option_map, drop_all);
    }

pub loop-place-preserved : goal.loop-place-preserved
loop-place-preserved g c =
    let before = c.loop-place.invariant in
    let place = c.loop-place.place - 1 in
    let here : c.loop-place.place ≡ place + 1 = omega (arith, c.loop-place-test.true) in record {
      each = c.mark.ensures.each_channel;
      each_event = λ k. c.mark.ensures.each_event k ∙ before.each_event k;
      found = λ k number names l. author_more k number place c.args.workers.now c.index-workers-place.result _ _ _ (omega arith) c.index-workers-place.is c.at.ensures.number
          (subst (λ (at : ℕ). slice_index_or (authors_on k c.loop-place.authors.items) number None ≡ author_from k number at c.args.workers.now) here (before.found k number names l))
          (c.mark.ensures.marked k number names (let long = before.each_event k in omega (arith, long, l))
          ∙ ap (λ log. if nat_lt 0 (times_logged k number log) then Some c.at.result else slice_index_or (authors_on k c.loop-place.authors.items) number None) (c.as_slice.ensures.value ∙ ap (λ (w : Worker g.row.A.Denot). w.log.items) (sym c.index-workers-place.is)));
    }

pub returns-clause-authors : goal.returns-clause-authors
returns-clause-authors g c = grind (arith, slice_index_or, author_from, author_of_all)

pub at-requires : goal.at-requires
at-requires g c = omega (arith, c.loop-place-test.true, c.requires)
