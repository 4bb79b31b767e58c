use Rattle.std.proofs.Common.{◌≡◌, ap, arith, refl, sym, ◌∙◌}
use Rattle.std.specs.Prelude.{filter_map, option_to_list}
use Rattle.pp_numbers.specs.PpNo.{all_processors, processor_count, processor_number}
use Rattle.pp_numbers.specs.Tables.{tabulate}
use Rattle.pp_deck.specs.DeckMeaning.{LoadedDeck}
use Rattle.pp_lint.specs.ChannelUse.{alone_use, use_of_one, user}
use Rattle.pp_lint.proofs.ChannelUseLemmas.{first_found, none_here, none_yet, not_alone}
use Rattle.pp_lint.proofs.channel_use.alone_use.Goals.{in-Some+else-is_some, in_default}
use Rattle.pp_lint.proofs.channel_use.alone_use.Goals as goal

pub loop-place-init : goal.loop-place-init
loop-place-init g c = none_yet _ processor_number

pub returns-then-is_some : goal.returns-then-is_some
unfolding all_processors alone_use
returns-then-is_some g c =
    let deck : LoadedDeck = record { machine = c.args.deck.now.machine; named = c.args.deck.now.named } in
    rw (sym c.opened-is_opened.ensures ∙ c.if-is_opened.false) (not_alone deck c.args.c c.loop-place.place processor_count c.loop-place.found c.in-Some.n (omega (arith, c.loop-place-test.true)) (sym c.is_some.ensures ∙ c.if-is_some.true) c.loop-place.invariant
    (c.in-Some.ensures ∙ ap (user deck c.args.c) c.at.ensures.number))

pub loop-place-preserved : goal.loop-place-preserved
loop-place-preserved g c =
    let deck : LoadedDeck = record { machine = c.args.deck.now.machine; named = c.args.deck.now.named } in
    elim c.match-user.branch [
      | in-Some+else-is_some w ↦ rw w.found-is (first_found deck c.args.c c.loop-place.place c.loop-place.found w.in-Some.n (sym w.is_some.ensures ∙ w.if-is_some.false) c.loop-place.invariant (w.in-Some.ensures ∙ ap (user deck c.args.c) c.at.ensures.number))
      | in_default w ↦ rw w.found-is (none_here (user deck c.args.c) processor_number c.loop-place.place (option_to_list c.loop-place.found) c.loop-place.invariant (w.in_default.ensures ∙ ap (user deck c.args.c) c.at.ensures.number))
    ]

pub returns : goal.returns
unfolding all_processors alone_use
returns g c =
    let deck : LoadedDeck = record { machine = c.args.deck.now.machine; named = c.args.deck.now.named } in
    let all : c.loop-place.place ≡ processor_count = omega (arith, c.loop-place.auto.place-end, c.loop-place-test.false) in
    rw (sym c.opened-is_opened.ensures ∙ c.if-is_opened.false) (c.use_of.ensures ∙ ap (use_of_one deck c.args.c) (sym c.loop-place.invariant ∙ ap (λ k. filter_map (user deck c.args.c) (tabulate k processor_number)) all))

pub returns-then-is_opened : goal.returns-then-is_opened
unfolding alone_use
returns-then-is_opened g c = rw (sym c.opened-is_opened.ensures ∙ c.if-is_opened.true) refl
