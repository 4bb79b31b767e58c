use Rattle.std.proofs.Common.{[], rules, not}
use Rattle.pp_text.proofs.PrintingLemmas.{prints_on}
use Rattle.pp_deck.specs.DeckMeaning.{LoadedDeck}
use Rattle.pp_endings.proofs.TextLemmas.{whole_text}
use Rattle.pp_endings.proofs.endings_text.write_found.Goals as goal

pub returns : goal.returns
returns g c =
    let deck : LoadedDeck = record { machine = c.args.source.now.load.now.machine; named = c.args.source.now.load.now.named } in
    let found = c.args.found.now in
    let printed = prints_on _ _ _ _ _ _ _ c.print_head.ensures c.in_ok-print_endings.ensures
    (whole_text deck (λ ending. ending.order.items) (λ ending. ending.goes_on) c.as_slice-endings.result.now found.endings.items (not found.are_all) c.as_slice-endings.ensures.value) in
    let written = c.finish.ensures.written _ _ (printed.goes_on _ [] c.new-text.ensures.nothing) in
    search (rules, written)
