use Rattle.std.proofs.Common.{[], ◌∙◌, List, ℕ, Bool, length, ◌++◌, ap, refl, rules, sym, subst}
use Rattle.pp_deck.specs.DeckLine.{central_size}
use Rattle.pp_text.proofs.PrintingLemmas.{◌▹◌, prints_then}
use Rattle.pp_text.specs.TextWriter.{Prints}
use Rattle.pp_listing.specs.Dump.{order_comment}
use Rattle.pp_listing.specs.ListedLine.{deck_line, text_of}
use Rattle.pp_listing.specs.Listing.{central_word_lines, sections}
use Rattle.pp_listing.proofs.DumpLawLemmas.{dump_in_parts, goes_on}
use Rattle.pp_listing.proofs.dumped_deck.write_dump.Goals as goal

pub returns-clause-goes_on : goal.returns-clause-goes_on
returns-clause-goes_on g c = λ between. goes_on _ c.args.order.now (record { machine = c.args.deck.now.machine; named = c.args.deck.now.named }) refl between

pub returns-clause-dumped : goal.returns-clause-dumped
returns-clause-dumped g c =
    let m = c.args.deck.now.machine in
    let text_by : List ℕ → List ℕ → List Bool → List ℕ = λ size central named. order_comment c.args.order.now ++ (deck_line (central_size (length size)) ++ text_of (central_word_lines central) ++ text_of (sections named m)) in
    let is = ap (λ size. text_by size c.central-2.result.now c.in_use-named.result) c.central.ensures ∙ ap (λ central. text_by m.central central c.in_use-named.result) c.central-2.ensures ∙ ap (text_by m.central m.central) c.in_use-named.ensures ∙ sym (dump_in_parts c.args.order.now (record { machine = m; named = c.args.deck.now.named })) in
    let printed = subst (Prints _ _ _) is (prints_then _ _ _ _ _ _ c.print_order_comment.ensures (c.print_size.ensures ▹ c.print_central.ensures ▹ c.print_sections.ensures)) in
    let written = c.finish.ensures.written _ _ (printed.goes_on _ [] c.new-text.ensures.nothing) in
    search (rules, written)
