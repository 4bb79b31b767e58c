use Rattle.std.proofs.Common.{ap, append_assoc, subst, sym, ◌∙◌, List, ℕ, ◌++◌}
use Rattle.std.proofs.lemmas.List.Concat.{flat_map-append}
use Rattle.pp_deck.specs.DeckLine.{section}
use Rattle.pp_processor.specs.Processor.{Processor, word_at}
use Rattle.pp_text.proofs.PrintingLemmas.{◌▹◌}
use Rattle.pp_text.specs.TextWriter.{Prints}
use Rattle.pp_listing.specs.ListedLine.{deck_line, text_line, text_of}
use Rattle.pp_listing.specs.Listing.{instruction_lines, section_lines, start_line}
use Rattle.pp_listing.proofs.sections.SectionsLinesPpNo.print.Goals as goal

pub returns-clause-text : goal.returns-clause-text
returns-clause-text g c =
    let n = c.args.n.now in
    let pp = c.pp-pp.result.now in
    let head = deck_line (section n) in
    let instructions = instruction_lines (word_at pp 0) 0 pp.memory in
    let start = start_line pp.state pp.p pp.a in
    subst (Prints _ _ _)
    (append_assoc head (text_of instructions) (text_of start) ∙ ap (λ (text : List ℕ). head ++ text) (sym (flat_map-append text_line instructions start))
    ∙ ap (λ (pp : Processor). text_of (section_lines n pp)) c.pp-pp.ensures)
    (c.print_section_line.ensures ▹ c.print_instructions.ensures ▹ c.print_start.ensures)
