use Rattle.std.proofs.Common.{refl, sym, ◌∙◌}
use Rattle.pp_deck.specs.declared.deck_fault.DeckCode.{DeckCode}
use Rattle.pp_lint.proofs.FaultLemmas.{fault_here, fault_later}
use Rattle.pp_lint.proofs.FaultOfLineLemmas.{differs, words_line_read, words_line_refused}
use Rattle.pp_lint.proofs.line_fault.words_line_fault.Goals as goal

pub returns-in-Some : goal.returns-in-Some
returns-in-Some c = λ fault_of blank same.
    fault_later fault_of _ c.args.first.now _ 0 1 c.words_fault.result (λ more. same more ∙ words_line_read c.args.first.now more c.in-Some.x (sym c.in-Some.ensures.exact)) refl c.words_fault.ensures

pub returns-in-None : goal.returns-in-None
returns-in-None c = λ fault_of blank same.
    rw c.at_first.ensures (fault_here fault_of c.args.first.now _ 0 DeckCode.BadDigits (λ more. same more ∙ words_line_refused c.args.first.now more (sym c.in-None.ensures.exact)) (differs DeckCode.BadDigits (fault_of _) blank))
