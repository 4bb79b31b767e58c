use Rattle.std.proofs.Common.{◌≡◌, true, false, arith}
use Rattle.pp_numbers.specs.Profile.{has_processor}
use Rattle.pp_deck.specs.DeckLine.{section}
use Rattle.pp_lint.proofs.FaultOfLineLemmas.{section_begins, section_lacks, section_read, number_read}
use Rattle.pp_lint.proofs.line_fault.section_fault.Goals as goal

pub returns-in-Err : goal.returns-in-Err
returns-in-Err c = c.in-Err.ensures.fault _ (section_begins c.args.profile)

pub returns-in-None : goal.returns-in-None
returns-in-None c =
    let read = c.in-Ok.ensures.ok in
    let lacks : has_processor c.args.profile c.in-Ok.n ≡ false = grind (arith, c.in-None.ensures, c.in-Ok.ensures.small) in
    section_lacks c.args.profile _ read.0 _ c.in-Ok.n read.1.0 read.1.1 lacks

pub returns-in-Some : goal.returns-in-Some
returns-in-Some c =
    let read = c.in-Ok.ensures.ok in
    let has : has_processor c.args.profile c.in-Ok.n ≡ true = grind (arith, c.in-Some.ensures, c.in-Ok.ensures.small) in
    number_read _ _ _ read.0 _ c.end_fault.result read.1.0 (λ more. section_read c.args.profile read.0 more c.in-Ok.n read.1.1 has) (c.end_fault.ensures (section c.in-Ok.n))
