use Rattle.std.proofs.Common.{sym, arith}
use Rattle.pp_listing.proofs.TextLemmas.{lines_from, none_left, one_line, zero_step, two_step}
use Rattle.pp_listing.proofs.listed_instructions.ListedInstructions.next_instruction.Goals.{then-has_second, else-has_second}
use Rattle.std.proofs.lemmas.Bool.{ltb-true, and_parts}
use Rattle.pp_listing.proofs.listed_instructions.ListedInstructions.next_instruction.Goals as goal

pub loop-at-init : goal.loop-at-init
unfolding lines_from
loop-at-init c = record { long = c.self.invariant; left = sym c.self.view_is }

pub loop-at-preserved : goal.loop-at-preserved
loop-at-preserved c = grind (arith, zero_step)

pub returns-then-get-ne0-clause-taken : goal.returns-then-get-ne0-clause-taken
unfolding lines_from
returns-then-get-ne0-clause-taken c = grind (arith, then-has_second, else-has_second, one_line, two_step, ltb-true, and_parts)

pub returns-clause-none : goal.returns-clause-none
returns-clause-none c = none_left _ _ c.loop-at.at (let long = c.loop-at.invariant.long (omega (arith, c.loop-at-test.false)) in omega (arith, long, c.loop-at-test.false)) c.loop-at.invariant.left
