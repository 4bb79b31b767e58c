use Rattle.std.proofs.Common.{rules}
use Rattle.pp_numbers.specs.PpNo.{is_named, processor_count}
use Rattle.pp_numbers.specs.Profile.{has_processor}
use Rattle.pp_command.proofs.NumberListLemmas.{all_flagged, flag_more, no_list, one_processor}
use Rattle.pp_command.specs.NumberList.{numbered, numbers_of}
use Rattle.pp_command.proofs.processor_list.listed_processors.Goals as goal

pub loop-rest-preserved : goal.loop-rest-preserved
unfolding numbered
loop-rest-preserved c =
    let so_far = rw (c.in-Some.is, c.first_of.ensures.parted) at c.loop-rest.invariant in
    rw c.index.ensures.place (flag_more (has_processor c.args.profile) processor_count is_named (numbers_of c.args.text.now) c.loop-rest.flags _ c.first_of.result.0.now _ c.in_ok-processor.processor so_far (search rules)
    (one_processor c.loop-rest.flags c.in_ok-processor.processor c.loop-rest.invariant.each_place (search rules)))

pub returns : goal.returns
returns c = all_flagged (has_processor c.args.profile) processor_count is_named c.args.text.now c.loop-rest.flags (rw c.in_default.is at c.loop-rest.invariant)

pub returns-in_err-processor : goal.returns-in_err-processor
unfolding numbered
returns-in_err-processor c =
    let so_far = rw (c.in-Some.is, c.first_of.ensures.parted) at c.loop-rest.invariant in
    rw c.from_residual-in_err-processor.ensures (no_list (has_processor c.args.profile) processor_count is_named c.args.text.now c.loop-rest.flags c.first_of.result.0.now _ so_far (search rules))

pub returns-in_err-numeral : goal.returns-in_err-numeral
unfolding numbered
returns-in_err-numeral c =
    let so_far = rw (c.in-Some.is, c.first_of.ensures.parted) at c.loop-rest.invariant in
    rw c.from_residual.ensures (no_list (has_processor c.args.profile) processor_count is_named c.args.text.now c.loop-rest.flags c.first_of.result.0.now _ so_far (search rules))
