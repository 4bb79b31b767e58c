use Rattle.pp_processor.proofs.BlockResultLemmas.{complete_input, short_input, complete_output, short_output, central_read, central_write}
use Rattle.pp_processor.proofs.replay.block_results.Goals as goal

pub returns-clause-complete_input : goal.returns-clause-complete_input
returns-clause-complete_input c = complete_input c.args.pp.now c.has_widths.ensures

pub returns-clause-short_input : goal.returns-clause-short_input
returns-clause-short_input c = short_input c.args.pp.now c.has_widths.ensures

pub returns-clause-complete_output : goal.returns-clause-complete_output
returns-clause-complete_output c = complete_output c.args.pp.now c.has_widths.ensures

pub returns-clause-short_output : goal.returns-clause-short_output
returns-clause-short_output c = short_output c.args.pp.now c.has_widths.ensures

pub returns-clause-central_read : goal.returns-clause-central_read
returns-clause-central_read c = central_read c.args.pp.now c.has_widths.ensures

pub returns-clause-central_write : goal.returns-clause-central_write
returns-clause-central_write c = central_write c.args.pp.now c.has_widths.ensures
