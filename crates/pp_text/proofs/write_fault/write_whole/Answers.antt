use Rattle.pp_text.proofs.WriteLemmas.{flushed}
use Rattle.pp_text.proofs.write_fault.write_whole.Goals as goal

pub returns : goal.returns
returns g c = flushed c.map_err.result _ _ _ _ c.in_ok-write_bytes.ensures c.flush.ensures.bytes
