use Rattle.std.specs.Prelude.{Some}
use Rattle.std.proofs.Common.{inl, rules}
use Rattle.pp_sim.specs.Program.{NeedsNoThreads}
use Rattle.ppsim_library.proofs.WorkLemmas.{any_allocator}
use Rattle.ppsim_library.proofs.call.answer_work.Goals as goal

pub returns : goal.returns
returns g c =
    let alone : NeedsNoThreads c.args.asked.now.work = search rules in
    inl (record {
      without_threads = alone;
      outcome = c.work_text-outcome.result;
      text = c.work_text-outcome.new.writer.items;
      after = Some c.work_text-outcome.new.reader.now;
      done = any_allocator _ _ c.args.asked.now.work c.args.asked.now.first.items c.args.asked.now.until _ _ _ _ _ alone (rw c.new-text.ensures.items at c.work_text-outcome.ensures);
      shown = rw c.as_slice.ensures.value at c.answer_of.ensures;
    })
