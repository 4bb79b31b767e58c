use Rattle.std.proofs.Common.{refl}
use Rattle.pp_sim.proofs.AnswerLemmas.{answers_reported}
use Rattle.pp_sim.proofs.texts.threads_text.write_threads.Goals as goal
use Rattle.pp_sim.specs.ThreadsText.{IsThreadsText}

pub run_threads-requires-send-A : goal.run_threads-requires-send-A
run_threads-requires-send-A g c κs within = c.type_bounds.send-A

pub run_threads-requires-sync-R : goal.run_threads-requires-sync-R
run_threads-requires-sync-R g c κs within = c.type_bounds.sync-T

pub run_threads-requires-sync-A : goal.run_threads-requires-sync-A
run_threads-requires-sync-A g c κs within = c.type_bounds.sync-A

pub run_threads-requires-frees-A-Allocator : goal.run_threads-requires-frees-A-Allocator
run_threads-requires-frees-A-Allocator g c κs within = c.type_bounds.frees-A-Allocator

pub run_threads-requires-after_bounds : goal.run_threads-requires-after_bounds
run_threads-requires-after_bounds g c κs within = (c.requires.memory, c.requires.fresh)

pub run_threads-requires-sync-G : goal.run_threads-requires-sync-G
run_threads-requires-sync-G g c κs within = c.type_bounds.sync-G

pub returns : goal.returns
returns g c = λ profile bytes meant same.
    (rw c.answer_to_report.ensures (answers_reported profile (IsThreadsText _ c.args.limits) bytes _ c.write_report.result _ _
    (λ some. record {
      deck = _;
      meant = meant;
      is = record {
        report = _;
        named = c.requires.names;
        run = c.in-Ok.ensures;
        headline = (c.headline_law.ensures _ _ _ meant).threads _ _ c.in-Ok.ensures;
        text_is = refl;
        fits = c.write_report.ensures.fits some;
      };
    })
    c.write_report.ensures.written))
