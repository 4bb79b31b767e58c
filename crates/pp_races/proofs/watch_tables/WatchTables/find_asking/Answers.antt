use Rattle.std.proofs.Common.{◌≡◌, [], Some, None, append-nil, refl, sym, ap, ◌∙◌}
use Rattle.std.specs.Prelude.{◌++◌}
use Rattle.pp_processor.specs.declared.need.Need.TheVariants.{Channel}
use Rattle.pp_races.specs.ByFlags.{at}
use Rattle.pp_races.specs.Findings.{end_by_need, held_before}
use Rattle.pp_races.specs.Watch.{asking_step}
use Rattle.pp_races.proofs.EndLemmas.{found_more, goes_on, is_held}
use Rattle.pp_races.proofs.watch_tables.WatchTables.find_asking.Goals as goal

pub returns-then-not-waits : goal.returns-then-not-waits
returns-then-not-waits g c = λ size w are.
    found_more _ _ _ _ c.args.self.now.found.items _ _ size w
    (c.in_ok-keep.ensures ∙ ap (λ x. c.args.self.now.found.items ++ x) (goes_on c.args.asked.now.machine.now w c.args.asked.now.n c.args.asked.now.c c.args.asked.now.op c.waits.result c.waits.ensures c.if-not-waits.true)) are

pub returns-in_ok-keep-2 : goal.returns-in_ok-keep-2
returns-in_ok-keep-2 g c = λ size w are.
    let step : held_before c.step.result (Some c.in-Some.entry) ≡ end_by_need (Channel c.args.asked.now.c c.args.asked.now.op) c.args.asked.now.n c.args.asked.now.machine.now w =
    is_held c.args.asked.now.machine.now w c.args.asked.now.n c.args.asked.now.c c.args.asked.now.op c.waits.result c.waits.ensures (Some c.in-Some.entry) c.step.result (at c.goes_on_at-goes_on.result) c.if-not-waits.false c.step.ensures (sym c.in-Some.is ∙ c.first_race.ensures.race size w are) c.goes_on_at-goes_on.ensures in
    found_more _ _ _ _ c.first_race.new.self.found.items _ _ size w (c.in_ok-keep-2.ensures ∙ ap (λ x. c.first_race.new.self.found.items ++ x) step) (c.first_race.ensures.kept size w are)

pub returns-in_default : goal.returns-in_default
returns-in_default g c = λ size w are.
    let step : [] ≡ end_by_need (Channel c.args.asked.now.c c.args.asked.now.op) c.args.asked.now.n c.args.asked.now.machine.now w =
    is_held c.args.asked.now.machine.now w c.args.asked.now.n c.args.asked.now.c c.args.asked.now.op c.waits.result c.waits.ensures None (asking_step c.args.asked.now.n c.args.asked.now.c c.args.asked.now.machine.now) (at c.goes_on_at-goes_on.result) c.if-not-waits.false refl (sym c.in_default.is ∙ c.first_race.ensures.race size w are) c.goes_on_at-goes_on.ensures in
    found_more _ _ _ _ c.first_race.new.self.found.items _ _ size w (sym (append-nil c.first_race.new.self.found.items) ∙ ap (λ x. c.first_race.new.self.found.items ++ x) step) (c.first_race.ensures.kept size w are)
