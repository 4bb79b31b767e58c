use Rattle.std.proofs.Common.{◌≡◌, ◌+◌, ◌∙◌, List, take, subst, sym, vec_len, arith}
use Rattle.std.specs.Prelude.{IfOk}
use Rattle.std.specs.List.{AllZip}
use Rattle.pp_processor.specs.Processor.{Processor}
use Rattle.pp_runner.proofs.CrewLemmas.{taken_of, ready_before, processors_push}
use Rattle.pp_runner.specs.Crew.{HasEnded}
use Rattle.pp_runner.proofs.crew.+run_lines.Goals as goal

pub begin-requires-clause-fresh : goal.begin-requires-clause-fresh
begin-requires-clause-fresh g t c κs within =
    (taken_of c.args.machine.now c.args.run.now.size c.args.run.now.limits.steps c.args.run.now.family.value c.in-Some.line c.args.lines.items c.pop.new.self.items c.in-Some.ensures.items c.requires).fresh

pub run_lines-others-requires-after_bounds : goal.run_lines-others-requires-after_bounds
run_lines-others-requires-after_bounds g t c κs within =
    ready_before c.args.machine.now c.args.run.now.size c.args.run.now.limits.steps c.args.run.now.family.value c.in-Some.line c.pop.new.self.items
    (taken_of c.args.machine.now c.args.run.now.size c.args.run.now.limits.steps c.args.run.now.family.value c.in-Some.line c.args.lines.items c.pop.new.self.items c.in-Some.ensures.items c.requires)

pub returns : goal.returns
returns g t c =
    let left = vec_len c.pop.new.self in
    let processors = c.args.machine.now.processors in
    let sum : vec_len c.args.lines ≡ left + 1 = omega (arith, c.in-Some.ensures.len) in
    let loads = processors_push c.args.machine.now c.at-number.result left (vec_len c.args.lines) c.pp-load.result.now (c.at-number.ensures.place ∙ c.len.ensures) (omega (arith, sum, c.args.lines.ok.0, c.requires.count, c.requires.each)) sum c.pp-load.ensures in
    subst (λ (ls : List Processor). IfOk c.finish.result (λ crew. AllZip (HasEnded c.args.run.now.size c.args.run.now.limits.steps c.args.run.now.family.value) ls crew.items)) (sym loads) (c.finish.ensures (take left processors) c.run_lines-others.ensures)
