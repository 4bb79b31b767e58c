use Rattle.std.proofs.Common.{arith, length, ap}
use Rattle.std.proofs.lemmas.List.{length-replicate}
use Rattle.std.proofs.lemmas.Grind.{replicate_next}
use Rattle.pp_processor.specs.Processor.{new_processor}
use Rattle.pp_machine.proofs.machine.new_processors.Goals as goal

pub loop-init : goal.loop-init
loop-init g c = record { made = c.in_ok-processors.ensures.items; room = c.in_ok-processors.ensures.exact }

pub loop-preserved : goal.loop-preserved
loop-preserved g c = grind (arith, replicate_next)

pub push_reserved-requires : goal.push_reserved-requires
push_reserved-requires g c = omega (arith, c.loop.processors.ok.0, ap length c.loop.invariant.made, length-replicate c.loop.counter (new_processor c.args.profile))

pub returns : goal.returns
returns g c = grind arith
