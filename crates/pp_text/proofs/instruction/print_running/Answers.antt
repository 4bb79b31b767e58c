use Rattle.std.proofs.Common.{arith}
use Rattle.pp_text.proofs.InstructionLemmas.{running_is}
use Rattle.pp_text.proofs.instruction.print_running.Goals as goal

pub print-requires : goal.print-requires
print-requires g c = omega (arith, c.trim_ascii_end.ensures.value.2, c.trim_ascii_end.ensures.value.3)

pub returns : goal.returns
returns g c = rw (running_is c.args.block c.args.place c.args.word c.args.m _ _ c.running_field.ensures c.trim_ascii_end.ensures.value) at c.print.ensures
