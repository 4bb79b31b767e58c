use Rattle.pp_machine.proofs.machine.Machine.reserve.Goals as goal

pub invariant_of-self : goal.invariant_of-self
invariant_of-self g c = rw c.reserve_each.ensures c.self.invariant

pub invariant_of-self-in_err-reserve_exact : goal.invariant_of-self-in_err-reserve_exact
invariant_of-self-in_err-reserve_exact g c = rw (c.reserve_each.ensures, c.reserve_exact.ensures.items) c.self.invariant

pub invariant_of-self-2 : goal.invariant_of-self-2
invariant_of-self-2 g c = rw (c.reserve_each.ensures, c.reserve_exact.ensures.items) c.self.invariant
