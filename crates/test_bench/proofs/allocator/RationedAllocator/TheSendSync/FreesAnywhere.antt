-- Any thread may give a block back, where any thread may give it back to the inner allocator.
use mir.Syntax.{Dict}
use denote.RattleType.{RattleType}
use denote.Param.Send.{Frees}
use Rattle.std.specs.declared.alloc.Allocator.{Ghosts}
use Rattle.test_bench.specs.contracts.allocator.RationedAllocator.TheImpl.{ghosts}

module _ (B : RattleType) (g : Ghosts B.Denot) where
  pub frees : (d e : Dict) → Frees g g.dealloc_token → Frees (ghosts B g d e) (ghosts B g d e).dealloc_token
  frees d e inner = record { frees = λ h τ p. inner.frees h.inner τ p }
