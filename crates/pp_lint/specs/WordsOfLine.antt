-- A line without a fault.
use Rattle.std.specs.Prelude.{◌≡◌, ℕ, List, None}
use Rattle.pp_deck.specs.DeckText.{fields_of}
use Rattle.pp_lint.specs.LineFault.{fault_after}
use Rattle.pp_lint.specs.declared.line_fault.Before.{Before}

-- a line says something where it stands
pub record HasNoFault (before : Before) (line : List ℕ) : Type 0 where
  pub none : fault_after before (fields_of line) ≡ None
