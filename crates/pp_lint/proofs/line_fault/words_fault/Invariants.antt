use Rattle.std.proofs.Common.{◌≡◌, ◌+◌, Option, length}
use Rattle.pp_lint.specs.LineFault.{IsFaultOf, fault_of_words}
use Rattle.pp_lint.specs.declared.line_fault.Fault.{Fault}
use Rattle.pp_lint.proofs.line_fault.words_fault.Given as goal

abbrev pub invariant-loop-field : goal.invariant-loop-field
invariant-loop-field l = record {
  counted : l.number + length l.fields ≡ l.first + length l.fn.fields;
  placed : l.place + length l.fields ≡ l.fn.place + length l.fn.fields;
  goes_on : (fault : Option Fault) → IsFaultOf (fault_of_words l.most l.end l.past l.place) l.fields l.number fault
      → IsFaultOf (fault_of_words l.most l.end l.past l.fn.place) l.fn.fields l.first fault;
}

abbrev pub decreases-loop-field : goal.decreases-loop-field
decreases-loop-field l = length l.fields
