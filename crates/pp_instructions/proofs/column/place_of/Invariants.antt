use Rattle.std.proofs.Common.{◌≡◌, ◌≤◌}
use Rattle.pp_instructions.specs.FieldsBefore.{fields_before}
use Rattle.pp_instructions.proofs.column.place_of.Given as goal

abbrev pub invariant-loop-place : goal.invariant-loop-place
invariant-loop-place l = record {
  counted : fields_before l.line l.place ≡ l.passed;
  few : l.passed ≤ l.n;
}
