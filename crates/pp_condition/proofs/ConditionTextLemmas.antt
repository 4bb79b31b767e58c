-- A field by its first `=`.
use Rattle.std.proofs.Common.{◌≡◌, ℕ, ◌+◌, List, Some, None, sym, ap, ◌∙◌}
use Rattle.std.specs.Prelude.{drop, position, take}
use Rattle.pp_condition.specs.ConditionText.{is_equals, parts_by, parts_of}

pub two_parts : (field behind : List ℕ) (place : ℕ) → position is_equals field ≡ Some place → behind ≡ drop (place + 1) field → (take place field, Some behind) ≡ parts_of field
unfolding parts_of
two_parts field behind place at rest =
    ap (λ (ns : List ℕ). (take place field, Some ns)) rest ∙ ap (parts_by field) (sym at)

pub one_part : (field : List ℕ) → position is_equals field ≡ None → (field, None) ≡ parts_of field
unfolding parts_of
one_part field at = ap (parts_by field) (sym at)
