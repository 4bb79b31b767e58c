use Rattle.std.proofs.Common.{sym, ◌∙◌, arith}
use Rattle.std.proofs.lemmas.List.{take_rest}
use Rattle.pp_deck.proofs.FieldLemmas.{fields_of_blanks, comment_first, field_first}
use Rattle.std.proofs.lemmas.List.Sums.{prefix_len-le-length}
use Rattle.pp_deck.proofs.fields.Fields.next_field.Goals as goal

pub returns-in_err-start-clause-none : goal.returns-in_err-start-clause-none
returns-in_err-start-clause-none c = grind (arith, fields_of_blanks)

pub returns-then-text-eq42-clause-none : goal.returns-then-text-eq42-clause-none
returns-then-text-eq42-clause-none c = grind (arith, comment_first, take_rest)

pub split_at-requires : goal.split_at-requires
split_at-requires c = grind (arith, prefix_len-le-length)

pub returns-clause-taken : goal.returns-clause-taken
returns-clause-taken c =
    sym c.self.view_is
    ∙ field_first c.self.inside.text.now _ c.split_at.result.0.now c.split_at.result.1.now c.in_ok-start.start c.field_length.result c.in_ok-start.ensures (take_rest c.self.inside.text.now c.in_ok-start.start) c.if-text-eq42.false c.field_length.ensures c.split_at.ensures.front c.split_at.ensures.back
