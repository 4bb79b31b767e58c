use Rattle.std.proofs.Common.{ap, ◌∙◌}
use Rattle.pp_instructions.specs.Column.{column_of}
use Rattle.pp_instructions.proofs.ColumnLemmas.{column_here, no_column}
use Rattle.pp_instructions.proofs.column.Columns.column_of.Goals as goal

pub returns-in-Some-clause-value : goal.returns-in-Some-clause-value
returns-in-Some-clause-value c =
    let here = c.in-Some.ensures.here in
    column_here c.self.inside.line.now c.args.n c.in-Some.place here.within here.begins here.counted ∙ ap (λ line. column_of line c.args.n) c.self.view_is

pub returns-in-None-clause-value : goal.returns-in-None-clause-value
returns-in-None-clause-value c = no_column c.self.inside.line.now c.args.n c.in-None.ensures.none ∙ ap (λ line. column_of line c.args.n) c.self.view_is
