use Rattle.std.proofs.Common.{ap, codes, option_map, sym, ◌∙◌}
use Rattle.clap.specs.Words.{found_of}
use Rattle.clap.proofs.WalkLemmas.{first_value-rows}
use Rattle.pp_command.specs.CommandLine.{command_of_form}
use Rattle.pp_command.proofs.CommandLemmas.{met_command}
use Rattle.pp_command.proofs.command_words.asked_in.Goals as goal

pub returns-in-Ok-Some-clause-work : goal.returns-in-Ok-Some-clause-work
returns-in-Ok-Some-clause-work c = λ words met.
    let e = met_command words c.args.matches.now c.in-Some.name.now (found_of c.in-Some.inner.now) met c.in-Some.ensures.name c.in-Some.ensures.rows in
    let named = sym c.command_named.ensures ∙ ap (option_map (λ help. command_of_form help.form.now)) c.in-Some-command_named.is in
    let asked = rw c.in-Ok-Some.field-0-is at c.in-Ok-Some.ensures.asked in
    rw (e, named) asked

pub returns-in-Ok-Some-clause-file : goal.returns-in-Ok-Some-clause-file
returns-in-Ok-Some-clause-file c = λ words met.
    let e = met_command words c.args.matches.now c.in-Some.name.now (found_of c.in-Some.inner.now) met c.in-Some.ensures.name c.in-Some.ensures.rows in
    let value = c.get_str.ensures ∙ first_value-rows (found_of c.in-Some.inner.now) (codes "file") in
    let file = rw value at c.named_file.ensures in
    rw e file

pub returns-in-Ok-None-clause-refused : goal.returns-in-Ok-None-clause-refused
returns-in-Ok-None-clause-refused c = λ words met taken.
    let e = met_command words c.args.matches.now c.in-Some.name.now (found_of c.in-Some.inner.now) met c.in-Some.ensures.name c.in-Some.ensures.rows in
    let named = sym c.command_named.ensures ∙ ap (option_map (λ help. command_of_form help.form.now)) c.in-Some-command_named.is in
    let none = rw c.in-Ok-None.field-0-is at c.in-Ok-None.ensures.none in (
      taken,
      λ work first until k. none work first until (rw (e, named) at k),
      rw (e, named) (c.asks_for_more.ensures.0 c.if-asks_for_more.true),
    )

pub returns-in-Ok-None-3-clause-refused : goal.returns-in-Ok-None-3-clause-refused
returns-in-Ok-None-3-clause-refused c = λ words met taken.
    let e = met_command words c.args.matches.now c.in-Some.name.now (found_of c.in-Some.inner.now) met c.in-Some.ensures.name c.in-Some.ensures.rows in
    let named = sym c.command_named.ensures ∙ ap (option_map (λ help. command_of_form help.form.now)) c.in-Some-command_named.is in
    let none = rw c.in-Ok-None.field-0-is at c.in-Ok-None.ensures.none in (
      taken,
      λ work first until k. none work first until (rw (e, named) at k),
      λ k. let is = c.asks_for_more.ensures.1 (rw (e, named) at k) in let not = c.if-asks_for_more.false in cc,
      λ k. let is = c.mixes_forms.ensures.1 (rw (e, named) at k) in let not = c.if-mixes_forms.false in cc,
    )
