use Rattle.std.proofs.Common.{ℕ, ◌+◌, List, ◌∷◌, ◌∙◌, ap, sym}
use Rattle.std.specs.Prelude.{take}
use Rattle.std.proofs.lemmas.List.{take_rest}
use Rattle.pp_command.specs.NumberList.{numbers_of}
use Rattle.pp_command.proofs.NumberListLemmas.{one_number, parted}
use Rattle.pp_command.proofs.number_list.first_of.Goals as goal

pub returns-in-Some-clause-parted : goal.returns-in-Some-clause-parted
returns-in-Some-clause-parted c =
    let list = c.args.list.now in
    parted list c.in-Some.place (sym c.place_of.ensures ∙ c.in-Some.is)
    ∙ ap (λ (behind : List ℕ). take c.in-Some.place list ∷ numbers_of behind) (sym (take_rest list (c.in-Some.place + 1)))

pub returns-in-None-clause-parted : goal.returns-in-None-clause-parted
returns-in-None-clause-parted c =
    let list = c.args.list.now in
    one_number list (sym c.place_of.ensures ∙ c.in-None.is)
