use Rattle.pp_processor.proofs.StepLemmas.{fault_keeps, rest_changes_nothing}
use Rattle.pp_processor.proofs.pp.Pp.give.Goals as goal

pub returns-clause-held_changes_nothing : goal.returns-clause-held_changes_nothing
returns-clause-held_changes_nothing c = c.give_next.ensures.held_changes_nothing

pub returns-clause-held_by_channel : goal.returns-clause-held_by_channel
returns-clause-held_by_channel c = c.give_next.ensures.held_by_channel

pub returns-clause-at_rest_unless_running : goal.returns-clause-at_rest_unless_running
returns-clause-at_rest_unless_running c = c.give_next.ensures.at_rest_unless_running

pub returns-clause-rest_changes_nothing : goal.returns-clause-rest_changes_nothing
returns-clause-rest_changes_nothing c = λ rest. rw c.give_next.ensures.after (rest_changes_nothing _ _ rest)

pub returns-clause-fault_keeps : goal.returns-clause-fault_keeps
returns-clause-fault_keeps c = rw c.give_next.ensures.after (λ running fault. fault_keeps _ _ running fault)
