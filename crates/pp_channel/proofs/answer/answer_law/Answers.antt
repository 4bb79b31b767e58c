use Rattle.pp_channel.proofs.AnswerLemmas.{ready_by_table, answer_by_table, flags_by_table}
use Rattle.pp_channel.proofs.answer.answer_law.Goals as goal

pub returns : goal.returns
returns c = record { event = ready_by_table; answer = answer_by_table; flags = flags_by_table }
