use Rattle.std.proofs.Common.{arith}
use Rattle.pp_sim.proofs.AnswerLemmas.{answers_report, answers_where_by}
use Rattle.pp_sim.proofs.texts.write_chosen_steps.Goals as goal

pub returns-in-Some : goal.returns-in-Some
returns-in-Some g c = grind (arith, answers_where_by, c.answer_to_report.ensures)

pub returns : goal.returns
returns g c = grind (arith, answers_report, c.answer_to_report-in-None.ensures)
