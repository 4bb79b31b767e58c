use Rattle.pp_sessions.proofs.CourseLemmas.{one_course}
use Rattle.pp_sessions.proofs.laws.course_law.Goals as goal

pub returns : goal.returns
returns c = λ one other same. one_course one other same
