use Rattle.repo_course.specs.Serving.{AllTell}
use Rattle.course_laws.proofs.Refusals.{turn-refused}
use Rattle.course_laws.proofs.laws.refusals_are_answered.Goals as goal

pub returns : goal.returns
returns g c settings last = turn-refused settings (AllTell g.H.Held.bytes) last
