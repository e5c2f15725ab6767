use Rattle.repo_course.specs.Serving.{AllTell}
use Rattle.course_laws.proofs.Granted.{turn-served}
use Rattle.course_laws.proofs.laws.granted_requests_are_answered.Goals as goal

pub returns : goal.returns
returns g c settings last = turn-served settings (AllTell g.H.Held.bytes) last
