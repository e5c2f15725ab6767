use Rattle.repo_course.specs.Serving.{AllTell}
use Rattle.course_laws.proofs.Endings.{serves_few}
use Rattle.course_laws.proofs.laws.calls_are_few.Goals as goal

pub returns : goal.returns
returns g c = serves_few (AllTell g.H.Held.bytes)
