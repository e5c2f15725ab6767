use Rattle.repo_course.specs.Serving.{AllTell}
use Rattle.course_laws.proofs.Endings.{serves_shows}
use Rattle.course_laws.proofs.laws.ends_have_their_causes.Goals as goal

pub returns : goal.returns
returns g c = serves_shows (AllTell g.H.Held.bytes)
