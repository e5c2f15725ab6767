use Rattle.repo_course.specs.Serving.{AllTell}
use Rattle.course_laws.proofs.Landed.{stream-lands}
use Rattle.course_laws.proofs.laws.landings_are_fetched.Goals as goal

pub returns : goal.returns
returns g c = λ settings n entries old new ending served. stream-lands settings (AllTell g.H.Held.bytes) n entries old new ending served
