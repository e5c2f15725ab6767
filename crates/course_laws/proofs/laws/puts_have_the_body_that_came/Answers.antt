use Rattle.repo_course.specs.Serving.{AllTell}
use Rattle.course_laws.proofs.PutBodies.{turn-puts}
use Rattle.course_laws.proofs.laws.puts_have_the_body_that_came.Goals as goal

pub returns : goal.returns
returns g c settings last = turn-puts settings (AllTell g.H.Held.bytes) last
