use Rattle.repo_course.specs.Serving.{AllTell}
use Rattle.course_laws.proofs.LeftBehind.{serves_leaves}
use Rattle.course_laws.proofs.laws.own_drafts_are_there.Goals as goal

pub returns : goal.returns
returns g c settings n entries start old new ending legal served =
    (serves_leaves (AllTell g.H.Held.bytes) settings n entries start legal old new ending served).found
