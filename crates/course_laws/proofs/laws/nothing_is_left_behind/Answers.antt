use Rattle.repo_course.specs.Serving.{AllTell}
use Rattle.course_laws.proofs.LeftBehind.{serves_leaves}
use Rattle.course_laws.proofs.laws.nothing_is_left_behind.Goals as goal

pub returns : goal.returns
returns g c settings n entries start old new ending drawn legal served =
    (serves_leaves (AllTell g.H.Held.bytes) settings n entries start legal old new ending served).nothing drawn
