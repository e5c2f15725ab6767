use Rattle.std.proofs.Common.{◌∷◌, ◌++◌}
use Rattle.repo_course.specs.Serving.{AllTell}
use Rattle.course_laws.proofs.Landed.{stream-lands}
use Rattle.course_laws.proofs.Origins.{file-origin}
use Rattle.course_laws.proofs.laws.answered_files_were_fetched.Goals as goal

pub returns : goal.returns
returns g c = λ settings n start before later e old new ending id path tried lease blob legal served looks gives.
    file-origin old.remote new.remote settings start before later e id path tried lease blob legal
    (stream-lands settings (AllTell g.H.Held.bytes) n (before ++ e ∷ later) old new ending served) looks gives
