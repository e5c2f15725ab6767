use Rattle.repo_course.specs.Serving.{AllTell}
use Rattle.course_laws.proofs.Landed.{turn-lands}
use Rattle.course_laws.proofs.Origins.{faults-rose}
use Rattle.course_laws.proofs.Remotes.{goes-on}
use Rattle.course_laws.proofs.laws.remote_faults_are_counted.Goals as goal

pub returns : goal.returns
returns g c = λ settings last entries old new ending turned faulty.
    faults-rose old.remote new.remote entries (turn-lands old.remote settings (AllTell g.H.Held.bytes) last entries old new ending (goes-on old.remote) turned) faulty
