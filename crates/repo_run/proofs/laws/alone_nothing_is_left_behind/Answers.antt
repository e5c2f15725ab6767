use Rattle.std.proofs.Common.{sym, subst}
use Rattle.repo_model.specs.State.{State}
use Rattle.repo_course.specs.Serving.{AllTell}
use Rattle.course_laws.specs.LeftBehind.{LeavesNothing}
use Rattle.course_laws.proofs.LeftBehind.{serves_leaves}
use Rattle.repo_run.proofs.Alone.{core_alone}
use Rattle.repo_run.proofs.laws.alone_nothing_is_left_behind.Goals as goal

pub returns : goal.returns
returns g c n entries core core' old new ending drawn made served =
    let alone = core_alone entries core core' made in
    subst (λ (s : State). LeavesNothing core.state.yard s.yard) (sym alone.ends)
    ((serves_leaves (AllTell g.H.Held.bytes) core.settings n entries core.state alone.legal old new ending served).nothing drawn)
