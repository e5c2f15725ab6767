use Rattle.repo_course.specs.Serving.{AllTell}
use Rattle.running_laws.proofs.Commits.{commit-outlasts}
use Rattle.running_laws.proofs.answered.answered_commits_outlast_crashes.Goals as goal

pub returns : goal.returns
returns g c settings start t old made marks last past entries rest before behind ending input came head request n k turned apart sound legal outlast same caused told front_is judged asks_it answered =
    commit-outlasts settings start t old made marks (AllTell g.H.Held.bytes) last past entries rest before behind ending input came head request n k turned apart sound legal outlast same caused told
    front_is judged asks_it answered
