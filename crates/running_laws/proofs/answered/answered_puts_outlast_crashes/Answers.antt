use Rattle.repo_course.specs.Serving.{AllTell}
use Rattle.running_laws.proofs.Puts.{again-outlasts, put-outlasts}
use Rattle.running_laws.proofs.answered.answered_puts_outlast_crashes.Goals as goal

pub returns-clause-created : goal.returns-clause-created
returns-clause-created g c settings start t old made marks last past entries rest before behind ending input came head request repo path count turned outlast same caused told front_is judged asks_it answered =
    put-outlasts settings start t old made marks (AllTell g.H.Held.bytes) last past entries rest before behind ending input came head request repo path count turned outlast same caused told front_is
    judged asks_it answered

pub returns-clause-again : goal.returns-clause-again
returns-clause-again g c settings start t old made marks last past entries rest before behind ending input came head request repo path count said turned apart sound legal outlast same caused told front_is judged asks_it again answered =
    again-outlasts settings start t old made marks (AllTell g.H.Held.bytes) last past entries rest before behind ending input came head request repo path count turned outlast same caused told front_is
    judged asks_it apart sound legal said again answered
