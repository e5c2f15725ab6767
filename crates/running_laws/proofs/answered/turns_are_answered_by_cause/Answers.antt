use Rattle.repo_course.specs.Serving.{AllTell}
use Rattle.answer_laws.proofs.Due.{turn-first}
use Rattle.running_laws.proofs.answered.turns_are_answered_by_cause.Goals as goal

pub returns : goal.returns
returns g c settings start history last past entries rest before behind ending legal own turned =
    turn-first settings (AllTell g.H.Held.bytes) start history legal last past entries rest before behind ending own turned
