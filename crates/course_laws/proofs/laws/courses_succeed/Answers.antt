use Rattle.course_laws.proofs.Succeeding.{request-succeeds}
use Rattle.course_laws.proofs.laws.courses_succeed.Goals as goal

pub returns : goal.returns
returns c = request-succeeds
