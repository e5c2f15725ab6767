use Rattle.course_laws.proofs.Bodies.{refused-body, whole-body}
use Rattle.course_laws.proofs.laws.bodies_are_whole.Goals as goal

pub returns-clause-requests : goal.returns-clause-requests
returns-clause-requests c = whole-body

pub returns-clause-refusals : goal.returns-clause-refusals
returns-clause-refusals c = refused-body
