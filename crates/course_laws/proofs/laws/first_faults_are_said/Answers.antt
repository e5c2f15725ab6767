use Rattle.std.proofs.Common.{refl, ap}
use Rattle.repo_course.specs.Course.{response_missed}
use Rattle.course_laws.proofs.Verdicts.{all-gone, faultless, first-told, only-faults, timed-out}
use Rattle.course_laws.proofs.laws.first_faults_are_said.Goals as goal

pub returns-clause-first : goal.returns-clause-first
returns-clause-first c = λ of_group before more why all. ap response_missed (first-told of_group before more why all)

pub returns-clause-gone : goal.returns-clause-gone
returns-clause-gone c = λ of_group whys some all. ap response_missed (all-gone of_group whys some all)

pub returns-clause-unasked : goal.returns-clause-unasked
returns-clause-unasked c = λ of_group. refl

pub returns-clause-faultless : goal.returns-clause-faultless
returns-clause-faultless c = λ o. faultless o

pub returns-clause-faults : goal.returns-clause-faults
returns-clause-faults c = λ o. only-faults o

pub returns-clause-status : goal.returns-clause-status
returns-clause-status c = λ why. timed-out why
