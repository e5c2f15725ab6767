use Rattle.repo_course.specs.Course.{course_of, refuses_head}
use Rattle.course_laws.proofs.Kept.{judged-keeps, keeps-answers, no-head-keeps}
use Rattle.course_laws.specs.Duties.{duty_of, duty_without_head}
use Rattle.course_laws.proofs.laws.answers_have_their_causes.Goals as goal

pub returns-clause-requests : goal.returns-clause-requests
returns-clause-requests c = λ judged last. let d = duty_of judged last in keeps-answers d.by_text d.mode (course_of judged last) d.most d.stand (judged-keeps judged last)

pub returns-clause-no_heads : goal.returns-clause-no_heads
returns-clause-no_heads c = λ fault. let d = duty_without_head fault in keeps-answers d.by_text d.mode (refuses_head fault) d.most d.stand (no-head-keeps fault)
