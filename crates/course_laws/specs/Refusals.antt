-- How a request is answered whose head is refused.
use Rattle.std.specs.Prelude.{◌≡◌, Bool, true, Option, Some}
use Rattle.outside.specs.Faults.{Rose}
use Rattle.repo_routes.specs.declared.judging.Refused.{Refused}
use Rattle.repo_course.specs.Answers.{answer_of, memory_answer}
use Rattle.repo_course.specs.Course.{end_of, mode_refused}
use Rattle.repo_course.specs.Serving.{Outside, ReadsOn, Says}
use Rattle.repo_course.specs.declared.outcomes.End.{End}
use Rattle.repo_course.specs.declared.outcomes.End.TheVariants as stream
use Rattle.repo_course.specs.declared.response.Response.TheVariants as response

-- The answer says why, and nothing was asked; or memory ran out, or the source failed, before it was judged.
pub data IsRefusedBy (refused : Refused) (last : Bool) (old new : Outside) (end : Option End) : Type 0 where
  answered : (mid : Outside) → ReadsOn old mid
      → Says (answer_of (response.Refused refused.refusal) (mode_refused refused last)) (memory_answer refused.head_only) (end_of (mode_refused refused last)) mid new end
      → IsRefusedBy refused last old new end
  starved : (mid : Outside) (head_only : Bool) → (head_only ≡ true → refused.head_only ≡ true) → ReadsOn old mid
      → Says (memory_answer head_only) (memory_answer head_only) (Some stream.Closed) mid new end → IsRefusedBy refused last old new end
  failed : Rose old.read_faults new.read_faults → new.output ≡ old.output → end ≡ Some stream.SourceFault → IsRefusedBy refused last old new end
