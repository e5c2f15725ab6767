-- What several fetches come to, one after another.
use Rattle.std.specs.Prelude.{List, [], ◌∷◌, Option}
use Rattle.repo_course.specs.Course.{with_fault}
use Rattle.repo_course.specs.declared.fetched.FetchFault.{FetchFault}
use Rattle.repo_course.specs.declared.fetched.Verdict.{Verdict}

-- with the faults of these too, of which some have none
abbrev pub with_faults : Verdict → List (Option FetchFault) → Verdict
with_faults so_far [] = so_far
with_faults so_far (why ∷ more) = with_faults (with_fault so_far why) more
