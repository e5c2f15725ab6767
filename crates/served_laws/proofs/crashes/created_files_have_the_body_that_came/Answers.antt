use Rattle.std.proofs.Common.{List, ℕ, ◌∷◌, ◌++◌, [], subst}
use Rattle.repo_model.specs.Effect.{new_row}
use Rattle.repo_laws.specs.Closed.{all_given_out}
use Rattle.repo_course.specs.Serving.{AllTell}
use Rattle.course_laws.specs.Duties.{length_of}
use Rattle.course_laws.proofs.PutBodies.{turn-puts}
use Rattle.crash_laws.specs.Handed.{acknowledged_by}
use Rattle.crash_laws.specs.Runs.{IsAnsweredBy}
use Rattle.served_laws.specs.Crashed.{FindsSince, entries_made}
use Rattle.served_laws.proofs.Kept.{body-came}
use Rattle.served_laws.proofs.crashes.created_files_have_the_body_that_came.Goals as goal

pub returns : goal.returns
returns g c settings start t old shelf made first later rest m last entries before behind ending input came head request repo path n blob outlast parts is done stay turned among told front_is judged =
    let so_far = entries_made (first ++ m ∷ later) in
    let (bytes, bytes_are, print_is, finds) = outlast.created_files first later rest m repo path n blob parts is done stay in
    let puts = turn-puts settings (AllTell g.H.Held.bytes) last entries before behind ending input came head request turned told front_is judged in
    let (whole, same) = body-came (length_of request.intent) came entries m.entry repo path n blob bytes puts among is bytes_are in (
      whole,
      subst
          (λ (found : List ℕ). FindsSince settings start t old (IsAnsweredBy settings (all_given_out so_far) (acknowledged_by shelf so_far) repo (new_row path blob m.entry.moment) found) (first ++ m ∷ []) later)
          same finds,
    )
