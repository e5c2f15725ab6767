use Rattle.std.specs.Prelude.{Some}
use Rattle.repo_laws.proofs.Completing.{completed-twice}
use Rattle.running_laws.proofs.starts.starts_that_crashed_answer_the_same_files.Goals as goal

pub returns-clause-bytes : goal.returns-clause-bytes
returns-clause-bytes c settings tells repo row bytes t u order range added answered stored clock faults whole before rest e tried order_u range_u completes legal stay looks =
    answered stored clock faults whole before rest e tried order range (completed-twice t u whole added completes) legal stay looks

pub returns-clause-still : goal.returns-clause-still
returns-clause-still c settings made repo row t u order range added still = (
  λ tells. returns-clause-bytes c settings tells repo row (tells row.blob.number) t u order range added (still.0 tells),
  λ acknowledged bytes stood found keeps tells them told standing.
      returns-clause-bytes c settings tells repo row (Some bytes) t u order range added (still.1 acknowledged bytes stood found keeps tells them told standing),
)
