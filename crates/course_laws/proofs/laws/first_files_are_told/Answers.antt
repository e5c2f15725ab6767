use Rattle.course_laws.proofs.Told.{opening-told}
use Rattle.course_laws.proofs.laws.first_files_are_told.Goals as goal

pub returns : goal.returns
returns c = opening-told
