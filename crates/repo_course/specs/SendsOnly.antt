-- What holds of a file that a course sends next.
use Rattle.repo_model.specs.Data.{Blob}
use Rattle.repo_course.specs.Course.{Course, does, send_file}

-- where the sending of a file comes next, this holds of its blob
abbrev pub SendsOnly : (Blob → Type 0) → Course → Type 0
SendsOnly Holds (does (send_file blob mode) next) = Holds blob
SendsOnly Holds course = Unit {0}
