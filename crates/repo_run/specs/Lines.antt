-- The line of a stream that was served (the project's own text).
use Rattle.std.specs.Prelude.{ℕ, List, ◌++◌, codes}
use Rattle.std.specs.Fmt.{decimal}
use Rattle.repo_course.specs.declared.outcomes.End.{End}
use Rattle.repo_course.specs.declared.outcomes.End.TheVariants.{Closed, TornRequest, TurnLimit, SourceFault, SinkFault}
use Rattle.run_lines.specs.Lines.{line}

abbrev pub end_name : End → List ℕ
end_name Closed = codes "Closed"
end_name TornRequest = codes "TornRequest"
end_name TurnLimit = codes "TurnLimit"
end_name SourceFault = codes "SourceFault"
end_name SinkFault = codes "SinkFault"

-- how many calls a stream made, and how it ended
abbrev pub ending_line : ℕ → End → List ℕ
ending_line calls ending = line (codes "calls " ++ decimal calls ++ codes " end " ++ end_name ending)
