-- What the document of a directory names, as paths.
use Rattle.std.specs.Prelude.{ℕ, List, map, Option}
use Rattle.std.specs.Option.{option_map}
use Rattle.mvn_coords.specs.Layout.{Directory}
use Rattle.repo_model.specs.Data.{Row}
use Rattle.repo_model.specs.Document.{document}
use Rattle.repo_laws.specs.Closed.{named}

-- the paths of the files that it names; none where there is no document
abbrev pub named_paths : Directory → List Row → Option (List (List ℕ))
named_paths d rows = option_map (λ served. map (λ (row : Row). row.path) (named d rows served)) (document d rows)
