-- The rows of hosted repositories, and what putting a blob does to them.
use Rattle.std.specs.Prelude.{ℕ, List, [], map, find}
use Rattle.std.specs.Option.{option_map_or}
use Rattle.std.specs.List.{AllByRecursion}
use Rattle.std.specs.Prelude.{IsTrue}
use Rattle.repo_model.specs.Data.{Blob, Row, Hosted}
use Rattle.repo_model.specs.Settings.{Rule}
use Rattle.repo_model.specs.State.{change_first, change_where, is_among, is_repository, is_row, row_at}
use Rattle.repo_model.specs.Effect.{with_row, new_row, list_again}
use Rattle.repo_model.specs.Reply.{Reply, created, relisted}
use Rattle.repo_model.specs.Turn.{Turn, put_at}

-- what the repositories take
abbrev pub rules_of : List Hosted → List Rule
rules_of hosted = map (λ h. h.rule) hosted

-- the rows of a repository; none where there is no such repository
abbrev pub rows_in : List ℕ → List Hosted → List Row
rows_in id hosted = option_map_or (λ h. h.rows) (find (is_repository id) hosted) []

-- the repositories with other rows at one of them
abbrev pub with_rows : List ℕ → List Row → List Hosted → List Hosted
with_rows id rows hosted = change_first (is_repository id) (λ h. record h { rows = rows }) hosted

-- the turn of a put of a blob at a path of one of the repositories
abbrev pub put_in : List ℕ → List ℕ → Blob → ℕ → List Hosted → Turn
put_in id path blob moment hosted = put_at id path blob.number blob moment (row_at path (rows_in id hosted))

-- the rows once a blob was put at a path and that was the reply
abbrev pub rows_put : List ℕ → Blob → ℕ → Reply → List Row → List Row
rows_put path blob moment created rows = with_row (new_row path blob moment) rows
rows_put path blob moment relisted rows = change_where (is_row path) (list_again moment) rows
rows_put path blob moment _ rows = rows

-- each row's blob is in use
abbrev pub AreInUse : List ℕ → List Hosted → Type 0
AreInUse kept hosted = AllByRecursion (λ (h : Hosted). AllByRecursion (λ (row : Row). IsTrue (is_among row.blob.number kept)) h.rows) hosted
