use Rattle.std.proofs.Common.{◌≡◌, fold, option_map, string_bytes}
use Rattle.std.specs.List.{flat_map}
use Rattle.repo_model.specs.Data.{Staged}
use Rattle.repo_model.specs.Deploy.{bare_directory, least, without_pom}
use Rattle.repo_model.specs.Paths.{file_at}
use Rattle.hosted_delivery.specs.Deliveries.{shown_files}
use Rattle.ordered_rows.specs.Rows.{shown_rows}
use Rattle.hosted_delivery.proofs.judging.first_bare.Given as goal

-- the first so far, with those of the files that are left
abbrev pub invariant-loop-path : goal.invariant-loop-path
invariant-loop-path g l =
    let rows = shown_rows l.rows.entries in
    let files = shown_files l.staged.entries in
    fold least (option_map string_bytes l.best) (flat_map (λ (file : Staged). bare_directory rows files (file_at file.path)) (shown_files l.path-iterator)) ≡ without_pom rows files
