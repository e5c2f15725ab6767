-- Which rows are to fade, directory by directory.
use Rattle.std.specs.Prelude.{◌≡◌, ℕ, Bool, ◌&&◌, if◌then◌else◌, List, Some}
use Rattle.std.specs.List.{list_any}
use Rattle.mvn_coords.specs.FileName.{BuildOf}
use Rattle.mvn_coords.specs.Layout.{Directory}
use Rattle.repo_model.specs.Data.{Row}
use Rattle.repo_model.specs.Document.{is_listed, listed_in}
use Rattle.repo_model.specs.Paths.{file_at, stands_in}
use Rattle.repo_model.specs.Purge.{Aged, build_at, builds_of, due, is_due_at, is_same_build, with_aged}
use Rattle.repo_model.specs.Settings.{Rule}
use Rattle.directory_rows.specs.declared.dues.Known.{Known}

-- a row is visible and to fade at a moment
abbrev pub is_due_row : Rule → ℕ → List Row → Row → Bool
is_due_row rule now rows row = is_listed row.phase && is_due_at rule now rows (file_at row.path)

-- the builds of a directory so far, and with one more row, which counts where it is visible and the directory's
abbrev pub with_build_of_row : Directory → List Aged → Row → List Aged
with_build_of_row d builds row =
    if is_listed row.phase && stands_in d (file_at row.path) then with_aged row.accepted (build_at (file_at row.path)) builds else builds

abbrev pub directory_of : Known → Directory
directory_of k = record { group = k.group; artifact = k.artifact; version = Some k.version }

-- what is known of a directory is so by the rows
abbrev pub IsRight : Rule → ℕ → List Row → Known → Type 0
IsRight rule now rows k =
    (b : BuildOf) → list_any (is_same_build b) k.due ≡ list_any (is_same_build b) (due (builds_of (listed_in (directory_of k) rows)) rule.keep_count rule.keep_days now)
