-- All recorded files in byte order of repository and then of path; at one place a hosted file stands before a proxy's.
use Rattle.std.specs.Prelude.{Bool, true, false, List, map}
use Rattle.std.specs.declared.cmp.Ordering.{Ordering}
use Rattle.std.specs.declared.cmp.Ordering.TheVariants.{Less, Equal, Greater}
use Rattle.itertools.specs.List.{merge_by}
use Rattle.repo_model.specs.Tables.{Tables, RecordedRow, place_cmp}

-- a recorded file, and whether it is a hosted repository's
pub record File : Type 0 where
  pub is_hosted : Bool
  pub row : RecordedRow

abbrev pub files_of : Bool → List RecordedRow → List File
files_of is_hosted rows = map (λ (r : RecordedRow). record { is_hosted = is_hosted; row = r }) rows

abbrev pub is_at_most : Ordering → Bool
is_at_most Less = true
is_at_most Equal = true
is_at_most Greater = false

-- a file stands no later than another
abbrev pub comes_first : File → File → Bool
comes_first a b = is_at_most (place_cmp a.row.repo a.row.row.path b.row.repo b.row.row.path)

abbrev pub all_files : Tables → List File
all_files t = merge_by comes_first (files_of true t.hosted) (files_of false t.cached)

abbrev pub all_rows : Tables → List RecordedRow
all_rows t = map (λ (f : File). f.row) (all_files t)
