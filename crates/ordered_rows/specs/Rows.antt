-- Rows as the machine's plain data.
use Rattle.std.specs.Prelude.{ℕ, ◌-◌, Bool, false, not, ◌&&◌, nat_lt, if◌then◌else◌, IsTrue, List, [], ◌∷◌, map, String, string_bytes}
use Rattle.std.specs.declared.alloc.Global.{Global}
use Rattle.std.specs.List.{AllByRecursion}
use Rattle.outside.specs.declared.stores.Held.{Ghosts}
use Rattle.repo_model.specs.Data as plain
use Rattle.repo_model.specs.Document.{is_listed}
use Rattle.repo_model.specs.Effect.{Effect, rows_after}
use Rattle.repo_model.specs.Shown.{shown_parcel}
use Rattle.row_tables.specs.Items.{is_file_path}
use Rattle.ordered_rows.specs.declared.row.Phase.{Phase}
use Rattle.ordered_rows.specs.declared.row.Phase.TheVariants.{Listed, Fading}
use Rattle.ordered_rows.specs.declared.row.Row.{Row}

abbrev pub shown_phase : Phase → plain.Phase
shown_phase Listed = plain.listed
shown_phase (Fading since) = plain.fading since

module _ {X : Type 0} {G : Ghosts X} where
  abbrev pub shown_at : List ℕ → Row X G → plain.Row
  shown_at path row = record {
    path = path;
    blob = shown_parcel row.parcel;
    accepted = row.accepted;
    phase = shown_phase row.phase;
  }

  abbrev pub shown_entry : String Global × Row X G → plain.Row
  shown_entry e = shown_at (string_bytes e.0) e.1

  abbrev pub shown_rows : List (String Global × Row X G) → List plain.Row
  shown_rows entries = map shown_entry entries

-- a row's path is that of a file
abbrev pub IsFileRow : plain.Row → Type 0
IsFileRow row = IsTrue (is_file_path row.path)

abbrev pub AreFiles : List plain.Row → Type 0
AreFiles rows = AllByRecursion IsFileRow rows

-- the rows after some effects
abbrev pub rows_after_all : List Effect → List plain.Row → List plain.Row
rows_after_all [] rows = rows
rows_after_all (e ∷ effects) rows = rows_after_all effects (rows_after e rows)

-- whether a row is unlisted
abbrev pub fades : plain.Row → Bool
fades row = not (is_listed row.phase)

-- whether a row is unlisted since before a moment
abbrev pub is_before : ℕ → plain.Phase → Bool
is_before limit plain.listed = false
is_before limit (plain.fading since) = nat_lt since limit

abbrev pub goes : ℕ → ℕ → plain.Phase → Bool
goes n limit phase = nat_lt 0 n && is_before limit phase

-- the rows without the first n that are unlisted since before a moment
abbrev pub without_first : ℕ → ℕ → List plain.Row → List plain.Row
without_first n limit [] = []
without_first n limit (row ∷ rows) =
    if goes n limit row.phase then without_first (n - 1) limit rows else row ∷ without_first n limit rows
