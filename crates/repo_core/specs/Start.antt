-- What a start makes of what is recorded and stored.
use Rattle.std.specs.Prelude.{◌≡◌, ℕ, List, [], Option, Ok, IfSome}
use Rattle.outside.specs.Blobs.{Shelf, bytes_at, numbers_of}
use Rattle.outside.specs.Moments.{Moments}
use Rattle.outside.specs.Told.{IsWhereTold}
use Rattle.repo_model.specs.Restart.{blobs_named, started}
use Rattle.repo_model.specs.Settings.{Settings}
use Rattle.repo_model.specs.State.{State}
use Rattle.repo_model.specs.Tables.{Tables}
use Rattle.row_tables.specs.Recorded.{IsBuiltUp}
use Rattle.row_tables.specs.Records.{Expected}
use Rattle.blob_audit.specs.Damages.{AreDamaged}
use Rattle.blob_audit.specs.Order.{all_rows}
use Rattle.row_completion.specs.Completion.{IsComplete, IsDigested}
use Rattle.repo_restart.specs.Leftovers.{left_over, without_blobs}

-- tables that are recorded: items built them up, and they are those that the records tell and that a load gives
pub record AreLoaded (tables : Option Tables) (loading : Option Expected) (t : Tables) : Type 0 where
  pub built : IsBuiltUp t
  pub told : IfSome tables (λ them. t ≡ them)
  pub loads : IfSome loading (λ expected. expected ≡ Ok t)

-- tables that were loaded, and what they are once all their rows have all digests
abbrev pub AreCompleted : Option Tables → Option Expected → Shelf → Tables → Type 0
AreCompleted tables loading shelf t = (loaded : Tables) × AreLoaded tables loading loaded × IsDigested shelf loaded t × IsComplete t

-- The state that a start makes over tables and a store: its rows have the bytes that stand under their numbers, where the store
-- tells its blobs. None of the recorded files is damaged. Of the stored blobs exactly those that no row names are removed.
pub record Starts (settings : Settings) (t : Tables) (old new : Shelf) (clock : Option Moments) (faults : ℕ) (s : State) : Type 0 where
  pub tells : ℕ → Option (List ℕ)
  pub stored : List ℕ
  pub standing : IfSome old.blobs (λ them. (n : ℕ) → tells n ≡ bytes_at n them)
  pub listed : IsWhereTold (numbers_of old) stored
  pub state : s ≡ started settings tells stored clock faults t
  pub whole : AreDamaged old (all_rows t) []
  pub removed : new ≡ without_blobs (left_over (blobs_named t) stored) old
