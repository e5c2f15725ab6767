-- Where a start found no file damaged, and told its blobs, each file names one of them; and after a start nothing is staged.
use Rattle.std.proofs.Common.{◌≡◌, ℕ, List, [], ◌∷◌, Option, Some, None, refl, subst}
use Rattle.std.specs.Prelude.{IfSome}
use Rattle.std.specs.List.{AllByRecursion}
use Rattle.std.specs.Option.{option_map}
use Rattle.std.proofs.lemmas.Option.{none-some}
use Rattle.outside.specs.Blobs.{Numbered, Shelf, bytes_at}
use Rattle.outside.specs.Moments.{Moments}
use Rattle.repo_model.specs.Restart.{session_from, sessions_from, started}
use Rattle.repo_model.specs.Settings.{Settings}
use Rattle.repo_model.specs.Tables.{RecordedRow, RecordedSession, Tables}
use Rattle.repo_model.specs.declared.print.Print.{Print}
use Rattle.repo_model.specs.declared.session.SessionResult.{SessionResult}
use Rattle.blob_audit.specs.Damages.{AreDamaged, IsFound, IsWhole, damaged, none, print_of, whole}
use Rattle.blob_audit.specs.declared.damages.Damaged.{Damaged}
use Rattle.repo_laws.proofs.HoldingLists.{all-join}
use Rattle.crash_laws.specs.Found.{AreStagedStored, AreStored, IsStagedStored, IsStored}

module _ (shelf : Shelf) (those : Numbered) (told : shelf.blobs ≡ Some those) where
  found-stored : (r : RecordedRow) (found : Option Print) → IsFound shelf r.row.blob.number found → IsWhole r.row.blob.print found → IsStored shelf r
  found-stored r found at is_whole =
      let n = r.row.blob.number in
      let same : found ≡ option_map print_of (bytes_at n those) = subst (λ (o : Option Numbered). IfSome o (λ them. found ≡ option_map print_of (bytes_at n them))) told at in
      elim (bytes_at n those) as (λ o. bytes_at n those ≡ o → IsWhole r.row.blob.print (option_map print_of o) → IsStored shelf r) [
        | None ↦ λ _ nothing. absurd (none-some r.row.blob.print nothing)
        | (Some bytes) ↦ λ is so. (those, bytes, told, is, so)
      ] refl (subst (IsWhole r.row.blob.print) same is_whole)

  stored-of : (rows : List RecordedRow) (damages : List Damaged) → damages ≡ [] → AreDamaged shelf rows damages → AreStored shelf rows
  stored-of rows damages is none = tt
  stored-of rows damages is (whole r others more found at is_whole rest) = (found-stored r found at is_whole, stored-of others more is rest)
  stored-of rows damages is (damaged r others more found at broken rest) = absurd (cc)

pub whole-stored : (shelf : Shelf) (those : Numbered) (rows : List RecordedRow) → shelf.blobs ≡ Some those → AreDamaged shelf rows [] → AreStored shelf rows
whole-stored shelf those rows told undamaged = stored-of shelf those told rows [] refl undamaged

none-staged : (shelf : Shelf) (n : ℕ) (result : Option SessionResult) → AllByRecursion (IsStagedStored shelf) (session_from n result)
none-staged shelf n None = tt
none-staged shelf n (Some result) = (tt, tt)

from-sessions : (shelf : Shelf) (sessions : List RecordedSession) → AllByRecursion (IsStagedStored shelf) (sessions_from sessions)
from-sessions shelf [] = tt
from-sessions shelf (one ∷ sessions) =
    all-join (IsStagedStored shelf) (session_from one.number one.result) (sessions_from sessions) (none-staged shelf one.number one.result) (from-sessions shelf sessions)

pub starts-staged : (settings : Settings) (tells : ℕ → Option (List ℕ)) (stored : List ℕ) (clock : Option Moments) (faults : ℕ) (t : Tables) (shelf : Shelf)
    → AreStagedStored shelf (started settings tells stored clock faults t)
starts-staged settings tells stored clock faults t shelf = from-sessions shelf t.sessions
