-- What a look at the blob of one recorded file finds.
use Rattle.std.specs.Prelude.{◌≡◌, ℕ, List, Option, Some, IfSome}
use Rattle.outside.specs.Blobs.{Shelf, bytes_at}
use Rattle.outside.specs.declared.stores.Held.{Ghosts}
use Rattle.repo_model.specs.Shown.{shown_print}
use Rattle.repo_model.specs.declared.print.Print.{Print}
use Rattle.blob_audit.specs.Damages.{IsWhole}
use Rattle.blob_audit.specs.declared.looking.Found.{Found}
use Rattle.blob_audit.specs.declared.looking.Found.TheVariants.{Whole, Other}

module _ {H : Type 0} {G : Ghosts H} where
  -- the fingerprint that is found
  abbrev pub found_in : Found H G → Option Print
  found_in (Whole parcel) = Some (shown_print parcel)
  found_in (Other found) = found

  -- beside what was recorded, what is called whole is whole, and what is called other is not
  abbrev pub IsJudged : Print → Found H G → Type 0
  IsJudged recorded (Whole parcel) = IsWhole recorded (Some (shown_print parcel))
  IsJudged recorded (Other found) = ¬ IsWhole recorded found

  -- a parcel has the number, and the bytes that stand under it, where these are told
  abbrev pub IsParcelOf : (H → Option (List ℕ)) → Shelf → ℕ → Found H G → Type 0
  IsParcelOf bytes shelf number (Other found) = Unit {0}
  IsParcelOf bytes shelf number (Whole parcel) = (parcel.blob ≡ number) × IfSome shelf.blobs (λ them. bytes parcel.held ≡ bytes_at number them)
