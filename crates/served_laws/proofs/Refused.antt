-- A store in which no recorded file is damaged refuses no start.
use Rattle.std.proofs.Common.{◌≡◌, true, false, ℕ, Bool, List, [], ◌∷◌, Option, Some, None, refl, sym, ap, subst, ◌∙◌}
use Rattle.std.specs.Prelude.{IfSome, if◌then◌else◌}
use Rattle.std.specs.List.{AllByRecursion}
use Rattle.std.specs.Option.{option_map}
use Rattle.std.proofs.lemmas.Option.{none-some}
use Rattle.mvn_digest.specs.Digests.{further_in}
use Rattle.mvn_digest.specs.declared.known.Further.{Further}
use Rattle.outside.specs.Blobs.{Numbered, Shelf, bytes_at}
use Rattle.repo_model.specs.Prints.{lacks_further, with_further, without_further}
use Rattle.repo_model.specs.Tables.{RecordedRow, Tables}
use Rattle.repo_model.specs.declared.print.Print.{Print}
use Rattle.repo_laws.proofs.HoldingLists.{all-split}
use Rattle.blob_audit.specs.Damages.{AreDamaged, IsFirstDamaged, IsFound, IsWhole, damaged, none, print_of, whole}
use Rattle.blob_audit.specs.Order.{all_rows}
use Rattle.blob_audit.specs.declared.damages.Damaged.{Damaged}
use Rattle.row_completion.specs.Completion as digests
use Rattle.row_completion.specs.Completion.{AreDigested, IsDigested, IsFurtherOf, row_with}
use Rattle.crash_laws.specs.Found.{AreStored, HasStored, IsStored}
use Rattle.crash_laws.proofs.AllRows.{all-rows, rows-all}
use Rattle.crash_laws.proofs.Begun.{whole-stored}
use Rattle.crash_laws.proofs.Handed.{whole-itself}

module _ (shelf : Shelf) (those : Numbered) (told : shelf.blobs ≡ Some those) where
  found-is : (n : ℕ) (found : Option Print) → IsFound shelf n found → found ≡ option_map print_of (bytes_at n those)
  found-is n found is = subst (λ (o : Option Numbered). IfSome o (λ them. found ≡ option_map print_of (bytes_at n them))) told is

  given-stored : (r : RecordedRow) (further : Further) → lacks_further r.row.blob.print ≡ true → IsFurtherOf shelf r further → IsStored shelf (row_with further r)
  given-stored r further lacks (print, found, is_whole, further_is, form) =
      let n = r.row.blob.number in
      let bare : Some (without_further print) ≡ Some r.row.blob.print =
      subst (λ (b : Bool). Some (if b then without_further print else print) ≡ Some r.row.blob.print) lacks is_whole in
      let bare_is : without_further print ≡ r.row.blob.print = cc in
      let now : with_further further r.row.blob.print ≡ print = ap (λ (f : Further). with_further f r.row.blob.print) further_is ∙ ap (with_further (further_in print.digests)) (sym bare_is) in
      elim (bytes_at n those) as (λ o. bytes_at n those ≡ o → Some print ≡ option_map print_of o → IsStored shelf (row_with further r)) [
        | None ↦ λ _ nothing. absurd (none-some print (sym nothing))
        | (Some bytes) ↦ λ at some.
            let print_is : print ≡ print_of bytes = cc in
            (those, bytes, told, at, subst (λ (p : Print). IsWhole p (Some (print_of bytes))) (sym (now ∙ print_is)) (whole-itself bytes))
      ] refl (found-is n (Some print) found)

  digested-stored : (old new : List RecordedRow) → AreDigested shelf old new → AreStored shelf old → AreStored shelf new
  digested-stored old new digests.none stored = tt
  digested-stored old new (digests.same r before behind rest) stored = (stored.0, digested-stored before behind rest stored.1)
  digested-stored old new (digests.given r further before behind lacks is rest) stored = (given-stored r further lacks is, digested-stored before behind rest stored.1)

  not-broken : (r : RecordedRow) (found : Option Print) → IsStored shelf r → IsFound shelf r.row.blob.number found → IsWhole r.row.blob.print found
  not-broken r found (them, bytes, told_so, at, is_whole) is =
      let same : them ≡ those = let both : Some them ≡ Some those = sym told_so ∙ told in cc in
      let there : found ≡ Some (print_of bytes) = found-is r.row.blob.number found is ∙ ap (option_map print_of) (subst (λ (s : Numbered). bytes_at r.row.blob.number s ≡ Some bytes) same at) in
      subst (IsWhole r.row.blob.print) (sym there) is_whole

  never-damaged : (rows : List RecordedRow) (damages : List Damaged) → AreDamaged shelf rows damages → AreStored shelf rows → damages ≡ []
  never-damaged rows damages none stored = refl
  never-damaged rows damages (whole r others more found at is_whole rest) stored = never-damaged others more rest stored.1
  never-damaged rows damages (damaged r others more found at broken rest) stored = absurd (broken (not-broken r found stored.0 at))

  pub not-refused : (loaded t : Tables) (damage : Damaged) → AreDamaged shelf (all_rows loaded) [] → IsDigested shelf loaded t → IsFirstDamaged shelf (all_rows t) damage → ⊥
  not-refused loaded t damage undamaged digested (front, r, rest, parts, before, here) =
      let (hosted, cached) = all-rows (IsStored shelf) loaded (whole-stored shelf those (all_rows loaded) told undamaged) in
      let all : AreStored shelf (all_rows t) =
      rows-all (IsStored shelf) t (digested-stored loaded.hosted t.hosted digested.hosted hosted) (digested-stored loaded.cached t.cached digested.cached cached) in
      let this : IsStored shelf r = (all-split (IsStored shelf) front (r ∷ rest) (subst (AreStored shelf) parts all)).1.0 in
      let no : damage ∷ [] ≡ [] = never-damaged (r ∷ []) (damage ∷ []) here (this, tt) in
      absurd (cc)
