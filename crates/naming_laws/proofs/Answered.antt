-- What the written fields of a served document give is answered up to the grace.
use Rattle.std.proofs.Common.{◌≡◌, ℕ, List, ◌∷◌, Option, Some, None}
use Rattle.std.specs.List.{AllByRecursion}
use Rattle.mvn_coords.specs.Civil.{CivilTime}
use Rattle.mvn_coords.specs.FileName.{BuildOf, base_of}
use Rattle.mvn_coords.specs.Layout.{Directory}
use Rattle.mvn_metadata.specs.declared.listing.Listing.TheVariants.{Artifact, Snapshot}
use Rattle.mvn_metadata.specs.Document.{Document}
use Rattle.mvn_metadata.specs.Merge as metadata
use Rattle.repo_model.specs.Data.{Row}
use Rattle.repo_model.specs.Document.{document, listed_in}
use Rattle.repo_model.specs.Settings.{Settings}
use Rattle.repo_model.specs.State.{State, rows_of}
use Rattle.repo_model.specs.History.{Entry, Legal}
use Rattle.repo_laws.specs.Laws.{AnyByRecursion}
use Rattle.repo_laws.specs.Sound.{AreNamedApart, IsSound}
use Rattle.repo_laws.specs.Closed.{AnswersDocument, named}
use Rattle.repo_laws.specs.Described.{IsAmong}
use Rattle.repo_laws.proofs.Closed.{closed}
use Rattle.naming_laws.specs.Answered.{IsAnswered}
use Rattle.naming_laws.specs.Named.{path_given, IsOfVersion, IsOfRelease}
use Rattle.naming_laws.proofs.Ones.{any-found, among-any, among-all, all-with}
use Rattle.naming_laws.proofs.Snapshots.{named-given, snapshot-each}
use Rattle.naming_laws.proofs.Artifacts.{artifact-each, artifact-given}

module _ (settings : Settings) (s : State) (e : Entry) (later : List Entry) (repo : List ℕ) (d : Directory) (served : Document) (apart : AreNamedApart settings.hosted)
    (sound : IsSound settings s) (legal : Legal settings s (e ∷ later)) (answers : AnswersDocument settings s e repo d served) (served-is : document d (rows_of repo s) ≡ Some served) where
  abbrev rows : List Row
  rows = rows_of repo s

  named-answered : (row : Row) → IsAmong row (named d rows served) → IsAnswered settings s e later repo row
  named-answered row among = among-all (IsAnswered settings s e later repo) row (named d rows served) among ((closed settings apart (e ∷ later) s sound.order legal).0 repo d served answers)

  -- one that is named is visible and answered
  one-answered : (P : Row → Type 0) → AnyByRecursion P (named d rows served) → AnyByRecursion (λ (row : Row). P row × IsAnswered settings s e later repo row) (listed_in d rows)
  one-answered P any =
      let (row, among, has) = any-found P (named d rows served) any in
      among-any (λ (r : Row). P r × IsAnswered settings s e later repo r) row (listed_in d rows) (named-given d rows served row among).0 (has, named-answered row among)

  pub snapshots-answered : (base : List ℕ) (newest : Option BuildOf) (entries : List metadata.Entry) → served.listing ≡ Snapshot base newest entries
      → AllByRecursion (λ (given : metadata.Entry). AnyByRecursion (λ (row : Row). (row.path ≡ path_given d given) × IsAnswered settings s e later repo row) (listed_in d rows)) entries
  snapshots-answered base newest entries is =
      all-with (λ (given : metadata.Entry). AnyByRecursion (λ (row : Row). row.path ≡ path_given d given) (named d rows served))
      (λ (given : metadata.Entry). AnyByRecursion (λ (row : Row). (row.path ≡ path_given d given) × IsAnswered settings s e later repo row) (listed_in d rows))
      entries (λ given _ any. one-answered (λ (row : Row). row.path ≡ path_given d given) any) (snapshot-each d rows served base newest entries served-is is)

  pub releases-answered : (versions : List (List ℕ)) (updated : Option CivilTime) (version : List ℕ) → served.listing ≡ Artifact versions updated → IsAmong version versions → base_of version ≡ None
      → AnyByRecursion (λ (row : Row). IsOfVersion d version row.path × IsAnswered settings s e later repo row) (listed_in d rows)
  releases-answered versions updated version is among no_base =
      one-answered (λ (row : Row). IsOfVersion d version row.path) (artifact-each d rows served versions updated version served-is is among no_base)

  pub all-answered : (versions : List (List ℕ)) (updated : Option CivilTime) (row : Row) → served.listing ≡ Artifact versions updated → IsAmong row (listed_in d rows) → IsOfRelease d versions row.path
      → IsAnswered settings s e later repo row
  all-answered versions updated row is seen of_release =
      named-answered row ((artifact-given d rows served versions updated row served-is is).1 (seen, of_release))
