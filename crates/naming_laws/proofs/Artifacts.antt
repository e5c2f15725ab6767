-- What the document of an artifact names: the visible files of the releases that it lists.
use Rattle.std.proofs.Common.{◌≡◌, ℕ, true, false, List, Option, Some, None, refl, sym, ◌∙◌, ap, subst}
use Rattle.std.specs.Prelude.{◌↔◌, bytes_eq, is_some, is_none}
use Rattle.std.specs.List.{list_any}
use Rattle.std.proofs.lemmas.Bool.{false≢true, and_parts, and_from}
use Rattle.std.proofs.lemmas.Slice.Eq.{bytes_eq-Decides}
use Rattle.mvn_coords.specs.Civil.{CivilTime}
use Rattle.mvn_coords.specs.FileName.{base_of}
use Rattle.mvn_coords.specs.Layout.{Coordinates, Directory}
use Rattle.mvn_coords.proofs.Levels.{Whole}
use Rattle.mvn_coords.proofs.Results.{some_same}
use Rattle.mvn_metadata.specs.declared.listing.Listing.{Listing}
use Rattle.mvn_metadata.specs.declared.listing.Listing.TheVariants.{Artifact}
use Rattle.mvn_metadata.specs.Document.{Document}
use Rattle.repo_model.specs.Data.{Row}
use Rattle.repo_model.specs.Paths.{file_at, is_build, is_snapshot_path}
use Rattle.repo_model.specs.Document.{document, listed_in}
use Rattle.repo_laws.specs.Laws.{AnyByRecursion}
use Rattle.repo_laws.specs.Closed.{gives_file, named}
use Rattle.repo_laws.specs.Described.{IsAmong, IsFileOf, IsIn, ListsVersions, Describes}
use Rattle.naming_laws.proofs.DocumentsDescribe.{row-visible, document-so}
use Rattle.naming_laws.specs.Named.{IsOfVersion, IsOfRelease}
use Rattle.naming_laws.proofs.Ones.{any-found, among-any, any-passes, passes-any}
use Rattle.naming_laws.proofs.Files.{file-path}
use Rattle.naming_laws.proofs.Texts.{none-is, release-of, version-is}
use Rattle.naming_laws.proofs.Snapshots.{named-given, given-named}

some-none : {A : Type 0} (o : Option A) → is_none o ≡ true → is_some o ≡ false
some-none None is = refl
some-none (Some x) never = absurd (false≢true never)

none-some-too : {A : Type 0} (o : Option A) → is_some o ≡ false → is_none o ≡ true
none-some-too None is = refl
none-some-too (Some x) never = absurd (false≢true (sym never))

-- the directory of a document with versions, and what is listed there
abbrev IsOfVersions : Directory → List Row → List (List ℕ) → Type 0
IsOfVersions d rows versions = (d.version ≡ None) × ListsVersions (listed_in d rows) versions

describes-versions : (d : Directory) (rows : List Row) (listing : Listing) (versions : List (List ℕ)) (updated : Option CivilTime) → Describes (listed_in d rows) d.version listing
    → listing ≡ Artifact versions updated → IsOfVersions d rows versions
describes-versions d rows listing versions updated describes is =
    by d.version refl (subst (λ (l : Listing). Describes (listed_in d rows) d.version l) is describes) where
      by : (version : Option (List ℕ)) → d.version ≡ version → Describes (listed_in d rows) version (Artifact versions updated) → IsOfVersions d rows versions
      by None version (lists, _) = (version, lists)
      by (Some directory) version never = absurd never

module _ (d : Directory) (rows : List Row) (versions : List (List ℕ)) (updated : Option CivilTime) (none : d.version ≡ None) (lists : ListsVersions (listed_in d rows) versions) where
  visible-file : (row : Row) → IsAmong row (listed_in d rows) → IsFileOf d (file_at row.path)
  visible-file row among = ((row-visible d rows row).0 among).2

  -- what is given of a file: its version is listed and no build is in it
  gives-parts : (row : Row) (c : Coordinates) → file_at row.path ≡ Some c → gives_file (Artifact versions updated) (file_at row.path) ≡ true → (is_some c.build ≡ false) × IsAmong c.directory versions
  gives-parts row c is given =
      let (built, any) = and_parts (is_none c.build) (list_any (bytes_eq c.directory) versions) (sym (ap (gives_file (Artifact versions updated)) is) ∙ given) in
      let (version, among, same) = any-passes (bytes_eq c.directory) versions any in
      (some-none c.build built, subst (λ (v : List ℕ). IsAmong v versions) (sym ((bytes_eq-Decides c.directory version).0 same)) among)

  release-gives : (row : Row) (c : Coordinates) → IsAmong row (listed_in d rows) → file_at row.path ≡ Some c → is_some c.build ≡ false → gives_file (Artifact versions updated) (file_at row.path) ≡ true
  release-gives row c seen is built =
      let among : IsAmong c.directory versions = (lists.1 c.directory).1 (among-any (IsIn c.directory) row (listed_in d rows) seen (c, is, refl)) in
      ap (gives_file (Artifact versions updated)) is
      ∙ and_from (is_none c.build) (list_any (bytes_eq c.directory) versions) (none-some-too c.build built)
      (passes-any (bytes_eq c.directory) c.directory versions among ((bytes_eq-Decides c.directory c.directory).1 refl))

  gives-no-build : (row : Row) → IsAmong row (listed_in d rows) → gives_file (Artifact versions updated) (file_at row.path) ≡ true → is_snapshot_path row.path ≡ false
  gives-no-build row seen given =
      let (c, is, _, _, _) = visible-file row seen in
      ap is_build is ∙ (gives-parts row c is given).0

  no-build-gives : (row : Row) → IsAmong row (listed_in d rows) → is_snapshot_path row.path ≡ false → gives_file (Artifact versions updated) (file_at row.path) ≡ true
  no-build-gives row seen release =
      let (c, is, _, _, _) = visible-file row seen in
      release-gives row c seen is (sym (ap is_build is) ∙ release)

  gives-release : (row : Row) → IsAmong row (listed_in d rows) → gives_file (Artifact versions updated) (file_at row.path) ≡ true → IsOfRelease d versions row.path
  gives-release row seen given =
      let (c, is, group, artifact, _) = visible-file row seen in
      let (built, among) = gives-parts row c is given in (
        c.directory,
        among,
        none-is (base_of c.directory) (sym (file-path row.path c is).based ∙ built),
        release-of d row c none group artifact is (none-is c.build built),
      )

  -- a version that is listed is a whole segment
  version-whole : (version : List ℕ) → IsAmong version versions → Whole version
  version-whole version among =
      let (row, _, (c, is, at)) = any-found (IsIn version) (listed_in d rows) ((lists.1 version).0 among) in
      subst Whole at (file-path row.path c is).whole

  release-gives-too : (row : Row) → IsAmong row (listed_in d rows) → IsOfRelease d versions row.path → gives_file (Artifact versions updated) (file_at row.path) ≡ true
  release-gives-too row seen (version, among, no_base, of_version) =
      let (c, is, group, artifact, _) = visible-file row seen in
      let at : c.directory ≡ version = version-is d row c version none group artifact is (version-whole version among) of_version in
      release-gives row c seen is ((file-path row.path c is).based ∙ ap (λ (v : List ℕ). is_some (base_of v)) at ∙ ap is_some no_base)

  -- a release that is listed has a file
  version-named : (served : Document) (version : List ℕ) → served.listing ≡ Artifact versions updated → IsAmong version versions → base_of version ≡ None
      → AnyByRecursion (λ (row : Row). IsOfVersion d version row.path) (named d rows served)
  version-named served version listing_is among no_base =
      let (row, seen, (c, is, at)) = any-found (IsIn version) (listed_in d rows) ((lists.1 version).0 among) in
      let (k, there, group, artifact, _) = visible-file row seen in
      let same : k ≡ c = some_same k c (sym there ∙ is) in
      let built : is_some c.build ≡ false = (file-path row.path c is).based ∙ ap (λ (v : List ℕ). is_some (base_of v)) at ∙ ap is_some no_base in
      among-any (λ (r : Row). IsOfVersion d version r.path) row (named d rows served)
      (given-named d rows served row seen (ap (λ (l : Listing). gives_file l (file_at row.path)) listing_is ∙ release-gives row c seen is built))
      (subst (λ (v : List ℕ). IsOfVersion d v row.path) at
      (release-of d row c none (ap (λ (x : Coordinates). x.group) (sym same) ∙ group) (ap (λ (x : Coordinates). x.artifact) (sym same) ∙ artifact) is (none-is c.build built)))

module _ (d : Directory) (rows : List Row) (served : Document) (versions : List (List ℕ)) (updated : Option CivilTime) where
  of-versions : document d rows ≡ Some served → served.listing ≡ Artifact versions updated → IsOfVersions d rows versions
  of-versions is listing_is = describes-versions d rows served.listing versions updated (document-so d rows served is).2 listing_is

  shown : (row : Row) → served.listing ≡ Artifact versions updated → gives_file served.listing (file_at row.path) ≡ gives_file (Artifact versions updated) (file_at row.path)
  shown row listing_is = ap (λ (l : Listing). gives_file l (file_at row.path)) listing_is

  pub artifact-given : (row : Row) → document d rows ≡ Some served → served.listing ≡ Artifact versions updated
      → IsAmong row (named d rows served) ↔ (IsAmong row (listed_in d rows) × IsOfRelease d versions row.path)
  artifact-given row is listing_is =
      let (none, lists) = of-versions is listing_is in (
        (λ among.
            let (seen, given) = named-given d rows served row among in
            (seen, gives-release d rows versions updated none lists row seen (sym (shown row listing_is) ∙ given))),
        (λ both. given-named d rows served row both.0 (shown row listing_is ∙ release-gives-too d rows versions updated none lists row both.0 both.1)),
      )

  pub artifact-releases : (row : Row) → document d rows ≡ Some served → served.listing ≡ Artifact versions updated
      → IsAmong row (named d rows served) ↔ (IsAmong row (listed_in d rows) × (is_snapshot_path row.path ≡ false))
  artifact-releases row is listing_is =
      let (none, lists) = of-versions is listing_is in (
        (λ among.
            let (seen, given) = named-given d rows served row among in
            (seen, gives-no-build d rows versions updated none lists row seen (sym (shown row listing_is) ∙ given))),
        (λ both. given-named d rows served row both.0 (shown row listing_is ∙ no-build-gives d rows versions updated none lists row both.0 both.1)),
      )

  pub artifact-each : (version : List ℕ) → document d rows ≡ Some served → served.listing ≡ Artifact versions updated → IsAmong version versions → base_of version ≡ None
      → AnyByRecursion (λ (row : Row). IsOfVersion d version row.path) (named d rows served)
  artifact-each version is listing_is among no_base =
      let (none, lists) = of-versions is listing_is in
      version-named d rows versions updated none lists served version listing_is among no_base
