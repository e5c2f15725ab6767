-- What the document of a snapshot directory names: the visible files that its entries give, which are the newest of their classifier and extension.
use Rattle.std.proofs.Common.{◌≡◌, ℕ, Bool, true, ◌&&◌, List, [], Option, Some, None, refl, sym, ◌∙◌, ap, subst}
use Rattle.std.specs.Prelude.{◌↔◌, bytes_eq, is_some, unwrap_or}
use Rattle.std.specs.List.{AllByRecursion}
use Rattle.std.specs.Ordering.{is_gt, is_eq}
use Rattle.std.proofs.lemmas.Bool.{false≢true, and_parts, and_from}
use Rattle.std.proofs.lemmas.Cmp.{tied_itself}
use Rattle.std.proofs.lemmas.Slice.Eq.{bytes_eq-Decides}
use Rattle.mvn_coords.specs.FileName.{BuildOf, base_of}
use Rattle.mvn_coords.specs.Layout.{Coordinates, Directory}
use Rattle.mvn_coords.proofs.Results.{some_same}
use Rattle.mvn_metadata.specs.declared.listing.Listing.{Listing}
use Rattle.mvn_metadata.specs.declared.listing.Listing.TheVariants.{Artifact, Snapshot}
use Rattle.mvn_metadata.specs.declared.pair.Pair.{Pair}
use Rattle.mvn_metadata.specs.declared.pair.SnapshotBuild.{SnapshotBuild}
use Rattle.mvn_metadata.specs.Document.{Document}
use Rattle.mvn_metadata.specs.Merge.{Entry}
use Rattle.mvn_metadata.specs.Order.{build_cmp, build_cmp_total}
use Rattle.repo_model.specs.Data.{Row, listed}
use Rattle.repo_model.specs.Paths.{file_at}
use Rattle.repo_model.specs.Purge.{is_same_build}
use Rattle.repo_model.specs.Document.{document, listed_in}
use Rattle.repo_laws.specs.Laws.{AnyByRecursion}
use Rattle.repo_laws.specs.Closed.{gives_build, gives_file, is_named_so, named}
use Rattle.repo_laws.specs.Described.{IsAmong, IsVersion, IsFileOf, Adds, ListsBuilds, Describes}
use Rattle.naming_laws.proofs.DocumentsDescribe.{among-filter, filter-among, row-visible, document-so, document-none}
use Rattle.naming_laws.specs.Named.{path_given, IsGiven, IsNewestOfPair}
use Rattle.naming_laws.proofs.Ones.{any-found, among-any, among-all, all-with, any-passes, passes-any, found-at, at-found, build-ties, neither-greater}
use Rattle.naming_laws.proofs.Files.{file-path}
use Rattle.naming_laws.proofs.Texts.{some-is, adds-path}

-- what is named is visible and given, and the other way
abbrev gives : Document → Row → Bool
gives served row = gives_file served.listing (file_at row.path)

pub named-given : (d : Directory) (rows : List Row) (served : Document) (row : Row) → IsAmong row (named d rows served)
    → IsAmong row (listed_in d rows) × (gives_file served.listing (file_at row.path) ≡ true)
named-given d rows served row among = among-filter (gives served) row (listed_in d rows) among

pub given-named : (d : Directory) (rows : List Row) (served : Document) (row : Row) → IsAmong row (listed_in d rows) → gives_file served.listing (file_at row.path) ≡ true
    → IsAmong row (named d rows served)
given-named d rows served row among is = filter-among (gives served) row (listed_in d rows) among is

pub named-visible : (d : Directory) (rows : List Row) (served : Document) (row : Row) → IsAmong row (named d rows served) → IsAmong row rows × (row.phase ≡ listed) × IsFileOf d (file_at row.path)
named-visible d rows served row among = (row-visible d rows row).0 (named-given d rows served row among).0

-- the directory of a document with builds, and what is listed there
abbrev IsOfBuilds : Directory → List Row → List Entry → Type 0
IsOfBuilds d rows entries = (directory : List ℕ) × (d.version ≡ Some directory) × ListsBuilds (listed_in d rows) entries

describes-builds : (d : Directory) (rows : List Row) (listing : Listing) (base : List ℕ) (newest : Option BuildOf) (entries : List Entry) → Describes (listed_in d rows) d.version listing
    → listing ≡ Snapshot base newest entries → IsOfBuilds d rows entries
describes-builds d rows listing base newest entries describes is =
    by d.version refl (subst (λ (l : Listing). Describes (listed_in d rows) d.version l) is describes) where
      by : (version : Option (List ℕ)) → d.version ≡ version → Describes (listed_in d rows) version (Snapshot base newest entries) → IsOfBuilds d rows entries
      by None version never = absurd never
      by (Some directory) version (_, _, lists) = (directory, version, lists)

module _ (d : Directory) (rows : List Row) (directory : List ℕ) (version_is : d.version ≡ Some directory) (base : List ℕ) (newest : Option BuildOf) (entries : List Entry)
    (lists : ListsBuilds (listed_in d rows) entries) where
  visible-file : (row : Row) → IsAmong row (listed_in d rows) → IsFileOf d (file_at row.path)
  visible-file row among = ((row-visible d rows row).0 among).2

  -- a visible file stands in the directory
  stands-there : (row : Row) (c : Coordinates) → IsAmong row (listed_in d rows) → file_at row.path ≡ Some c → c.directory ≡ directory
  stands-there row c among is =
      let (k, there, _, _, version) = visible-file row among in
      ap (λ (x : Coordinates). x.directory) (some_same c k (sym is ∙ there)) ∙ sym (subst (λ (v : Option (List ℕ)). IsVersion v k.directory) version_is version)

  -- an entry is the one that a visible file adds
  entry-file : (e : Entry) → IsAmong e entries → (row : Row) × IsAmong row (listed_in d rows) × Adds e.0 e.1 row
  entry-file e among = any-found (Adds e.0 e.1) (listed_in d rows) (among-all (λ (x : Entry). AnyByRecursion (Adds x.0 x.1) (listed_in d rows)) e entries among lists.1)

  entry-base : (e : Entry) → IsAmong e entries → e.1.base ≡ unwrap_or (base_of directory) []
  entry-base e among =
      let (row, seen, (c, build, is, built, pair_is, snapshot_is)) = entry-file e among in
      sym (ap (λ (u : SnapshotBuild). u.base) snapshot_is) ∙ ap (λ (v : List ℕ). unwrap_or (base_of v) []) (stands-there row c seen is)

  -- an entry with a file's classifier, extension and build gives it
  gives-by : (row : Row) (e : Entry) (c : Coordinates) (build : BuildOf) → IsAmong e entries → file_at row.path ≡ Some c → c.build ≡ Some build
      → record { classifier = c.classifier; extension = c.extension } ≡ e.0 → is_same_build build e.1.build ≡ true → gives_file (Snapshot base newest entries) (file_at row.path) ≡ true
  gives-by row e c build among is built pair_is same =
      ap (gives_file (Snapshot base newest entries)) is ∙ ap (gives_build entries c) built
      ∙ passes-any (is_named_so c build) e entries among
      (and_from (bytes_eq e.0.classifier c.classifier) (bytes_eq e.0.extension c.extension && is_same_build build e.1.build)
      ((bytes_eq-Decides e.0.classifier c.classifier).1 (sym (ap (λ (p : Pair). p.classifier) pair_is)))
      (and_from (bytes_eq e.0.extension c.extension) (is_same_build build e.1.build)
      ((bytes_eq-Decides e.0.extension c.extension).1 (sym (ap (λ (p : Pair). p.extension) pair_is))) same))

  adds-gives : (row : Row) (e : Entry) → IsAmong e entries → Adds e.0 e.1 row → gives_file (Snapshot base newest entries) (file_at row.path) ≡ true
  adds-gives row e among (c, build, is, built, pair_is, snapshot_is) =
      gives-by row e c build among is built pair_is (ap (λ (u : SnapshotBuild). is_same_build build u.build) (sym snapshot_is) ∙ ap is_eq (tied_itself build_cmp_total build))

  -- what gives a visible file is the entry that it adds
  gives-adds : (row : Row) → IsAmong row (listed_in d rows) → gives_file (Snapshot base newest entries) (file_at row.path) ≡ true → (e : Entry) × IsAmong e entries × Adds e.0 e.1 row
  gives-adds row seen is = by (file_at row.path) refl is where
    by-build : (c : Coordinates) (build : Option BuildOf) → file_at row.path ≡ Some c → c.build ≡ build → gives_build entries c build ≡ true → (e : Entry) × IsAmong e entries × Adds e.0 e.1 row
    by-build c None found built never = absurd (false≢true never)
    by-build c (Some build) found built any =
        let (e, among, so) = any-passes (is_named_so c build) entries any in
        let (classifier, rest) = and_parts (bytes_eq e.0.classifier c.classifier) (bytes_eq e.0.extension c.extension && is_same_build build e.1.build) so in
        let (extension, same) = and_parts (bytes_eq e.0.extension c.extension) (is_same_build build e.1.build) rest in
        let of_classifier : c.classifier ≡ e.0.classifier = sym ((bytes_eq-Decides e.0.classifier c.classifier).0 classifier) in
        let of_extension : c.extension ≡ e.0.extension = sym ((bytes_eq-Decides e.0.extension c.extension).0 extension) in
        let of_base : unwrap_or (base_of c.directory) [] ≡ e.1.base = ap (λ (v : List ℕ). unwrap_or (base_of v) []) (stands-there row c seen found) ∙ sym (entry-base e among) in
        let of_build : build ≡ e.1.build = build-ties build e.1.build same in
        (e, among, (c, build, found, built, (λ i. record { classifier = of_classifier i; extension = of_extension i }), (λ i. record { base = of_base i; build = of_build i })))

    by : (found : Option Coordinates) → file_at row.path ≡ found → gives_file (Snapshot base newest entries) found ≡ true → (e : Entry) × IsAmong e entries × Adds e.0 e.1 row
    by None found never = absurd (false≢true never)
    by (Some c) found any = by-build c c.build found refl any

  -- two files at one path add the same
  adds-too : (row other : Row) (pair : Pair) (snapshot : SnapshotBuild) → row.path ≡ other.path → Adds pair snapshot other → Adds pair snapshot row
  adds-too row other pair snapshot same (c, build, is, built, pair_is, snapshot_is) = (c, build, ap file_at same ∙ is, built, pair_is, snapshot_is)

  path-of : (row : Row) (e : Entry) → IsAmong row (listed_in d rows) → Adds e.0 e.1 row → row.path ≡ path_given d e
  path-of row e seen adds = adds-path d directory row e.0 e.1 version_is (visible-file row seen) adds

  gives-path : (row : Row) → IsAmong row (listed_in d rows) → gives_file (Snapshot base newest entries) (file_at row.path) ≡ true → IsGiven d entries row.path
  gives-path row seen is =
      let (e, among, adds) = gives-adds row seen is in
      among-any (λ (x : Entry). row.path ≡ path_given d x) e entries among (path-of row e seen adds)

  path-gives : (row : Row) → IsGiven d entries row.path → gives_file (Snapshot base newest entries) (file_at row.path) ≡ true
  path-gives row given =
      let (e, among, path_is) = any-found (λ (x : Entry). row.path ≡ path_given d x) entries given in
      let (other, seen, adds) = entry-file e among in
      adds-gives row e among (adds-too row other e.0 e.1 (path_is ∙ sym (path-of other e seen adds)) adds)

  gives-newest : (row : Row) → IsAmong row (listed_in d rows) → gives_file (Snapshot base newest entries) (file_at row.path) ≡ true → IsNewestOfPair (listed_in d rows) row
  gives-newest row seen is =
      let (e, among, adds) = gives-adds row seen is in (
        e.0,
        e.1,
        adds,
        λ other others.
            let (kept, found, below) = lists.2 e.0 other others in
            let same : e.1 ≡ kept = some_same e.1 kept (sym (found-at entries e lists.0 among) ∙ found) in
            ap (λ (u : SnapshotBuild). is_gt (build_cmp other.build u.build)) same ∙ below,
      )

  newest-gives : (row : Row) → IsAmong row (listed_in d rows) → IsNewestOfPair (listed_in d rows) row → gives_file (Snapshot base newest entries) (file_at row.path) ≡ true
  newest-gives row seen (pair, snapshot, adds, most) =
      let (kept, found, below) = lists.2 pair snapshot (among-any (Adds pair snapshot) row (listed_in d rows) seen adds) in
      let among : IsAmong (pair, kept) entries = at-found entries pair kept found in
      let above = most kept (among-all (λ (x : Entry). AnyByRecursion (Adds x.0 x.1) (listed_in d rows)) (pair, kept) entries among lists.1) in
      let (c, build, is, built, pair_is, snapshot_is) = adds in
      gives-by row (pair, kept) c build among is built pair_is
      (ap (λ (u : SnapshotBuild). is_same_build u.build kept.build) snapshot_is ∙ neither-greater build_cmp_total snapshot.build kept.build below above)

  -- each entry gives one
  entries-name : (served : Document) → served.listing ≡ Snapshot base newest entries → AllByRecursion (λ (e : Entry). AnyByRecursion (λ (row : Row). row.path ≡ path_given d e) (named d rows served)) entries
  entries-name served listing_is =
      all-with (λ (e : Entry). AnyByRecursion (Adds e.0 e.1) (listed_in d rows)) (λ (e : Entry). AnyByRecursion (λ (row : Row). row.path ≡ path_given d e) (named d rows served))
      entries
      (λ e among any.
      let (row, seen, adds) = any-found (Adds e.0 e.1) (listed_in d rows) any in
      among-any (λ (r : Row). r.path ≡ path_given d e) row (named d rows served)
      (given-named d rows served row seen (ap (λ (l : Listing). gives_file l (file_at row.path)) listing_is ∙ adds-gives row e among adds))
      (path-of row e seen adds))
      lists.1

module _ (d : Directory) (rows : List Row) (served : Document) (base : List ℕ) (newest : Option BuildOf) (entries : List Entry) where
  of-builds : document d rows ≡ Some served → served.listing ≡ Snapshot base newest entries → IsOfBuilds d rows entries
  of-builds is listing_is = describes-builds d rows served.listing base newest entries (document-so d rows served is).2 listing_is

  shown : (row : Row) → served.listing ≡ Snapshot base newest entries → gives_file served.listing (file_at row.path) ≡ gives_file (Snapshot base newest entries) (file_at row.path)
  shown row listing_is = ap (λ (l : Listing). gives_file l (file_at row.path)) listing_is

  pub snapshot-given : (row : Row) → document d rows ≡ Some served → served.listing ≡ Snapshot base newest entries
      → IsAmong row (named d rows served) ↔ (IsAmong row (listed_in d rows) × IsGiven d entries row.path)
  snapshot-given row is listing_is =
      let (directory, version_is, lists) = of-builds is listing_is in (
        (λ among.
            let (seen, gives_so) = named-given d rows served row among in
            (seen, gives-path d rows directory version_is base newest entries lists row seen (sym (shown row listing_is) ∙ gives_so))),
        (λ both. given-named d rows served row both.0 (shown row listing_is ∙ path-gives d rows directory version_is base newest entries lists row both.1)),
      )

  pub snapshot-newest : (row : Row) → document d rows ≡ Some served → served.listing ≡ Snapshot base newest entries
      → IsAmong row (named d rows served) ↔ (IsAmong row (listed_in d rows) × IsNewestOfPair (listed_in d rows) row)
  snapshot-newest row is listing_is =
      let (directory, version_is, lists) = of-builds is listing_is in (
        (λ among.
            let (seen, gives_so) = named-given d rows served row among in
            (seen, gives-newest d rows directory version_is base newest entries lists row seen (sym (shown row listing_is) ∙ gives_so))),
        (λ both. given-named d rows served row both.0 (shown row listing_is ∙ newest-gives d rows directory version_is base newest entries lists row both.0 both.1)),
      )

  pub snapshot-each : document d rows ≡ Some served → served.listing ≡ Snapshot base newest entries
      → AllByRecursion (λ (e : Entry). AnyByRecursion (λ (row : Row). row.path ≡ path_given d e) (named d rows served)) entries
  snapshot-each is listing_is =
      let (directory, version_is, lists) = of-builds is listing_is in
      entries-name d rows directory version_is base newest entries lists served listing_is

-- ---- where a file is visible, one is named
abbrev NamesOne : Directory → List Row → Type 0
NamesOne d rows = (served : Document) × (document d rows ≡ Some served) × ((one : Row) × IsAmong one (named d rows served))

module _ (d : Directory) (rows : List Row) (directory : List ℕ) (row : Row) (version_is : d.version ≡ Some directory) (based : is_some (base_of directory) ≡ true)
    (seen : IsAmong row (listed_in d rows)) where
  listing-names : (served : Document) → document d rows ≡ Some served → (listing : Listing) → served.listing ≡ listing → Describes (listed_in d rows) (Some directory) listing → NamesOne d rows
  listing-names served is (Artifact versions updated) listing_is never = absurd never
  listing-names served is (Snapshot base newest entries) listing_is (_, _, lists) =
      let (c, found, _, _, version) = ((row-visible d rows row).0 seen).2 in
      let at : directory ≡ c.directory = subst (λ (v : Option (List ℕ)). IsVersion v c.directory) version_is version in
      let (build, built) = some-is c.build ((file-path row.path c found).based ∙ ap (λ (v : List ℕ). is_some (base_of v)) (sym at) ∙ based) in
      let pair : Pair = record { classifier = c.classifier; extension = c.extension } in
      let snapshot : SnapshotBuild = record { base = unwrap_or (base_of c.directory) []; build = build } in
      let adds : Adds pair snapshot row = (c, build, found, built, refl, refl) in
      let (kept, is_kept, _) = lists.2 pair snapshot (among-any (Adds pair snapshot) row (listed_in d rows) seen adds) in
      let (one, named_so, _) = any-found (λ (r : Row). r.path ≡ path_given d (pair, kept)) (named d rows served)
      (among-all (λ (e : Entry). AnyByRecursion (λ (r : Row). r.path ≡ path_given d e) (named d rows served)) (pair, kept) entries (at-found entries pair kept is_kept)
      (snapshot-each d rows served base newest entries is listing_is)) in
      (served, is, (one, named_so))

  pub one-named : NamesOne d rows
  one-named = by (document d rows) refl where
    by : (found : Option Document) → document d rows ≡ found → NamesOne d rows
    by None none = absurd (subst (IsAmong row) ((document-none d rows).0 none) seen)
    by (Some served) is =
        listing-names served is served.listing refl (subst (λ (v : Option (List ℕ)). Describes (listed_in d rows) v served.listing) version_is (document-so d rows served is).2)
