-- The paths that written fields give are those of the files that they were taken from.
use Rattle.std.proofs.Common.{◌≡◌, ℕ, true, false, List, [], ◌∷◌, ◌++◌, drop, Option, Some, None, refl, sym, ◌∙◌, ap, subst}
use Rattle.std.specs.Prelude.{is_some, if◌then◌else◌, unwrap_or}
use Rattle.std.proofs.lemmas.Bool.{false≢true}
use Rattle.std.proofs.lemmas.List.{append-nil, append_assoc, append_cancel_left}
use Rattle.mvn_coords.specs.FileName.{BuildOf, base_of, is_filled}
use Rattle.mvn_coords.specs.Layout.{Coordinates, Directory, below_group, name_of, text_of, text_of_build, text_of_directory, version_directory_of, version_of, version_with}
use Rattle.mvn_coords.proofs.Levels.{Whole}
use Rattle.mvn_coords.proofs.Results.{some_same}
use Rattle.mvn_metadata.specs.declared.pair.Pair.{Pair}
use Rattle.mvn_metadata.specs.declared.pair.SnapshotBuild.{SnapshotBuild}
use Rattle.repo_model.specs.Data.{Row}
use Rattle.repo_model.specs.Paths.{file_at}
use Rattle.repo_laws.specs.Described.{IsVersion, IsFileOf, Adds}
use Rattle.naming_laws.specs.Named.{file_name, path_given, IsOfVersion}
use Rattle.naming_laws.proofs.Files.{file-path, before-slash}

pub some-is : {A : Type 0} (o : Option A) → is_some o ≡ true → (x : A) × (o ≡ Some x)
some-is None never = absurd (false≢true never)
some-is (Some x) is = (x, refl)

pub none-is : {A : Type 0} (o : Option A) → is_some o ≡ false → o ≡ None
none-is None is = refl
none-is (Some x) never = absurd (false≢true (sym never))

-- ---- in a snapshot directory
abbrev pub directory_with : Coordinates → Option (List ℕ) → Directory
directory_with c version = record { group = c.group; artifact = c.artifact; version = version }

group-artifact : (c : Coordinates) → is_filled c.group ≡ true → below_group c.group c.artifact ≡ c.group ++ 47 ∷ c.artifact
group-artifact c filled = ap (λ b. if b then c.group ++ 47 ∷ c.artifact else c.artifact) filled

given-text : (c : Coordinates) (build : BuildOf) (base : List ℕ) → is_filled c.group ≡ true → c.build ≡ Some build → base_of c.directory ≡ Some base
    → path_given (directory_with c (Some c.directory)) (record { classifier = c.classifier; extension = c.extension }, record { base = base; build = build }) ≡ text_of c
given-text c build base filled built based =
    let value : List ℕ = base ++ 45 ∷ text_of_build build in
    let version : version_of c ≡ value = λ i. version_with c.directory (built i) (based i) in
    ap (λ (above : List ℕ). (above ++ 47 ∷ c.directory) ++ 47 ∷ file_name c.artifact value c.classifier c.extension) (group-artifact c filled)
    ∙ ap (λ (v : List ℕ). version_directory_of c ++ 47 ∷ file_name c.artifact v c.classifier c.extension) (sym version)

-- a row's file is at the path that its entry gives
pub adds-path : (d : Directory) (directory : List ℕ) (row : Row) (pair : Pair) (snapshot : SnapshotBuild) → d.version ≡ Some directory → IsFileOf d (file_at row.path) → Adds pair snapshot row
    → row.path ≡ path_given d (pair, snapshot)
adds-path d directory row pair snapshot version_is (k, there, group, artifact, version) (c, build, is, built, pair_is, snapshot_is) =
    let same : k ≡ c = some_same k c (sym there ∙ is) in
    let file = file-path row.path c is in
    let (base, based) = some-is (base_of c.directory) (sym file.based ∙ ap is_some built) in
    let at : directory ≡ k.directory = subst (λ (v : Option (List ℕ)). IsVersion v k.directory) version_is version in
    let place : directory_with c (Some c.directory) ≡ d = λ i. record {
      group = (ap (λ (x : Coordinates). x.group) (sym same) ∙ group) i;
      artifact = (ap (λ (x : Coordinates). x.artifact) (sym same) ∙ artifact) i;
      version = (ap (λ (x : Coordinates). Some x.directory) (sym same) ∙ ap Some (sym at) ∙ sym version_is) i;
    } in
    let snapshot_so : record { base = base; build = build } ≡ snapshot = λ i. ((λ j. record { base = unwrap_or (sym based j) []; build = build }) ∙ snapshot_is) i in
    file.text ∙ sym (given-text c build base file.filled built based) ∙ (λ i. path_given (place i) (pair_is i, snapshot_so i))

-- ---- of an artifact
release-text : (c : Coordinates) → is_filled c.group ≡ true → c.build ≡ None
    → text_of c ≡ (text_of_directory (directory_with c None) ++ 47 ∷ c.directory) ++ 47 ∷ file_name c.artifact c.directory c.classifier c.extension
release-text c filled built =
    let version : version_of c ≡ c.directory = ap (λ (b : Option BuildOf). version_with c.directory b (base_of c.directory)) built in
    ap (λ (v : List ℕ). version_directory_of c ++ 47 ∷ file_name c.artifact v c.classifier c.extension) version
    ∙ ap (λ (above : List ℕ). (above ++ 47 ∷ c.directory) ++ 47 ∷ file_name c.artifact c.directory c.classifier c.extension) (sym (append-nil (below_group c.group c.artifact) ∙ group-artifact c filled))

pub directory-is : (d : Directory) (c : Coordinates) → d.version ≡ None → c.group ≡ d.group → c.artifact ≡ d.artifact → directory_with c None ≡ d
directory-is d c version group artifact = λ i. record { group = group i; artifact = artifact i; version = sym version i }

-- a release's file is one of its version
pub release-of : (d : Directory) (row : Row) (c : Coordinates) → d.version ≡ None → c.group ≡ d.group → c.artifact ≡ d.artifact → file_at row.path ≡ Some c → c.build ≡ None
    → IsOfVersion d c.directory row.path
release-of d row c version group artifact is built =
    let file = file-path row.path c is in (
      c.classifier,
      c.extension,
      file.text ∙ release-text c file.filled built
          ∙ (λ i. (text_of_directory (directory-is d c version group artifact i) ++ 47 ∷ c.directory) ++ 47 ∷ file_name (artifact i) c.directory c.classifier c.extension),
    )

-- a file of a version stands in its directory
pub version-is : (d : Directory) (row : Row) (c : Coordinates) (version : List ℕ) → d.version ≡ None → c.group ≡ d.group → c.artifact ≡ d.artifact → file_at row.path ≡ Some c → Whole version
    → IsOfVersion d version row.path → c.directory ≡ version
version-is d row c version none group artifact is whole (classifier, extension, path_is) =
    let file = file-path row.path c is in
    let above : List ℕ = c.group ++ 47 ∷ c.artifact in
    let other : List ℕ = file_name d.artifact version classifier extension in
    let place : text_of_directory d ≡ above =
    ap text_of_directory (sym (directory-is d c none group artifact)) ∙ append-nil (below_group c.group c.artifact) ∙ group-artifact c file.filled in
    let both : (above ++ 47 ∷ c.directory) ++ 47 ∷ name_of c ≡ (above ++ 47 ∷ version) ++ 47 ∷ other =
    sym file.text ∙ path_is ∙ ap (λ (p : List ℕ). (p ++ 47 ∷ version) ++ 47 ∷ other) place in
    let behind : 47 ∷ (c.directory ++ 47 ∷ name_of c) ≡ 47 ∷ (version ++ 47 ∷ other) =
    append_cancel_left above (47 ∷ (c.directory ++ 47 ∷ name_of c)) (47 ∷ (version ++ 47 ∷ other))
    (sym (append_assoc above (47 ∷ c.directory) (47 ∷ name_of c)) ∙ both ∙ append_assoc above (47 ∷ version) (47 ∷ other)) in
    before-slash c.directory version (name_of c) other file.whole whole (ap (drop 1) behind)
