-- The rows of a directory by their paths: how they stand below the directory's text.
use Rattle.std.proofs.Common.{◌≡◌, ℕ, true, cond, List, [], ◌∷◌, ◌++◌, Option, Some, None, Result, Ok, Err, refl, sym, ap, ◌∙◌, subst, append_assoc, bytes_eq}
use Rattle.std.proofs.lemmas.Bool.{false≢true, and_parts}
use Rattle.std.proofs.lemmas.List.{append-nil}
use Rattle.std.proofs.lemmas.Slice.Eq.{bytes_eq-Decides}
use Rattle.mvn_coords.specs.FileName.{is_filled}
use Rattle.mvn_coords.specs.Kind.{kind, kind_of_parts, with_side}
use Rattle.mvn_coords.specs.Layout.{Coordinates, Directory, Named, file, document, name_of, text_of, text_of_directory, below_group, version_part}
use Rattle.mvn_coords.specs.Path.{IsFile, parts_of}
use Rattle.mvn_coords.specs.declared.fault.Side.{Side}
use Rattle.mvn_coords.specs.declared.fault.PathFault.{PathFault}
use Rattle.mvn_coords.specs.declared.kind.Kind.{Kind}
use Rattle.mvn_coords.specs.declared.kind.Kind.TheVariants.{File, FileSide, Doc, DocSide}
use Rattle.mvn_coords.proofs.ExactPaths.{exact_path}
use Rattle.mvn_coords.proofs.Levels.{Whole}
use Rattle.mvn_coords.proofs.Results.{bound, ok_same}
use Rattle.repo_model.specs.Paths.{file_at, file_in, stands_in, same_version}
use Rattle.directory_rows.proofs.PathForms.{file_form, path_bytes_whole}

-- a file's path is that of its coordinates
file_of_kind : (path : List ℕ) (r : Result Kind PathFault) (c : Coordinates) → kind path ≡ r → file_in r ≡ Some c → kind path ≡ Ok (File c)
file_of_kind path (Ok (File k)) c is h =
    let same : k ≡ c = cc in is ∙ ap (λ x. Ok (File x)) same
file_of_kind path (Ok (FileSide k s)) c is h = cc
file_of_kind path (Ok (Doc d)) c is h = cc
file_of_kind path (Ok (DocSide d s)) c is h = cc
file_of_kind path (Err e) c is h = cc

pub kind_from_file : (path : List ℕ) (c : Coordinates) → file_at path ≡ Some c → kind path ≡ Ok (File c)
kind_from_file path c h = file_of_kind path (kind path) c refl h

file_alone : (thing : Named) (side : Option Side) (c : Coordinates) → with_side thing side ≡ File c → (thing ≡ file c) × (side ≡ None)
file_alone (file k) None c h = let same : k ≡ c = cc in (ap file same, refl)
file_alone (file k) (Some s) c h = cc
file_alone (document d) None c h = cc
file_alone (document d) (Some s) c h = cc

pub is_file_from_kind : (path : List ℕ) (c : Coordinates) → kind path ≡ Ok (File c) → IsFile c × (path ≡ text_of c)
is_file_from_kind path c h =
    let b = bound (parts_of path) (λ p. Ok (kind_of_parts p)) (File c) h in
    let alone = file_alone b.value.thing b.value.side c (ok_same _ _ b.next) in
    let text : path ≡ text_of c = sym (exact_path path (File c) h) in
    (ap parts_of (sym text) ∙ b.first ∙ (λ i. Ok (record { thing = alone.0 i; side = alone.1 i })), text)

-- how the path of a row of a directory is spelled
pub record Stands (d : Directory) (q : List ℕ) : Type 0 where
  pub version : List ℕ
  pub rest : List ℕ
  pub path : q ≡ ((d.group ++ 47 ∷ d.artifact) ++ 47 ∷ version) ++ 47 ∷ (d.artifact ++ 45 ∷ rest)
  pub whole_version : Whole version
  pub whole_name : Whole (d.artifact ++ 45 ∷ rest)
  pub is_version : same_version d.version version ≡ true
  pub group : is_filled d.group ≡ true

pub stands : (d : Directory) (q : List ℕ) → stands_in d (file_at q) ≡ true → Stands d q
stands d q h = by_file (file_at q) refl h
  where
    by_file : (o : Option Coordinates) → file_at q ≡ o → stands_in d o ≡ true → Stands d q
    by_file None is g = absurd (false≢true g)
    by_file (Some c) is g =
        let a = and_parts (bytes_eq c.group d.group) _ g in
        let b = and_parts (bytes_eq c.artifact d.artifact) _ a.1 in
        let group : c.group ≡ d.group = (bytes_eq-Decides c.group d.group).0 a.0 in
        let artifact : c.artifact ≡ d.artifact = (bytes_eq-Decides c.artifact d.artifact).0 b.0 in
        let kept = is_file_from_kind q c (kind_from_file q c is) in
        let f = file_form c kept.0 in
        let name : name_of c ≡ d.artifact ++ 45 ∷ f.rest = f.spelled ∙ ap (λ t. t ++ 45 ∷ f.rest) artifact in
        record {
          version = c.directory;
          rest = f.rest;
          path = kept.1 ∙ (λ i. ((group i ++ 47 ∷ artifact i) ++ 47 ∷ c.directory) ++ 47 ∷ name i);
          whole_version = f.directory;
          whole_name = subst Whole name (path_bytes_whole (name_of c) f.bytes);
          is_version = b.1;
          group = subst (λ t. is_filled t ≡ true) group f.group;
        }

-- such a row below the directory's path and a slash
abbrev pub base_of_directory : Directory → List ℕ
base_of_directory d = text_of_directory d ++ 47 ∷ []

regrouped : (x v y : List ℕ) → (x ++ 47 ∷ v) ++ 47 ∷ y ≡ ((x ++ []) ++ 47 ∷ []) ++ (v ++ 47 ∷ y)
regrouped x v y = simp (append_assoc, append-nil)

regrouped_snapshot : (x v y : List ℕ) → (x ++ 47 ∷ v) ++ 47 ∷ y ≡ ((x ++ 47 ∷ v) ++ 47 ∷ []) ++ y
regrouped_snapshot x v y = simp append_assoc

word_first : (artifact rest : List ℕ) → artifact ++ 45 ∷ rest ≡ (artifact ++ 45 ∷ []) ++ rest
word_first artifact rest = sym (append_assoc artifact (45 ∷ []) rest)

pub artifact_row : (d : Directory) (q : List ℕ) (s : Stands d q) → d.version ≡ None → q ≡ base_of_directory d ++ (s.version ++ 47 ∷ ((d.artifact ++ 45 ∷ []) ++ s.rest))
artifact_row d q s none =
    s.path ∙ regrouped (d.group ++ 47 ∷ d.artifact) s.version (d.artifact ++ 45 ∷ s.rest)
    ∙ (λ i. ((cond (sym s.group i) (d.group ++ 47 ∷ d.artifact) d.artifact ++ version_part (sym none i)) ++ 47 ∷ []) ++ (s.version ++ 47 ∷ word_first d.artifact s.rest i))

pub snapshot_row : (d : Directory) (q version : List ℕ) (s : Stands d q) → d.version ≡ Some version → q ≡ base_of_directory d ++ ((d.artifact ++ 45 ∷ []) ++ s.rest)
snapshot_row d q version s some =
    let same : s.version ≡ version = sym ((bytes_eq-Decides version s.version).0 (sym (ap (λ o. same_version o s.version) some) ∙ s.is_version)) in
    s.path ∙ regrouped_snapshot (d.group ++ 47 ∷ d.artifact) s.version (d.artifact ++ 45 ∷ s.rest)
    ∙ (λ i. ((cond (sym s.group i) (d.group ++ 47 ∷ d.artifact) d.artifact ++ 47 ∷ same i) ++ 47 ∷ []) ++ word_first d.artifact s.rest i)
    ∙ (λ i. ((below_group d.group d.artifact ++ version_part (sym some i)) ++ 47 ∷ []) ++ ((d.artifact ++ 45 ∷ []) ++ s.rest))
