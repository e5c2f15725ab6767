-- What is known of a path that is a file's: its text, its group, its version directory.
use native.Mathlib.Omega.{arith}
use Rattle.std.proofs.Common.{◌≡◌, length, ℕ, Bool, true, false, eqb, List, [], ◌∷◌, ◌++◌, drop, get_or, Option, Some, None, Ok, Err, refl, sym, ◌∙◌, ap, subst, eqb-true, cond}
use Rattle.std.specs.Prelude.{is_some, bytes_eq, codes}
use Rattle.std.specs.List.{list_all, list_any}
use Rattle.std.proofs.lemmas.Bool.{false≢true, and_parts, or_parts, or_from, lt-ltb}
use Rattle.std.proofs.lemmas.Option.{none-some}
use Rattle.mvn_coords.specs.Kind.{kind, with_side, kind_of_parts}
use Rattle.mvn_coords.specs.declared.kind.Kind.TheVariants.{File, FileSide, Doc, DocSide}
use Rattle.mvn_coords.specs.declared.fault.Side.{Side}
use Rattle.mvn_coords.specs.FileName.{◌>>=◌, is_filled, base_of}
use Rattle.mvn_coords.specs.Layout.{Coordinates, Named, file, document, named, directory_of, file_of, text_of}
use Rattle.mvn_coords.specs.Path.{Parts, IsFile, parts_of}
use Rattle.mvn_coords.specs.Segment.{Segment, is_path_byte, is_segment, levels, path_of_levels}
use Rattle.mvn_coords.proofs.Cuts.{slash}
use Rattle.mvn_coords.proofs.Files.{file_parts}
use Rattle.mvn_coords.proofs.Levels.{Whole, Filled, filled, below, path_of_levels-levels}
use Rattle.mvn_coords.proofs.Results.{bound, ok_same}
use Rattle.mvn_coords.proofs.ExactPaths.{exact_path, passes, kept, text_of_named, build_in_snapshots}
use Rattle.repo_model.specs.Paths.{file_at, file_in}

file-kind : (path : List ℕ) (c : Coordinates) → file_at path ≡ Some c → kind path ≡ Ok (File c)
file-kind path c is =
    elim (kind path) as (λ k. file_in k ≡ Some c → k ≡ Ok (File c)) [
      | (Ok (File found)) ↦ λ same. let one : found ≡ c = cc in ap (λ (x : Coordinates). Ok (File x)) one
      | (Ok (FileSide found side)) ↦ λ never. absurd (none-some c never)
      | (Ok (Doc at)) ↦ λ never. absurd (none-some c never)
      | (Ok (DocSide at side)) ↦ λ never. absurd (none-some c never)
      | (Err fault) ↦ λ never. absurd (none-some c never)
    ] is

only-file : (c : Coordinates) (t : Named) (side : Option Side) → with_side t side ≡ File c → t ≡ file c
only-file c (file d) None is = cc
only-file c (file d) (Some side) is = cc
only-file c (document d) None is = cc
only-file c (document d) (Some side) is = cc

-- the path's coordinates are a file's
is-file : (path : List ℕ) (c : Coordinates) → kind path ≡ Ok (File c) → IsFile c
is-file path c is =
    let b = bound (parts_of path) (λ p. Ok (kind_of_parts p)) (File c) is in
    let q = passes path b.value b.first in
    let m = kept q.cut.path q.thing q.plain q.named in
    let same : q.thing ≡ file c = only-file c q.thing q.cut.side (ap kind_of_parts q.value ∙ ok_same _ _ b.next) in
    let rule : parts_of (text_of_named q.thing) ≡ Ok (record { thing = q.thing; side = None }) = sym (ap parts_of m.text) ∙ m.rule in
    subst (λ (t : Named). parts_of (text_of_named t) ≡ Ok (record { thing = t; side = None })) same rule

-- what a path names is a file only by the steps for files
by-files : (path : List ℕ) (c : Coordinates) → named (levels path) ≡ Ok (file c) → file_of (levels path) ≡ Ok c
by-files path c is = by-last (filled path)
  where
    by-name : (f : Filled path) (t : Bool) → cond t (directory_of f.above >>= λ d. Ok (document d)) (file_of (f.last ∷ f.above) >>= λ k. Ok (file k)) ≡ Ok (file c) → file_of (levels path) ≡ Ok c
    by-name f true g = let b = bound (directory_of f.above) (λ d. Ok (document d)) (file c) g in cc
    by-name f false g =
        let b = bound (file_of (f.last ∷ f.above)) (λ k. Ok (file k)) (file c) g in
        let same : file b.value ≡ file c = ok_same _ _ b.next in
        let value : b.value ≡ c = cc in
        ap file_of f.split ∙ b.first ∙ ap (λ (k : Coordinates). Ok k) value

    by-last : Filled path → file_of (levels path) ≡ Ok c
    by-last f = by-name f (bytes_eq f.last (codes "maven-metadata.xml")) (sym (ap named f.split) ∙ is)

-- a segment has no slash
no-slash : (b : ℕ) → is_path_byte b ≡ true → slash b ≡ false
no-slash b fits =
    elim (eqb b 47) as (λ t. eqb b 47 ≡ t → t ≡ false) [
      | true ↦ λ same. absurd (false≢true (ap is_path_byte (sym (eqb-true b 47 same)) ∙ fits))
      | false ↦ λ _. refl
    ] refl

whole-bytes : (bytes : List ℕ) → list_all is_path_byte bytes ≡ true → Whole bytes
whole-bytes [] fit = refl
whole-bytes (b ∷ bytes) fit =
    let (here, rest) = and_parts (is_path_byte b) (list_all is_path_byte bytes) fit in
    or_from (slash b) (list_any slash bytes) (no-slash b here) (whole-bytes bytes rest)

segment-whole : (s : Segment) → is_segment s ≡ true → Whole s
segment-whole s fits = whole-bytes s (and_parts _ (list_all is_path_byte s) fits).1

-- a path of segments has bytes
some-bytes : (path : List ℕ) (last : Segment) (above : List Segment) → levels path ≡ last ∷ above → is_segment last ≡ true → is_filled path ≡ true
some-bytes [] last above is fits = let same : ◌≡◌ {A = List ℕ} [] last = cc in absurd (false≢true (ap is_segment same ∙ fits))
some-bytes (b ∷ bytes) last above is fits = lt-ltb 0 (length (b ∷ bytes)) (omega arith)

pub record IsFilePath (path : List ℕ) (c : Coordinates) : Type 0 where
  pub text : path ≡ text_of c
  pub filled : is_filled c.group ≡ true
  pub whole : Whole c.directory
  pub based : is_some c.build ≡ is_some (base_of c.directory)

-- the group above a file's name, version directory and artifact
group-above : (path : List ℕ) (name directory artifact group : Segment) (above : List Segment) → levels path ≡ name ∷ directory ∷ artifact ∷ group ∷ above
    → (rest : List ℕ) × (levels rest ≡ group ∷ above)
group-above path name directory artifact group above is =
    let (one, _, one_is) = below path name directory (artifact ∷ group ∷ above) is in
    let (two, _, two_is) = below one directory artifact (group ∷ above) one_is in
    let (three, _, three_is) = below two artifact group above two_is in
    (three, three_is)

-- a path of segments as they are joined
joined-filled : (path : List ℕ) (last : Segment) (above : List Segment) → levels path ≡ last ∷ above → is_segment last ≡ true → is_filled (path_of_levels (last ∷ above)) ≡ true
joined-filled path last above is fits = ap (λ ls. is_filled (path_of_levels ls)) (sym is) ∙ ap is_filled (path_of_levels-levels path) ∙ some-bytes path last above is fits

segments-fit : (directory artifact group : Segment) (above : List Segment) → list_all is_segment (directory ∷ artifact ∷ group ∷ above) ≡ true
    → (is_segment directory ≡ true) × (is_segment group ≡ true)
segments-fit directory artifact group above fit =
    let (of_directory, more) = and_parts (is_segment directory) (list_all is_segment (artifact ∷ group ∷ above)) fit in
    let (_, last) = and_parts (is_segment artifact) (list_all is_segment (group ∷ above)) more in
    (of_directory, (and_parts (is_segment group) (list_all is_segment above) last).0)

pub file-path : (path : List ℕ) (c : Coordinates) → file_at path ≡ Some c → IsFilePath path c
file-path path c found =
    let is = file-kind path c found in
    let ruled = is-file path c is in
    let q = passes (text_of c) (record { thing = file c; side = None }) ruled in
    let thing : q.thing ≡ file c = ap (λ (p : Parts). p.thing) q.value in
    let p = file_parts (levels q.cut.path) c (by-files q.cut.path c (q.named ∙ ap (λ (t : Named). Ok t) thing)) in
    let fit = segments-fit p.directory p.artifact p.group p.above (q.plain.above p.name (p.directory ∷ p.artifact ∷ p.group ∷ p.above) p.split) in
    let (group, group_is) = group-above q.cut.path p.name p.directory p.artifact p.group p.above p.split in
    record {
      text = sym (exact_path path (File c) is);
      filled = subst (λ (k : Coordinates). is_filled k.group ≡ true) p.value (joined-filled group p.group p.above group_is fit.1);
      whole = subst (λ (k : Coordinates). Whole k.directory) p.value (segment-whole p.directory fit.0);
      based = build_in_snapshots c ruled;
    }

-- what stands before the first slash
pub before-slash : (a b x y : List ℕ) → Whole a → Whole b → a ++ 47 ∷ x ≡ b ++ 47 ∷ y → a ≡ b
before-slash [] [] x y wa wb is = refl
before-slash [] (b ∷ bs) x y wa wb is =
    let same : ◌≡◌ {A = ℕ} 47 b = ap (λ (l : List ℕ). get_or l 0 0) is in
    absurd (false≢true (sym (or_parts (slash b) (list_any slash bs) wb).0 ∙ ap slash (sym same)))
before-slash (a ∷ more) [] x y wa wb is =
    let same : ◌≡◌ {A = ℕ} a 47 = ap (λ (l : List ℕ). get_or l 0 0) is in
    absurd (false≢true (sym (or_parts (slash a) (list_any slash more) wa).0 ∙ ap slash same))
before-slash (a ∷ more) (b ∷ bs) x y wa wb is =
    let first : ◌≡◌ {A = ℕ} a b = ap (λ (l : List ℕ). get_or l 0 0) is in
    let rest = before-slash more bs x y (or_parts (slash a) (list_any slash more) wa).1 (or_parts (slash b) (list_any slash bs) wb).1 (ap (drop 1) is) in
    λ i. first i ∷ rest i
