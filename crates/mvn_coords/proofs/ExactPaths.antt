-- A path that the rule takes is the one path of what it names.
use Rattle.std.proofs.Common.{◌≡◌, ℕ, ◌≤◌, Bool, true, false, cond, not, eqb, ltb, leb, List, [], ◌∷◌, ◌++◌, length, Option, Some, None, Result, Ok, Err, IfOk, codes, refl, ap, sym, subst, ◌∙◌, arith, is_some}
use Rattle.std.specs.List.{list_all, ends_with}
use Rattle.std.specs.Str.{bytes_eq}
use Rattle.std.proofs.lemmas.Bool.{and_parts, or_from, ltb-false, leb-true}
use Rattle.std.proofs.lemmas.List.{append-nil, length-append}
use Rattle.std.proofs.lemmas.List.Folds.{list_all-append}
use Rattle.std.proofs.lemmas.Slice.Eq.{bytes_eq-Decides}
use Rattle.mvn_coords.specs.declared.fault.PathFault.{PathFault}
use Rattle.mvn_coords.specs.declared.fault.PathFault.TheVariants as fault
use Rattle.mvn_coords.specs.declared.fault.Side.{Side}
use Rattle.mvn_coords.specs.declared.fault.Side.TheVariants.{Sha1, Md5, Sha256, Sha512}
use Rattle.mvn_coords.specs.declared.kind.Kind.{Kind}
use Rattle.mvn_coords.specs.declared.kind.Kind.TheVariants.{File, FileSide, Doc, DocSide}
use Rattle.mvn_coords.specs.Segment.{Segment, levels, is_segment, is_path_byte}
use Rattle.byte_cuts.specs.Cuts.{before}
use Rattle.mvn_coords.specs.FileName.{◌>>=◌, base_of}
use Rattle.mvn_coords.specs.Layout.{Coordinates, Directory, Named, file, document, file_of, directory_of, named, text_of, text_of_document}
use Rattle.mvn_coords.specs.Path.{Cut, cut_at, cut_by, cut_side, has_suffix, suffix_of, Parts, parts_by, parts_of, IsPlain, IsBelow, IsFile, IsDirectory}
use Rattle.mvn_coords.specs.Kind.{with_side, kind_of_parts, kind, text_of_kind, IsExact}
use Rattle.mvn_coords.proofs.Cuts.{before_some, before_none}
use Rattle.mvn_coords.proofs.Levels.{Whole, Filled, filled, levels_longer, below}
use Rattle.mvn_coords.proofs.Files.{keeps_file, file_build}
use Rattle.mvn_coords.proofs.Documents.{keeps_directory}
use Rattle.mvn_coords.proofs.Results.{bound, ok_same}

-- the text that a side adds
abbrev pub side_text : Option Side → List ℕ
side_text None = []
side_text (Some side) = suffix_of side

side_whole : (side : Option Side) → Whole (side_text side)
side_whole None = refl
side_whole (Some Sha1) = refl
side_whole (Some Md5) = refl
side_whole (Some Sha256) = refl
side_whole (Some Sha512) = refl

-- what was cut off
pub record IsCut (path : List ℕ) (cut : Cut) : Type 0 where
  pub joined : path ≡ cut.path ++ side_text cut.side
  pub plain : has_suffix cut.path ≡ false

pub is_cut : (path : List ℕ) (cut : Cut) → cut_side path ≡ Ok cut → IsCut path cut
is_cut path cut h =
    next Sha1 _ h (λ no_sha1 h1. next Md5 _ h1 (λ no_md5 h2. next Sha256 _ h2 (λ no_sha256 h3. next Sha512 _ h3 (λ no_sha512 h4.
    uncut (or_from _ _ (or_from _ _ (or_from _ _ no_sha1 no_md5) no_sha256) no_sha512) h4))))
  where
    off : (side : Side) (rest : List ℕ) (t : Bool) → has_suffix rest ≡ t → path ≡ rest ++ suffix_of side → cond t (Err fault.BadSide) (Ok (record { path = rest; side = Some side })) ≡ Ok cut → IsCut path cut
    off side rest true e j h = cc
    off side rest false e j h =
        let same : record { path = rest; side = Some side } ≡ cut = ok_same _ _ h in
        subst (λ (c : Cut). IsCut path c) same (record { joined = j; plain = e })

    next : (side : Side) (other : Result Cut PathFault) → cut_at side path other ≡ Ok cut → (ends_with eqb path (suffix_of side) ≡ false → other ≡ Ok cut → IsCut path cut) → IsCut path cut
    next side other h more = by_rest (before (suffix_of side) path) refl h
      where
        by_rest : (o : Option (List ℕ)) → before (suffix_of side) path ≡ o → cut_by side o other ≡ Ok cut → IsCut path cut
        by_rest (Some rest) e g = off side rest (has_suffix rest) refl (before_some (suffix_of side) path rest e) g
        by_rest None e g = more (before_none (suffix_of side) path e) g

    uncut : has_suffix path ≡ false → ◌≡◌ {A = Result Cut PathFault} (Ok (record { path = path; side = None })) (Ok cut) → IsCut path cut
    uncut plain g =
        let same : record { path = path; side = None } ≡ cut = ok_same _ _ g in
        subst (λ (c : Cut). IsCut path c) same (record { joined = sym (append-nil path); plain = plain })

-- what is left of a path without its suffix is plain
plain_last : (last end : List ℕ) → is_segment (last ++ end) ≡ true → (list_all is_path_byte last ≡ true) × (length last ≤ 255)
plain_last last end h =
    let p = and_parts _ (list_all is_path_byte (last ++ end)) h in
    let q = and_parts _ (not (bytes_eq (last ++ end) (codes ".."))) p.0 in
    let r = and_parts _ (not (bytes_eq (last ++ end) (codes "."))) q.0 in
    let s = and_parts _ (leb (length (last ++ end)) 255) r.0 in
    let bytes = and_parts (list_all is_path_byte last) (list_all is_path_byte end) (sym (list_all-append is_path_byte last end) ∙ p.1) in
    let size : length (last ++ end) ≤ 255 = leb-true _ 255 s.1 in
    (bytes.0, omega (arith, size, length-append last end))

pub plain_cut : (path : List ℕ) (cut : Cut) → length path ≤ 1024 → list_all is_segment (levels path) ≡ true → IsCut path cut → IsPlain cut.path
plain_cut path cut short ok c = record {
  short = omega (arith, short, ap length c.joined, length-append cut.path (side_text cut.side));
  plain = c.plain;
  above = λ name above e. (parts name above e).1;
  bytes = λ name above e. (plain_last name (side_text cut.side) (parts name above e).0).0;
  size = λ name above e. (plain_last name (side_text cut.side) (parts name above e).0).1;
}
  where
    parts : (name : Segment) (above : List Segment) → levels cut.path ≡ name ∷ above → (is_segment (name ++ side_text cut.side) ≡ true) × (list_all is_segment above ≡ true)
    parts name above e =
        let longer : levels path ≡ (name ++ side_text cut.side) ∷ above = ap levels c.joined ∙ levels_longer cut.path (side_text cut.side) name above (side_whole cut.side) e in
        and_parts (is_segment (name ++ side_text cut.side)) (list_all is_segment above) (sym (ap (list_all is_segment) longer) ∙ ok)

-- the steps that a path passes
pub record Passes (path : List ℕ) (p : Parts) : Type 0 where
  pub cut : Cut
  pub thing : Named
  pub is_cut : IsCut path cut
  pub plain : IsPlain cut.path
  pub named : named (levels cut.path) ≡ Ok thing
  pub value : record { thing = thing; side = cut.side } ≡ p

pub passes : (path : List ℕ) (p : Parts) → parts_of path ≡ Ok p → Passes path p
unfolding parts_of
passes path p h = by_length (eqb (length path) 0) h
  where
    by_cut : length path ≤ 1024 → list_all is_segment (levels path) ≡ true → (cut_side path >>= parts_by) ≡ Ok p → Passes path p
    by_cut short ok h =
        let c = bound (cut_side path) parts_by p h in
        let n = bound (named (levels c.value.path)) (λ thing. Ok (record { thing = thing; side = c.value.side })) p c.next in
        let cut = is_cut path c.value c.first in
        record {
          cut = c.value;
          thing = n.value;
          is_cut = cut;
          plain = plain_cut path c.value short ok cut;
          named = n.first;
          value = ok_same _ _ n.next;
        }

    by_segments : (t : Bool) → list_all is_segment (levels path) ≡ t → length path ≤ 1024 → cond (not t) (Err fault.BadSegment) (cut_side path >>= parts_by) ≡ Ok p → Passes path p
    by_segments true e short h = by_cut short e h
    by_segments false e short h = cc

    by_long : (t : Bool) → ltb 1024 (length path) ≡ t → cond t (Err fault.Long) (cond (not (list_all is_segment (levels path))) (Err fault.BadSegment) (cut_side path >>= parts_by)) ≡ Ok p → Passes path p
    by_long true e h = cc
    by_long false e h = by_segments (list_all is_segment (levels path)) refl (ltb-false 1024 _ e) h

    by_length : (t : Bool) → cond t (Err fault.Empty) (cond (ltb 1024 (length path)) (Err fault.Long) (cond (not (list_all is_segment (levels path))) (Err fault.BadSegment) (cut_side path >>= parts_by))) ≡ Ok p → Passes path p
    by_length true h = cc
    by_length false h = by_long (ltb 1024 (length path)) refl h

-- what a path without a suffix names has that path, and is named by it
abbrev pub text_of_named : Named → List ℕ
text_of_named (file c) = text_of c
text_of_named (document d) = text_of_document d

pub record IsKept (path : List ℕ) (thing : Named) : Type 0 where
  pub text : path ≡ text_of_named thing
  pub rule : parts_of path ≡ Ok (record { thing = thing; side = None })

kept_file : (path : List ℕ) (thing : Named) → IsPlain path → named (levels path) ≡ Ok thing → (file_of (levels path) >>= λ c. Ok (file c)) ≡ Ok thing → IsKept path thing
kept_file path thing plain name h =
    let b = bound (file_of (levels path)) (λ c. Ok (file c)) thing h in
    let same : file b.value ≡ thing = ok_same _ _ b.next in
    let k = keeps_file path b.value plain (name ∙ sym b.next) b.first in
    let kept : IsKept path (file b.value) = record { text = k.1; rule = ap parts_of k.1 ∙ k.0 } in
    subst (λ (t : Named). IsKept path t) same kept

kept_document : (path : List ℕ) (thing : Named) (name : Segment) (above : List Segment) → IsPlain path → levels path ≡ name ∷ above → name ≡ codes "maven-metadata.xml" → (directory_of above >>= λ d. Ok (document d)) ≡ Ok thing → IsKept path thing
kept_document path thing name [] plain split same h = cc
kept_document path thing name (next ∷ more) plain split same h =
    let b = bound (directory_of (next ∷ more)) (λ d. Ok (document d)) thing h in
    let cut = below path name next more split in
    let place : IsBelow path cut.0 (codes "maven-metadata.xml") = record {
      joined = cut.1 ∙ ap (λ n. cut.0 ++ 47 ∷ n) same;
      split = split ∙ ap (λ n. n ∷ next ∷ more) same ∙ ap (λ ls. codes "maven-metadata.xml" ∷ ls) (sym cut.2);
    } in
    let k = keeps_directory path cut.0 b.value plain place (ap directory_of cut.2 ∙ b.first) in
    let text : path ≡ text_of_document b.value = place.joined ∙ ap (λ t. t ++ 47 ∷ codes "maven-metadata.xml") k.1 in
    let kept : IsKept path (document b.value) = record { text = text; rule = ap parts_of text ∙ k.0 } in
    subst (λ (t : Named). IsKept path t) (ok_same _ _ b.next) kept

pub kept : (path : List ℕ) (thing : Named) → IsPlain path → named (levels path) ≡ Ok thing → IsKept path thing
kept path thing plain h = by_last (filled path)
  where
    by_name : (f : Filled path) (t : Bool) → bytes_eq f.last (codes "maven-metadata.xml") ≡ t → cond t (directory_of f.above >>= λ d. Ok (document d)) (file_of (f.last ∷ f.above) >>= λ c. Ok (file c)) ≡ Ok thing → IsKept path thing
    by_name f true e h = kept_document path thing f.last f.above plain f.split ((bytes_eq-Decides f.last (codes "maven-metadata.xml")).0 e) h
    by_name f false e g = kept_file path thing plain h (ap (λ ls. file_of ls >>= λ c. Ok (file c)) f.split ∙ g)

    by_last : Filled path → IsKept path thing
    by_last f = by_name f (bytes_eq f.last (codes "maven-metadata.xml")) refl (sym (ap named f.split) ∙ h)

text_of_side : (thing : Named) (side : Option Side) → text_of_kind (with_side thing side) ≡ text_of_named thing ++ side_text side
text_of_side (file c) None = sym (append-nil (text_of c))
text_of_side (file c) (Some side) = refl
text_of_side (document d) None = sym (append-nil (text_of_document d))
text_of_side (document d) (Some side) = refl

pub exact_path : (path : List ℕ) (k : Kind) → kind path ≡ Ok k → text_of_kind k ≡ path
exact_path path k h =
    let b = bound (parts_of path) (λ p. Ok (kind_of_parts p)) k h in
    let q = passes path b.value b.first in
    let m = kept q.cut.path q.thing q.plain q.named in
    let same : with_side q.thing q.cut.side ≡ k = ap kind_of_parts q.value ∙ ok_same _ _ b.next in
    sym (ap text_of_kind same) ∙ text_of_side q.thing q.cut.side ∙ ap (λ t. t ++ side_text q.cut.side) (sym m.text) ∙ sym q.is_cut.joined

-- what stands beside a side file
beside : (path : List ℕ) (k : Kind) (thing : Named) → kind path ≡ Ok k → ((t : Named) (side : Option Side) → with_side t side ≡ k → t ≡ thing) → parts_of (text_of_named thing) ≡ Ok (record { thing = thing; side = None })
beside path k thing h only =
    let b = bound (parts_of path) (λ p. Ok (kind_of_parts p)) k h in
    let q = passes path b.value b.first in
    let m = kept q.cut.path q.thing q.plain q.named in
    let same : q.thing ≡ thing = only q.thing q.cut.side (ap kind_of_parts q.value ∙ ok_same _ _ b.next) in
    let rule : parts_of (text_of_named q.thing) ≡ Ok (record { thing = q.thing; side = None }) = sym (ap parts_of m.text) ∙ m.rule in
    subst (λ (t : Named). parts_of (text_of_named t) ≡ Ok (record { thing = t; side = None })) same rule

only_file : (c : Coordinates) (s : Side) (t : Named) (side : Option Side) → with_side t side ≡ FileSide c s → t ≡ file c
only_file c s (file d) None h = cc
only_file c s (file d) (Some side) h = cc
only_file c s (document d) None h = cc
only_file c s (document d) (Some side) h = cc

only_document : (d : Directory) (s : Side) (t : Named) (side : Option Side) → with_side t side ≡ DocSide d s → t ≡ document d
only_document d s (file c) None h = cc
only_document d s (file c) (Some side) h = cc
only_document d s (document e) None h = cc
only_document d s (document e) (Some side) h = cc

pub kind_of_file : (c : Coordinates) → IsFile c → kind (text_of c) ≡ Ok (File c)
kind_of_file c h = ap (λ r. r >>= λ p. Ok (kind_of_parts p)) h

pub kind_of_document : (d : Directory) → IsDirectory d → kind (text_of_document d) ≡ Ok (Doc d)
kind_of_document d h = ap (λ r. r >>= λ p. Ok (kind_of_parts p)) h

pub exact : IsExact
exact = record {
  path = exact_path;
  file = λ path c side h. kind_of_file c (beside path (FileSide c side) (file c) h (only_file c side));
  document = λ path d side h. kind_of_document d (beside path (DocSide d side) (document d) h (only_document d side));
}

-- the answer of a reader by the rule has the path that was read
pub path_kept : (path : List ℕ) (r : Result Kind PathFault) → r ≡ kind path → IfOk r (λ k. text_of_kind k ≡ path)
path_kept path (Ok k) h = exact_path path k (sym h)
path_kept path (Err e) h = tt

-- what a path names is a file only by the steps for files
named_is_file : (path : List ℕ) (c : Coordinates) → named (levels path) ≡ Ok (file c) → file_of (levels path) ≡ Ok c
named_is_file path c h = by_last (filled path)
  where
    by_name : (f : Filled path) (t : Bool) → cond t (directory_of f.above >>= λ d. Ok (document d)) (file_of (f.last ∷ f.above) >>= λ k. Ok (file k)) ≡ Ok (file c) → file_of (levels path) ≡ Ok c
    by_name f true g = let b = bound (directory_of f.above) (λ d. Ok (document d)) (file c) g in cc
    by_name f false g =
        let b = bound (file_of (f.last ∷ f.above)) (λ k. Ok (file k)) (file c) g in
        let same : file b.value ≡ file c = ok_same _ _ b.next in
        let value : b.value ≡ c = cc in
        ap file_of f.split ∙ b.first ∙ ap (λ (k : Coordinates). Ok k) value

    by_last : Filled path → file_of (levels path) ≡ Ok c
    by_last f = by_name f (bytes_eq f.last (codes "maven-metadata.xml")) (sym (ap named f.split) ∙ h)

pub build_in_snapshots : (c : Coordinates) → IsFile c → is_some c.build ≡ is_some (base_of c.directory)
build_in_snapshots c h =
    let q = passes (text_of c) (record { thing = file c; side = None }) h in
    let thing : q.thing ≡ file c = ap (λ (p : Parts). p.thing) q.value in
    file_build (levels q.cut.path) c (named_is_file q.cut.path c (q.named ∙ ap (λ (t : Named). Ok t) thing))
