-- What the directory of a path that names a document is made of.
use Rattle.std.proofs.Common.{◌≡◌, ℕ, Bool, true, false, cond, ◌&&◌, List, [], ◌∷◌, ◌++◌, length, refl, sym, subst, ap, ◌∙◌, Some, None, Ok, map, reverse, nat_lt, ◌==◌}
use Rattle.std.specs.Prelude.{if◌then◌else◌, codes, is_some}
use Rattle.std.specs.List.{list_all, slice_split, onto_first, join_with_byte}
use Rattle.std.specs.Str.{bytes_eq}
use mathlib.Core.List.{reverse_aux}
use borrow.Author.Tests.{eqb-true}
use Rattle.mvn_coords.specs.FileName.{base_of, ◌>>=◌}
use Rattle.mvn_coords.specs.Layout.{Directory, file, document, all_groups, artifact_directory, directory, directory_of, file_of, named, snapshot_directory, text_of_document}
use Rattle.mvn_coords.specs.Path.{IsDirectory}
use Rattle.mvn_coords.specs.Segment.{Segment, are_artifact_bytes, is_group_byte, are_group_bytes, is_segment, fits_version, path_of_levels}
use Rattle.mvn_coords.proofs.ExactPaths.{passes}
use Rattle.mvn_coords.proofs.Levels.{filled}
use Rattle.mvn_coords.proofs.Results.{bound, chosen, ok_same}
use Rattle.mvn_coords.specs.declared.fault.PathFault.TheVariants as fault
use Rattle.mvn_metadata.specs.Document.{dotted}
use Rattle.mvn_coords.specs.Segment.{is_artifact, is_version_directory}
use Rattle.mvn_metadata.specs.Form.{is_base_version, is_fit, is_group}
use Rattle.mvn_metadata.proofs.Bools.{both, first, second}

abbrev dot : ℕ → Bool
dot b = b == 46

abbrev swapped : ℕ → ℕ
swapped b = if b == 47 then 46 else b

-- ---- group segments joined by dots are cut at the dots
no_slash : (b : ℕ) → is_group_byte b ≡ true → (b == 47) ≡ false
no_slash b h =
    elim (b == 47) as (λ t. (b == 47) ≡ t → t ≡ false) [
      | true ↦ λ e. let is : b ≡ 47 = eqb-true b 47 e in sym (sym (ap is_group_byte is) ∙ h)
      | false ↦ λ _. refl
    ] refl

no_dot : (b : ℕ) → is_group_byte b ≡ true → (b == 46) ≡ false
no_dot b h =
    elim (b == 46) as (λ t. (b == 46) ≡ t → t ≡ false) [
      | true ↦ λ e. let is : b ≡ 46 = eqb-true b 46 e in sym (sym (ap is_group_byte is) ∙ h)
      | false ↦ λ _. refl
    ] refl

swapped_same : (b : ℕ) → is_group_byte b ≡ true → swapped b ≡ b
swapped_same b h = ap (λ t. if t then 46 else b) (no_slash b h)

split_segment : (s : List ℕ) → list_all is_group_byte s ≡ true → slice_split dot (map swapped s) ≡ s ∷ []
split_segment [] h = refl
split_segment (b ∷ bs) h =
    let here = first (is_group_byte b) (list_all is_group_byte bs) h in
    let rest = split_segment bs (second (is_group_byte b) (list_all is_group_byte bs) h) in
    ap (λ c. slice_split dot (c ∷ map swapped bs)) (swapped_same b here)
    ∙ ap (λ t. cond t ([] ∷ slice_split dot (map swapped bs)) (onto_first b (slice_split dot (map swapped bs)))) (no_dot b here)
    ∙ ap (onto_first b) rest

split_joined : (s rest : List ℕ) → list_all is_group_byte s ≡ true → slice_split dot (map swapped (s ++ 47 ∷ rest)) ≡ s ∷ slice_split dot (map swapped rest)
split_joined [] rest h = refl
split_joined (b ∷ bs) rest h =
    let here = first (is_group_byte b) (list_all is_group_byte bs) h in
    let more = split_joined bs rest (second (is_group_byte b) (list_all is_group_byte bs) h) in
    ap (λ c. slice_split dot (c ∷ map swapped (bs ++ 47 ∷ rest))) (swapped_same b here)
    ∙ ap (λ t. cond t ([] ∷ slice_split dot (map swapped (bs ++ 47 ∷ rest))) (onto_first b (slice_split dot (map swapped (bs ++ 47 ∷ rest))))) (no_dot b here)
    ∙ ap (onto_first b) more

split_dotted : (s : Segment) (ss : List Segment) → list_all are_group_bytes (s ∷ ss) ≡ true → slice_split dot (map swapped (join_with_byte 47 (s ∷ ss))) ≡ s ∷ ss
split_dotted s [] h = split_segment s (first (are_group_bytes s) true h)
split_dotted s (t ∷ ts) h =
    split_joined s (join_with_byte 47 (t ∷ ts)) (first (are_group_bytes s) (list_all are_group_bytes (t ∷ ts)) h)
    ∙ ap (λ rest. s ∷ rest) (split_dotted t ts (second (are_group_bytes s) (list_all are_group_bytes (t ∷ ts)) h))

all_both : (ss : List Segment) → list_all is_segment ss ≡ true → list_all are_group_bytes ss ≡ true → list_all (λ s. is_segment s && are_group_bytes s) ss ≡ true
all_both [] g h = refl
all_both (s ∷ ss) g h =
    both (is_segment s && are_group_bytes s) (list_all (λ s. is_segment s && are_group_bytes s) ss)
    (both (is_segment s) (are_group_bytes s) (first (is_segment s) (list_all is_segment ss) g) (first (are_group_bytes s) (list_all are_group_bytes ss) h))
    (all_both ss (second (is_segment s) (list_all is_segment ss) g) (second (are_group_bytes s) (list_all are_group_bytes ss) h))

dotted_fits : (ss : List Segment) → list_all is_segment ss ≡ true → list_all are_group_bytes ss ≡ true → is_fit is_group (dotted (join_with_byte 47 ss)) ≡ true
dotted_fits [] g h = refl
dotted_fits (s ∷ ss) g h =
    let text = map swapped (join_with_byte 47 (s ∷ ss)) in
    elim (nat_lt 0 (length (join_with_byte 47 (s ∷ ss)))) as (λ b. is_fit is_group (if b then Some text else None) ≡ true) [
      | true ↦ ap (list_all (λ s. is_segment s && are_group_bytes s)) (split_dotted s ss h) ∙ all_both (s ∷ ss) g h
      | false ↦ refl
    ]

all_onto : (p : Segment → Bool) (ss acc : List Segment) → list_all p ss ≡ true → list_all p acc ≡ true → list_all p (reverse_aux ss acc) ≡ true
all_onto p [] acc h g = g
all_onto p (s ∷ ss) acc h g =
    all_onto p ss (s ∷ acc) (second (p s) (list_all p ss) h) (both (p s) (list_all p acc) (first (p s) (list_all p ss) h) g)

all_reversed : (p : Segment → Bool) (ss : List Segment) → list_all p ss ≡ true → list_all p (reverse ss) ≡ true
all_reversed p ss h = all_onto p ss [] h refl

-- ---- a directory of segments
pub record FitsDirectory (d : Directory) : Type 0 where
  pub group : is_fit is_group (dotted d.group) ≡ true
  pub artifact : is_artifact d.artifact ≡ true
  pub version : is_fit is_base_version d.version ≡ true

group_fits : (gs : List Segment) → list_all is_segment gs ≡ true → all_groups gs ≡ true → is_fit is_group (dotted (path_of_levels gs)) ≡ true
group_fits gs g h = dotted_fits (reverse gs) (all_reversed is_segment gs g) (all_reversed are_group_bytes gs h)

artifact_fits : (artifact : Segment) (gs : List Segment) (d : Directory) → artifact_directory artifact gs ≡ Ok d → list_all is_segment (artifact ∷ gs) ≡ true → FitsDirectory d
artifact_fits artifact gs d h g =
    let b = chosen (all_groups gs && are_artifact_bytes artifact) (Ok (directory (path_of_levels gs) artifact None)) fault.BadSegment d h in
    subst FitsDirectory (ok_same (directory (path_of_levels gs) artifact None) d b.value) (record {
      group = group_fits gs (second (is_segment artifact) (list_all is_segment gs) g) (first (all_groups gs) (are_artifact_bytes artifact) b.test);
      artifact = both (is_segment artifact) (are_artifact_bytes artifact) (first (is_segment artifact) (list_all is_segment gs) g) (second (all_groups gs) (are_artifact_bytes artifact) b.test);
      version = refl;
    })

snapshot_fits : (version artifact : Segment) (gs : List Segment) (d : Directory) → snapshot_directory version artifact gs ≡ Ok d → is_some (base_of version) ≡ true → list_all is_segment (version ∷ artifact ∷ gs) ≡ true → FitsDirectory d
snapshot_fits version artifact gs d h based g =
    let b = chosen (all_groups gs && are_artifact_bytes artifact && fits_version version) (Ok (directory (path_of_levels gs) artifact (Some version))) fault.BadSegment d h in
    let names = first (all_groups gs && are_artifact_bytes artifact) (fits_version version) b.test in
    let below = second (is_segment version) (list_all is_segment (artifact ∷ gs)) g in
    subst FitsDirectory (ok_same (directory (path_of_levels gs) artifact (Some version)) d b.value) (record {
      group = group_fits gs (second (is_segment artifact) (list_all is_segment gs) below) (first (all_groups gs) (are_artifact_bytes artifact) names);
      artifact = both (is_segment artifact) (are_artifact_bytes artifact) (first (is_segment artifact) (list_all is_segment gs) below) (second (all_groups gs) (are_artifact_bytes artifact) names);
      version = both (is_version_directory version) (is_some (base_of version))
          (both (is_segment version) (fits_version version) (first (is_segment version) (list_all is_segment (artifact ∷ gs)) g)
          (second (all_groups gs && are_artifact_bytes artifact) (fits_version version) b.test)) based;
    })

directory_fits : (above : List Segment) (d : Directory) → directory_of above ≡ Ok d → list_all is_segment above ≡ true → FitsDirectory d
directory_fits [] d h g = cc
directory_fits (last ∷ []) d h g = artifact_fits last [] d h g
directory_fits (last ∷ artifact ∷ []) d h g = artifact_fits last (artifact ∷ []) d h g
directory_fits (last ∷ artifact ∷ group ∷ above) d h g =
    elim (is_some (base_of last)) as (λ b. is_some (base_of last) ≡ b → (if b then snapshot_directory last artifact (group ∷ above) else artifact_directory last (artifact ∷ group ∷ above)) ≡ Ok d → FitsDirectory d) [
      | true ↦ λ based is. snapshot_fits last artifact (group ∷ above) d is based g
      | false ↦ λ _ is. artifact_fits last (artifact ∷ group ∷ above) d is g
    ] refl h

named_directory : (name : Segment) (above : List Segment) (d : Directory) → named (name ∷ above) ≡ Ok (document d) → directory_of above ≡ Ok d
named_directory name above d h =
    elim (bytes_eq name (codes "maven-metadata.xml")) as (λ b. (if b then (directory_of above >>= λ d. Ok (document d)) else (file_of (name ∷ above) >>= λ c. Ok (file c))) ≡ Ok (document d) → directory_of above ≡ Ok d) [
      | true ↦ λ is. let b = bound (directory_of above) (λ e. Ok (document e)) (document d) is in b.first ∙ ap Ok (let e = b.next in cc)
      | false ↦ λ is. let b = bound (file_of (name ∷ above)) (λ c. Ok (file c)) (document d) is in absurd (let e = b.next in cc)
    ] h

pub fits_directory : (d : Directory) → IsDirectory d → FitsDirectory d
fits_directory d h =
    let p = passes (text_of_document d) (record { thing = document d; side = None }) h in
    let f = filled p.cut.path in
    let thing : p.thing ≡ document d = ap (λ q. q.thing) p.value in
    directory_fits f.above d
    (named_directory f.last f.above d (ap named (sym f.split) ∙ p.named ∙ ap Ok thing))
    (p.plain.above f.last f.above f.split)
