-- Ids and paths are ASCII.
use Rattle.std.proofs.Common.{◌≡◌, ℕ, zero, suc, ◌<◌, ◌≤◌, ◌^◌, Bool, true, false, cond, not, ◌&&◌, List, [], ◌∷◌, ◌++◌, length, Result, Ok, Err, refl, sym, ◌∙◌, ap, arith}
use Rattle.std.specs.Prelude.{◌==◌, nat_lt, nat_le, is_some, reverse}
use Rattle.std.specs.List.{list_all, slice_split, onto_first}
use Rattle.std.specs.Str.{IsAscii, IsUtf8}
use Rattle.std.proofs.lemmas.Str.{IsUtf8-from_ascii}
use Rattle.std.proofs.lemmas.Bool.Decides.{nat_tests}
use Rattle.std.proofs.lemmas.List.{reverse-append}
use Rattle.std.proofs.lemmas.List.Folds.{list_all-append}
use Rattle.mvn_coords.specs.declared.fault.PathFault.{PathFault}
use Rattle.mvn_coords.specs.declared.kind.Kind.{Kind}
use Rattle.mvn_coords.specs.FileName.{◌>>=◌}
use Rattle.mvn_coords.specs.Kind.{kind, kind_of_parts}
use Rattle.mvn_coords.specs.Path.{Parts, parts_of}
use Rattle.mvn_coords.specs.Segment.{Segment, levels, is_segment, is_path_byte}
use Rattle.row_tables.specs.Items.{is_id, is_id_byte, is_file_path, directory_at}

pub both : (x y : Bool) → x && y ≡ true → (x ≡ true) × (y ≡ true)
both true true is = (refl, refl)
both true false is = absurd cc
both false y is = absurd cc

all_ascii : (test : ℕ → Bool) → ((b : ℕ) → test b ≡ true → b < 128) → (bs : List ℕ) → list_all test bs ≡ true → IsAscii bs
all_ascii test low [] all i = omega arith
all_ascii test low (b ∷ bs) all zero = low b (both (test b) (list_all test bs) all).0
all_ascii test low (b ∷ bs) all (suc i) = all_ascii test low bs (both (test b) (list_all test bs) all).1 i

id_low : (b : ℕ) → is_id_byte b ≡ true → b < 128
id_low b is = grind (arith, nat_tests)

path_low : (b : ℕ) → is_path_byte b ≡ true → b < 128
path_low b is = grind (arith, nat_tests)

pub id_utf8 : (id : List ℕ) → is_id id ≡ true → IsUtf8 id
id_utf8 id is = IsUtf8-from_ascii id (all_ascii is_id_byte id_low id (both (nat_le (length id) 64) _ (both (nat_lt 0 (length id)) _ is).1).1)

pub id_short : (id : List ℕ) → is_id id ≡ true → length id < 2 ^ 16
id_short id is = let few : nat_le (length id) 64 ≡ true = (both (nat_le (length id) 64) _ (both (nat_lt 0 (length id)) _ is).1).0 in grind (arith, nat_tests)

segment_bytes : (s : Segment) → is_segment s ≡ true → list_all is_path_byte s ≡ true
segment_bytes s is = (both _ (list_all is_path_byte s) is).1

segments_bytes : (ss : List Segment) → list_all is_segment ss ≡ true → list_all (list_all is_path_byte) ss ≡ true
segments_bytes [] all = refl
segments_bytes (s ∷ ss) all =
    let parts = both (is_segment s) (list_all is_segment ss) all in
    λ i. segment_bytes s parts.0 i && segments_bytes ss parts.1 i

onto_bytes : (p : ℕ → Bool) (x : ℕ) (ss : List (List ℕ)) → list_all (list_all p) (onto_first x ss) ≡ true → (p x ≡ true) × (list_all (list_all p) ss ≡ true)
onto_bytes p x [] all = ((both (p x) true (both (p x && true) true all).0).0, refl)
onto_bytes p x (s ∷ ss) all =
    let parts = both (p x && list_all p s) (list_all (list_all p) ss) all in
    let first = both (p x) (list_all p s) parts.0 in
    (first.0, λ i. first.1 i && parts.1 i)

abbrev slash : ℕ → Bool
slash b = b == 47

in_front : (x : ℕ) (path : List ℕ) → x < 128 → IsAscii path → IsAscii (x ∷ path)
in_front x path low rest zero = low
in_front x path low rest (suc i) = rest i

slash_low : (x : ℕ) → slash x ≡ true → x < 128
slash_low x is = grind (arith, nat_tests)

split_ascii : (path : List ℕ) → list_all (list_all is_path_byte) (slice_split slash path) ≡ true → IsAscii path
split_ascii [] all = λ i. omega arith
split_ascii (x ∷ path) all = by (split_ascii path) (slash x) refl all
  where
    by : (list_all (list_all is_path_byte) (slice_split slash path) ≡ true → IsAscii path) → (b : Bool) → slash x ≡ b
        → list_all (list_all is_path_byte) (cond b ([] ∷ slice_split slash path) (onto_first x (slice_split slash path))) ≡ true → IsAscii (x ∷ path)
    by go true is h = in_front x path (slash_low x is) (go h)
    by go false is h = let parts = onto_bytes is_path_byte x (slice_split slash path) h in in_front x path (path_low x parts.0) (go parts.1)

all_reverse : (p : Segment → Bool) (ss : List Segment) → list_all p (reverse ss) ≡ true → list_all p ss ≡ true
all_reverse p [] all = refl
all_reverse p (s ∷ ss) all =
    let turned : reverse (s ∷ ss) ≡ reverse ss ++ s ∷ [] = reverse-append (s ∷ []) ss in
    let parts = both (list_all p (reverse ss)) (p s && true) (sym (ap (list_all p) turned ∙ list_all-append p (reverse ss) (s ∷ [])) ∙ all) in
    let first = both (p s) true parts.1 in
    λ i. first.0 i && all_reverse p ss parts.0 i

-- a path that has a kind is short, and its segments may stand in a path
record Fine (path : List ℕ) : Type 0 where
  pub short : length path ≤ 1024
  pub segments : list_all is_segment (levels path) ≡ true

fine_steps : (path : List ℕ) (R : Result Parts PathFault) (p : Parts) (x y z : Bool) (e f g : PathFault) → nat_lt 1024 (length path) ≡ y → list_all is_segment (levels path) ≡ z
    → cond x (Err e) (cond y (Err f) (cond (not z) (Err g) R)) ≡ Ok p → Fine path
fine_steps path R p true y z e f g few segments h = absurd cc
fine_steps path R p false true z e f g few segments h = absurd cc
fine_steps path R p false false false e f g few segments h = absurd cc
fine_steps path R p false false true e f g few segments h = record { short = grind (arith, nat_tests); segments = segments }

fine_parts : (path : List ℕ) (p : Parts) → parts_of path ≡ Ok p → Fine path
unfolding parts_of
fine_parts path p is = fine_steps path _ p (length path == 0) (nat_lt 1024 (length path)) (list_all is_segment (levels path)) _ _ _ refl refl is

fine_kind_by : (path : List ℕ) (k : Kind) (r : Result Parts PathFault) → parts_of path ≡ r → (r >>= λ p. Ok (kind_of_parts p)) ≡ Ok k → Fine path
fine_kind_by path k (Ok p) read h = fine_parts path p read
fine_kind_by path k (Err e) read h = absurd cc

fine_kind : (path : List ℕ) (k : Kind) → kind path ≡ Ok k → Fine path
fine_kind path k is = fine_kind_by path k (parts_of path) refl is

fine_utf8 : (path : List ℕ) → Fine path → IsUtf8 path
fine_utf8 path fine = IsUtf8-from_ascii path (split_ascii path (segments_bytes (slice_split slash path) (all_reverse is_segment (slice_split slash path) fine.segments)))

fine_file : (path : List ℕ) → is_file_path path ≡ true → Fine path
fine_file path is = by (kind path) refl is
  where
    by : (r : Result Kind PathFault) → kind path ≡ r → is_some (Rattle.repo_model.specs.Paths.file_in r) ≡ true → Fine path
    by (Ok k) read h = fine_kind path k read
    by (Err e) read h = absurd cc

fine_document : (path : List ℕ) → is_some (directory_at path) ≡ true → Fine path
fine_document path is = by (kind path) refl is
  where
    by : (r : Result Kind PathFault) → kind path ≡ r → is_some (Rattle.row_tables.specs.Items.directory_in r) ≡ true → Fine path
    by (Ok k) read h = fine_kind path k read
    by (Err e) read h = absurd cc

pub file_path_utf8 : (path : List ℕ) → is_file_path path ≡ true → IsUtf8 path
file_path_utf8 path is = fine_utf8 path (fine_file path is)

pub document_path_utf8 : (path : List ℕ) → is_some (directory_at path) ≡ true → IsUtf8 path
document_path_utf8 path is = fine_utf8 path (fine_document path is)

small : (path : List ℕ) → Fine path → length path < 2 ^ 16
small path fine = omega (arith, fine.short)

pub file_path_short : (path : List ℕ) → is_file_path path ≡ true → length path < 2 ^ 16
file_path_short path is = small path (fine_file path is)

pub document_path_short : (path : List ℕ) → is_some (directory_at path) ≡ true → length path < 2 ^ 16
document_path_short path is = small path (fine_document path is)

-- what is no text is no path
pub no_path : (path : List ℕ) (b : Bool) → (IsUtf8 path → ⊥) → (b ≡ true → IsUtf8 path) → false ≡ b
no_path path b not_text utf8 = by b refl
  where
    by : (x : Bool) → b ≡ x → false ≡ x
    by true is = absurd (not_text (utf8 is))
    by false is = refl
