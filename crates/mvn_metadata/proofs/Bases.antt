-- When X-SNAPSHOT is a version directory, said of X.
use Rattle.std.proofs.Common.{◌≡◌, ℕ, ◌+◌, ◌<◌, ◌≤◌, Bool, true, false, ◌&&◌, cond, List, ◌++◌, length, length-append, take, Some, None, refl, ap, sym, ◌∙◌, arith}
use Rattle.std.specs.Prelude.{◌-◌, nat_eq, nat_le, nat_lt, not, is_some, bytes_eq, codes}
use Rattle.std.specs.Cmp.{both_ways}
use Rattle.std.specs.List.{list_all, ends_with}
use Rattle.std.proofs.lemmas.Bool.{and_from, le-leb, leb-true, ltb-true}
use Rattle.std.proofs.lemmas.Bool.Decides.{Decides-eqb}
use Rattle.std.proofs.lemmas.List.Folds.{list_all-append}
use Rattle.std.proofs.lemmas.Slice.Eq.{bytes_eq-Decides, ends_is}
use Rattle.byte_cuts.specs.Cuts.{before}
use Rattle.mvn_coords.specs.FileName.{base_of}
use Rattle.mvn_coords.specs.Segment.{fits_version, is_path_byte, is_segment, is_version_directory}
use Rattle.mvn_metadata.specs.Form.{is_base_version}
use Rattle.mvn_metadata.proofs.Bools.{first, second}
use Rattle.mvn_metadata.proofs.Utf8Facts.{false_test}

abbrev pub end : List ℕ
end = codes "-SNAPSHOT"

-- texts of other lengths are no word
other_length : (a b : List ℕ) → (length a ≡ length b → ⊥) → not (bytes_eq a b) ≡ true
other_length a b h = ap not (false_test (bytes_eq a b) (λ e. h (ap length ((bytes_eq-Decides a b).0 e))))

ended : (base : List ℕ) → ends_with nat_eq (base ++ end) end ≡ true
ended base = (ends_is Decides-eqb (base ++ end) end _ refl).1 base refl

-- X has 1 to 119 bytes of a path
abbrev pub is_base : List ℕ → Bool
is_base base = nat_lt 0 (length base) && nat_le (length base) 119 && list_all is_path_byte base

forth : (base : List ℕ) → is_base base ≡ true → is_base_version (base ++ end) ≡ true
forth base h =
    let text = base ++ end in
    let sized = first (nat_lt 0 (length base) && nat_le (length base) 119) (list_all is_path_byte base) h in
    let bytes = second (nat_lt 0 (length base) && nat_le (length base) 119) (list_all is_path_byte base) h in
    let low : 0 < length base = ltb-true 0 (length base) (first (nat_lt 0 (length base)) (nat_le (length base) 119) sized) in
    let high : length base ≤ 119 = leb-true (length base) 119 (second (nat_lt 0 (length base)) (nat_le (length base) 119) sized) in
    let long : length text ≡ length base + 9 = length-append base end in
    let plain : list_all is_path_byte text ≡ true = list_all-append is_path_byte base end ∙ and_from (list_all is_path_byte base) (list_all is_path_byte end) bytes refl in
    let segment : is_segment text ≡ true =
    and_from _ _ (and_from _ _ (and_from _ _ (and_from _ _ (le-leb 1 (length text) (omega arith)) (le-leb (length text) 255 (omega arith)))
    (other_length text (codes ".") (λ e. omega arith))) (other_length text (codes "..") (λ e. omega arith))) plain in
    let fits : fits_version text ≡ true =
    and_from _ _ (and_from _ _ (le-leb (length text) 128 (omega arith)) (other_length text (codes "SNAPSHOT") (λ e. omega arith)))
    (other_length text end (λ e. omega arith)) in
    let based : is_some (base_of text) ≡ true =
    (λ i. is_some (cond (le-leb 10 (length text) (omega arith) i) (before end text) None))
    ∙ (λ i. is_some (cond (ended base i) (Some (take (length text - length end) text)) None)) in
    and_from (is_version_directory text) (is_some (base_of text)) (and_from (is_segment text) (fits_version text) segment fits) based

has_room : (t : Bool) (text : List ℕ) → is_some (cond t (before end text) None) ≡ true → t ≡ true
has_room true text h = refl
has_room false text h = h

back : (base : List ℕ) → is_base_version (base ++ end) ≡ true → is_base base ≡ true
back base h =
    let text = base ++ end in
    let directory = first (is_version_directory text) (is_some (base_of text)) h in
    let segment = first (is_segment text) (fits_version text) directory in
    let fits = second (is_segment text) (fits_version text) directory in
    let long : length text ≡ length base + 9 = length-append base end in
    let short : length text ≤ 128 = leb-true (length text) 128
    (first (nat_le (length text) 128) (not (bytes_eq text (codes "SNAPSHOT"))) (first (nat_le (length text) 128 && not (bytes_eq text (codes "SNAPSHOT"))) (not (bytes_eq text end)) fits)) in
    let filled : 9 < length text = ltb-true 9 (length text) (has_room (nat_lt 9 (length text)) text (second (is_version_directory text) (is_some (base_of text)) h)) in
    let plain : list_all is_path_byte text ≡ true =
    second (nat_lt 0 (length text) && nat_le (length text) 255 && not (bytes_eq text (codes ".")) && not (bytes_eq text (codes ".."))) (list_all is_path_byte text) segment in
    and_from _ _ (and_from _ _ (le-leb 1 (length base) (omega arith)) (le-leb (length base) 119 (omega arith)))
    (first (list_all is_path_byte base) (list_all is_path_byte end) (sym (list_all-append is_path_byte base end) ∙ plain))

pub base_told : (base : List ℕ) → is_base base ≡ is_base_version (base ++ end)
base_told base = both_ways (is_base base) (is_base_version (base ++ end)) (forth base) (back base)
