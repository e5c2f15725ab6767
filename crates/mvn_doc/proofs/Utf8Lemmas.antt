-- What fits a path is text.
use Rattle.std.proofs.Common.{◌≡◌, ℕ, Bool, true, false, ◌&&◌, List, ◌++◌, ◌+◌, ◌-◌, ◌<◌, refl, sym, subst, ap, ◌∙◌, arith, length, take, drop}
use Rattle.std.specs.List.{list_all, starts_with}
use Rattle.std.proofs.lemmas.Bool.{eqb-true, ltb-false, ltb-true}
use Rattle.std.proofs.lemmas.List.{get_or-drop, get_or-take}
use Rattle.std.proofs.lemmas.List.Folds.{list_all-append}
use Rattle.mvn_coords.specs.Civil.{are_digits, is_time_form, time_of}
use Rattle.std.specs.Str.{IsUtf8}
use Rattle.std.proofs.lemmas.Str.{IsUtf8-from_ascii}
use Rattle.std.proofs.lemmas.Bool.Decides.{nat_tests}
use Rattle.mvn_coords.specs.FileName.{base_of, number_of}
use Rattle.mvn_coords.specs.Segment.{are_artifact_bytes, is_path_byte, is_segment, fits_version}
use Rattle.mvn_coords.specs.Segment.{is_artifact, is_version_directory}
use Rattle.mvn_metadata.specs.Form.{is_base_version, is_classifier, is_classifier_byte, is_extension}
use Rattle.std.specs.Prelude.{slice_index, nat_eq, nat_lt, nat_le, not, bytes_eq, codes, Some, None, if◌then◌else◌, is_some, ◌==◌}
use Rattle.std.proofs.Common.{lit<}
use Rattle.std.specs.Char.{is_ascii_digit}
use Rattle.mvn_doc.specs.Picked.{fitting}
use Rattle.mvn_metadata.proofs.Bools.{first, second, list_all_weaker}
use Rattle.mvn_metadata.proofs.Utf8Facts.{each_small, false_test, path_bytes_utf8, segment_utf8}

pub digit_plain : (b : ℕ) → is_ascii_digit b ≡ true → is_path_byte b ≡ true
digit_plain b h = grind (arith, nat_tests)

pub digits_utf8 : (bs : List ℕ) → list_all is_ascii_digit bs ≡ true → IsUtf8 bs
digits_utf8 bs h = path_bytes_utf8 bs (list_all_weaker is_ascii_digit is_path_byte bs digit_plain h)

-- a test that fails what is no text passes nothing
pub fails : (test : List ℕ → Bool) (bs : List ℕ) → (test bs ≡ true → IsUtf8 bs) → ¬ (IsUtf8 bs) → fitting test bs ≡ None
fails test bs utf8 none =
    elim (test bs) as (λ b. test bs ≡ b → (if b then Some bs else None) ≡ None) [
      | true ↦ λ e. absurd (none (utf8 e))
      | false ↦ λ _. refl
    ] refl

pub version_utf8 : (bs : List ℕ) → is_version_directory bs ≡ true → IsUtf8 bs
version_utf8 bs h = segment_utf8 bs (first (is_segment bs) (fits_version bs) h)

pub base_version_utf8 : (bs : List ℕ) → is_base_version bs ≡ true → IsUtf8 bs
base_version_utf8 bs h = version_utf8 bs (first (is_version_directory bs) (is_some (base_of bs)) h)

pub artifact_utf8 : (bs : List ℕ) → is_artifact bs ≡ true → IsUtf8 bs
artifact_utf8 bs h = segment_utf8 bs (first (is_segment bs) (are_artifact_bytes bs) h)

pub extension_utf8 : (bs : List ℕ) → is_extension bs ≡ true → IsUtf8 bs
extension_utf8 bs h = path_bytes_utf8 bs (second (nat_lt 0 (length bs) && nat_le (length bs) 255) (list_all is_path_byte bs) h)

pub classifier_utf8 : (bs : List ℕ) → is_classifier bs ≡ true → IsUtf8 bs
classifier_utf8 bs h =
    path_bytes_utf8 bs (list_all_weaker is_classifier_byte is_path_byte bs (λ b k. first (is_path_byte b) (not (b == 46)) k)
    (second (nat_le (length bs) 255) (list_all is_classifier_byte bs) h))

time_small : (bs : List ℕ) → length bs ≡ 15 → slice_index bs 8 ≡ 46 → ((i : ℕ) → slice_index (take 8 bs) i < 128) → ((i : ℕ) → slice_index (drop 9 bs) i < 128) → (i : ℕ) → slice_index bs i < 128
time_small bs e dot day clock i =
    elim (nat_lt i 8) as (λ t. nat_lt i 8 ≡ t → slice_index bs i < 128) [
      | true ↦ λ low. subst (λ b. b < 128) (get_or-take 8 bs i 0 (ltb-true i 8 low)) (day i)
      | false ↦ λ high. elim (nat_lt 8 i) as (λ t. nat_lt 8 i ≡ t → slice_index bs i < 128) [
        | true ↦ λ above. let past : 8 < i = ltb-true 8 i above in
            let place : 9 + (i - 9) ≡ i = omega arith in
            subst (λ b. b < 128) (get_or-drop 9 bs (i - 9) 0 ∙ ap (λ n. slice_index bs n) place) (clock (i - 9))
        | false ↦ λ below. let here : i ≡ 8 = omega (arith, ltb-false i 8 high, ltb-false 8 i below) in
            rw here (rw dot (lit< tt))
      ] refl
    ] refl

segment_plain : (s : List ℕ) → is_segment s ≡ true → list_all is_path_byte s ≡ true
segment_plain s h =
    second (nat_lt 0 (length s) && nat_le (length s) 255 && not (bytes_eq s (codes ".")) && not (bytes_eq s (codes ".."))) (list_all is_path_byte s) h

base_segment : (s : List ℕ) → is_base_version s ≡ true → is_segment s ≡ true
base_segment s h = first (is_segment s) (fits_version s) (first (is_version_directory s) (is_some (base_of s)) h)

front_plain : (bs : List ℕ) → list_all is_path_byte (bs ++ codes "-SNAPSHOT") ≡ true → list_all is_path_byte bs ≡ true
front_plain bs h = first (list_all is_path_byte bs) (list_all is_path_byte (codes "-SNAPSHOT")) (sym (list_all-append is_path_byte bs (codes "-SNAPSHOT")) ∙ h)

-- eight digits, a dot and six digits
time_utf8 : (bs : List ℕ) → is_time_form bs ≡ true → IsUtf8 bs
time_utf8 bs h =
    let sized = length bs == 15 in
    let dotted = slice_index bs 8 == 46 in
    let day = are_digits (take 8 bs) in
    let clock = are_digits (drop 9 bs) in
    let three = first (sized && dotted && day) clock h in
    let dot : slice_index bs 8 ≡ 46 = eqb-true (slice_index bs 8) 46 (second sized dotted (first (sized && dotted) day three)) in
    let long : length bs ≡ 15 = eqb-true (length bs) 15 (first sized dotted (first (sized && dotted) day three)) in
    IsUtf8-from_ascii bs (time_small bs long dot
    (each_small (take 8 bs) (list_all_weaker is_ascii_digit is_path_byte (take 8 bs) digit_plain (second (sized && dotted) day three)))
    (each_small (drop 9 bs) (list_all_weaker is_ascii_digit is_path_byte (drop 9 bs) digit_plain (second (sized && dotted && day) clock h))))

-- ---- what is no text is nothing else
pub no_number : (bs : List ℕ) → ¬ (IsUtf8 bs) → number_of bs ≡ None
no_number bs none =
    let sized = nat_lt 0 (length bs) && nat_le (length bs) 9 in
    let digits = list_all is_ascii_digit bs in
    let zero_first = starts_with nat_eq bs (codes "0") in
    rw (false_test (sized && digits && not zero_first) (λ e. none (digits_utf8 bs (second sized digits (first (sized && digits) (not zero_first) e))))) refl

pub no_base : (bs : List ℕ) → ¬ (IsUtf8 bs) → is_base_version (bs ++ codes "-SNAPSHOT") ≡ false
no_base bs none = false_test (is_base_version (bs ++ codes "-SNAPSHOT")) (λ e. none (path_bytes_utf8 bs (front_plain bs (segment_plain (bs ++ codes "-SNAPSHOT") (base_segment (bs ++ codes "-SNAPSHOT") e)))))

pub no_time : (bs : List ℕ) → ¬ (IsUtf8 bs) → time_of bs ≡ None
no_time bs none = rw (false_test (is_time_form bs) (λ e. none (time_utf8 bs e))) refl
