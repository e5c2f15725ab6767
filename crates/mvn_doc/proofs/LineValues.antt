-- The values of a document's form are values of lines: one or more bytes of a path.
use Rattle.std.proofs.Common.{◌≡◌, ℕ, zero, suc, ◌+◌, ◌/◌, ◌%◌, ◌≤◌, Bool, true, false, ◌&&◌, ◌==◌, not, List, [], ◌∷◌, ◌++◌, length, take, drop, cond, refl, sym, ap, ◌∙◌, arith, Option, Some}
use Rattle.std.specs.Prelude.{if◌then◌else◌, bytes_eq, codes, is_some, nat_le, nat_lt}
use Rattle.std.specs.List.{fold, list_all, onto_first, slice_split}
use Rattle.std.proofs.lemmas.Bool.{and_from, eqb-true, le-leb, leb-true}
use Rattle.std.proofs.lemmas.List.{take-append-drop}
use Rattle.std.proofs.lemmas.List.Folds.{list_all-append}
use Rattle.xml_subset.specs.Cut.{begins}
use Rattle.mvn_coords.specs.Civil.{CivilTime, decimal, digits, text_of_time}
use Rattle.mvn_coords.specs.FileName.{BuildOf, base_of, is_build_number}
use Rattle.byte_cuts.specs.Cuts.{significant}
use Rattle.mvn_coords.specs.Layout.{text_of_build}
use Rattle.mvn_coords.specs.Segment.{are_artifact_bytes, are_group_bytes, is_path_byte, is_segment, fits_version}
use Rattle.mvn_coords.proofs.Digits.{decimal-digits}
use Rattle.mvn_coords.specs.Segment.{is_artifact, is_version_directory}
use Rattle.mvn_metadata.specs.Form.{is_base_version, is_classifier, is_classifier_byte, is_extension, is_fit, is_group}
use Rattle.mvn_metadata.specs.Document.{is_snapshot}
use Rattle.mvn_coords.specs.Layout.{text_of_number}
use Rattle.mvn_metadata.specs.Written.{moment_text}
use Rattle.mvn_metadata.proofs.Bools.{both, first, second, list_all_weaker}
use Rattle.mvn_doc.proofs.LinesOutlined.{is_line_value}
use Rattle.mvn_doc.proofs.Utf8Lemmas.{digit_plain}

abbrev are_path_bytes : List ℕ → Bool
are_path_bytes bs = list_all is_path_byte bs

-- ---- values made of parts
cons_value : (b : ℕ) (bs : List ℕ) → are_path_bytes (b ∷ bs) ≡ true → is_line_value (b ∷ bs) ≡ true
cons_value b bs h = both (is_path_byte b) (are_path_bytes (b ∷ bs)) (first (is_path_byte b) (are_path_bytes bs) h) h

filled_value : (s : List ℕ) → nat_lt 0 (length s) ≡ true → are_path_bytes s ≡ true → is_line_value s ≡ true
filled_value [] g h = absurd cc
filled_value (b ∷ bs) g h = cons_value b bs h

bytes_of_value : (s : List ℕ) → is_line_value s ≡ true → are_path_bytes s ≡ true
bytes_of_value s h = second (begins is_path_byte s) (are_path_bytes s) h

path_both : (xs ys : List ℕ) → are_path_bytes xs ≡ true → are_path_bytes ys ≡ true → are_path_bytes (xs ++ ys) ≡ true
path_both xs ys g h = list_all-append is_path_byte xs ys ∙ both (are_path_bytes xs) (are_path_bytes ys) g h

path_front : (xs ys : List ℕ) → are_path_bytes (xs ++ ys) ≡ true → are_path_bytes xs ≡ true
path_front xs ys h = first (are_path_bytes xs) (are_path_bytes ys) (sym (list_all-append is_path_byte xs ys) ∙ h)

path_end : (xs ys : List ℕ) → are_path_bytes (xs ++ ys) ≡ true → are_path_bytes ys ≡ true
path_end xs ys h = second (are_path_bytes xs) (are_path_bytes ys) (sym (list_all-append is_path_byte xs ys) ∙ h)

-- a value after path bytes, and path bytes after a value
value_after : (xs ys : List ℕ) → are_path_bytes xs ≡ true → is_line_value ys ≡ true → is_line_value (xs ++ ys) ≡ true
value_after [] ys g h = h
value_after (x ∷ xs) ys g h = cons_value x (xs ++ ys) (path_both (x ∷ xs) ys g (bytes_of_value ys h))

value_before : (xs ys : List ℕ) → is_line_value xs ≡ true → are_path_bytes ys ≡ true → is_line_value (xs ++ ys) ≡ true
value_before [] ys g h = absurd cc
value_before (x ∷ xs) ys g h = cons_value x (xs ++ ys) (path_both (x ∷ xs) ys (bytes_of_value (x ∷ xs) g) h)

value_front : (n : ℕ) (xs : List ℕ) → is_line_value xs ≡ true → is_line_value (take (suc n) xs) ≡ true
value_front n [] h = absurd cc
value_front n (x ∷ xs) h =
    let each = bytes_of_value (x ∷ xs) h in
    let rest = second (is_path_byte x) (are_path_bytes xs) each in
    cons_value x (take n xs) (both (is_path_byte x) (are_path_bytes (take n xs)) (first (is_path_byte x) (are_path_bytes xs) each)
    (path_front (take n xs) (drop n xs) (ap are_path_bytes (take-append-drop n xs) ∙ rest)))

-- ---- names of directories and files
segment_value : (s : List ℕ) → is_segment s ≡ true → is_line_value s ≡ true
segment_value s h =
    let filled = nat_lt 0 (length s) in
    let short = nat_le (length s) 255 in
    let here = not (bytes_eq s (codes ".")) in
    let above = not (bytes_eq s (codes "..")) in
    let front = first (filled && short && here && above) (are_path_bytes s) h in
    filled_value s (first filled short (first (filled && short) here (first (filled && short && here) above front)))
    (second (filled && short && here && above) (are_path_bytes s) h)

pub artifact_value : (s : List ℕ) → is_artifact s ≡ true → is_line_value s ≡ true
artifact_value s h = segment_value s (first (is_segment s) (are_artifact_bytes s) h)

pub version_value : (s : List ℕ) → is_version_directory s ≡ true → is_line_value s ≡ true
version_value s h = segment_value s (first (is_segment s) (fits_version s) h)

pub base_value : (s : List ℕ) → is_base_version s ≡ true → is_line_value s ≡ true
base_value s h = version_value s (first (is_version_directory s) (is_some (base_of s)) h)

pub extension_value : (s : List ℕ) → is_extension s ≡ true → is_line_value s ≡ true
extension_value s h =
    let filled = nat_lt 0 (length s) in
    let short = nat_le (length s) 255 in
    filled_value s (first filled short (first (filled && short) (are_path_bytes s) h)) (second (filled && short) (are_path_bytes s) h)

pub classifier_value : (b : ℕ) (bs : List ℕ) → is_classifier (b ∷ bs) ≡ true → is_line_value (b ∷ bs) ≡ true
classifier_value b bs h =
    cons_value b bs (list_all_weaker is_classifier_byte is_path_byte (b ∷ bs) (λ c k. first (is_path_byte c) (not (c == 46)) k)
    (second (nat_le (length (b ∷ bs)) 255) (list_all is_classifier_byte (b ∷ bs)) h))

-- ---- groups, cut at their dots
abbrev dot : ℕ → Bool
dot b = b == 46

dot_path : (b : ℕ) → dot b ≡ true → is_path_byte b ≡ true
dot_path b e = let is : b ≡ 46 = eqb-true b 46 e in ap is_path_byte is

onto_path : (b : ℕ) (parts : List (List ℕ)) → list_all are_path_bytes (onto_first b parts) ≡ true → (is_path_byte b && list_all are_path_bytes parts) ≡ true
onto_path b [] h = first (is_path_byte b && true) true h
onto_path b (part ∷ parts) h =
    let here = first (is_path_byte b && are_path_bytes part) (list_all are_path_bytes parts) h in
    both (is_path_byte b) (are_path_bytes part && list_all are_path_bytes parts) (first (is_path_byte b) (are_path_bytes part) here)
    (both (are_path_bytes part) (list_all are_path_bytes parts) (second (is_path_byte b) (are_path_bytes part) here)
    (second (is_path_byte b && are_path_bytes part) (list_all are_path_bytes parts) h))

split_path : (text : List ℕ) → list_all are_path_bytes (slice_split dot text) ≡ true → are_path_bytes text ≡ true
split_path [] h = refl
split_path (b ∷ bs) h =
    let parts = slice_split dot bs in
    elim (dot b) as (λ t. dot b ≡ t → list_all are_path_bytes (cond t ([] ∷ parts) (onto_first b parts)) ≡ true → are_path_bytes (b ∷ bs) ≡ true) [
      | true ↦ λ e k. both (is_path_byte b) (are_path_bytes bs) (dot_path b e) (split_path bs k)
      | false ↦ λ _ k. let whole = onto_path b parts k in
          both (is_path_byte b) (are_path_bytes bs) (first (is_path_byte b) (list_all are_path_bytes parts) whole)
          (split_path bs (second (is_path_byte b) (list_all are_path_bytes parts) whole))
    ] refl h

pub group_value : (s : List ℕ) → is_group s ≡ true → is_line_value s ≡ true
group_value [] h = absurd cc
group_value (b ∷ bs) h =
    cons_value b bs (split_path (b ∷ bs) (list_all_weaker (λ s. is_segment s && are_group_bytes s) are_path_bytes (slice_split dot (b ∷ bs))
    (λ s k. bytes_of_value s (segment_value s (first (is_segment s) (are_group_bytes s) k))) h))

-- ---- moments and numbers
digit_here : (x : ℕ) → is_path_byte (48 + x % 10) ≡ true
digit_here x =
    digit_plain (48 + x % 10) (and_from _ _ (le-leb 48 (48 + x % 10) (omega arith)) (le-leb (48 + x % 10) 57 (omega arith)))

last_value : (x : ℕ) → is_line_value ((48 + x % 10) ∷ []) ≡ true
last_value x = cons_value (48 + x % 10) [] (both (is_path_byte (48 + x % 10)) true (digit_here x) refl)

digits_path : (n x : ℕ) → are_path_bytes (digits n x) ≡ true
digits_path zero x = refl
digits_path (suc n) x =
    path_both (digits n (x / 10)) ((48 + x % 10) ∷ []) (digits_path n (x / 10)) (bytes_of_value ((48 + x % 10) ∷ []) (last_value x))

digits_value : (n x : ℕ) → is_line_value (digits (suc n) x) ≡ true
digits_value n x = value_after (digits n (x / 10)) ((48 + x % 10) ∷ []) (digits_path n (x / 10)) (last_value x)

six_value : (a b c d e f : List ℕ) → is_line_value a ≡ true → are_path_bytes b ≡ true → are_path_bytes c ≡ true → are_path_bytes d ≡ true → are_path_bytes e ≡ true → are_path_bytes f ≡ true
    → is_line_value (a ++ b ++ c ++ (46 ∷ []) ++ d ++ e ++ f) ≡ true
six_value a b c d e f p q r s t u =
    let date = value_before (a ++ b) c (value_before a b p q) r in
    let dotted = value_before (a ++ b ++ c) (46 ∷ []) date refl in
    let hour = value_before (a ++ b ++ c ++ (46 ∷ [])) d dotted s in
    value_before (a ++ b ++ c ++ (46 ∷ []) ++ d ++ e) f (value_before (a ++ b ++ c ++ (46 ∷ []) ++ d) e hour t) u

pub time_value : (t : CivilTime) → is_line_value (text_of_time t) ≡ true
time_value t =
    six_value (digits 4 t.year) (digits 2 t.month) (digits 2 t.day) (digits 2 t.hour) (digits 2 t.minute) (digits 2 t.second)
    (digits_value 3 t.year) (digits_path 2 t.month) (digits_path 2 t.day) (digits_path 2 t.hour) (digits_path 2 t.minute) (digits_path 2 t.second)

without_dot : (xs : List ℕ) → is_line_value xs ≡ true → is_line_value (take 8 xs ++ drop 9 xs) ≡ true
without_dot xs h =
    value_before (take 8 xs) (drop 9 xs) (value_front 7 xs h)
    (path_end (take 9 xs) (drop 9 xs) (ap are_path_bytes (take-append-drop 9 xs) ∙ bytes_of_value xs h))

pub moment_value : (t : CivilTime) → is_line_value (moment_text t) ≡ true
moment_value t = without_dot (text_of_time t) (time_value t)

zeros_value : (ds : List ℕ) → are_path_bytes ds ≡ true → (decimal ds ≡ 0 → ⊥) → is_line_value (significant ds) ≡ true
zeros_value [] h more = absurd (more refl)
zeros_value (d ∷ ds) h more =
    elim (d == 48) as (λ b. (d == 48) ≡ b → is_line_value (if b then significant ds else d ∷ ds) ≡ true) [
      | true ↦ λ e. zeros_value ds (second (is_path_byte d) (are_path_bytes ds) h)
          (λ none. more (ap (λ c. decimal (c ∷ ds)) (eqb-true d 48 e) ∙ none))
      | false ↦ λ _. cons_value d ds h
    ] refl

pub number_value : (n : ℕ) → is_build_number n ≡ true → is_line_value (text_of_number n) ≡ true
number_value n h =
    let low : 1 ≤ n = leb-true 1 n (first (nat_le 1 n) (nat_le n 999_999_999) h) in
    let high : n ≤ 999_999_999 = leb-true n 999_999_999 (second (nat_le 1 n) (nat_le n 999_999_999) h) in
    let whole : decimal (digits 9 n) ≡ n = decimal-digits 9 n (omega arith) in
    zeros_value (digits 9 n) (digits_path 9 n) (λ none. let zero_is : n ≡ 0 = sym whole ∙ none in omega arith)

pub build_value : (base : List ℕ) (b : BuildOf) → is_base_version (base ++ codes "-SNAPSHOT") ≡ true → is_build_number b.number ≡ true → is_line_value (base ++ 45 ∷ text_of_build b) ≡ true
build_value base b g h =
    let time = text_of_time b.stamp in
    let number = text_of_number b.number in
    let build = path_both time (45 ∷ number) (bytes_of_value time (time_value b.stamp)) (bytes_of_value number (number_value b.number h)) in
    value_after base (45 ∷ text_of_build b)
    (path_front base (codes "-SNAPSHOT") (bytes_of_value (base ++ codes "-SNAPSHOT") (base_value (base ++ codes "-SNAPSHOT") g)))
    (cons_value 45 (text_of_build b) build)

-- ---- values that may be missing
pub latest_fits : (p : List ℕ → Bool) (vs : List (List ℕ)) (last : Option (List ℕ)) → is_fit p last ≡ true → list_all p vs ≡ true → is_fit p (fold (λ (o : Option (List ℕ)) (v : List ℕ). Some v) last vs) ≡ true
latest_fits p [] last g h = g
latest_fits p (v ∷ vs) last g h =
    latest_fits p vs (Some v) (first (p v) (list_all p vs) h) (second (p v) (list_all p vs) h)

pub release_fits : (p : List ℕ → Bool) (vs : List (List ℕ)) (last : Option (List ℕ)) → is_fit p last ≡ true → list_all p vs ≡ true → is_fit p (fold (λ (o : Option (List ℕ)) (v : List ℕ). if is_snapshot v then o else Some v) last vs) ≡ true
release_fits p [] last g h = g
release_fits p (v ∷ vs) last g h =
    let rest = second (p v) (list_all p vs) h in
    elim (is_snapshot v) as (λ b. is_fit p (fold (λ (o : Option (List ℕ)) (w : List ℕ). if is_snapshot w then o else Some w) (if b then last else Some v) vs) ≡ true) [
      | true ↦ release_fits p vs last g rest
      | false ↦ release_fits p vs (Some v) (first (p v) (list_all p vs) h) rest
    ]
