-- The written numbers, times and versions of builds are read as what they write.
use Rattle.std.proofs.Common.{◌≡◌, ℕ, zero, suc, ◌+◌, ◌/◌, ◌%◌, ◌<◌, ◌≤◌, Bool, true, false, cond, not, ◌&&◌, ◌==◌, eqb, nat_lt, nat_le, List, [], ◌∷◌, ◌++◌, length, take, drop, Option, Some, None, option_and_then, option_map, refl, ap, sym, ◌∙◌, arith, append_assoc}
use Rattle.std.specs.Prelude.{if◌then◌else◌, codes}
use Rattle.std.specs.Char.{is_ascii_digit}
use Rattle.std.specs.List.{list_all, starts_with}
use Rattle.std.proofs.lemmas.Bool.{and_from, eqb-true, eqb-false, le-leb, leb-true, lt-ltb, ne_eqb, not-true}
use Rattle.std.proofs.lemmas.List.Folds.{list_all-append}
use Rattle.mvn_coords.specs.Civil.{CivilTime, decimal, digits, is_civil, text_of_time, time_of}
use Rattle.mvn_coords.specs.FileName.{is_build_number, number_of}
use Rattle.byte_cuts.specs.Cuts.{significant}
use Rattle.mvn_coords.proofs.Digits.{decimal-digits, length-digits}
use Rattle.mvn_coords.proofs.StampLaws.{exact_text}
use Rattle.mvn_metadata.specs.declared.pair.SnapshotBuild.{SnapshotBuild}
use Rattle.mvn_metadata.specs.Form.{is_base_version, is_build, is_entry, is_classifier, is_extension, is_fit}
use Rattle.mvn_metadata.specs.Merge.{Entry}
use Rattle.mvn_doc.specs.Picked.{build_by, build_value, cut_onto, snapshot_build_after, snapshot_build_by, snapshot_build_of, last_cut, moment_of}
use Rattle.mvn_coords.specs.Layout.{text_of_number}
use Rattle.mvn_metadata.specs.Written.{build_version, moment_text}
use Rattle.mvn_metadata.proofs.Bools.{both, first, second}

-- ---- digits
each_digit : (p : ℕ → Bool) → ((x : ℕ) → p (48 + x % 10) ≡ true) → (n x : ℕ) → list_all p (digits n x) ≡ true
each_digit p h zero x = refl
each_digit p h (suc n) x =
    list_all-append p (digits n (x / 10)) ((48 + x % 10) ∷ [])
    ∙ both (list_all p (digits n (x / 10))) (p (48 + x % 10) && true) (each_digit p h n (x / 10)) (both (p (48 + x % 10)) true (h x) refl)

digit_plain : (x : ℕ) → is_ascii_digit (48 + x % 10) ≡ true
digit_plain x = and_from _ _ (le-leb 48 (48 + x % 10) (omega arith)) (le-leb (48 + x % 10) 57 (omega arith))

-- ---- a number without leading zeros
all_significant : (p : ℕ → Bool) (ds : List ℕ) → list_all p ds ≡ true → list_all p (significant ds) ≡ true
all_significant p [] h = refl
all_significant p (d ∷ ds) h =
    elim (d == 48) as (λ b. list_all p (if b then significant ds else d ∷ ds) ≡ true) [
      | true ↦ all_significant p ds (second (p d) (list_all p ds) h)
      | false ↦ h
    ]

decimal-significant : (ds : List ℕ) → decimal (significant ds) ≡ decimal ds
decimal-significant [] = refl
decimal-significant (d ∷ ds) =
    elim (d == 48) as (λ b. (d == 48) ≡ b → decimal (if b then significant ds else d ∷ ds) ≡ decimal (d ∷ ds)) [
      | true ↦ λ e. decimal-significant ds ∙ sym (ap (λ c. decimal (c ∷ ds)) (eqb-true d 48 e))
      | false ↦ λ _. refl
    ] refl

length-significant : (ds : List ℕ) → length (significant ds) ≤ length ds
length-significant [] = omega arith
length-significant (d ∷ ds) =
    let rest = length-significant ds in
    elim (d == 48) as (λ b. length (if b then significant ds else d ∷ ds) ≤ suc (length ds)) [ true ↦ omega arith | false ↦ omega arith ]

no_zero_first : (ds : List ℕ) → starts_with eqb (significant ds) (codes "0") ≡ false
no_zero_first [] = refl
no_zero_first (d ∷ ds) =
    elim (d == 48) as (λ b. (d == 48) ≡ b → starts_with eqb (if b then significant ds else d ∷ ds) (codes "0") ≡ false) [
      | true ↦ λ _. no_zero_first ds
      | false ↦ λ e. ap (λ b. b && true) (ne_eqb 48 d (λ q. eqb-false d 48 e (sym q)))
    ] refl

filled : (run : List ℕ) → 1 ≤ decimal run → 0 < length run
filled [] h = absurd (omega arith)
filled (d ∷ ds) h = omega arith

number_from : (ds : List ℕ) (n : ℕ) → length ds ≡ 9 → list_all is_ascii_digit ds ≡ true → decimal ds ≡ n → 1 ≤ n → number_of (significant ds) ≡ Some n
number_from ds n nine plain value some =
    let run = significant ds in
    let same : decimal run ≡ n = decimal-significant ds ∙ value in
    let long : nat_lt 0 (length run) ≡ true = lt-ltb 0 (length run) (filled run (omega arith)) in
    let short : nat_le (length run) 9 ≡ true = le-leb (length run) 9 (omega (arith, length-significant ds)) in
    let each = all_significant is_ascii_digit ds plain in
    let start : not (starts_with eqb run (codes "0")) ≡ true = ap not (no_zero_first ds) in
    let test = both _ (not (starts_with eqb run (codes "0")))
    (both (nat_lt 0 (length run) && nat_le (length run) 9) (list_all is_ascii_digit run)
    (both (nat_lt 0 (length run)) (nat_le (length run) 9) long short) each) start in
    ap (λ b. cond b (Some (decimal run)) None) test ∙ ap Some same

pub number_again : (n : ℕ) → is_build_number n ≡ true → number_of (text_of_number n) ≡ Some n
number_again n h =
    let some : 1 ≤ n = leb-true 1 n (first (nat_le 1 n) (nat_le n 999_999_999) h) in
    let small : n ≤ 999_999_999 = leb-true n 999_999_999 (second (nat_le 1 n) (nat_le n 999_999_999) h) in
    number_from (digits 9 n) n (length-digits 9 n) (each_digit is_ascii_digit digit_plain 9 n) (decimal-digits 9 n (omega (arith, small))) some

-- ---- times
pub time_again : (t : CivilTime) → is_civil t ≡ true → time_of (text_of_time t) ≡ Some t
time_again t h = (exact_text (text_of_time t) t).1 (h, refl)

-- 14 digits and the dot that is put back among them
dot_put_back : (t : CivilTime) → take 8 (moment_text t) ++ 46 ∷ drop 8 (moment_text t) ≡ text_of_time t
dot_put_back t = refl

pub moment_again : (t : CivilTime) → is_civil t ≡ true → moment_of (moment_text t) ≡ Some t
moment_again t h = ap time_of (dot_put_back t) ∙ time_again t h

pub moments_again : (t : Option CivilTime) → is_fit is_civil t ≡ true → option_and_then moment_of (option_map moment_text t) ≡ t
moments_again None h = refl
moments_again (Some t) h = moment_again t h

-- ---- the version of a build is cut at its last two dashes
abbrev no_dash : ℕ → Bool
no_dash b = not (b == 45)

abbrev cut_if : Bool → List ℕ → Option (List ℕ × List ℕ)
cut_if b bs = if b then Some ([], bs) else None

no_cut : (bs : List ℕ) → list_all no_dash bs ≡ true → last_cut bs ≡ None
no_cut [] h = refl
no_cut (b ∷ bs) h =
    ap (cut_onto b bs) (no_cut bs (second (no_dash b) (list_all no_dash bs) h))
    ∙ ap (λ t. cut_if t bs) (not-true (b == 45) (first (no_dash b) (list_all no_dash bs) h))

cut_there : (front back : List ℕ) → list_all no_dash back ≡ true → last_cut (front ++ 45 ∷ back) ≡ Some (front, back)
cut_there [] back h = ap (cut_onto 45 back) (no_cut back h)
cut_there (b ∷ bs) back h = ap (cut_onto b (bs ++ 45 ∷ back)) (cut_there bs back h)

digit_no_dash : (x : ℕ) → no_dash (48 + x % 10) ≡ true
digit_no_dash x = ap not (ne_eqb (48 + x % 10) 45 (λ e. omega arith))

all_joined : (p : ℕ → Bool) (a b : List ℕ) → list_all p a ≡ true → list_all p b ≡ true → list_all p (a ++ b) ≡ true
all_joined p a b g h = list_all-append p a b ∙ both (list_all p a) (list_all p b) g h

all_seven : (p : ℕ → Bool) (a b c d e f g : List ℕ) → list_all p a ≡ true → list_all p b ≡ true → list_all p c ≡ true → list_all p d ≡ true → list_all p e ≡ true → list_all p f ≡ true → list_all p g ≡ true → list_all p (a ++ b ++ c ++ d ++ e ++ f ++ g) ≡ true
all_seven p a b c d e f g i j k l m n o =
    all_joined p (a ++ b ++ c ++ d ++ e ++ f) g
    (all_joined p (a ++ b ++ c ++ d ++ e) f
    (all_joined p (a ++ b ++ c ++ d) e
    (all_joined p (a ++ b ++ c) d
    (all_joined p (a ++ b) c (all_joined p a b i j) k) l) m) n) o

time_no_dash : (t : CivilTime) → list_all no_dash (text_of_time t) ≡ true
time_no_dash t =
    all_seven no_dash (digits 4 t.year) (digits 2 t.month) (digits 2 t.day) (46 ∷ []) (digits 2 t.hour) (digits 2 t.minute) (digits 2 t.second)
    (each_digit no_dash digit_no_dash 4 t.year) (each_digit no_dash digit_no_dash 2 t.month) (each_digit no_dash digit_no_dash 2 t.day) refl
    (each_digit no_dash digit_no_dash 2 t.hour) (each_digit no_dash digit_no_dash 2 t.minute) (each_digit no_dash digit_no_dash 2 t.second)

number_no_dash : (n : ℕ) → list_all no_dash (text_of_number n) ≡ true
number_no_dash n = all_significant no_dash (digits 9 n) (each_digit no_dash digit_no_dash 9 n)

value_from : (base time number : List ℕ) (stamp : CivilTime) (n : ℕ) → list_all no_dash time ≡ true → list_all no_dash number ≡ true → time_of time ≡ Some stamp → number_of number ≡ Some n → is_base_version (base ++ codes "-SNAPSHOT") ≡ true
    → build_value (base ++ 45 ∷ (time ++ 45 ∷ number)) ≡ Some (record { base = base; build = record { stamp = stamp; number = n } })
value_from base time number stamp n plain_time plain_number stamped numbered fits =
    let snapshot : SnapshotBuild = record { base = base; build = record { stamp = stamp; number = n } } in
    ap build_value (sym (append_assoc base (45 ∷ time) (45 ∷ number)))
    ∙ ap (option_and_then snapshot_build_after) (cut_there (base ++ 45 ∷ time) number plain_number)
    ∙ ap (option_and_then (snapshot_build_by (number_of number))) (cut_there base time plain_time)
    ∙ (λ i. snapshot_build_of base (build_by (stamped i) (numbered i)))
    ∙ ap (λ b. cond b (Some snapshot) None) fits

-- the parts of the form of an entry
pub record IsOfEntry (e : Entry) : Type 0 where
  pub classifier : is_classifier e.0.classifier ≡ true
  pub extension : is_extension e.0.extension ≡ true
  pub base : is_base_version (e.1.base ++ codes "-SNAPSHOT") ≡ true
  pub build : is_build e.1.build ≡ true

pub entry_parts : (e : Entry) → is_entry e ≡ true → IsOfEntry e
entry_parts e h =
    let C = is_classifier e.0.classifier in
    let X = is_extension e.0.extension in
    let B = is_base_version (e.1.base ++ codes "-SNAPSHOT") in
    let front = first (C && X && B) (is_build e.1.build) h in
    let pair = first (C && X) B front in
    record {
      classifier = first C X pair;
      extension = second C X pair;
      base = second (C && X) B front;
      build = second (C && X && B) (is_build e.1.build) h;
    }

pub build_value_again : (e : Entry) → is_entry e ≡ true → build_value (build_version e) ≡ Some e.1
build_value_again e h =
    let p = entry_parts e h in
    let t = e.1.build.stamp in
    let n = e.1.build.number in
    value_from e.1.base (text_of_time t) (text_of_number n) t n (time_no_dash t) (number_no_dash n)
    (time_again t (first (is_civil t) (is_build_number n) p.build)) (number_again n (second (is_civil t) (is_build_number n) p.build)) p.base
