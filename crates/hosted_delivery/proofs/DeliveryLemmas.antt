-- Staged files that are deployed: whose paths are free, what their rows come to, and what of it is recorded and left over.
use Rattle.std.proofs.Common.{◌≡◌, ℕ, ◌+◌, ◌≤◌, Bool, true, false, cond, not, ◌&&◌, List, [], ◌∷◌, ◌++◌, length, Option, Some, None, String, Global, string_bytes, bytes_eq, Less, Equal, Greater, is_eq, nat_cmp, refl, sym, ◌∙◌, ap, subst, arith, append_assoc, length-append}
use Rattle.std.specs.Prelude.{is_none, option_to_list, take, OnErr, Result, Ok, Err}
use Rattle.std.proofs.lemmas.Map.Text.{is_eq-slice_cmp}
use Rattle.std.proofs.lemmas.Slice.Eq.{bytes_eq-Decides}
use Rattle.std.proofs.lemmas.Bool.{and_parts}
use Rattle.std.proofs.lemmas.List.Concat.{flat_map-append}
use Rattle.std.specs.Cmp.Lexicographic.{slice_cmp}
use Rattle.std.specs.List.{AllByRecursion, flat_map, list_all}
use Rattle.std.specs.List.Sorted.{IsStrictlySortedBy}
use Rattle.std.specs.Map.{keys_of}
use Rattle.std.specs.Ordering.{match_ordering}
use Rattle.std.specs.String.{string_cmp}
use Rattle.outside.specs.declared.parcels.Parcel.{Parcel}
use Rattle.outside.specs.declared.stores.Held.{Ghosts}
use Rattle.repo_model.specs.declared.item.Item.{Item}
use Rattle.repo_model.specs.Data as plain
use Rattle.repo_model.specs.Data.{Staged, Session}
use Rattle.repo_model.specs.Deploy.{deliver_at, deliver_again}
use Rattle.repo_model.specs.Effect.{Effect, items_of, list_again, new_row, recorded, with_row}
use Rattle.repo_model.specs.State.{change_where, is_row, row_at}
use Rattle.row_tables.specs.Items.{is_count, is_file_path, is_number}
use Rattle.hosted_delivery.specs.Deliveries.{is_recordable, left_by, shown_files, with_file, with_files, with_listed, with_listed_by}
use Rattle.ordered_rows.specs.Recording.{IsShort}
use Rattle.ordered_rows.specs.Rows.{AreFiles, IsFileRow, rows_after_all}
use Rattle.ordered_rows.proofs.EachRow.{each-changed, each-with}
use Rattle.ordered_rows.proofs.MapLemmas.{same_test}

bytes-turned : (a b : List ℕ) → bytes_eq a b ≡ bytes_eq b a
bytes-turned a b = sym (is_eq-slice_cmp a b) ∙ same_test a b

pub bytes-same : (a : List ℕ) → bytes_eq a a ≡ true
bytes-same a = (bytes_eq-Decides a a).1 refl

and-false : (b : Bool) → (b && false) ≡ false
and-false true = refl
and-false false = refl

-- ---- whether a path is free
abbrev pub is_free : List ℕ → List plain.Row → Bool
is_free path rows = is_none (row_at path rows)

none-cond : {A : Type 0} (b : Bool) (x : A) (o : Option A) → is_none (cond b (Some x) o) ≡ (not b && is_none o)
none-cond true x o = refl
none-cond false x o = refl

pub is_free-cons : (path : List ℕ) (row : plain.Row) (rows : List plain.Row) → is_free path (row ∷ rows) ≡ (not (is_row path row) && is_free path rows)
is_free-cons path row rows = none-cond (is_row path row) row (row_at path rows)

pub is_free-with_row : (path : List ℕ) (new : plain.Row) (rows : List plain.Row) → is_free path (with_row new rows) ≡ (not (is_row path new) && is_free path rows)
is_free-with_row path new [] = is_free-cons path new []
is_free-with_row path new (row ∷ rows) =
    elim (slice_cmp nat_cmp new.path row.path)
    as (λ o. is_free path (match_ordering o (new ∷ row ∷ rows) (new ∷ row ∷ rows) (row ∷ with_row new rows)) ≡ (not (is_row path new) && is_free path (row ∷ rows))) [
      | Less ↦ is_free-cons path new (row ∷ rows)
      | Equal ↦ is_free-cons path new (row ∷ rows)
      | Greater ↦
          is_free-cons path row (with_row new rows)
          ∙ ap (λ b. not (is_row path row) && b) (is_free-with_row path new rows)
          ∙ swapped (not (is_row path row)) (not (is_row path new)) (is_free path rows)
          ∙ ap (λ b. not (is_row path new) && b) (sym (is_free-cons path row rows))
    ]
  where
    swapped : (a b c : Bool) → (a && (b && c)) ≡ (b && (a && c))
    swapped true b c = refl
    swapped false b c = sym (and-false b)

is_free-changed : (path : List ℕ) (test : plain.Row → Bool) (f : plain.Row → plain.Row) → ((row : plain.Row) → (f row).path ≡ row.path) → (rows : List plain.Row)
    → is_free path (change_where test f rows) ≡ is_free path rows
is_free-changed path test f same [] = refl
is_free-changed path test f same (row ∷ rows) =
    let alike : is_row path (cond (test row) (f row) row) ≡ is_row path row = elim (test row) as (λ b. is_row path (cond b (f row) row) ≡ is_row path row) [ true ↦ ap (λ p. bytes_eq p path) (same row) | false ↦ refl ] in
    is_free-cons path (cond (test row) (f row) row) (change_where test f rows)
    ∙ ap (λ b. not b && is_free path (change_where test f rows)) alike
    ∙ ap (λ b. not (is_row path row) && b) (is_free-changed path test f same rows)
    ∙ sym (is_free-cons path row rows)

-- ---- files whose paths differ
abbrev pub AreApart : List Staged → Type 0
AreApart [] = Unit {0}
AreApart (file ∷ files) = AllByRecursion (λ (other : Staged). bytes_eq file.path other.path ≡ false) files × AreApart files

module _ {X : Type 0} {G : Ghosts X} where
  apart-one : (k : String Global) (es : List (String Global × Parcel X G)) → AllByRecursion (λ y. string_cmp k y ≡ Less) (keys_of es)
      → AllByRecursion (λ (other : Staged). bytes_eq (string_bytes k) other.path ≡ false) (shown_files es)
  apart-one k [] below = tt
  apart-one k (e ∷ es) below = (sym (is_eq-slice_cmp (string_bytes k) (string_bytes e.0)) ∙ ap is_eq below.0, apart-one k es below.1)

  pub apart-shown : (es : List (String Global × Parcel X G)) → IsStrictlySortedBy string_cmp (keys_of es) → AreApart (shown_files es)
  unfolding IsStrictlySortedBy
  apart-shown [] sorted = tt
  apart-shown (e ∷ es) sorted = (apart-one e.0 es sorted.0, apart-shown es sorted.1)

-- the same paths of files are free
abbrev AgreeOn : List Staged → List plain.Row → List plain.Row → Type 0
AgreeOn files rows others = AllByRecursion (λ (file : Staged). is_free file.path rows ≡ is_free file.path others) files

agree-self : (files : List Staged) (rows : List plain.Row) → AgreeOn files rows rows
agree-self [] rows = tt
agree-self (file ∷ files) rows = (refl, agree-self files rows)

agree-new : (new : plain.Row) (files : List Staged) (rows others : List plain.Row) → AllByRecursion (λ (other : Staged). bytes_eq new.path other.path ≡ false) files
    → AgreeOn files rows others → AgreeOn files (with_row new rows) others
agree-new new [] rows others apart agree = tt
agree-new new (file ∷ files) rows others apart agree = (
  is_free-with_row file.path new rows ∙ ap (λ b. not b && is_free file.path rows) apart.0 ∙ agree.0,
  agree-new new files rows others apart.1 agree.1,
)

agree-changed : (test : plain.Row → Bool) (f : plain.Row → plain.Row) → ((row : plain.Row) → (f row).path ≡ row.path) → (files : List Staged) (rows others : List plain.Row)
    → AgreeOn files rows others → AgreeOn files (change_where test f rows) others
agree-changed test f same [] rows others agree = tt
agree-changed test f same (file ∷ files) rows others agree = (is_free-changed file.path test f same rows ∙ agree.0, agree-changed test f same files rows others agree.1)

-- ---- new rows first, and then those that are visible again
listed-later : (test : plain.Row → Bool) (f : plain.Row → plain.Row) → ((row : plain.Row) → (f row).path ≡ row.path) → (new : plain.Row) → test new ≡ false → (rows : List plain.Row)
    → with_row new (change_where test f rows) ≡ change_where test f (with_row new rows)
listed-later test f same new other [] = sym (ap (λ b. cond b (f new) new ∷ []) other)
listed-later test f same new other (row ∷ rows) =
    let changed : plain.Row = cond (test row) (f row) row in
    let behind : List plain.Row = change_where test f rows in
    let alike : changed.path ≡ row.path = elim (test row) as (λ b. (cond b (f row) row).path ≡ row.path) [ true ↦ same row | false ↦ refl ] in
    ap (λ p. match_ordering (slice_cmp nat_cmp new.path p) (new ∷ changed ∷ behind) (new ∷ changed ∷ behind) (changed ∷ with_row new behind)) alike
    ∙ elim (slice_cmp nat_cmp new.path row.path)
    as (λ o. match_ordering o (new ∷ changed ∷ behind) (new ∷ changed ∷ behind) (changed ∷ with_row new behind)
    ≡ change_where test f (match_ordering o (new ∷ row ∷ rows) (new ∷ row ∷ rows) (row ∷ with_row new rows))) [
      | Less ↦ sym (ap (λ b. cond b (f new) new ∷ changed ∷ behind) other)
      | Equal ↦ sym (ap (λ b. cond b (f new) new ∷ changed ∷ behind) other)
      | Greater ↦ ap (λ rs. changed ∷ rs) (listed-later test f same new other rows)
    ]

file-later : (now : ℕ) (path : List ℕ) (file : Staged) (rows : List plain.Row) → bytes_eq path file.path ≡ false
    → with_file now file (change_where (is_row path) (list_again now) rows) ≡ change_where (is_row path) (list_again now) (with_file now file rows)
file-later now path file rows apart =
    let again : List plain.Row → List plain.Row = change_where (is_row path) (list_again now) in
    let new : plain.Row = new_row file.path file.blob now in
    ap (λ b. cond b (with_row new (again rows)) (again rows)) (is_free-changed file.path (is_row path) (list_again now) (λ row. refl) rows)
    ∙ elim (is_free file.path rows) as (λ b. cond b (with_row new (again rows)) (again rows) ≡ again (cond b (with_row new rows) rows)) [
      | true ↦ listed-later (is_row path) (list_again now) (λ row. refl) new (bytes-turned file.path path ∙ apart) rows
      | false ↦ refl
    ]

files-later : (now : ℕ) (path : List ℕ) (files : List Staged) (rows : List plain.Row) → AllByRecursion (λ (other : Staged). bytes_eq path other.path ≡ false) files
    → with_files now files (change_where (is_row path) (list_again now) rows) ≡ change_where (is_row path) (list_again now) (with_files now files rows)
files-later now path [] rows apart = refl
files-later now path (file ∷ files) rows apart =
    ap (with_files now files) (file-later now path file rows apart.0) ∙ files-later now path files (with_file now file rows) apart.1

-- what files come to, by the rows that stand when they are judged
abbrev pub effects_by : Session → ℕ → List plain.Row → List Staged → List Effect
effects_by s now rows files = flat_map (λ (file : Staged). deliver_at s now file (row_at file.path rows)) files

delivered-on : (s : Session) (now : ℕ) (others : List plain.Row) (files : List Staged) (rows : List plain.Row) → AreApart files → AgreeOn files rows others
    → with_listed now (recorded (effects_by s now others files)) (with_files now files rows) ≡ rows_after_all (effects_by s now others files) rows
delivered-on s now others [] rows apart agree = refl
delivered-on s now others (file ∷ files) rows apart agree =
    let rest : List Effect = effects_by s now others files in
    let new : plain.Row = new_row file.path file.blob now in
    let again : List plain.Row → List plain.Row = change_where (is_row file.path) (list_again now) in
    let all : List plain.Row → List plain.Row = λ rs. with_listed now (recorded rest) (with_files now files rs) in
    elim (row_at file.path others)
    as (λ o. row_at file.path others ≡ o → with_listed now (recorded (deliver_at s now file o ++ rest)) (with_files now (file ∷ files) rows) ≡ rows_after_all (deliver_at s now file o ++ rest) rows) [
      | None ↦ λ is.
          ap all (ap (λ b. cond b (with_row new rows) rows) (agree.0 ∙ ap is_none is))
          ∙ delivered-on s now others files (with_row new rows) apart.1 (agree-new new files rows others apart.0 agree.1)
      | Some row ↦ λ is.
          let same : with_file now file rows ≡ rows = ap (λ b. cond b (with_row new rows) rows) (agree.0 ∙ ap is_none is) in
          elim (row.phase)
          as (λ p. with_listed now (recorded (deliver_again s now file p ++ rest)) (with_files now (file ∷ files) rows) ≡ rows_after_all (deliver_again s now file p ++ rest) rows) [
            | plain.listed ↦ ap all same ∙ delivered-on s now others files rows apart.1 agree.1
            | plain.fading since ↦
                ap (λ rs. with_listed now (recorded rest) (again (with_files now files rs))) same
                ∙ ap (with_listed now (recorded rest)) (sym (files-later now file.path files rows apart.0))
                ∙ delivered-on s now others files (again rows) apart.1 (agree-changed (is_row file.path) (list_again now) (λ r. refl) files rows others agree.1)
          ]
    ] refl

-- all new rows and then all that are visible again are what the files come to one after the other
pub delivered : (s : Session) (now : ℕ) (files : List Staged) (rows : List plain.Row) → AreApart files
    → with_listed now (recorded (effects_by s now rows files)) (with_files now files rows) ≡ rows_after_all (effects_by s now rows files) rows
delivered s now files rows apart = delivered-on s now rows files rows apart (agree-self files rows)

pub with_listed-append : (now : ℕ) (items more : List Item) (rows : List plain.Row) → with_listed now (items ++ more) rows ≡ with_listed now more (with_listed now items rows)
with_listed-append now [] more rows = refl
with_listed-append now (item ∷ items) more rows = with_listed-append now items more (with_listed_by now item rows)

recorded-append : (effects more : List Effect) → recorded (effects ++ more) ≡ recorded effects ++ recorded more
recorded-append effects more = flat_map-append items_of effects more

-- items of the first of some files: with those of the files that are left they are those of all
pub record IsRecording (s : Session) (now : ℕ) (rows : List plain.Row) (files left : List Staged) (items : List Item) : Type 0 where
  pub whole : items ++ recorded (effects_by s now rows left) ≡ recorded (effects_by s now rows files)
  pub short : AllByRecursion IsShort items
  pub few : length items + length left ≤ length files
  pub formed : list_all is_recordable left ≡ true

all-both : {A : Type 0} (P : A → Type 0) (xs ys : List A) → AllByRecursion P xs → AllByRecursion P ys → AllByRecursion P (xs ++ ys)
all-both P [] ys front back = back
all-both P (x ∷ xs) ys front back = (front.0, all-both P xs ys front.1 back)

most-one : {A : Type 0} (o : Option A) → length (option_to_list o) ≤ 1
most-one None = omega arith
most-one (Some x) = omega arith

pub recording-more : (s : Session) (now : ℕ) (rows : List plain.Row) (files : List Staged) (file : Staged) (left : List Staged) (items after : List Item) (item : Option Item)
    → option_to_list item ≡ recorded (deliver_at s now file (row_at file.path rows)) → AllByRecursion IsShort (option_to_list item) → after ≡ items ++ option_to_list item
    → IsRecording s now rows files (file ∷ left) items → IsRecording s now rows files left after
recording-more s now rows files file left items after item told short is at =
    let rest : List Item = recorded (effects_by s now rows left) in
    subst (IsRecording s now rows files left) (sym is) (record {
      whole = append_assoc items (option_to_list item) rest
          ∙ ap (λ some. items ++ (some ++ rest)) told
          ∙ ap (λ some. items ++ some) (sym (recorded-append (deliver_at s now file (row_at file.path rows)) (effects_by s now rows left)))
          ∙ at.whole;
      short = all-both IsShort items (option_to_list item) at.short short;
      few = omega (arith, at.few, length-append items (option_to_list item), most-one item);
      formed = (and_parts (is_recordable file) (list_all is_recordable left) at.formed).1;
    })

pub left-more : (s : Session) (now : ℕ) (rows : List plain.Row) (file : Staged) (left : List Staged) (blobs some : List ℕ) → some ≡ flat_map left_by (deliver_at s now file (row_at file.path rows))
    → (blobs ++ some) ++ flat_map left_by (effects_by s now rows left) ≡ blobs ++ flat_map left_by (effects_by s now rows (file ∷ left))
left-more s now rows file left blobs some is =
    append_assoc blobs some (flat_map left_by (effects_by s now rows left))
    ∙ ap (λ ns. blobs ++ (ns ++ flat_map left_by (effects_by s now rows left))) is
    ∙ ap (λ ns. blobs ++ ns) (sym (flat_map-append left_by (deliver_at s now file (row_at file.path rows)) (effects_by s now rows left)))

pub err-any : {T E P : Type 0} (r : Result T E) → P → OnErr r P
err-any (Ok x) p = tt
err-any (Err e) p = p

pub take-front : {A : Type 0} (xs ys : List A) → take (length xs) (xs ++ ys) ≡ xs
take-front [] ys = refl
take-front (x ∷ xs) ys = ap (λ rest. x ∷ rest) (take-front xs ys)

-- rows stay at paths of files
pub files-delivered : (s : Session) (now : ℕ) (others : List plain.Row) (files : List Staged) (rows : List plain.Row) → list_all is_recordable files ≡ true → AreFiles rows
    → AreFiles (rows_after_all (effects_by s now others files) rows)
files-delivered s now others [] rows formed old = old
files-delivered s now others (file ∷ files) rows formed old =
    let parts = and_parts (is_recordable file) (list_all is_recordable files) formed in
    let named : is_file_path file.path ≡ true = (and_parts (is_file_path file.path) (is_number file.blob.number && is_count file.blob.print.length) parts.0).0 in
    let rest : List Effect = effects_by s now others files in
    elim (row_at file.path others) as (λ o. AreFiles (rows_after_all (deliver_at s now file o ++ rest) rows)) [
      | None ↦ files-delivered s now others files (with_row (new_row file.path file.blob now) rows) parts.1 (each-with IsFileRow (new_row file.path file.blob now) rows named old)
      | Some row ↦ elim (row.phase) as (λ p. AreFiles (rows_after_all (deliver_again s now file p ++ rest) rows)) [
        | plain.listed ↦ files-delivered s now others files rows parts.1 old
        | plain.fading since ↦ files-delivered s now others files (change_where (is_row file.path) (list_again now) rows) parts.1 (each-changed IsFileRow (is_row file.path) (list_again now) (λ r is h. h) rows old)
      ]
    ]
