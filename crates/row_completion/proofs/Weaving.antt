-- The recorded files in their order: of one place a hosted file comes first.
use Rattle.std.proofs.Common.{◌≡◌, Bool, true, false, cond, List, [], ◌∷◌, Less, Equal, refl, sym, ap, ◌∙◌, nat_cmp, bytes_eq}
use Rattle.std.specs.List.{AllByRecursion}
use Rattle.std.specs.List.Sorted.{IsStrictlySortedBy}
use Rattle.std.specs.Ordering.{ordering_then}
use Rattle.std.specs.Cmp.Lexicographic.{slice_cmp, nat_list_cmp_total}
use Rattle.std.proofs.lemmas.Bool.{and_parts, and_from, both_ways}
use Rattle.std.proofs.lemmas.Cmp.{tied_itself}
use Rattle.std.proofs.lemmas.Slice.Eq.{bytes_eq-Decides}
use Rattle.itertools.specs.List.{merge_at, merge_by}
use Rattle.repo_model.specs.Tables.{RecordedRow, is_recorded, place_cmp}
use Rattle.repo_laws.specs.Holds.{row_cmp}
use Rattle.blob_audit.specs.Order.{File, comes_first, files_of, is_at_most}

-- a row stands at the place of another
abbrev pub at_place : RecordedRow → RecordedRow → Bool
at_place r s = is_recorded r.repo r.row.path s

-- none of these rows stands there
abbrev pub Apart : RecordedRow → List RecordedRow → Type 0
Apart r rows = AllByRecursion (λ s. at_place r s ≡ false) rows

pub place-itself : (r : RecordedRow) → at_place r r ≡ true
place-itself r = and_from (bytes_eq r.repo r.repo) (bytes_eq r.row.path r.row.path) ((bytes_eq-Decides r.repo r.repo).1 refl) ((bytes_eq-Decides r.row.path r.row.path).1 refl)

same-place : (r s : RecordedRow) → at_place r s ≡ true → (s.repo ≡ r.repo) × (s.row.path ≡ r.row.path)
same-place r s is =
    let parts = and_parts (bytes_eq s.repo r.repo) (bytes_eq s.row.path r.row.path) is in
    ((bytes_eq-Decides s.repo r.repo).0 parts.0, (bytes_eq-Decides s.row.path r.row.path).0 parts.1)

pub apart-turned : (r s : RecordedRow) → at_place r s ≡ false → at_place s r ≡ false
apart-turned r s other =
    elim (at_place s r) as (λ b. at_place s r ≡ b → b ≡ false) [
      | true ↦ λ is.
          let there = same-place s r is in
          absurd (both_ways (at_place r s) other
          (and_from (bytes_eq s.repo r.repo) (bytes_eq s.row.path r.row.path) ((bytes_eq-Decides s.repo r.repo).1 (sym there.0)) ((bytes_eq-Decides s.row.path r.row.path).1 (sym there.1))))
      | false ↦ λ is. refl
    ] refl

-- rows at one place are alike in the order
like : (r s t : RecordedRow) → at_place r s ≡ true → row_cmp t s ≡ row_cmp t r
like r s t is = let there = same-place r s is in λ i. place_cmp t.repo t.row.path (there.0 i) (there.1 i)

cmp-itself : (r : RecordedRow) → row_cmp r r ≡ Equal
cmp-itself r =
    ap (λ o. ordering_then o (slice_cmp nat_cmp r.row.path r.row.path)) (tied_itself nat_list_cmp_total r.repo) ∙ tied_itself nat_list_cmp_total r.row.path

-- a row before another is apart from it
apart-less : (r s : RecordedRow) → row_cmp r s ≡ Less → at_place r s ≡ false
apart-less r s less =
    elim (at_place r s) as (λ b. at_place r s ≡ b → b ≡ false) [
      | true ↦ λ is. absurd (let e : Less ≡ Equal = sym less ∙ like r s r is ∙ cmp-itself r in cc)
      | false ↦ λ is. refl
    ] refl

all-apart : (r : RecordedRow) (rows : List RecordedRow) → AllByRecursion (λ s. row_cmp r s ≡ Less) rows → Apart r rows
all-apart r [] all = tt
all-apart r (s ∷ rows) all = (apart-less r s all.0, all-apart r rows all.1)

-- a row that an earlier one comes after is apart from it and from those after that
apart-greater : (h c : RecordedRow) → is_at_most (row_cmp h c) ≡ false → at_place c h ≡ false
apart-greater h c greater =
    elim (at_place c h) as (λ b. at_place c h ≡ b → b ≡ false) [
      | true ↦ λ is. absurd (let e : true ≡ false = sym (ap is_at_most (sym (like c h h is) ∙ cmp-itself h)) ∙ greater in cc)
      | false ↦ λ is. refl
    ] refl

apart-after : (h c : RecordedRow) → is_at_most (row_cmp h c) ≡ false → (rows : List RecordedRow) → AllByRecursion (λ s. row_cmp h s ≡ Less) rows → Apart c rows
apart-after h c greater [] all = tt
apart-after h c greater (s ∷ rows) all = (
  elim (at_place c s) as (λ b. at_place c s ≡ b → b ≡ false) [
    | true ↦ λ is. absurd (let e : true ≡ false = sym (ap is_at_most (sym (like c s h is) ∙ all.0)) ∙ greater in cc)
    | false ↦ λ is. refl
  ] refl,
  apart-after h c greater rows all.1,
)

abbrev pub file_of : Bool → RecordedRow → File
file_of is_hosted r = record { is_hosted = is_hosted; row = r }

-- hosted rows and rows of proxies as files in one order, each apart from those that it could be taken for
pub data Woven : List RecordedRow → List RecordedRow → List File → Type 0 where
  none : Woven [] [] []
  hosted : (r : RecordedRow) (hs cs : List RecordedRow) (files : List File) → Apart r hs → Woven hs cs files → Woven (r ∷ hs) cs (file_of true r ∷ files)
  cached : (r : RecordedRow) (hs cs : List RecordedRow) (files : List File) → Apart r hs → Apart r cs → Woven hs cs files → Woven hs (r ∷ cs) (file_of false r ∷ files)

only-hosted : (hs : List RecordedRow) → IsStrictlySortedBy row_cmp hs → Woven hs [] (files_of true hs)
unfolding IsStrictlySortedBy
only-hosted [] rising = none
only-hosted (r ∷ hs) rising = hosted r hs [] (files_of true hs) (all-apart r hs rising.0) (only-hosted hs rising.1)

only-cached : (cs : List RecordedRow) → IsStrictlySortedBy row_cmp cs → Woven [] cs (files_of false cs)
unfolding IsStrictlySortedBy
only-cached [] rising = none
only-cached (r ∷ cs) rising = cached r [] cs (files_of false cs) tt (all-apart r cs rising.0) (only-cached cs rising.1)

weave-at : (h : RecordedRow) (hs : List RecordedRow) → IsStrictlySortedBy row_cmp (h ∷ hs)
    → ((cs : List RecordedRow) → IsStrictlySortedBy row_cmp cs → Woven hs cs (merge_by comes_first (files_of true hs) (files_of false cs)))
    → (cs : List RecordedRow) → IsStrictlySortedBy row_cmp cs
    → Woven (h ∷ hs) cs (merge_at comes_first (file_of true h) (files_of true hs) (merge_by comes_first (files_of true hs)) (files_of false cs))
unfolding IsStrictlySortedBy
weave-at h hs rising after [] others = only-hosted (h ∷ hs) rising
weave-at h hs rising after (c ∷ cs) others =
    let later = merge_by comes_first (files_of true hs) (files_of false (c ∷ cs)) in
    let behind = merge_at comes_first (file_of true h) (files_of true hs) (merge_by comes_first (files_of true hs)) (files_of false cs) in
    elim (is_at_most (row_cmp h c)) as (λ b. is_at_most (row_cmp h c) ≡ b → Woven (h ∷ hs) (c ∷ cs) (cond b (file_of true h ∷ later) (file_of false c ∷ behind))) [
      | true ↦ λ first. hosted h hs (c ∷ cs) later (all-apart h hs rising.0) (after (c ∷ cs) others)
      | false ↦ λ greater.
          cached c (h ∷ hs) cs behind (apart-greater h c greater, apart-after h c greater hs rising.0) (all-apart c cs others.0)
          (weave-at h hs rising after cs others.1)
    ] refl

pub weave : (hs cs : List RecordedRow) → IsStrictlySortedBy row_cmp hs → IsStrictlySortedBy row_cmp cs → Woven hs cs (merge_by comes_first (files_of true hs) (files_of false cs))
unfolding IsStrictlySortedBy
weave [] cs rising others = only-cached cs others
weave (h ∷ hs) cs rising others = weave-at h hs rising (λ them so. weave hs them rising.1 so) cs others
