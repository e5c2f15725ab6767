-- What the tables tell of blobs and of moments: kept by each effect and its item.
use native.Mathlib.Omega.{arith}
use Rattle.std.proofs.Common.{◌≡◌, ◌≤◌, ◌<◌, ◌+◌, ℕ, Bool, true, false, not, ◌||◌, max, List, [], ◌∷◌, ◌++◌, Some, None, refl, ap, inl, inr, option_map}
use Rattle.std.specs.Prelude.{◌==◌, nat_lt, find, filter, fold, count_by}
use Rattle.std.specs.List.{AllByRecursion, list_any}
use Rattle.std.proofs.lemmas.Bool.{or_cases, or_left, or_right, ltb-true, ltb-false}
use Rattle.std.proofs.lemmas.Option.{none-some}
use Rattle.repo_model.specs.Data.{Row, Phase, listed, fading}
use Rattle.repo_model.specs.State.{State}
use Rattle.repo_model.specs.Effect.{Effect, with_effect, list_again, fade}
use Rattle.repo_model.specs.May.{May}
use Rattle.repo_model.specs.Tables.{Tables, RecordedRow, RecordedDocument, is_recorded, recorded_at, with_recorded, change_recorded, names_blob, since_or, moment_of, greatest_moment}
use Rattle.repo_laws.specs.Laws.{rows_with, cached_with}
use Rattle.repo_laws.specs.Sound.{OnePlace}
use Rattle.repo_laws.specs.Holds.{IsUpTo, AreUpTo, named_in, loose_in}
use Rattle.repo_laws.proofs.Counts.{one_if, any-counts, count-cons, found-goes}
use Rattle.repo_laws.proofs.Places.{drawn_by, places-counted, next-counted, never-again}
use Rattle.repo_laws.proofs.Lists.{all-then}
use Rattle.repo_laws.proofs.HoldingLists.{all-change_where, all-split, all-join, greatest-below, all-greatest}
use Rattle.repo_laws.proofs.HoldingOrder.{all-with_recorded}

-- that a blob is named, and how often
pub named-counts : (n : ℕ) (t : Tables) → names_blob n t ≡ true → 0 < named_in t n
named-counts n t is =
    let names : RecordedRow → Bool = λ r. r.row.blob.number == n in
    elim (or_cases (list_any names t.hosted) (list_any names t.cached) is) as (λ _. 0 < named_in t n) [
      | (inl hosted) ↦ omega (arith, any-counts names t.hosted hosted)
      | (inr cached) ↦ omega (arith, any-counts names t.cached cached)
    ]

counts-any : {X : Type 0} (p : X → Bool) (xs : List X) → 0 < count_by p xs → list_any p xs ≡ true
counts-any p [] some = absurd (omega (arith, some))
counts-any p (x ∷ xs) some =
    let more = count-cons p x xs in
    elim (p x) as (λ b. count_by p (x ∷ xs) ≡ one_if b + count_by p xs → (b || list_any p xs) ≡ true) [
      | true ↦ λ _. refl
      | false ↦ λ is. counts-any p xs (omega (arith, is, some))
    ] more

pub counts-named : (n : ℕ) (t : Tables) → 0 < named_in t n → names_blob n t ≡ true
counts-named n t some =
    let names : RecordedRow → Bool = λ r. r.row.blob.number == n in
    elim (nat_lt 0 (count_by names t.hosted)) as (λ b. nat_lt 0 (count_by names t.hosted) ≡ b → names_blob n t ≡ true) [
      | true ↦ λ is. or_left (list_any names t.hosted) (list_any names t.cached) (counts-any names t.hosted (ltb-true 0 (count_by names t.hosted) is))
      | false ↦ λ is. or_right (list_any names t.hosted) (list_any names t.cached) (counts-any names t.cached (omega (arith, some, ltb-false 0 (count_by names t.hosted) is)))
    ] refl

abbrev pub BlobsHeld : (ℕ → ℕ) → State → Type 0
BlobsHeld named s = (n : ℕ) → 0 < named n → (n < s.yard.next_draft) × (loose_in s n ≡ 0)

module _ (s : State) where
  -- a loose number is in one loose place, and was drawn
  loose-drawn : (n : ℕ) → OnePlace s → 0 < loose_in s n → (n < s.yard.next_draft) × (loose_in s n ≤ 1)
  loose-drawn n placed some =
      elim (nat_lt n s.yard.next_draft) as (λ b. nat_lt n s.yard.next_draft ≡ b → (n < s.yard.next_draft) × (loose_in s n ≤ 1)) [
        | true ↦ λ is. let drawn : n < s.yard.next_draft = ltb-true n s.yard.next_draft is in (drawn, omega (arith, placed.drawn n drawn))
        | false ↦ λ is. absurd (omega (arith, some, placed.later n (ltb-false n s.yard.next_draft is)))
      ] refl

  -- a loose number becomes that of a row
  pub blobs-new : (t : State) (blob : ℕ) (old new : ℕ → ℕ) → OnePlace s → ((n : ℕ) → loose_in t n + one_if (blob == n) ≤ loose_in s n) → s.yard.next_draft ≤ t.yard.next_draft
      → ((n : ℕ) → new n ≤ one_if (blob == n) + old n) → BlobsHeld old s → BlobsHeld new t
  blobs-new t blob old new placed fewer next more held n some =
      elim (blob == n) as (λ b. loose_in t n + one_if b ≤ loose_in s n → new n ≤ one_if b + old n → (n < t.yard.next_draft) × (loose_in t n ≡ 0)) [
        | true ↦ λ fewer_here _. let (drawn, once) = loose-drawn n placed (omega (arith, fewer_here)) in (omega (arith, drawn, next), omega (arith, once, fewer_here))
        | false ↦ λ fewer_here more_here. let (drawn, none) = held n (omega (arith, some, more_here)) in (omega (arith, drawn, next), omega (arith, none, fewer_here))
      ] (fewer n) (more n)

  -- a number moves among the loose places, or is drawn
  pub blobs-same : (e : Effect) (old new : ℕ → ℕ) → ((n : ℕ) → loose_in (with_effect s e) n ≤ drawn_by e s n + loose_in s n) → ((n : ℕ) → new n ≤ old n) → BlobsHeld old s → BlobsHeld new (with_effect s e)
  blobs-same e old new fewer less held n some =
      let (drawn, none) = held n (omega (arith, some, less n)) in
      (omega (arith, drawn, next-counted s e), omega (arith, none, fewer n, never-again s e n drawn))

  -- a row's number is condemned
  pub blobs-gone : (t : State) (blob : ℕ) (old new : ℕ → ℕ) → ((n : ℕ) → old n ≤ 1) → ((n : ℕ) → loose_in t n ≤ loose_in s n + one_if (blob == n)) → s.yard.next_draft ≤ t.yard.next_draft
      → ((n : ℕ) → new n + one_if (blob == n) ≤ old n) → BlobsHeld old s → BlobsHeld new t
  blobs-gone t blob old new once more next fewer held n some =
      elim (blob == n) as (λ b. loose_in t n ≤ loose_in s n + one_if b → new n + one_if b ≤ old n → (n < t.yard.next_draft) × (loose_in t n ≡ 0)) [
        | true ↦ λ _ fewer_here. absurd (omega (arith, some, fewer_here, once n))
        | false ↦ λ more_here fewer_here. let (drawn, none) = held n (omega (arith, some, fewer_here)) in (omega (arith, drawn, next), omega (arith, none, more_here))
      ] (more n) (fewer n)

  -- where no row changes and no file of a proxy goes, numbers move among the loose places
  pub loose-kept : (grace now : ℕ) (e : Effect) → May grace now s e → ((n : ℕ) → rows_with n (with_effect s e).hosted ≡ rows_with n s.hosted)
      → ((n : ℕ) → cached_with n s.proxies ≤ cached_with n (with_effect s e).proxies) → (n : ℕ) → loose_in (with_effect s e) n ≤ drawn_by e s n + loose_in s n
  loose-kept grace now e may same files n = omega (arith, places-counted grace now s n e may, same n, files n)

-- moments
abbrev pub MomentsHeld : Tables → ℕ → Type 0
MomentsHeld t most =
    AllByRecursion (λ (r : RecordedRow). moment_of r.row ≤ most) t.hosted × AllByRecursion (λ (r : RecordedRow). moment_of r.row ≤ most) t.cached
    × AllByRecursion (λ (d : RecordedDocument). d.checked ≤ most) t.documents

pub moments-all : (t : Tables) (most : ℕ) → greatest_moment t ≤ most → MomentsHeld t most
moments-all t most up =
    let (rows_up, documents) = greatest-below (λ (d : RecordedDocument). d.checked) most t.documents (fold (λ m (r : RecordedRow). max m (moment_of r.row)) 0 (t.hosted ++ t.cached)) up in
    let (hosted, cached) = all-split (λ (r : RecordedRow). moment_of r.row ≤ most) t.hosted t.cached (greatest-below (λ (r : RecordedRow). moment_of r.row) most (t.hosted ++ t.cached) 0 rows_up).1 in
    (hosted, cached, documents)

pub all-moments : (t : Tables) (most : ℕ) → MomentsHeld t most → greatest_moment t ≤ most
all-moments t most held =
    all-greatest (λ (d : RecordedDocument). d.checked) most t.documents (fold (λ m (r : RecordedRow). max m (moment_of r.row)) 0 (t.hosted ++ t.cached))
    (all-greatest (λ (r : RecordedRow). moment_of r.row) most (t.hosted ++ t.cached) 0 (omega arith) (all-join (λ (r : RecordedRow). moment_of r.row ≤ most) t.hosted t.cached held.0 held.1)) held.2

accepted-below : (row : Row) (most : ℕ) → moment_of row ≤ most → row.accepted ≤ most
accepted-below row most up = below row.phase up where
  below : (phase : Phase) → since_or row.accepted phase ≤ most → row.accepted ≤ most
  below listed is = is
  below (fading since) is = omega (arith, is)

up-to : (most : ℕ) (r : RecordedRow) → moment_of r.row ≤ most → IsUpTo most r
up-to most r up = (accepted-below r.row most up, λ since fades_since. since-below r.row.phase since fades_since up) where
  since-below : (phase : Phase) (since : ℕ) → phase ≡ fading since → since_or r.row.accepted phase ≤ most → since ≤ most
  since-below listed since is up_then = cc
  since-below (fading later) since is up_then = let same : later ≡ since = cc in omega (arith, same, up_then)

from-up-to : (most : ℕ) (r : RecordedRow) → IsUpTo most r → moment_of r.row ≤ most
from-up-to most r up =
    elim r.row.phase as (λ phase. r.row.phase ≡ phase → since_or r.row.accepted phase ≤ most) [
      | listed ↦ λ _. up.0
      | (fading since) ↦ λ is. omega (arith, up.0, up.1 since is)
    ] refl

pub greatest-each : (t : Tables) → AreUpTo (greatest_moment t) t
greatest-each t =
    let most = greatest_moment t in
    let (hosted, cached, documents) = moments-all t most (omega arith) in (
      all-then (λ (r : RecordedRow). moment_of r.row ≤ most) (IsUpTo most) (up-to most) t.hosted hosted,
      all-then (λ (r : RecordedRow). moment_of r.row ≤ most) (IsUpTo most) (up-to most) t.cached cached,
      documents,
    )

pub greatest-least : (t : Tables) (most : ℕ) → AreUpTo most t → greatest_moment t ≤ most
greatest-least t most up =
    all-moments t most (
      all-then (IsUpTo most) (λ (r : RecordedRow). moment_of r.row ≤ most) (from-up-to most) t.hosted up.0,
      all-then (IsUpTo most) (λ (r : RecordedRow). moment_of r.row ≤ most) (from-up-to most) t.cached up.1,
      up.2,
    )

module _ (rows : List RecordedRow) (repo path : List ℕ) (moment most : ℕ) (up : moment ≤ most) where
  pub moments-new : (new : RecordedRow) → moment_of new.row ≡ moment → AllByRecursion (λ (r : RecordedRow). moment_of r.row ≤ most) rows → AllByRecursion (λ (r : RecordedRow). moment_of r.row ≤ most) (with_recorded new rows)
  moments-new new is all = all-with_recorded (λ (r : RecordedRow). moment_of r.row ≤ most) new rows all (omega (arith, is, up))

  pub moments-relisted : AllByRecursion (λ (r : RecordedRow). moment_of r.row ≤ most) rows → AllByRecursion (λ (r : RecordedRow). moment_of r.row ≤ most) (change_recorded repo path (list_again moment) rows)
  moments-relisted all = all-change_where (λ (r : RecordedRow). moment_of r.row ≤ most) (is_recorded repo path) (λ r. record r { row = list_again moment r.row }) (λ r _. up) rows all

  pub moments-faded : AllByRecursion (λ (r : RecordedRow). moment_of r.row ≤ most) rows → AllByRecursion (λ (r : RecordedRow). moment_of r.row ≤ most) (change_recorded repo path (fade moment) rows)
  moments-faded all =
      all-change_where (λ (r : RecordedRow). moment_of r.row ≤ most) (is_recorded repo path) (λ r. record r { row = fade moment r.row }) (λ r is. omega (arith, up, accepted-below r.row most is)) rows all

-- a row goes, and its blob is named no more
pub row-gone : (repo path : List ℕ) (n : ℕ) (rows : List RecordedRow) (row : Row) → recorded_at repo path rows ≡ Some row
    → count_by (λ (r : RecordedRow). r.row.blob.number == n) (filter (λ r. not (is_recorded repo path r)) rows) + one_if (row.blob.number == n) ≤ count_by (λ (r : RecordedRow). r.row.blob.number == n) rows
row-gone repo path n rows row is =
    elim (find (is_recorded repo path) rows)
    as (λ found. find (is_recorded repo path) rows ≡ found → option_map (λ (r : RecordedRow). r.row) found ≡ Some row → count_by (λ (r : RecordedRow). r.row.blob.number == n) (filter (λ r. not (is_recorded repo path r)) rows) + one_if (row.blob.number == n) ≤ count_by (λ (r : RecordedRow). r.row.blob.number == n) rows) [
      | None ↦ λ _ none. absurd (none-some row none)
      | (Some r) ↦ λ found same.
          let row_is : r.row ≡ row = cc in
          let named : one_if (r.row.blob.number == n) ≡ one_if (row.blob.number == n) = ap (λ (x : Row). one_if (x.blob.number == n)) row_is in
          omega (arith, found-goes (λ (x : RecordedRow). x.row.blob.number == n) (is_recorded repo path) rows r found, named)
    ] refl is
