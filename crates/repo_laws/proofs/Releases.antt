-- Rows of releases stay, whatever effects are made.
use Rattle.std.proofs.Common.{◌≡◌, ℕ, true, false, cond, not, List, [], ◌∷◌, Some, None, refl, sym, ◌∙◌, ap, subst}
use Rattle.std.specs.Prelude.{bytes_eq}
use Rattle.std.specs.List.{AllByRecursion}
use Rattle.std.proofs.lemmas.Bool.{false≢true}
use Rattle.std.proofs.lemmas.Option.{none-some}
use Rattle.repo_model.specs.Data.{Blob, Row, listed, fading, Hosted}
use Rattle.repo_model.specs.Paths.{FadesRightly, is_snapshot_path}
use Rattle.repo_model.specs.State.{State, change_where, change_first, is_row, is_repository, row_at, rows_of}
use Rattle.repo_model.specs.Effect.{Effect, creates, delivers, relists, fades, expires, with_row, new_row, list_again, fade, without_row, with_effect, with_effects}
use Rattle.repo_model.specs.May.{May, AllMay}
use Rattle.repo_laws.specs.Laws.{FadingAreSnapshots, KeepsReleases}
use Rattle.repo_laws.proofs.HoldingLists.{all-change_first, all-filter, find-change-elsewhere, find-gone-elsewhere}
use Rattle.repo_laws.proofs.Inserted.{row_order, all-inserted, with_row-is, row-found}
use Rattle.repo_laws.proofs.Lists.{all-changed, found-has, found-passes}
use Rattle.repo_laws.proofs.Rows.{all-part, rows_in, rows-changed}
pub use Rattle.repo_laws.proofs.Rows.{same_path, is_itself, other_path}

module _ (path : List ℕ) where
  -- a row at another path changes nothing
  pub with_row-elsewhere : (new : Row) (rows : List Row) → bytes_eq new.path path ≡ false → row_at path (with_row new rows) ≡ row_at path rows
  with_row-elsewhere new rows other = row-found path new rows ∙ ap (λ b. cond b (Some new) (row_at path rows)) other

  no-row-there : (at : List ℕ) → (at ≡ path → ⊥) → (r : Row) → is_row at r ≡ true → is_row path r ≡ false
  no-row-there at other r is = other_path r.path path (λ here. other (sym (same_path r.path at is) ∙ here))

  pub change-elsewhere : (at : List ℕ) (f : Row → Row) → ((r : Row) → (f r).path ≡ r.path) → (at ≡ path → ⊥) → (rows : List Row)
      → row_at path (change_where (is_row at) f rows) ≡ row_at path rows
  change-elsewhere at f keeps other = find-change-elsewhere (is_row path) (is_row at) f (no-row-there at other) (λ r. ap (λ p. bytes_eq p path) (keeps r))

  pub without-elsewhere : (at : List ℕ) → (at ≡ path → ⊥) → (rows : List Row) → row_at path (without_row at rows) ≡ row_at path rows
  without-elsewhere at other = find-gone-elsewhere (is_row path) (is_row at) (no-row-there at other)

-- a row that fades, found in a state where such rows are snapshots'
fading-snapshot : (s : State) (at path : List ℕ) (row : Row) (since : ℕ) → FadingAreSnapshots s → row_at path (rows_of at s) ≡ Some row → row.phase ≡ fading since → is_snapshot_path path ≡ true
fading-snapshot s at path row since right found fades_since =
    let rows_right = all-part (λ (h : Hosted). h.rule.id) (λ (h : Hosted). h.rows) (AllByRecursion FadesRightly) at s.hosted tt right in
    ap is_snapshot_path (sym (same_path row.path path (found-passes (is_row path) (rows_of at s) row found)))
    ∙ found-has FadesRightly (is_row path) (rows_of at s) row rows_right found since fades_since

-- the path is that of no snapshot, so it is not the path of one
apart : (at path : List ℕ) → is_snapshot_path at ≡ true → is_snapshot_path path ≡ false → at ≡ path → ⊥
apart at path is other same = false≢true (sym other ∙ ap is_snapshot_path (sym same) ∙ is)

-- the rows at one repository are changed in a way that keeps what is found
keeps-rows : (s : State) (at : List ℕ) (f : List Row → List Row) (repo path : List ℕ) (row : Row)
    → (at ≡ repo → row_at path (f (rows_of repo s)) ≡ row_at path (rows_of repo s)) → row_at path (rows_of repo s) ≡ Some row
    → row_at path (rows_in repo (change_first (is_repository at) (λ h. record h { rows = f h.rows }) s.hosted)) ≡ Some row
keeps-rows s at f repo path row same is =
    rows-changed repo at f (λ rows. row_at path rows ≡ Some row) s.hosted is (λ here. same here ∙ is)

-- a path with a row is not one without
created : (s : State) (at new : List ℕ) (blob : Blob) (moment : ℕ) (repo path : List ℕ) (row : Row) → row_at new (rows_of at s) ≡ None → row_at path (rows_of repo s) ≡ Some row
    → row_at path (rows_in repo (change_first (is_repository at) (λ h. record h { rows = with_row (new_row new blob moment) h.rows }) s.hosted)) ≡ Some row
created s at new blob moment repo path row none is =
    keeps-rows s at (with_row (new_row new blob moment)) repo path row
    (λ here. with_row-elsewhere path (new_row new blob moment) (rows_of repo s)
    (other_path new path (λ same. none-some row (sym none ∙ ap (λ id. row_at new (rows_of id s)) here ∙ ap (λ p. row_at p (rows_of repo s)) same ∙ is))))
    is

pub releases-kept : (grace now : ℕ) (s : State) (e : Effect) → FadingAreSnapshots s → May grace now s e
    → (repo path : List ℕ) (row : Row) → is_snapshot_path path ≡ false → row_at path (rows_of repo s) ≡ Some row → row_at path (rows_of repo (with_effect s e)) ≡ Some row
releases-kept grace now s (creates at new blob moment) right may repo path row release is = created s at new blob moment repo path row may.3 is
releases-kept grace now s (delivers n at new blob moment) right may repo path row release is = created s at new blob moment repo path row may.5 is
releases-kept grace now s (relists at old moment) right may repo path row release is =
    let (r, since, _, found, fades_since) = may in
    keeps-rows s at (change_where (is_row old) (list_again moment)) repo path row
    (λ _. change-elsewhere path old (list_again moment) (λ r. refl) (apart old path (fading-snapshot s at old r since right found fades_since) release) (rows_of repo s)) is
releases-kept grace now s (fades at old moment) right may repo path row release is =
    keeps-rows s at (change_where (is_row old) (fade moment)) repo path row
    (λ _. change-elsewhere path old (fade moment) (λ r. refl) (apart old path may.1 release) (rows_of repo s)) is
releases-kept grace now s (expires at old blob) right may repo path row release is =
    let (r, since, found, fades_since, _, _) = may in
    keeps-rows s at (without_row old) repo path row
    (λ _. without-elsewhere path old (apart old path (fading-snapshot s at old r since right found fades_since) release) (rows_of repo s)) is
releases-kept grace now s e right may repo path row release is = is

-- rows that fade rightly do so still
listed-rightly : (path : List ℕ) (blob : Blob) (moment : ℕ) → FadesRightly (new_row path blob moment)
listed-rightly path blob moment since is = absurd (let e : listed ≡ fading since = is in cc)

hosted-rightly : (at : List ℕ) (f : List Row → List Row) → ((rows : List Row) → AllByRecursion FadesRightly rows → AllByRecursion FadesRightly (f rows)) → (hosted : List Hosted)
    → AllByRecursion (λ (h : Hosted). AllByRecursion FadesRightly h.rows) hosted
    → AllByRecursion (λ (h : Hosted). AllByRecursion FadesRightly h.rows) (change_first (is_repository at) (λ h. record h { rows = f h.rows }) hosted)
hosted-rightly at f keeps = all-change_first (λ (h : Hosted). AllByRecursion FadesRightly h.rows) (is_repository at) (λ h. record h { rows = f h.rows }) (λ h. keeps h.rows)

created-rightly : (path : List ℕ) (blob : Blob) (moment : ℕ) (rows : List Row) → AllByRecursion FadesRightly rows → AllByRecursion FadesRightly (with_row (new_row path blob moment) rows)
created-rightly path blob moment rows all =
    subst (AllByRecursion FadesRightly) (sym (with_row-is (new_row path blob moment) rows)) (all-inserted row_order FadesRightly true (new_row path blob moment) rows (listed-rightly path blob moment) all)

pub rightly-kept : (grace now : ℕ) (s : State) (e : Effect) → FadingAreSnapshots s → May grace now s e → FadingAreSnapshots (with_effect s e)
rightly-kept grace now s (creates at new blob moment) right may = hosted-rightly at (with_row (new_row new blob moment)) (created-rightly new blob moment) s.hosted right
rightly-kept grace now s (delivers n at new blob moment) right may = hosted-rightly at (with_row (new_row new blob moment)) (created-rightly new blob moment) s.hosted right
rightly-kept grace now s (relists at old moment) right may =
    hosted-rightly at (change_where (is_row old) (list_again moment)) (all-changed FadesRightly (is_row old) (list_again moment) (λ r is r_right. listed-rightly r.path r.blob moment)) s.hosted right
rightly-kept grace now s (fades at old moment) right may =
    hosted-rightly at (change_where (is_row old) (fade moment))
    (all-changed FadesRightly (is_row old) (fade moment) (λ r is r_right since e. ap is_snapshot_path (same_path r.path old is) ∙ may.1)) s.hosted right
rightly-kept grace now s (expires at old blob) right may = hosted-rightly at (without_row old) (all-filter FadesRightly (λ row. not (is_row old row))) s.hosted right
rightly-kept grace now s e right may = right

pub all-kept : (grace now : ℕ) (es : List Effect) (s : State) → FadingAreSnapshots s → AllMay grace now s es → KeepsReleases s (with_effects s es)
all-kept grace now [] s right may repo path row release is = is
all-kept grace now (e ∷ es) s right may repo path row release is =
    all-kept grace now es (with_effect s e) (rightly-kept grace now s e right may.0) may.1 repo path row release (releases-kept grace now s e right may.0 repo path row release is)
