-- What tables hold of a list at its places, and that they do so still once both are changed at one place: the rows of the repositories.
use Rattle.std.proofs.Common.{◌≡◌, ℕ, true, false, not, cond, ◌&&◌, List, [], Option, Some, None, refl, sym, ◌∙◌, ap, subst, option_map}
use Rattle.std.specs.Prelude.{IsTrue, filter, find, bytes_eq, if◌then◌else◌}
use Rattle.std.specs.Option.{option_map_or}
use Rattle.std.specs.List.{list_any}
use Rattle.std.proofs.lemmas.Bool.{false≢true, and_from, and_parts}
use Rattle.std.proofs.lemmas.Option.{none-some}
use Rattle.repo_model.specs.declared.print.Recorded.{Recorded}
use Rattle.repo_model.specs.Data.{Blob, Row, Hosted}
use Rattle.repo_model.specs.Prints.{recorded_print}
use Rattle.repo_model.specs.State.{change_where, change_first, is_repository, is_row, row_at}
use Rattle.repo_model.specs.Effect.{with_row, new_row, without_row}
use Rattle.repo_model.specs.Tables.{RecordedRow, is_recorded, recorded_at, recorded_row, with_recorded, change_recorded}
use Rattle.repo_laws.specs.Laws.{without_bytes}
use Rattle.repo_laws.specs.Items.{is_place}
use Rattle.repo_laws.proofs.Inserted.{find-placed, row-found, with_recorded-is}
use Rattle.repo_laws.proofs.Rows.{is_at, found-elsewhere, part-there, rows_in}
use Rattle.repo_laws.proofs.Releases.{same_path, is_itself, with_row-elsewhere, change-elsewhere, without-elsewhere}
use Rattle.repo_laws.proofs.HoldingLists.{any-first, find-changed, find-change-elsewhere, find-gone, find-gone-elsewhere, find-part, found-any}
use Rattle.repo_laws.proofs.HoldingOrder.{recorded-there}

-- a place is itself
pub place-itself : (id path : List ℕ) → is_place id path id path ≡ true
place-itself id path = and_from (bytes_eq id id) (bytes_eq path path) (is_itself id) (is_itself path)

-- what holds of a place, and of all others, holds of each
pub by-place : (P : List ℕ → List ℕ → Type 0) (repo path : List ℕ) → P repo path → ((id at : List ℕ) → is_place repo path id at ≡ false → P id at) → (id at : List ℕ) → P id at
by-place P repo path here others id at =
    elim (is_place repo path id at) as (λ b. is_place repo path id at ≡ b → P id at) [
      | true ↦ λ is.
          let (ids, paths) = and_parts (bytes_eq repo id) (bytes_eq path at) is in
          subst (λ (x : List ℕ). P x at) (same_path repo id ids) (subst (λ (x : List ℕ). P repo x) (same_path path at paths) here)
      | false ↦ λ other. others id at other
    ] refl

-- a row of one place is of no other
other-place : (repo path id at : List ℕ) → is_place repo path id at ≡ false → (r : RecordedRow) → is_recorded repo path r ≡ true → is_recorded id at r ≡ false
other-place repo path id at other r here =
    let (repos, paths) = recorded-there repo path r here in
    ap (λ x. is_place x r.row.path id at) repos ∙ ap (λ p. is_place repo p id at) paths ∙ other

abbrev row_of : Option RecordedRow → Option Row
row_of = option_map (λ (r : RecordedRow). r.row)

-- what the tables tell at a place once a row comes in, is changed or goes
module _ (rows : List RecordedRow) (repo path : List ℕ) where
  pub put-then : (id at : List ℕ) (blob : ℕ) (print : Recorded) (accepted : ℕ)
      → recorded_at id at (with_recorded (recorded_row repo path blob print accepted) rows) ≡ (if is_place repo path id at then Some (recorded_row repo path blob print accepted).row else recorded_at id at rows)
  put-then id at blob print accepted =
      let new : RecordedRow = recorded_row repo path blob print accepted in
      ap (recorded_at id at) (with_recorded-is new rows) ∙ ap row_of (find-placed (λ (r : RecordedRow). r.repo) (λ (r : RecordedRow). r.row.path) true id at new rows)
      ∙ elim (is_place repo path id at) as (λ b. row_of (cond b (Some new) (find (is_recorded id at) rows)) ≡ (if b then Some new.row else recorded_at id at rows)) [ true ↦ refl | false ↦ refl ]

  pub changed-then : (f : Row → Row) → ((r : Row) → (f r).path ≡ r.path) → (id at : List ℕ)
      → recorded_at id at (change_recorded repo path f rows) ≡ (if is_place repo path id at then option_map f (recorded_at id at rows) else recorded_at id at rows)
  changed-then f keeps =
      let g : RecordedRow → RecordedRow = λ r. record r { row = f r.row } in
      by-place (λ x y. recorded_at x y (change_recorded repo path f rows) ≡ (if is_place repo path x y then option_map f (recorded_at x y rows) else recorded_at x y rows)) repo path
      (rw (place-itself repo path)
      (ap row_of (find-changed (is_recorded repo path) g (λ r. ap (λ p. is_place r.repo p repo path) (keeps r.row)) rows) ∙ of-found (find (is_recorded repo path) rows)))
      (λ x y other. rw other (ap row_of
      (find-change-elsewhere (is_recorded x y) (is_recorded repo path) g (other-place repo path x y other) (λ r. ap (λ p. is_place r.repo p x y) (keeps r.row)) rows))) where
        of-found : (found : Option RecordedRow) → row_of (option_map (λ (r : RecordedRow). record r { row = f r.row }) found) ≡ option_map f (row_of found)
        of-found None = refl
        of-found (Some r) = refl

  pub gone-then : (id at : List ℕ) → recorded_at id at (filter (λ r. not (is_recorded repo path r)) rows) ≡ (if is_place repo path id at then None else recorded_at id at rows)
  gone-then =
      by-place (λ x y. recorded_at x y (filter (λ r. not (is_recorded repo path r)) rows) ≡ (if is_place repo path x y then None else recorded_at x y rows)) repo path
      (rw (place-itself repo path) (ap row_of (find-gone (is_recorded repo path) rows)))
      (λ x y other. rw other (ap row_of (find-gone-elsewhere (is_recorded x y) (is_recorded repo path) (other-place repo path x y other) rows)))

-- a list of repositories or of proxies, a part of each, and what such a part shows at a place
module _ {X Y Z : Type 0} (id_of : X → List ℕ) (part : X → List Y) (shown : List ℕ → List ℕ → List Y → Option Z) where
  abbrev part_in : List ℕ → List X → List Y
  part_in id xs = option_map_or part (find (is_at id_of id) xs) []

  -- of each that is there, what is told of a place is what is shown there
  abbrev pub Held : (List ℕ → List ℕ → Option Z) → List X → Type 0
  Held told xs = (id path : List ℕ) → IsTrue (list_any (is_at id_of id) xs) → told id path ≡ shown id path (part_in id xs)

  module _ (repo : List ℕ) (f : X → X) (keeps : (x : X) → id_of (f x) ≡ id_of x) (xs : List X) where
    abbrev changed_xs : List X
    changed_xs = change_first (is_at id_of repo) f xs

    still : (id : List ℕ) (x : X) → is_at id_of id (f x) ≡ is_at id_of id x
    still id x = ap (λ y. bytes_eq y id) (keeps x)

    was-there : (id : List ℕ) → IsTrue (list_any (is_at id_of id) changed_xs) → IsTrue (list_any (is_at id_of id) xs)
    was-there id is = sym (any-first (is_at id_of id) (is_at id_of repo) f (still id) xs) ∙ is

    -- a change that leaves the parts as they are
    pub held-same : ((x : X) → part (f x) ≡ part x) → (told : List ℕ → List ℕ → Option Z) → Held told xs → Held told changed_xs
    held-same same told held id path is =
        held id path (was-there id is) ∙ ap (shown id path) (sym (find-part (λ (found : Option X). option_map_or part found []) (is_at id_of id) (is_at id_of repo) f (still id) same xs))

    -- a change at one place
    pub held-then : (path : List ℕ) (g : List Y → List Y) → ((x : X) → part (f x) ≡ g (part x)) → (old new now : List ℕ → List ℕ → Option Z)
        → ((id at : List ℕ) → new id at ≡ (if is_place repo path id at then now id at else old id at))
        → ((at : List ℕ) → bytes_eq path at ≡ false → shown repo at (g (part_in repo xs)) ≡ shown repo at (part_in repo xs))
        → now repo path ≡ shown repo path (g (part_in repo xs))
        → list_any (is_at id_of repo) xs ≡ true → Held old xs → Held new changed_xs
    held-then path g parts old new now becomes stays here there held id at is =
        becomes id at
        ∙ elim (bytes_eq repo id) as (λ b. bytes_eq repo id ≡ b → (if b && bytes_eq path at then now id at else old id at) ≡ shown id at (part_in id changed_xs)) [
          | false ↦ λ other. held id at (was-there id is) ∙ ap (λ (found : Option X). shown id at (option_map_or part found [])) (sym (found-elsewhere id_of f keeps id repo xs other))
          | true ↦ λ same.
              subst (λ (z : List ℕ). (if bytes_eq path at then now z at else old z at) ≡ shown z at (part_in z changed_xs)) (same_path repo id same)
              (elim (bytes_eq path at) as (λ b. bytes_eq path at ≡ b → (if b then now repo at else old repo at) ≡ shown repo at (g (part_in repo xs))) [
                | false ↦ λ other. held repo at there ∙ sym (stays at other)
                | true ↦ λ same_too. subst (λ (p : List ℕ). now repo p ≡ shown repo p (g (part_in repo xs))) (same_path path at same_too) here
              ] refl
              ∙ ap (shown repo at) (sym (part-there id_of f keeps part g parts repo xs there)))
        ] refl

abbrev pub shown_row : List ℕ → List ℕ → List Row → Option Row
shown_row id path rows = option_map without_bytes (row_at path rows)

pub row-new : (new : Row) (rows : List Row) → row_at new.path rows ≡ None → row_at new.path (with_row new rows) ≡ Some new
row-new new rows none = row-found new.path new rows ∙ ap (λ b. cond b (Some new) (row_at new.path rows)) (is_itself new.path)

-- a new row, in the tables and in the part of one
pub rows-held-new : {X : Type 0} (id_of : X → List ℕ) (part : X → List Row) (repo path : List ℕ) (f : X → X) → ((x : X) → id_of (f x) ≡ id_of x) → (blob : Blob) (moment : ℕ)
    → ((x : X) → part (f x) ≡ with_row (new_row path blob moment) (part x)) → (tables : List RecordedRow) (xs : List X) → Held id_of part shown_row (λ id at. recorded_at id at tables) xs
    → list_any (is_at id_of repo) xs ≡ true → row_at path (option_map_or part (find (is_at id_of repo) xs) []) ≡ None
    → Held id_of part shown_row (λ id at. recorded_at id at (with_recorded (recorded_row repo path blob.number (recorded_print blob.print) moment) tables)) (change_first (is_at id_of repo) f xs)
rows-held-new id_of part repo path f keeps blob moment parts tables xs held there free =
    let new : RecordedRow = recorded_row repo path blob.number (recorded_print blob.print) moment in
    let rows : List Row = option_map_or part (find (is_at id_of repo) xs) [] in
    held-then id_of part shown_row repo f keeps xs path (with_row (new_row path blob moment)) parts (λ id at. recorded_at id at tables) (λ id at. recorded_at id at (with_recorded new tables)) (λ id at. Some new.row)
    (λ id at. put-then tables repo path id at blob.number (recorded_print blob.print) moment)
    (λ at other. ap (option_map without_bytes) (with_row-elsewhere at (new_row path blob moment) rows other))
    (sym (ap (option_map without_bytes) (row-new (new_row path blob moment) rows free)))
    there held

abbrev pub RowsHeld : List RecordedRow → List Hosted → Type 0
RowsHeld tables hosted = (repo path : List ℕ) → IsTrue (list_any (is_repository repo) hosted) → recorded_at repo path tables ≡ option_map without_bytes (row_at path (rows_in repo hosted))

-- where a repository has a row, it is there
pub there-by-row : (repo path : List ℕ) (hosted : List Hosted) (row : Row) → row_at path (rows_in repo hosted) ≡ Some row → list_any (is_repository repo) hosted ≡ true
there-by-row repo path hosted row found = by (find (is_repository repo) hosted) refl found where
  by : (one : Option Hosted) → find (is_repository repo) hosted ≡ one → row_at path (option_map_or (λ (h : Hosted). h.rows) one []) ≡ Some row → list_any (is_repository repo) hosted ≡ true
  by None _ none = absurd (none-some row none)
  by (Some h) there _ = found-any (is_repository repo) hosted h there

module _ (tables : List RecordedRow) (hosted : List Hosted) (repo path : List ℕ) where
  abbrev with_rows : (List Row → List Row) → Hosted → Hosted
  with_rows g h = record h { rows = g h.rows }

  pub held-new : (blob : Blob) (moment : ℕ) → RowsHeld tables hosted → list_any (is_repository repo) hosted ≡ true → row_at path (rows_in repo hosted) ≡ None
      → RowsHeld (with_recorded (recorded_row repo path blob.number (recorded_print blob.print) moment) tables) (change_first (is_repository repo) (λ h. record h { rows = with_row (new_row path blob moment) h.rows }) hosted)
  held-new blob moment = rows-held-new (λ (h : Hosted). h.rule.id) (λ (h : Hosted). h.rows) repo path (with_rows (with_row (new_row path blob moment))) (λ h. refl) blob moment (λ h. refl) tables hosted

  held-after : (g : List Row → List Row) (new : List RecordedRow) (now : List ℕ → List ℕ → Option Row)
      → ((id at : List ℕ) → recorded_at id at new ≡ (if is_place repo path id at then now id at else recorded_at id at tables))
      → ((at : List ℕ) → (path ≡ at → ⊥) → row_at at (g (rows_in repo hosted)) ≡ row_at at (rows_in repo hosted))
      → now repo path ≡ option_map without_bytes (row_at path (g (rows_in repo hosted)))
      → RowsHeld tables hosted → (row : Row) → row_at path (rows_in repo hosted) ≡ Some row → RowsHeld new (change_first (is_repository repo) (with_rows g) hosted)
  held-after g new now becomes stays here held row found =
      held-then (λ (h : Hosted). h.rule.id) (λ (h : Hosted). h.rows) shown_row repo (with_rows g) (λ h. refl) hosted path g (λ h. refl) (λ id at. recorded_at id at tables) (λ id at. recorded_at id at new) now becomes
      (λ at other. ap (option_map without_bytes) (stays at (λ same. false≢true (sym other ∙ ap (λ p. bytes_eq p at) same ∙ is_itself at))))
      here (there-by-row repo path hosted row found) held

  pub held-changed : (f : Row → Row) → ((r : Row) → (f r).path ≡ r.path) → ((r : Row) → f (without_bytes r) ≡ without_bytes (f r)) → RowsHeld tables hosted → (row : Row) → row_at path (rows_in repo hosted) ≡ Some row
      → RowsHeld (change_recorded repo path f tables) (change_first (is_repository repo) (λ h. record h { rows = change_where (is_row path) f h.rows }) hosted)
  held-changed f keeps alike held row found =
      held-after (change_where (is_row path) f) (change_recorded repo path f tables) (λ id at. option_map f (recorded_at id at tables)) (changed-then tables repo path f keeps)
      (λ at other. change-elsewhere at path f keeps other (rows_in repo hosted))
      (ap (option_map f) (held repo path (there-by-row repo path hosted row found))
      ∙ both (row_at path (rows_in repo hosted))
      ∙ sym (ap (option_map without_bytes) (find-changed (is_row path) f (λ r. ap (λ p. bytes_eq p path) (keeps r)) (rows_in repo hosted))))
      held row found where
        both : (one : Option Row) → option_map f (option_map without_bytes one) ≡ option_map without_bytes (option_map f one)
        both None = refl
        both (Some r) = ap Some (alike r)

  pub held-gone : RowsHeld tables hosted → (row : Row) → row_at path (rows_in repo hosted) ≡ Some row
      → RowsHeld (filter (λ r. not (is_recorded repo path r)) tables) (change_first (is_repository repo) (λ h. record h { rows = without_row path h.rows }) hosted)
  held-gone =
      held-after (without_row path) (filter (λ r. not (is_recorded repo path r)) tables) (λ id at. None) (gone-then tables repo path)
      (λ at other. without-elsewhere at path other (rows_in repo hosted))
      (sym (ap (option_map without_bytes) (find-gone (is_row path) (rows_in repo hosted))))

  -- the row in the tables is that of the state
  pub recorded-row : RowsHeld tables hosted → (row : Row) → row_at path (rows_in repo hosted) ≡ Some row → recorded_at repo path tables ≡ Some (without_bytes row)
  recorded-row held row found = held repo path (there-by-row repo path hosted row found) ∙ ap (option_map without_bytes) found
