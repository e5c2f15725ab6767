-- Rows at the free paths of staged files: they are added one after the other, and what is left once they are taken away again.
use Rattle.std.proofs.Common.{◌≡◌, ℕ, Bool, true, false, cond, not, ◌&&◌, ◌||◌, List, [], ◌∷◌, ◌++◌, Some, None, bytes_eq, Less, Equal, Greater, nat_cmp, refl, sym, ◌∙◌, ap, subst}
use Rattle.std.specs.Prelude.{is_none}
use Rattle.std.proofs.lemmas.Bool.{and_parts}
use Rattle.std.proofs.lemmas.List.Folds.{list_any-append}
use Rattle.std.specs.Cmp.Lexicographic.{slice_cmp}
use Rattle.std.specs.List.{AllByRecursion, list_any}
use Rattle.std.specs.Ordering.{match_ordering}
use Rattle.repo_model.specs.declared.item.Item.{Item}
use Rattle.repo_model.specs.Data as plain
use Rattle.repo_model.specs.Data.{Staged, Session}
use Rattle.repo_model.specs.Deploy.{deliver_at, deliver_again}
use Rattle.repo_model.specs.Effect.{Effect, new_row, recorded, with_row, without_row}
use Rattle.repo_model.specs.State.{is_row, row_at}
use Rattle.hosted_delivery.specs.Deliveries.{free_paths, has_path, rows_without, with_file, with_files, without_put, without_puts}
use Rattle.hosted_delivery.proofs.DeliveryLemmas.{bytes-same, effects_by, is_free, is_free-cons, is_free-with_row}

-- ---- rows that are taken away again
pub rows_without-nothing : (rows : List plain.Row) → rows_without [] rows ≡ rows
rows_without-nothing [] = refl
rows_without-nothing (row ∷ rows) = ap (λ rs. row ∷ rs) (rows_without-nothing rows)

pub rows_without-append : (paths more : List (List ℕ)) (rows : List plain.Row) → rows_without (paths ++ more) rows ≡ rows_without more (rows_without paths rows)
rows_without-append paths more [] = refl
rows_without-append paths more (row ∷ rows) =
    let rest = rows_without-append paths more rows in
    ap (λ b. cond (not b) (row ∷ rows_without (paths ++ more) rows) (rows_without (paths ++ more) rows)) (list_any-append (λ path. bytes_eq row.path path) paths more)
    ∙ elim (has_path paths row)
    as (λ b. cond (not (b || has_path more row)) (row ∷ rows_without (paths ++ more) rows) (rows_without (paths ++ more) rows)
    ≡ rows_without more (cond (not b) (row ∷ rows_without paths rows) (rows_without paths rows))) [
      | true ↦ rest
      | false ↦ ap (λ rs. cond (not (has_path more row)) (row ∷ rs) rs) rest
    ]

-- a new row at one of the paths goes
without-new : (paths : List (List ℕ)) (new : plain.Row) (rows : List plain.Row) → has_path paths new ≡ true → rows_without paths (with_row new rows) ≡ rows_without paths rows
without-new paths new [] has = ap (λ b. cond (not b) (new ∷ []) []) has
without-new paths new (row ∷ rows) has =
    let gone = ap (λ b. cond (not b) (new ∷ rows_without paths (row ∷ rows)) (rows_without paths (row ∷ rows))) has in
    elim (slice_cmp nat_cmp new.path row.path)
    as (λ o. rows_without paths (match_ordering o (new ∷ row ∷ rows) (new ∷ row ∷ rows) (row ∷ with_row new rows)) ≡ rows_without paths (row ∷ rows)) [
      | Less ↦ gone
      | Equal ↦ gone
      | Greater ↦ ap (λ rs. cond (not (has_path paths row)) (row ∷ rs) rs) (without-new paths new rows has)
    ]

-- what holds of a path of each free file
free-more : (Q : List ℕ → Type 0) (new : plain.Row) (rows : List plain.Row) (files : List Staged) → AllByRecursion Q (free_paths rows files) → AllByRecursion Q (free_paths (with_row new rows) files)
free-more Q new rows [] all = tt
free-more Q new rows (file ∷ files) all =
    subst (λ b. AllByRecursion Q (cond b (file.path ∷ []) [] ++ free_paths (with_row new rows) files)) (sym (is_free-with_row file.path new rows))
    (elim (is_row file.path new)
    as (λ b. AllByRecursion Q (cond (not b && is_free file.path rows) (file.path ∷ []) [] ++ free_paths (with_row new rows) files)) [
      | true ↦ free-more Q new rows files (elim (is_free file.path rows) as (λ b. AllByRecursion Q (cond b (file.path ∷ []) [] ++ free_paths rows files) → AllByRecursion Q (free_paths rows files)) [ true ↦ λ h. h.1 | false ↦ λ h. h ] all)
      | false ↦ elim (is_free file.path rows)
          as (λ b. AllByRecursion Q (cond b (file.path ∷ []) [] ++ free_paths rows files) → AllByRecursion Q (cond b (file.path ∷ []) [] ++ free_paths (with_row new rows) files)) [
            | true ↦ λ h. (h.0, free-more Q new rows files h.1)
            | false ↦ λ h. free-more Q new rows files h
          ] all
    ])

all-weaker : {A : Type 0} (P Q : A → Type 0) (xs : List A) → ((x : A) → P x → Q x) → AllByRecursion P xs → AllByRecursion Q xs
all-weaker P Q [] so all = tt
all-weaker P Q (x ∷ xs) so all = (so x all.0, all-weaker P Q xs so all.1)

-- the paths are among some
abbrev AreAmong : List (List ℕ) → List (List ℕ) → Type 0
AreAmong paths all = AllByRecursion (λ path. list_any (bytes_eq path) all ≡ true) paths

among-self : (paths : List (List ℕ)) → AreAmong paths paths
among-self [] = tt
among-self (path ∷ paths) = (
  ap (λ b. b || list_any (bytes_eq path) paths) (bytes-same path),
  all-weaker (λ p. list_any (bytes_eq p) paths ≡ true) (λ p. list_any (bytes_eq p) (path ∷ paths) ≡ true) paths
      (λ p is. ap (λ b. bytes_eq p path || b) is ∙ or-true (bytes_eq p path)) (among-self paths),
)
  where
    or-true : (b : Bool) → (b || true) ≡ true
    or-true true = refl
    or-true false = refl

-- rows to which the first of some files were added: those that are left come to what all come to, and without the paths
-- that were free all is as before
pub record IsAdding (now : ℕ) (files : List Staged) (old : List plain.Row) (left : List Staged) (rows : List plain.Row) : Type 0 where
  pub whole : with_files now left rows ≡ with_files now files old
  pub back : rows_without (free_paths old files) rows ≡ rows_without (free_paths old files) old
  pub among : AreAmong (free_paths rows left) (free_paths old files)

pub adding-first : (now : ℕ) (files : List Staged) (old : List plain.Row) → IsAdding now files old files old
adding-first now files old = record { whole = refl; back = refl; among = among-self (free_paths old files) }

pub adding-more : (now : ℕ) (files : List Staged) (old : List plain.Row) (file : Staged) (left : List Staged) (rows after : List plain.Row) → after ≡ with_file now file rows
    → IsAdding now files old (file ∷ left) rows → IsAdding now files old left after
adding-more now files old file left rows after is at =
    let new : plain.Row = new_row file.path file.blob now in
    let all : List (List ℕ) = free_paths old files in
    let among : AllByRecursion (λ path. list_any (bytes_eq path) all ≡ true) (cond (is_free file.path rows) (file.path ∷ []) [] ++ free_paths rows left) = at.among in
    let parts : (rows_without all (with_file now file rows) ≡ rows_without all rows) × AreAmong (free_paths (with_file now file rows) left) all =
    elim (is_free file.path rows)
    as (λ b. AllByRecursion (λ path. list_any (bytes_eq path) all ≡ true) (cond b (file.path ∷ []) [] ++ free_paths rows left)
    → (rows_without all (cond b (with_row new rows) rows) ≡ rows_without all rows) × AreAmong (free_paths (cond b (with_row new rows) rows) left) all) [
      | true ↦ λ h. (without-new all new rows h.0, free-more (λ path. list_any (bytes_eq path) all ≡ true) new rows left h.1)
      | false ↦ λ h. (refl, h)
    ] among in
    subst (IsAdding now files old left) (sym is) (record {
      whole = at.whole;
      back = parts.0 ∙ at.back;
      among = parts.1;
    })

-- no row stands at a free path, so all stay without these
are-free : (rows : List plain.Row) (files : List Staged) → AllByRecursion (λ path. is_free path rows ≡ true) (free_paths rows files)
are-free rows [] = tt
are-free rows (file ∷ files) =
    elim (is_free file.path rows) as (λ b. is_free file.path rows ≡ b → AllByRecursion (λ path. is_free path rows ≡ true) (cond b (file.path ∷ []) [] ++ free_paths rows files)) [
      | true ↦ λ is. (is, are-free rows files)
      | false ↦ λ is. are-free rows files
    ] refl

free-parts : (path : List ℕ) (row : plain.Row) (rows : List plain.Row) → is_free path (row ∷ rows) ≡ true → (not (is_row path row) ≡ true) × (is_free path rows ≡ true)
free-parts path row rows is = and_parts (not (is_row path row)) (is_free path rows) (sym (is_free-cons path row rows) ∙ is)

none-has : (paths : List (List ℕ)) (row : plain.Row) (rows : List plain.Row) → AllByRecursion (λ path. is_free path (row ∷ rows) ≡ true) paths
    → (has_path paths row ≡ false) × AllByRecursion (λ path. is_free path rows ≡ true) paths
none-has [] row rows free = (refl, tt)
none-has (path ∷ paths) row rows free =
    let first = free-parts path row rows free.0 in
    let rest = none-has paths row rows free.1 in (
      elim (is_row path row) as (λ b. not b ≡ true → (b || has_path paths row) ≡ false) [ true ↦ λ e. cc | false ↦ λ e. rest.0 ] first.0,
      (first.1, rest.1),
    )

without-free : (paths : List (List ℕ)) (rows : List plain.Row) → AllByRecursion (λ path. is_free path rows ≡ true) paths → rows_without paths rows ≡ rows
without-free paths [] free = refl
without-free paths (row ∷ rows) free =
    let h = none-has paths row rows free in
    ap (λ b. cond (not b) (row ∷ rows_without paths rows) (rows_without paths rows)) h.0 ∙ ap (λ rs. row ∷ rs) (without-free paths rows h.1)

pub without-all-free : (rows : List plain.Row) (files : List Staged) → rows_without (free_paths rows files) rows ≡ rows
without-all-free rows files = without-free (free_paths rows files) rows (are-free rows files)

without-one : (path : List ℕ) (rows : List plain.Row) → without_row path rows ≡ rows_without (path ∷ []) rows
without-one path [] = refl
without-one path (row ∷ rows) =
    elim (is_row path row)
    as (λ b. cond (not b) (row ∷ without_row path rows) (without_row path rows) ≡ cond (not (b || false)) (row ∷ rows_without (path ∷ []) rows) (rows_without (path ∷ []) rows)) [
      | true ↦ without-one path rows
      | false ↦ ap (λ rs. row ∷ rs) (without-one path rows)
    ]

-- the items of a delivery put rows at the free paths
pub undone : (s : Session) (now : ℕ) (rows : List plain.Row) (files : List Staged) (more : List plain.Row) → without_puts (recorded (effects_by s now rows files)) more ≡ rows_without (free_paths rows files) more
undone s now rows [] more = sym (rows_without-nothing more)
undone s now rows (file ∷ files) more =
    let rest : List Effect = effects_by s now rows files in
    elim (row_at file.path rows)
    as (λ o. without_puts (recorded (deliver_at s now file o ++ rest)) more ≡ rows_without (cond (is_none o) (file.path ∷ []) [] ++ free_paths rows files) more) [
      | None ↦
          undone s now rows files (without_row file.path more)
          ∙ ap (rows_without (free_paths rows files)) (without-one file.path more)
          ∙ sym (rows_without-append (file.path ∷ []) (free_paths rows files) more)
      | Some row ↦ elim (row.phase) as (λ p. without_puts (recorded (deliver_again s now file p ++ rest)) more ≡ rows_without (free_paths rows files) more) [
        | plain.listed ↦ undone s now rows files more
        | plain.fading since ↦ undone s now rows files more
      ]
    ]

pub without_puts-append : (items more : List Item) (rows : List plain.Row) → without_puts (items ++ more) rows ≡ without_puts more (without_puts items rows)
without_puts-append [] more rows = refl
without_puts-append (item ∷ items) more rows = without_puts-append items more (without_put item rows)
