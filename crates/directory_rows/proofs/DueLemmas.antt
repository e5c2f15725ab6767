-- Which rows are to fade, directory by directory.
use Rattle.std.proofs.Common.{◌≡◌, ℕ, Bool, true, false, cond, ◌&&◌, List, [], ◌∷◌, ◌++◌, filter, fold, Option, Some, None, bytes_eq, refl, sym, ap, ◌∙◌, subst, append_assoc}
use Rattle.std.specs.List.{AllByRecursion}
use Rattle.std.specs.Ordering.{is_le}
use Rattle.std.proofs.lemmas.Bool.{and_parts, and_right, both_ways, false_from_ne_true}
use Rattle.std.proofs.lemmas.List.{append-nil}
use Rattle.std.proofs.lemmas.List.Elements.{filter-append}
use Rattle.std.proofs.lemmas.List.Sums.{fold-append}
use Rattle.std.proofs.lemmas.Slice.Eq.{bytes_eq-Decides}
use Rattle.mvn_coords.specs.FileName.{BuildOf, is_filled}
use Rattle.mvn_coords.specs.Layout.{Coordinates, Directory, text_of_directory}
use Rattle.repo_model.specs.Data as plain
use Rattle.repo_model.specs.Document.{is_listed, listed_in}
use Rattle.repo_model.specs.Paths.{file_at, stands_in}
use Rattle.repo_model.specs.Purge.{Aged, build_at, builds_of, snapshot_directory, with_aged}
use Rattle.snapshot_purge.specs.Ages.{HaveSameBuilds}
use Rattle.snapshot_purge.proofs.AgeLemmas.{aged_same}
use Rattle.directory_rows.specs.Documents.{rest_from}
use Rattle.directory_rows.specs.Dues.{directory_of, with_build_of_row}
use Rattle.directory_rows.specs.Walks.{IsWalkOf}
use Rattle.directory_rows.specs.declared.dues.Known.{Known}
use Rattle.ordered_rows.specs.declared.row.Row.{Row}
use Rattle.directory_rows.proofs.DocumentLemmas.{each_from}
use Rattle.ordered_rows.proofs.Rising.{AreRising}
use Rattle.directory_rows.proofs.RowLemmas.{stands-from}
use Rattle.directory_rows.proofs.Steps.{in_front, past}
use Rattle.directory_rows.proofs.TextLemmas.{cmp, UpTo, UpTo-front}

-- ---- the builds of a directory
abbrev counts : Directory → plain.Row → Bool
counts d row = is_listed row.phase && stands_in d (file_at row.path)

abbrev with_row : List Aged → plain.Row → List Aged
with_row builds row = with_aged row.accepted (build_at (file_at row.path)) builds

pub builds_more : (d : Directory) (front : List plain.Row) (row : plain.Row) → builds_of (listed_in d (front ++ row ∷ [])) ≡ with_build_of_row d (builds_of (listed_in d front)) row
builds_more d front row =
    ap builds_of (filter-append (counts d) front (row ∷ []))
    ∙ fold-append with_row [] (listed_in d front) (filter (counts d) (row ∷ []))
    ∙ elim (counts d row) as (λ b. fold with_row (builds_of (listed_in d front)) (cond b (row ∷ []) []) ≡ cond b (with_row (builds_of (listed_in d front)) row) (builds_of (listed_in d front))) [
      | true ↦ refl
      | false ↦ refl
    ]

with_aged_same : (accepted : ℕ) (o : Option BuildOf) (xs ys : List Aged) → HaveSameBuilds xs ys → HaveSameBuilds (with_aged accepted o xs) (with_aged accepted o ys)
with_aged_same accepted None xs ys h = h
with_aged_same accepted (Some b) xs ys h = aged_same accepted b xs ys h

pub row_same : (d : Directory) (row : plain.Row) (xs ys : List Aged) → HaveSameBuilds xs ys → HaveSameBuilds (with_build_of_row d xs row) (with_build_of_row d ys row)
row_same d row xs ys h =
    elim (counts d row) as (λ b. HaveSameBuilds (cond b (with_row xs row) xs) (cond b (with_row ys row) ys)) [
      | true ↦ with_aged_same row.accepted (build_at (file_at row.path)) xs ys h
      | false ↦ h
    ]

-- ---- the rows of a directory stand together
listed_rest : (d : Directory) (base : List ℕ) → ((q : List ℕ) → stands_in d (file_at q) ≡ true → UpTo base q) → (rows : List plain.Row) → listed_in d (rest_from base rows) ≡ listed_in d rows
listed_rest d base inside [] = refl
listed_rest d base inside (row ∷ rows) =
    elim (is_le (cmp base row.path)) as (λ b. is_le (cmp base row.path) ≡ b → listed_in d (cond b (row ∷ rest_from base rows) (rest_from base rows)) ≡ listed_in d (row ∷ rows)) [
      | true ↦ λ here.
          elim (counts d row) as (λ t. cond t (row ∷ listed_in d (rest_from base rows)) (listed_in d (rest_from base rows)) ≡ cond t (row ∷ listed_in d rows) (listed_in d rows)) [
            | true ↦ ap (λ r. row ∷ r) (listed_rest d base inside rows)
            | false ↦ listed_rest d base inside rows
          ]
      | false ↦ λ there.
          listed_rest d base inside rows
          ∙ sym (ap (λ t. cond t (row ∷ listed_in d rows) (listed_in d rows))
          (and_right (is_listed row.phase) (stands_in d (file_at row.path)) (false_from_ne_true (stands_in d (file_at row.path)) (λ s. both_ways (is_le (cmp base row.path)) there (inside row.path s)))))
    ] refl

listed_none : (d : Directory) (rows : List plain.Row) → AllByRecursion (λ (row : plain.Row). stands_in d (file_at row.path) ≡ true → ⊥) rows → listed_in d rows ≡ []
listed_none d [] h = refl
listed_none d (row ∷ rows) h =
    ap (λ t. cond t (row ∷ listed_in d rows) (listed_in d rows)) (and_right (is_listed row.phase) (stands_in d (file_at row.path)) (false_from_ne_true (stands_in d (file_at row.path)) h.0))
    ∙ listed_none d rows h.1

module _ (d : Directory) (base word : List ℕ) (walk : IsWalkOf d base word true) where
  pub begun : (rows : List plain.Row) → listed_in d (rest_from base rows) ≡ listed_in d rows
  begun rows = listed_rest d base (λ q h. let f = in_front d base word q true walk h in subst (UpTo base) (sym f.1) (UpTo-front base f.0)) rows

  -- no row of the directory comes at or after a path that does not begin as the directory's
  pub ended : (all front rows : List plain.Row) (row : plain.Row) → AreRising all → rest_from base all ≡ front ++ row ∷ rows → ((x : List ℕ) → row.path ≡ base ++ x → ⊥) → listed_in d front ≡ listed_in d all
  ended all front rows row up is other =
      let at = stands-from base all front rows row up is in
      let none = listed_none d (row ∷ rows)
      (each_from row.path (λ q. stands_in d (file_at q) ≡ true → ⊥) (row ∷ rows) (λ q behind h. past d base word row.path q true walk other at.0 h behind) at.1) in
      sym (append-nil (listed_in d front)) ∙ ap (λ r. listed_in d front ++ r) (sym none)
      ∙ sym (filter-append (counts d) front (row ∷ rows)) ∙ ap (listed_in d) (sym is) ∙ begun all

-- the path of a file's directory and a slash
pub base_text : (c : Coordinates) → is_filled c.group ≡ true
    → (c.group ++ (47 ∷ [] ++ (c.artifact ++ (47 ∷ [] ++ c.directory)))) ++ 47 ∷ [] ≡ text_of_directory (snapshot_directory c) ++ 47 ∷ []
base_text c filled =
    ap (λ t. t ++ 47 ∷ []) (grouped c.group c.artifact c.directory ∙ ap (λ b. cond b (c.group ++ 47 ∷ c.artifact) c.artifact ++ 47 ∷ c.directory) (sym filled))
  where
    grouped : (g a v : List ℕ) → g ++ (47 ∷ [] ++ (a ++ (47 ∷ [] ++ v))) ≡ (g ++ 47 ∷ a) ++ 47 ∷ v
    grouped g a v = sym (append_assoc g (47 ∷ a) (47 ∷ v))

-- ---- what is known of a directory
pub same_directory : (k : Known) (c : Coordinates) → stands_in (directory_of k) (Some c) ≡ true → directory_of k ≡ snapshot_directory c
same_directory k c h =
    let a = and_parts (bytes_eq c.group k.group) _ h in
    let b = and_parts (bytes_eq c.artifact k.artifact) (bytes_eq k.version c.directory) a.1 in
    let group : c.group ≡ k.group = (bytes_eq-Decides c.group k.group).0 a.0 in
    let artifact : c.artifact ≡ k.artifact = (bytes_eq-Decides c.artifact k.artifact).0 b.0 in
    let version : k.version ≡ c.directory = (bytes_eq-Decides k.version c.directory).0 b.1 in
    λ i. record { group = sym group i; artifact = sym artifact i; version = Some (version i) }
