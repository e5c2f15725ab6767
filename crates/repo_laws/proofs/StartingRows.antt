-- The rows of the repositories that a start makes are the recorded ones, with their bytes, in byte order of path.
use Rattle.std.proofs.Common.{◌≡◌, ℕ, true, false, cond, ◌&&◌, List, [], ◌∷◌, map, Option, Some, None, refl, sym, ◌∙◌, ap}
use Rattle.std.specs.Prelude.{filter, find, bytes_eq}
use Rattle.std.specs.Option.{option_map, option_map_or}
use Rattle.std.specs.List.{AllByRecursion, list_any}
use Rattle.std.specs.List.Sorted.{IsStrictlySortedBy}
use Rattle.std.specs.Ordering.{nat_cmp, ordering_then}
use Rattle.std.specs.declared.cmp.Ordering.TheVariants.{Less, Equal}
use Rattle.std.specs.Cmp.Lexicographic.{slice_cmp, nat_list_cmp_total}
use Rattle.std.proofs.lemmas.Bool.{false≢true}
use Rattle.std.proofs.lemmas.Cmp.{tied_itself}
use Rattle.repo_model.specs.Data.{Row, Hosted}
use Rattle.repo_model.specs.Settings.{Rule}
use Rattle.repo_model.specs.State.{is_repository, row_at}
use Rattle.repo_model.specs.Tables.{RecordedRow, is_recorded, recorded_at}
use Rattle.repo_model.specs.Restart.{with_bytes, is_of, recorded_of, hosted_from}
use Rattle.repo_laws.specs.Laws.{without_bytes}
use Rattle.repo_laws.specs.Sound.{IsBelow, AreByPath}
use Rattle.repo_laws.specs.Holds.{row_cmp}
use Rattle.repo_laws.proofs.HoldingLists.{all-map, any-none, unfound-any}
use Rattle.repo_laws.proofs.Lists.{found-has, found-passes}
use Rattle.repo_laws.proofs.Rows.{is_at, rows_in, same_path}

-- where the part of each is that of its id, the one that is found at an id has that of the id
pub part-under : {X Y : Type 0} (id_of : X → List ℕ) (part : X → List Y) (of : List ℕ → List Y) (id : List ℕ) (xs : List X) → AllByRecursion (λ x. part x ≡ of (id_of x)) xs → list_any (is_at id_of id) xs ≡ true
    → option_map_or part (find (is_at id_of id) xs) [] ≡ of id
part-under {X} id_of part of id xs all there = by (find (is_at id_of id) xs) refl where
  by : (found : Option X) → find (is_at id_of id) xs ≡ found → option_map_or part found [] ≡ of id
  by None none = absurd (false≢true (sym (unfound-any (is_at id_of id) xs none) ∙ there))
  by (Some x) found = found-has (λ y. part y ≡ of (id_of y)) (is_at id_of id) xs x all found ∙ ap of (same_path (id_of x) id (found-passes (is_at id_of id) xs x found))

module _ (tells : ℕ → Option (List ℕ)) where
  -- a row that is found is the recorded one, with its bytes
  pub of-found : (repo path : List ℕ) (rows : List RecordedRow) → row_at path (recorded_of tells rows repo) ≡ option_map (with_bytes tells) (recorded_at repo path rows)
  of-found repo path [] = refl
  of-found repo path (r ∷ rows) =
      elim (bytes_eq r.repo repo)
      as (λ b. row_at path (map (λ (x : RecordedRow). with_bytes tells x.row) (cond b (r ∷ filter (is_of repo) rows) (filter (is_of repo) rows)))
      ≡ option_map (with_bytes tells) (option_map (λ (x : RecordedRow). x.row) (cond (b && bytes_eq r.row.path path) (Some r) (find (is_recorded repo path) rows)))) [
        | true ↦ elim (bytes_eq r.row.path path)
            as (λ c. cond c (Some (with_bytes tells r.row)) (row_at path (recorded_of tells rows repo))
            ≡ option_map (with_bytes tells) (option_map (λ (x : RecordedRow). x.row) (cond c (Some r) (find (is_recorded repo path) rows)))) [ true ↦ refl | false ↦ of-found repo path rows ]
        | false ↦ of-found repo path rows
      ]

  -- the repositories' rows are those that are recorded of their ids
  pub rows-under : (repo : List ℕ) (rows : List RecordedRow) (rules : List Rule) → list_any (is_repository repo) (map (hosted_from tells rows) rules) ≡ true
      → rows_in repo (map (hosted_from tells rows) rules) ≡ recorded_of tells rows repo
  rows-under repo rows rules =
      part-under (λ (h : Hosted). h.rule.id) (λ (h : Hosted). h.rows) (recorded_of tells rows) repo (map (hosted_from tells rows) rules)
      (all-map (hosted_from tells rows) (λ (h : Hosted). h.rows ≡ recorded_of tells rows h.rule.id) (λ rule. refl) rules)

  pub none-under : (repo : List ℕ) (rows : List RecordedRow) (rules : List Rule) → list_any (is_repository repo) (map (hosted_from tells rows) rules) ≡ false
      → rows_in repo (map (hosted_from tells rows) rules) ≡ []
  none-under repo rows rules none = ap (λ (found : Option Hosted). option_map_or (λ (h : Hosted). h.rows) found []) (any-none (is_repository repo) (map (hosted_from tells rows) rules) none)

  bare-again : (row : Row) → row.blob.bytes ≡ None → without_bytes (with_bytes tells row) ≡ row
  bare-again row is = ap (λ bytes. record row { blob = record row.blob { bytes = bytes } }) (sym is)

  pub held-rows : (repo path : List ℕ) (rows : List RecordedRow) → AllByRecursion (λ (r : RecordedRow). r.row.blob.bytes ≡ None) rows
      → recorded_at repo path rows ≡ option_map without_bytes (option_map (with_bytes tells) (recorded_at repo path rows))
  held-rows repo path rows bare =
      elim (find (is_recorded repo path) rows)
      as (λ found. find (is_recorded repo path) rows ≡ found
      → option_map (λ (x : RecordedRow). x.row) found ≡ option_map without_bytes (option_map (with_bytes tells) (option_map (λ (x : RecordedRow). x.row) found))) [
        | None ↦ λ is. refl
        | (Some r) ↦ λ is. ap Some (sym (bare-again r.row (found-has (λ (x : RecordedRow). x.row.blob.bytes ≡ None) (is_recorded repo path) rows r bare is)))
      ] refl

  -- they stand in byte order of path
  below-of : (repo : List ℕ) (r : RecordedRow) → bytes_eq r.repo repo ≡ true → (rows : List RecordedRow) → AllByRecursion (λ y. row_cmp r y ≡ Less) rows
      → AllByRecursion (IsBelow r.row.path) (recorded_of tells rows repo)
  below-of repo r here [] all = tt
  below-of repo r here (y ∷ rows) all =
      elim (bytes_eq y.repo repo)
      as (λ b. bytes_eq y.repo repo ≡ b → AllByRecursion (IsBelow r.row.path) (map (λ (x : RecordedRow). with_bytes tells x.row) (cond b (y ∷ filter (is_of repo) rows) (filter (is_of repo) rows)))) [
        | true ↦ λ there.
            let same : r.repo ≡ y.repo = same_path r.repo repo here ∙ sym (same_path y.repo repo there) in
            let tied : slice_cmp nat_cmp r.repo y.repo ≡ Equal = ap (λ id. slice_cmp nat_cmp r.repo id) (sym same) ∙ tied_itself nat_list_cmp_total r.repo in
            (sym (ap (λ o. ordering_then o (slice_cmp nat_cmp r.row.path y.row.path)) tied) ∙ all.0, below-of repo r here rows all.1)
        | false ↦ λ _. below-of repo r here rows all.1
      ] refl

  pub by-path-of : (repo : List ℕ) (rows : List RecordedRow) → IsStrictlySortedBy row_cmp rows → AreByPath (recorded_of tells rows repo)
  unfolding IsStrictlySortedBy
  by-path-of repo [] rising = tt
  by-path-of repo (r ∷ rows) rising =
      elim (bytes_eq r.repo repo)
      as (λ b. bytes_eq r.repo repo ≡ b → AreByPath (map (λ (x : RecordedRow). with_bytes tells x.row) (cond b (r ∷ filter (is_of repo) rows) (filter (is_of repo) rows)))) [
        | true ↦ λ here. (below-of repo r here rows rising.0, by-path-of repo rows rising.1)
        | false ↦ λ _. by-path-of repo rows rising.1
      ] refl
