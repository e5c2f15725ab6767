-- What a document says of the builds of a snapshot directory, and which rows are those of a directory.
use Rattle.std.proofs.Common.{◌≡◌, inl, inr, true, false, cond, List, [], ◌∷◌, Option, Some, None, refl, sym, ◌∙◌, ap, subst}
use Rattle.std.specs.Prelude.{if◌then◌else◌}
use Rattle.std.specs.BTreeMap.{insert_entry, is_at}
use Rattle.std.specs.Cmp.{IsTotalOrder}
use Rattle.std.specs.FinMap.Entries.{is_sorted, find}
use Rattle.std.specs.List.{AllByRecursion}
use Rattle.std.specs.Map.{lookup}
use Rattle.std.specs.Ordering.{is_gt, is_eq, eq_by_cmp, match_ordering}
use Rattle.std.specs.declared.cmp.Ordering.{Ordering}
use Rattle.std.specs.declared.cmp.Ordering.TheVariants.{Less, Equal, Greater}
use Rattle.std.proofs.lemmas.Cmp.{upto, tied_itself, on_total}
use Rattle.mvn_coords.specs.FileName.{BuildOf}
use Rattle.mvn_coords.specs.Layout.{Coordinates}
use Rattle.mvn_metadata.specs.declared.pair.Pair.{Pair}
use Rattle.mvn_metadata.specs.declared.pair.SnapshotBuild.{SnapshotBuild}
use Rattle.mvn_metadata.specs.Document.{greatest}
use Rattle.mvn_metadata.specs.Merge.{Entry, is_newer, with_entry}
use Rattle.mvn_metadata.specs.Order.{build_cmp, build_cmp_total, pair_cmp, pair_cmp_total}
use Rattle.mvn_metadata.proofs.MergeLaws.{find-with_entries}
use Rattle.mvn_metadata.proofs.MergeLemmas.{pair_cmp_ties, is_sorted-with_entry}
use Rattle.repo_model.specs.Data.{Row}
use Rattle.repo_model.specs.Paths.{file_at}
use Rattle.repo_laws.specs.Laws.{AnyByRecursion}
use Rattle.repo_laws.specs.Described.{Adds, ListsBuilds}
use Rattle.repo_laws.proofs.Lists.{all-then}
use Rattle.naming_laws.proofs.Describing.{entry_of, entry_step, entries_then, entries_of, chosen, chosen-above}

-- ---- entries
all-insert_entry : (Q : Entry → Type 0) (es : List Entry) (k : Pair) (v : SnapshotBuild) → Q (k, v) → AllByRecursion Q es → AllByRecursion Q (insert_entry pair_cmp es k v)
all-insert_entry Q [] k v new all = (new, tt)
all-insert_entry Q (e ∷ es) k v new all =
    elim (pair_cmp k e.0) as (λ r. pair_cmp k e.0 ≡ r → AllByRecursion Q (match_ordering r ((k, v) ∷ e ∷ es) ((e.0, v) ∷ es) (e ∷ insert_entry pair_cmp es k v))) [
      | Less ↦ λ is. (new, all)
      | Equal ↦ λ is. (subst (λ (p : Pair). Q (p, v)) (pair_cmp_ties k e.0 is) new, all.1)
      | Greater ↦ λ is. (all.0, all-insert_entry Q es k v new all.1)
    ] refl

all-with_entry : (Q : Entry → Type 0) (es : List Entry) (e : Entry) → Q e → AllByRecursion Q es → AllByRecursion Q (with_entry es e)
all-with_entry Q es e new all =
    elim (is_newer e.1 (lookup (is_at (pair_cmp e.0)) es)) as (λ b. AllByRecursion Q (if b then insert_entry pair_cmp es e.0 e.1 else es)) [
      | true ↦ all-insert_entry Q es e.0 e.1 new all
      | false ↦ all
    ]

abbrev RowAdds : Row → Entry → Type 0
RowAdds row e = Adds e.0 e.1 row

all-then-entries : (Q : Entry → Type 0) (es : List Entry) (row : Row) (found : Option Coordinates) → file_at row.path ≡ found → ((e : Entry) → RowAdds row e → Q e) → AllByRecursion Q es
    → AllByRecursion Q (entries_then es found)
all-then-entries Q es row None is new all = all
all-then-entries Q es row (Some c) is new all = by c.build refl where
  by : (build : Option BuildOf) → c.build ≡ build → AllByRecursion Q (entry_step es c build)
  by None built = all
  by (Some build) built = all-with_entry Q es (entry_of c build) (new (entry_of c build) (c, build, is, built, refl, refl)) all

pub entries-from : (Q : Entry → Type 0) (rows : List Row) (es : List Entry) → AllByRecursion (λ (row : Row). (e : Entry) → RowAdds row e → Q e) rows → AllByRecursion Q es → AllByRecursion Q (entries_of es rows)
entries-from Q [] es new all = all
entries-from Q (row ∷ rows) es new all =
    entries-from Q rows (entries_then es (file_at row.path)) new.1 (all-then-entries Q es row (file_at row.path) refl new.0 all)

-- what one row adds, one of them adds
each-adds : (rows : List Row) → AllByRecursion (λ (row : Row). (e : Entry) → RowAdds row e → AnyByRecursion (Adds e.0 e.1) rows) rows
each-adds [] = tt
each-adds (row ∷ rows) = (
  λ e adds. inl adds,
  all-then (λ (r : Row). (e : Entry) → RowAdds r e → AnyByRecursion (Adds e.0 e.1) rows) (λ (r : Row). (e : Entry) → RowAdds r e → AnyByRecursion (Adds e.0 e.1) (row ∷ rows))
      (λ r so e adds. inr (so e adds)) rows (each-adds rows),
)

sorted-then : (es : List Entry) (found : Option Coordinates) → is_sorted pair_cmp es ≡ true → is_sorted pair_cmp (entries_then es found) ≡ true
sorted-then es None sorted = sorted
sorted-then es (Some c) sorted = by c.build where
  by : (build : Option BuildOf) → is_sorted pair_cmp (entry_step es c build) ≡ true
  by None = sorted
  by (Some build) = is_sorted-with_entry es (entry_of c build) sorted

sorted-entries : (rows : List Row) (es : List Entry) → is_sorted pair_cmp es ≡ true → is_sorted pair_cmp (entries_of es rows) ≡ true
sorted-entries [] es sorted = sorted
sorted-entries (row ∷ rows) es sorted = sorted-entries rows (entries_then es (file_at row.path)) (sorted-then es (file_at row.path) sorted)

lookup-find : (q : Pair) (es : List Entry) → lookup (is_at (pair_cmp q)) es ≡ find pair_cmp q es
lookup-find q [] = refl
lookup-find q (e ∷ es) = ap (cond (eq_by_cmp pair_cmp q e.0) (Some e.1)) (lookup-find q es)

abbrev snapshot_cmp : SnapshotBuild → SnapshotBuild → Ordering
snapshot_cmp u v = build_cmp u.build v.build

snapshot_cmp-total : IsTotalOrder snapshot_cmp
snapshot_cmp-total = on_total (λ (u : SnapshotBuild). u.build) build_cmp_total

-- an entry of the pair, with no older build
abbrev Covers : List Entry → Pair → SnapshotBuild → Type 0
Covers es q v = (kept : SnapshotBuild) × (find pair_cmp q es ≡ Some kept) × (is_gt (snapshot_cmp v kept) ≡ false)

abbrev after_one : Option SnapshotBuild → Option SnapshotBuild → Option SnapshotBuild
after_one None new = new
after_one (Some kept) None = Some kept
after_one (Some kept) (Some new) = Some (chosen snapshot_cmp snapshot_cmp-total kept new)

find-after : (q : Pair) (es : List Entry) (e : Entry) → find pair_cmp q (with_entry es e) ≡ after_one (find pair_cmp q es) (cond (eq_by_cmp pair_cmp q e.0) (Some e.1) None)
find-after q es e = find-with_entries q es (e ∷ []) refl ∙ same (find pair_cmp q es) (cond (eq_by_cmp pair_cmp q e.0) (Some e.1) None) where
  same : (u v : Option SnapshotBuild) → greatest snapshot_cmp u v ≡ after_one u v
  same None v = refl
  same (Some u) None = refl
  same (Some u) (Some v) = refl

covers-on : (es : List Entry) (e : Entry) (q : Pair) (v : SnapshotBuild) → Covers es q v → Covers (with_entry es e) q v
covers-on es e q v (kept, is, below) =
    subst (λ (f : Option SnapshotBuild). (k : SnapshotBuild) × (f ≡ Some k) × (is_gt (snapshot_cmp v k) ≡ false)) (sym (find-after q es e ∙ ap (λ f. after_one f (cond (eq_by_cmp pair_cmp q e.0) (Some e.1) None)) is))
    (elim (eq_by_cmp pair_cmp q e.0)
    as (λ b. (k : SnapshotBuild) × (after_one (Some kept) (cond b (Some e.1) None) ≡ Some k) × (is_gt (snapshot_cmp v k) ≡ false)) [
      | true ↦ (
        chosen snapshot_cmp snapshot_cmp-total kept e.1,
        refl,
        upto snapshot_cmp-total v kept (chosen snapshot_cmp snapshot_cmp-total kept e.1) below (chosen-above snapshot_cmp snapshot_cmp-total kept e.1).0,
      )
      | false ↦ (kept, refl, below)
    ])

covers-new : (es : List Entry) (e : Entry) → Covers (with_entry es e) e.0 e.1
covers-new es e =
    subst (λ (f : Option SnapshotBuild). (k : SnapshotBuild) × (f ≡ Some k) × (is_gt (snapshot_cmp e.1 k) ≡ false))
    (sym (find-after e.0 es e ∙ ap (λ b. after_one (find pair_cmp e.0 es) (cond b (Some e.1) None)) (ap is_eq (tied_itself pair_cmp_total e.0))))
    (by (find pair_cmp e.0 es)) where
      by : (old : Option SnapshotBuild) → (k : SnapshotBuild) × (after_one old (Some e.1) ≡ Some k) × (is_gt (snapshot_cmp e.1 k) ≡ false)
      by None = (e.1, refl, ap is_gt (tied_itself snapshot_cmp-total e.1))
      by (Some kept) = (chosen snapshot_cmp snapshot_cmp-total kept e.1, refl, (chosen-above snapshot_cmp snapshot_cmp-total kept e.1).1)

covers-then : (es : List Entry) (q : Pair) (v : SnapshotBuild) (found : Option Coordinates) → Covers es q v → Covers (entries_then es found) q v
covers-then es q v None covers = covers
covers-then es q v (Some c) covers = by c.build where
  by : (build : Option BuildOf) → Covers (entry_step es c build) q v
  by None = covers
  by (Some build) = covers-on es (entry_of c build) q v covers

covers-rows : (rows : List Row) (es : List Entry) (q : Pair) (v : SnapshotBuild) → Covers es q v → Covers (entries_of es rows) q v
covers-rows [] es q v covers = covers
covers-rows (row ∷ rows) es q v covers = covers-rows rows (entries_then es (file_at row.path)) q v (covers-then es q v (file_at row.path) covers)

rows-cover : (rows : List Row) (es : List Entry) (q : Pair) (v : SnapshotBuild) → AnyByRecursion (Adds q v) rows → Covers (entries_of es rows) q v
rows-cover [] es q v none = absurd none
rows-cover (row ∷ rows) es q v (inr later) = rows-cover rows (entries_then es (file_at row.path)) q v later
rows-cover (row ∷ rows) es q v (inl (c, build, is, built, pair_is, snapshot_is)) =
    covers-rows rows (entries_then es (file_at row.path)) q v
    (subst (λ (f : Option Coordinates). Covers (entries_then es f) q v) (sym is)
    (subst (λ (b : Option BuildOf). Covers (entry_step es c b) q v) (sym built)
    (subst (λ (p : Pair). Covers (with_entry es (entry_of c build)) p v) pair_is
    (subst (λ (u : SnapshotBuild). Covers (with_entry es (entry_of c build)) (entry_of c build).0 u) snapshot_is (covers-new es (entry_of c build))))))

pub lists-builds : (rows : List Row) → ListsBuilds rows (entries_of [] rows)
lists-builds rows = (
  sorted-entries rows [] refl,
  entries-from (λ e. AnyByRecursion (Adds e.0 e.1) rows) rows [] (each-adds rows) tt,
  λ pair snapshot adds. let (kept, is, below) = rows-cover rows [] pair snapshot adds in (kept, lookup-find pair (entries_of [] rows) ∙ is, below),
)
