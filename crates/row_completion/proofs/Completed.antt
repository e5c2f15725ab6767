-- The items of all recorded files: they are short and fit, and the tables after the first of them, or after all.
use Rattle.std.proofs.Common.{◌≡◌, List, [], ◌∷◌, ◌++◌, Ok, refl, sym, subst, arith, append-nil}
use Rattle.std.specs.List.{AllByRecursion}
use Rattle.outside.specs.Blobs.{Shelf}
use Rattle.repo_model.specs.Tables.{RecordedRow, Tables, applied}
use Rattle.repo_model.specs.declared.item.Item.{Item}
use Rattle.row_tables.specs.Applying.{with_items}
use Rattle.row_tables.specs.Recorded.{IsBuiltUp}
use Rattle.ordered_rows.specs.Recording.{IsShort}
use Rattle.table_laws.proofs.Building.{built-cached, built-hosted, built-order}
use Rattle.blob_audit.specs.Order.{all_files}
use Rattle.row_completion.specs.Completion.{IsComplete, IsDigested}
use Rattle.row_completion.specs.Gathering.{AreItemsOf}
use Rattle.row_completion.proofs.Behind.{Before}
use Rattle.row_completion.proofs.Outcomes.{AreFirst, Outcome, completing, first-of}
use Rattle.row_completion.proofs.Fitting.{AllFit, built-more, fit-applied}
use Rattle.row_completion.proofs.Items.{all-items, all-short}
use Rattle.row_completion.proofs.Weaving.{Woven, weave}

none-before : (rows : List RecordedRow) → Before [] rows
none-before [] = tt
none-before (r ∷ rows) = (tt, none-before rows)

module _ (shelf : Shelf) (t : Tables) (built : IsBuiltUp t) (items : List Item) (is : AreItemsOf shelf (all_files t) items) where
  woven : Woven t.hosted t.cached (all_files t)
  woven = let order = built-order t built in weave t.hosted t.cached order.hosted order.cached

  pub items-short : AllByRecursion IsShort items
  items-short = all-short shelf t.hosted t.cached (all_files t) items woven is (built-hosted t built) (built-cached t built)

  outcome : (front : List Item) → AreFirst front items → Outcome shelf t.documents t.sessions [] [] t.hosted t.cached items front
  outcome front first =
      completing shelf t.documents t.sessions [] [] t.hosted t.cached (all_files t) items front woven is first tt (none-before t.hosted) (none-before t.cached)

  front-digested : (front : List Item) → AreFirst front items → IsDigested shelf t (with_items t front)
  front-digested front first =
      let o = outcome front first in
      subst (IsDigested shelf t) (sym o.made) (record { hosted = o.hosted_so; cached = o.cached_so; documents = refl; sessions = refl })

  pub first-digested : (front rest : List Item) → items ≡ front ++ rest → IsDigested shelf t (with_items t front)
  first-digested front rest parts = front-digested front (subst (AreFirst front) (sym parts) (first-of front rest))

  all-first : AreFirst items items
  all-first = subst (AreFirst items) (append-nil items) (first-of items [])

  pub all-digested : IsDigested shelf t (with_items t items)
  all-digested = front-digested items all-first

  fit-all : AllFit t items
  fit-all = (outcome items all-first).fit

  pub items-fit : applied t items ≡ Ok (with_items t items)
  items-fit = fit-applied items 0 t fit-all

  pub all-complete : IsComplete (with_items t items)
  all-complete =
      let o = outcome items all-first in
      let both = o.all (omega arith) in
      subst IsComplete (sym o.made) (record { hosted = both.0; cached = both.1 })

  pub all-built : IsBuiltUp (with_items t items)
  all-built = built-more t items (all-items items items-short) fit-all built
