-- Rows that items of their form build up stand at paths of files, and those of proxies are visible.
use Rattle.std.proofs.Common.{◌≡◌, ℕ, true, false, ◌&&◌, List, [], ◌∷◌, refl, sym, subst}
use Rattle.std.specs.Prelude.{if◌then◌else◌}
use Rattle.std.specs.List.{AllByRecursion, list_all}
use Rattle.std.proofs.lemmas.Bool.{and_parts}
use Rattle.repo_model.specs.declared.item.Item.{Item}
use Rattle.repo_model.specs.declared.item.Item.TheVariants.{HostedPut, Faded, Relisted, Removed, CachedFile, CachedDoc, SessionOpened, SessionEnded, Digested}
use Rattle.repo_model.specs.declared.print.Recorded.{Recorded}
use Rattle.repo_model.specs.Effect.{list_again, fade}
use Rattle.repo_model.specs.Tables.{Tables, RecordedRow, no_tables, is_recorded, recorded_row, change_recorded, digested, lacks_at, item_on}
use Rattle.repo_laws.specs.Holds.{InOrder}
use Rattle.repo_laws.specs.InRange.{InRange}
use Rattle.repo_laws.proofs.Holding.{applied-ordered}
use Rattle.repo_laws.proofs.HoldingLists.{all-change_where, all-filter}
use Rattle.repo_laws.proofs.HoldingOrder.{all-with_recorded, no-tables-ordered}
use Rattle.repo_laws.proofs.Ranges.{no-tables-in-range, range-applied}
use Rattle.row_tables.specs.Applying.{with_items}
use Rattle.row_tables.specs.Items.{is_id, is_file_path, is_number, is_moment, is_print, is_item}
use Rattle.row_tables.specs.Recorded.{IsBuiltUp}
use Rattle.table_laws.specs.Standing.{IsListed, StandsAtFile}
use Rattle.table_laws.proofs.Forms.{forms-in-range}

-- all rows of the tables stand so
record AllStand (t : Tables) : Type 0 where
  pub hosted : AllByRecursion StandsAtFile t.hosted
  pub cached : AllByRecursion StandsAtFile t.cached

new-stands : (repo path : List ℕ) (blob : ℕ) (print : Recorded) (accepted : ℕ) → (is_id repo && (is_file_path path && (is_number blob && (is_print print && is_moment accepted)))) ≡ true
    → StandsAtFile (recorded_row repo path blob print accepted)
new-stands repo path blob print accepted is =
    let place = and_parts (is_id repo) (is_file_path path && (is_number blob && (is_print print && is_moment accepted))) is in
    (place.0, (and_parts (is_file_path path) (is_number blob && (is_print print && is_moment accepted)) place.1).0)

item-stands : (t : Tables) (item : Item) → is_item item ≡ true → AllStand t → AllStand (item_on t item)
item-stands t (HostedPut repo path blob print accepted) is all = record {
  hosted = all-with_recorded StandsAtFile (recorded_row repo path blob print accepted) t.hosted all.hosted (new-stands repo path blob print accepted is);
  cached = all.cached;
}
item-stands t (Faded repo path moment) is all = record {
  hosted = all-change_where StandsAtFile (is_recorded repo path) (λ (r : RecordedRow). record r { row = fade moment r.row }) (λ r so. so) t.hosted all.hosted;
  cached = all.cached;
}
item-stands t (Relisted repo path accepted) is all = record {
  hosted = all-change_where StandsAtFile (is_recorded repo path) (λ (r : RecordedRow). record r { row = list_again accepted r.row }) (λ r so. so) t.hosted all.hosted;
  cached = all.cached;
}
item-stands t (Removed repo path) is all = record { hosted = all-filter StandsAtFile _ t.hosted all.hosted; cached = all.cached }
item-stands t (CachedFile repo path blob print accepted) is all = record {
  hosted = all.hosted;
  cached = all-with_recorded StandsAtFile (recorded_row repo path blob print accepted) t.cached all.cached (new-stands repo path blob print accepted is);
}
item-stands t (CachedDoc repo path checked document) is all = record { hosted = all.hosted; cached = all.cached }
item-stands t (SessionOpened n) is all = record { hosted = all.hosted; cached = all.cached }
item-stands t (SessionEnded n result) is all = record { hosted = all.hosted; cached = all.cached }
item-stands t (Digested repo path further) is all =
    let f : RecordedRow → RecordedRow = λ r. record r { row = digested further r.row } in
    elim (lacks_at repo path t.hosted)
    as (λ b. AllStand (if b then record t { hosted = change_recorded repo path (digested further) t.hosted } else record t { cached = change_recorded repo path (digested further) t.cached })) [
      | true ↦ record { hosted = all-change_where StandsAtFile (is_recorded repo path) f (λ r so. so) t.hosted all.hosted; cached = all.cached }
      | false ↦ record { hosted = all.hosted; cached = all-change_where StandsAtFile (is_recorded repo path) f (λ r so. so) t.cached all.cached }
    ]

items-stand : (items : List Item) (t : Tables) → list_all is_item items ≡ true → AllStand t → AllStand (with_items t items)
items-stand [] t is all = all
items-stand (item ∷ items) t is all =
    let parts = and_parts (is_item item) (list_all is_item items) is in
    items-stand items (item_on t item) parts.1 (item-stands t item parts.0 all)

-- an item leaves the rows of proxies visible
item-listed : (t : Tables) (item : Item) → AllByRecursion IsListed t.cached → AllByRecursion IsListed (item_on t item).cached
item-listed t (HostedPut repo path blob print accepted) all = all
item-listed t (Faded repo path moment) all = all
item-listed t (Relisted repo path accepted) all = all
item-listed t (Removed repo path) all = all
item-listed t (CachedFile repo path blob print accepted) all = all-with_recorded IsListed (recorded_row repo path blob print accepted) t.cached all refl
item-listed t (CachedDoc repo path checked document) all = all
item-listed t (SessionOpened n) all = all
item-listed t (SessionEnded n result) all = all
item-listed t (Digested repo path further) all =
    elim (lacks_at repo path t.hosted)
    as (λ b. AllByRecursion IsListed (if b then record t { hosted = change_recorded repo path (digested further) t.hosted } else record t { cached = change_recorded repo path (digested further) t.cached }).cached) [
      | true ↦ all
      | false ↦ all-change_where IsListed (is_recorded repo path) (λ (r : RecordedRow). record r { row = digested further r.row }) (λ r so. so) t.cached all
    ]

items-listed : (items : List Item) (t : Tables) → AllByRecursion IsListed t.cached → AllByRecursion IsListed (with_items t items).cached
items-listed [] t all = all
items-listed (item ∷ items) t all = items-listed items (item_on t item) (item-listed t item all)

module _ (t : Tables) (built : IsBuiltUp t) where
  pub built-order : InOrder t
  built-order = subst InOrder (sym built.built) (applied-ordered no_tables (with_items no_tables built.items) built.items no-tables-ordered built.recorded.fit)

  pub built-range : InRange t
  built-range =
      subst InRange (sym built.built)
      (range-applied no_tables (with_items no_tables built.items) built.items no-tables-in-range (forms-in-range built.items built.recorded.form) built.recorded.fit)

  built-stands : AllStand t
  built-stands = subst AllStand (sym built.built) (items-stand built.items no_tables built.recorded.form (record { hosted = tt; cached = tt }))

  pub built-hosted : AllByRecursion StandsAtFile t.hosted
  built-hosted = built-stands.hosted

  pub built-cached : AllByRecursion StandsAtFile t.cached
  built-cached = built-stands.cached

  pub built-listed : AllByRecursion IsListed t.cached
  built-listed = subst (λ (u : Tables). AllByRecursion IsListed u.cached) (sym built.built) (items-listed built.items no_tables tt)
