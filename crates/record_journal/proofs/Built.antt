-- Changes that are applied one after the other build up tables.
use Rattle.std.proofs.Common.{◌≡◌, ℕ, ◌+◌, Bool, true, false, cond, List, [], ◌∷◌, ◌++◌, Ok, Err, sym, ◌∙◌, ap, subst}
use Rattle.repo_model.specs.declared.item.Item.{Item}
use Rattle.repo_model.specs.Tables.{Tables, no_tables, fits_on, item_on, applied_from, applied}
use Rattle.row_tables.specs.Applying.{with_items}
use Rattle.row_tables.specs.Items.{IsChange}
use Rattle.row_tables.specs.Recorded.{IsBuiltUp}
use Rattle.row_tables.proofs.Applied.{with_items-append, recorded_more}

after_items : (p : ℕ) (t u : Tables) (items : List Item) → applied_from p t items ≡ Ok u → u ≡ with_items t items
after_items p t u [] is = cc
after_items p t u (item ∷ items) is = by (after_items (p + 1) (item_on t item) u items) (fits_on t item) is
  where
    by : (applied_from (p + 1) (item_on t item) items ≡ Ok u → u ≡ with_items t (item ∷ items)) → (b : Bool) → cond b (applied_from (p + 1) (item_on t item) items) (Err p) ≡ Ok u → u ≡ with_items t (item ∷ items)
    by go true h = go h
    by go false h = absurd cc

-- a change that fits is recorded after what built them up
pub built_more : (t u : Tables) (items : List Item) → IsChange items → applied t items ≡ Ok u → IsBuiltUp t → IsBuiltUp u
built_more t u items change fits built =
    let after : u ≡ with_items t items = after_items 0 t u items fits in
    let more : u ≡ with_items (with_items no_tables built.items) items = subst (λ v. u ≡ with_items v items) built.built after in
    let fit : applied (with_items no_tables built.items) items ≡ Ok (with_items (with_items no_tables built.items) items) = subst (λ v. applied v items ≡ Ok (with_items v items)) built.built (fits ∙ ap Ok after) in
    record {
      items = built.items ++ items;
      recorded = recorded_more built.items items built.recorded change.form fit;
      built = more ∙ sym (with_items-append no_tables built.items items);
    }
