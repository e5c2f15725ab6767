-- Items that fit tables one after another, and the first and the last of them.
use Rattle.std.proofs.Common.{◌≡◌, ℕ, ◌+◌, true, false, cond, List, [], ◌∷◌, ◌++◌, Ok, Err, refl, sym, ap, ◌∙◌, subst}
use Rattle.std.specs.Prelude.{IsTrue}
use Rattle.std.specs.List.{list_all}
use Rattle.repo_model.specs.declared.item.Item.{Item}
use Rattle.repo_model.specs.Tables.{Tables, applied, applied_from, fits_on, item_on, no_tables}
use Rattle.row_tables.specs.Applying.{with_items}
use Rattle.row_tables.specs.Items.{is_item}
use Rattle.row_tables.specs.Recorded.{IsBuiltUp}
use Rattle.row_tables.proofs.Applied.{with_items-append, recorded_more}

abbrev pub AllFit : Tables → List Item → Type 0
AllFit t [] = Unit {0}
AllFit t (item ∷ items) = IsTrue (fits_on t item) × AllFit (item_on t item) items

pub fit-applied : (items : List Item) (place : ℕ) (t : Tables) → AllFit t items → applied_from place t items ≡ Ok (with_items t items)
fit-applied [] place t all = refl
fit-applied (item ∷ items) place t all =
    ap (λ b. cond b (applied_from (place + 1) (item_on t item) items) (Err place)) all.0 ∙ fit-applied items (place + 1) (item_on t item) all.1

pub applied-fit : (items : List Item) (place : ℕ) (t new : Tables) → applied_from place t items ≡ Ok new → AllFit t items
applied-fit [] place t new is = tt
applied-fit (item ∷ items) place t new is =
    elim (fits_on t item) as (λ b. fits_on t item ≡ b → cond b (applied_from (place + 1) (item_on t item) items) (Err place) ≡ Ok new → AllFit t (item ∷ items)) [
      | true ↦ λ fits later. (fits, applied-fit items (place + 1) (item_on t item) new later)
      | false ↦ λ misfit here. absurd (let e : Err place ≡ Ok new = here in cc)
    ] refl is

pub fit-first : (items more : List Item) (t : Tables) → AllFit t (items ++ more) → AllFit t items
fit-first [] more t all = tt
fit-first (item ∷ items) more t all = (all.0, fit-first items more (item_on t item) all.1)

pub fit-rest : (items more : List Item) (t : Tables) → AllFit t (items ++ more) → AllFit (with_items t items) more
fit-rest [] more t all = all
fit-rest (item ∷ items) more t all = fit-rest items more (item_on t item) all.1

-- tables with items that fit are built up
pub built-more : (t : Tables) (items : List Item) → list_all is_item items ≡ true → AllFit t items → IsBuiltUp t → IsBuiltUp (with_items t items)
built-more t items form fit built =
    let fits : applied (with_items no_tables built.items) items ≡ Ok (with_items (with_items no_tables built.items) items) =
    subst (λ v. applied v items ≡ Ok (with_items v items)) built.built (fit-applied items 0 t fit) in
    record {
      items = built.items ++ items;
      recorded = recorded_more built.items items built.recorded form fits;
      built = ap (λ v. with_items v items) built.built ∙ sym (with_items-append no_tables built.items items);
    }
