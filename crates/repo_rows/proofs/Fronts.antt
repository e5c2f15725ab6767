-- The front of a list of items.
use Rattle.std.proofs.Common.{ℕ, zero, suc, ◌&&◌, IsTrue, List, [], ◌∷◌, take, refl}
use Rattle.std.specs.List.{list_all}
use Rattle.repo_model.specs.declared.item.Item.{Item}
use Rattle.row_tables.specs.Items.{is_item}
use Rattle.repo_rows.proofs.Ascii.{both}

pub all_front : (n : ℕ) (items : List Item) → IsTrue (list_all is_item items) → IsTrue (list_all is_item (take n items))
all_front zero items all = refl
all_front (suc n) [] all = refl
all_front (suc n) (item ∷ items) all =
    let parts = both (is_item item) (list_all is_item items) all in
    λ i. parts.0 i && all_front n items parts.1 i
