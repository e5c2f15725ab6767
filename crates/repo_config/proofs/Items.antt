-- The items of an array, up to one more.
use Rattle.std.proofs.Common.{◌≡◌, ℕ, ◌+◌, ◌<◌, List, [], ◌∷◌, ◌++◌, get_or, length, take, Option, map, ap, sym, ◌∙◌}
use Rattle.std.proofs.lemmas.List.{map-append, take_more}
use Rattle.std.proofs.lemmas.List.Elements.{filter_map-append}
use Rattle.std.specs.List.{filter_map}
use Rattle.toml.specs.Data.{Data}
use Rattle.toml.specs.View.{view}
use Rattle.toml.specs.declared.value.Value.{Value}

-- what is kept of the items up to one more
pub kept_more : {X R : Type 0} (h : Data → Option X) (g : List X → List R) → ((xs ys : List X) → g (xs ++ ys) ≡ g xs ++ g ys)
    → (items : List Value) (i : ℕ) (x : Value) (old new : List R) → i < length items → x ≡ get_or items i x
    → old ≡ g (filter_map h (map view (take i items))) → new ≡ old ++ g (filter_map h (view x ∷ []))
    → new ≡ g (filter_map h (map view (take (i + 1) items)))
kept_more h g both items i x old new lt is before after =
    let front = take i items in
    let taken : take (i + 1) items ≡ front ++ x ∷ [] = take_more items i x lt ∙ ap (λ y. front ++ y ∷ []) (sym is) in
    after
    ∙ ap (λ rest. rest ++ g (filter_map h (view x ∷ []))) before
    ∙ sym (both (filter_map h (map view front)) (filter_map h (view x ∷ [])))
    ∙ ap g (sym (filter_map-append h (map view front) (view x ∷ [])))
    ∙ ap (λ values. g (filter_map h values)) (sym (map-append view front (x ∷ [])))
    ∙ ap (λ taken. g (filter_map h (map view taken))) (sym taken)
