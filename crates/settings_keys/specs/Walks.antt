-- The walks over the tables of settings: the document, then the hosted repositories, the proxies and the groups, each as written.
use Rattle.std.specs.Prelude.{ℕ, List, [], ◌∷◌, Option, None, codes}
use Rattle.std.specs.Option.{option_or}
use Rattle.toml.specs.Data.{Members}
use Rattle.settings_keys.specs.Keys.{missing_in, unfit_in, unknown_in}
use Rattle.settings_keys.specs.Values.{tables_at}
use Rattle.settings_keys.specs.declared.kinds.TableKind.{TableKind}
use Rattle.settings_keys.specs.declared.kinds.TableKind.TheVariants.{Top, Hosted, Proxy, Group}
use Rattle.settings_keys.specs.declared.kinds.Walk.{Walk}
use Rattle.settings_keys.specs.declared.kinds.Walk.TheVariants.{Unknown, Missing, Unfit}

-- the first answer that there is
abbrev pub first_some : {A B : Type 0} → (A → Option B) → List A → Option B
first_some f [] = None
first_some f (x ∷ xs) = option_or (f x) (first_some f xs)

-- the first key of a table that a walk finds fault with
abbrev pub fault_in : Walk → TableKind → Members → Option (List ℕ)
fault_in Unknown kind table = unknown_in kind table
fault_in Missing kind table = missing_in kind table
fault_in Unfit kind table = unfit_in kind table

abbrev pub fault_among : Walk → TableKind → List Members → Option (List ℕ)
fault_among walk kind tables = first_some (fault_in walk kind) tables

abbrev pub first_fault : Walk → Members → Option (List ℕ)
first_fault walk document =
    option_or (fault_in walk Top document)
    (option_or (fault_among walk Hosted (tables_at (codes "hosted") document))
    (option_or (fault_among walk Proxy (tables_at (codes "proxy") document))
    (fault_among walk Group (tables_at (codes "group") document))))
