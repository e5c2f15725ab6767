-- What stands at a key of a table, and what a wrong or missing value counts as (TOML 1.1).
use Rattle.std.specs.Prelude.{ℕ, ℤ, pos, Bool, false, ◌&&◌, if◌then◌else◌, nat_le, List, [], ◌∷◌, Option, Some, option_and_then}
use Rattle.std.specs.Option.{option_map_or}
use Rattle.std.specs.List.{filter_map}
use Rattle.toml.specs.Data.{Data, Items, no_items, item, Members, no_members, member, as_array, as_bool, as_integer, as_str, as_table, get_member}

-- the items of an array in order, and the keys of a table in the order of their bytes
abbrev pub list_of : Items → List Data
list_of no_items = []
list_of (item value rest) = value ∷ list_of rest

abbrev pub names_of : Members → List (List ℕ)
names_of no_members = []
names_of (member name value rest) = name ∷ names_of rest

-- the items of an array; another value has none
abbrev pub items_in : Data → List Data
items_in value = option_map_or list_of (as_array value) []

abbrev pub items_at : List ℕ → Members → List Data
items_at name table = option_map_or items_in (get_member name table) []

-- the tables of an array of tables, however it is spelled
abbrev pub tables_at : List ℕ → Members → List Members
tables_at name table = filter_map as_table (items_at name table)

-- the strings of an array
abbrev pub texts_in : Data → List (List ℕ)
texts_in value = filter_map as_str (items_in value)

-- the value at a key, or this where it is missing or of another type
abbrev pub text_at : List ℕ → List ℕ → Members → List ℕ
text_at name missing table = option_map_or (λ text. text) (option_and_then as_str (get_member name table)) missing

-- the same of a whole number, which has to be within a range
abbrev pub natural_within : ℕ → ℕ → ℕ → Option ℤ → ℕ
natural_within low high missing (Some (pos n)) = if nat_le low n && nat_le n high then n else missing
natural_within low high missing _ = missing

abbrev pub number_at : List ℕ → ℕ → ℕ → ℕ → Members → ℕ
number_at name low high missing table =
    natural_within low high missing (option_and_then as_integer (get_member name table))

abbrev pub flag_at : List ℕ → Members → Bool
flag_at name table = option_map_or (λ flag. flag) (option_and_then as_bool (get_member name table)) false
