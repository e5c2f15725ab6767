-- The keys of each table of settings, which of them are required, and which values they take.
use Rattle.std.specs.Prelude.{ℕ, ℤ, pos, Bool, true, false, not, ◌&&◌, ◌||◌, ◌==◌, if◌then◌else◌, nat_eq, nat_le, nat_lt, is_some, is_none, List, [], ◌∷◌, length, Option, Some, None, codes}
use Rattle.std.specs.Char.{is_ascii_alphanumeric}
use Rattle.std.specs.List.{ends_with, find, list_all, list_any}
use Rattle.std.specs.Option.{option_map, option_map_or, option_and_then}
use Rattle.std.specs.Str.{bytes_eq}
use Rattle.toml.specs.Data.{Data, Members, as_array, as_bool, as_integer, as_str, as_table, get_member}
use Rattle.path_patterns.specs.Pattern.{are_patterns}
use Rattle.settings_keys.specs.Values.{items_in, names_of, texts_in}
use Rattle.settings_keys.specs.Ids.{first_twice, is_id}
use Rattle.settings_keys.specs.declared.kinds.TableKind.{TableKind}
use Rattle.settings_keys.specs.declared.kinds.TableKind.TheVariants.{Top, Hosted, Proxy, Group}

-- a whole number of this range
abbrev pub is_within : ℕ → ℕ → Option ℤ → Bool
is_within low high (Some (pos n)) = nat_le low n && nat_le n high
is_within low high _ = false

abbrev pub is_number : ℕ → ℕ → Data → Bool
is_number low high value = is_within low high (as_integer value)

abbrev pub is_flag : Data → Bool
is_flag value = is_some (as_bool value)

abbrev pub is_text : (List ℕ → Bool) → Data → Bool
is_text test value = option_map_or test (as_str value) false

-- an array of strings alone
abbrev pub is_text_array : Data → Bool
is_text_array value = is_some (as_array value) && list_all (λ item. is_some (as_str item)) (items_in value)

-- the same, where the strings pass together
abbrev pub are_texts : (List (List ℕ) → Bool) → Data → Bool
are_texts test value = is_text_array value && test (texts_in value)

-- an array of tables alone
abbrev pub are_tables : Data → Bool
are_tables value = is_some (as_array value) && list_all (λ item. is_some (as_table item)) (items_in value)

-- 1 to 255 letters, digits, `.` and `-`
abbrev pub is_host_byte : ℕ → Bool
is_host_byte b = is_ascii_alphanumeric b || (b == 46) || (b == 45)

abbrev pub is_host : List ℕ → Bool
is_host text = nat_le 1 (length text) && nat_le (length text) 255 && list_all is_host_byte text

-- nothing, or `/` and letters, digits and `. _ ~ / -`, at most 512 bytes, the last one no `/`
abbrev pub is_prefix_byte : ℕ → Bool
is_prefix_byte b = is_host_byte b || (b == 95) || (b == 126) || (b == 47)

abbrev pub is_prefix : List ℕ → Bool
is_prefix [] = true
is_prefix (b ∷ bs) =
    (b == 47) && nat_lt (length bs) 512 && list_all is_prefix_byte bs && not (ends_with nat_eq (b ∷ bs) (codes "/"))

abbrev pub is_update : List ℕ → Bool
is_update text =
    bytes_eq text (codes "always") || bytes_eq text (codes "hourly") || bytes_eq text (codes "daily")
    || bytes_eq text (codes "once") || bytes_eq text (codes "never")

-- at most 100 patterns
abbrev pub is_pattern_list : List (List ℕ) → Bool
is_pattern_list texts = nat_le (length texts) 100 && are_patterns texts

-- 1 to 16 ids, none of them twice
abbrev pub is_member_list : List (List ℕ) → Bool
is_member_list texts =
    nat_le 1 (length texts) && nat_le (length texts) 16 && list_all is_id texts && is_none (first_twice [] texts)

-- a key of a table; `fits` says whether a table's value of it may be; where it has none, it may
pub record Key : Type 0 where
  pub name : List ℕ
  pub required : Bool
  pub fits : Members → Bool

abbrev pub passes : (Data → Bool) → List ℕ → Members → Bool
passes test name table = option_map_or test (get_member name table) true

abbrev pub required : List ℕ → (Data → Bool) → Key
required name test = record { name = name; required = true; fits = passes test name }

abbrev pub optional : List ℕ → (Data → Bool) → Key
optional name test = record { name = name; required = false; fits = passes test name }

abbrev pub is_off : List ℕ → Members → Bool
is_off name table = option_map_or not (option_and_then as_bool (get_member name table)) false

-- a flag, and one of the two is on
abbrev pub releases_fit : Members → Bool
releases_fit table =
    passes is_flag (codes "releases") table && not (is_off (codes "releases") table && is_off (codes "snapshots") table)

-- the keys of a table, in the order of their bytes
abbrev pub keys_of : TableKind → List Key
keys_of Top =
    optional (codes "clean_seconds") (is_number 1 86400)
    ∷ optional (codes "grace_seconds") (is_number 0 31536000)
    ∷ optional (codes "group") are_tables
    ∷ optional (codes "hosted") are_tables
    ∷ optional (codes "max_file") (is_number 1 4294967295)
    ∷ optional (codes "proxy") are_tables
    ∷ []
keys_of Hosted =
    required (codes "id") (is_text is_id)
    ∷ optional (codes "keep_count") (is_number 1 1000)
    ∷ optional (codes "keep_days") (is_number 0 36500)
    ∷ record { name = codes "releases"; required = true; fits = releases_fit }
    ∷ required (codes "snapshots") is_flag
    ∷ []
keys_of Proxy =
    optional (codes "allow") (are_texts is_pattern_list)
    ∷ optional (codes "block") (are_texts is_pattern_list)
    ∷ required (codes "host") (is_text is_host)
    ∷ required (codes "id") (is_text is_id)
    ∷ optional (codes "negative_seconds") (is_number 0 86400)
    ∷ optional (codes "port") (is_number 1 65535)
    ∷ optional (codes "prefix") (is_text is_prefix)
    ∷ optional (codes "update") (is_text is_update)
    ∷ []
keys_of Group =
    required (codes "id") (is_text is_id)
    ∷ required (codes "members") (are_texts is_member_list)
    ∷ []

-- the first name in a table that is no key of it
abbrev pub is_known : TableKind → List ℕ → Bool
is_known kind name = list_any (λ key. bytes_eq name key.name) (keys_of kind)

abbrev pub unknown_in : TableKind → Members → Option (List ℕ)
unknown_in kind table = find (λ name. not (is_known kind name)) (names_of table)

-- the first required key that a table lacks
abbrev pub missing_in : TableKind → Members → Option (List ℕ)
missing_in kind table =
    option_map (λ key. key.name) (find (λ key. key.required && is_none (get_member key.name table)) (keys_of kind))

-- the first of two keys that a table lacks
abbrev pub first_missing : List ℕ → List ℕ → Members → Option (List ℕ)
first_missing first second table =
    if is_none (get_member first table) then Some first
    else (if is_none (get_member second table) then Some second else None)

-- the first key whose value in a table does not fit
abbrev pub unfit_in : TableKind → Members → Option (List ℕ)
unfit_in kind table = option_map (λ key. key.name) (find (λ key. not (key.fits table)) (keys_of kind))
