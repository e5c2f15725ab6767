-- What the values of a table whose keys fit are.
use Rattle.std.proofs.Common.{◌≡◌, ℕ, ℤ, pos, negsuc, Bool, true, false, not, ◌&&◌, ◌||◌, cond, nat_le, List, [], ◌∷◌, Option, Some, None, is_none, is_some, codes, refl}
use Rattle.std.proofs.lemmas.Bool.{and_parts}
use Rattle.std.specs.List.{find, list_all}
use Rattle.std.specs.Option.{option_map, option_map_or, option_and_then}
use Rattle.toml.specs.Data.{Data, Members, as_bool, as_str, get_member}
use Rattle.settings_keys.specs.Keys as keys
use Rattle.settings_keys.specs.Keys.{Key}
use Rattle.settings_keys.specs.Values.{flag_at, natural_within, number_at, text_at}

not_some : {A B : Type 0} (f : A → B) (b : Bool) (x : A) (rest : Option A) → option_map f (cond (not b) (Some x) rest) ≡ None
    → (b ≡ true) × (option_map f rest ≡ None)
not_some f true x rest h = (refl, h)
not_some f false x rest h = cc

-- where a walk finds nothing, each key's value fits
pub all_fit : (table : Members) (ks : List Key) → option_map (λ key. key.name) (find (λ key. not (key.fits table)) ks) ≡ None
    → list_all (λ key. key.fits table) ks ≡ true
all_fit table [] h = refl
all_fit table (key ∷ ks) h =
    let parts = not_some (λ key. key.name) (key.fits table) key _ h in
    rw (parts.0, all_fit table ks parts.1) refl

some_there : {A B : Type 0} (f : A → B) (none : Bool) (x : A) (rest : Option A) → option_map f (cond none (Some x) rest) ≡ None
    → (none ≡ false) × (option_map f rest ≡ None)
some_there f true x rest h = cc
some_there f false x rest h = (refl, h)

-- and each required key is there
pub all_there : (table : Members) (ks : List Key)
    → option_map (λ key. key.name) (find (λ key. key.required && is_none (get_member key.name table)) ks) ≡ None
    → list_all (λ key. not (key.required && is_none (get_member key.name table))) ks ≡ true
all_there table [] h = refl
all_there table (key ∷ ks) h =
    let parts = some_there (λ key. key.name) (key.required && is_none (get_member key.name table)) key _ h in
    rw (parts.0, all_there table ks parts.1) refl

text_fits : (test : List ℕ → Bool) (value : Option Data) → option_map_or (keys.is_text test) value true ≡ true → not (is_none value) ≡ true
    → test (option_map_or (λ text. text) (option_and_then as_str value) []) ≡ true
text_fits test None fits there = cc
text_fits test (Some value) fits there = string (as_str value) fits
  where
    string : (text : Option (List ℕ)) → option_map_or test text false ≡ true → test (option_map_or (λ t. t) text []) ≡ true
    string None h = cc
    string (Some text) h = h

-- the string at a required key passes the key's test
pub required_text : (test : List ℕ → Bool) (name : List ℕ) (table : Members) → keys.passes (keys.is_text test) name table ≡ true
    → not (is_none (get_member name table)) ≡ true → test (text_at name [] table) ≡ true
required_text test name table fits there = text_fits test (get_member name table) fits there

optional_fits : (test : List ℕ → Bool) (value : Option Data) → option_map_or (keys.is_text test) value true ≡ true → test [] ≡ true
    → test (option_map_or (λ text. text) (option_and_then as_str value) []) ≡ true
optional_fits test None fits empty = empty
optional_fits test (Some value) fits empty = string (as_str value) fits
  where
    string : (text : Option (List ℕ)) → option_map_or test text false ≡ true → test (option_map_or (λ t. t) text []) ≡ true
    string None h = cc
    string (Some text) h = h

pub optional_text : (test : List ℕ → Bool) (name : List ℕ) (table : Members) → keys.passes (keys.is_text test) name table ≡ true
    → test [] ≡ true → test (text_at name [] table) ≡ true
optional_text test name table fits empty = optional_fits test (get_member name table) fits empty

-- a number is within its range, since another counts as the one that stands for a missing one
within : (low high missing n : ℕ) (b : Bool) → (nat_le low n && nat_le n high) ≡ b → (nat_le low missing && nat_le missing high) ≡ true
    → (nat_le low (cond b n missing) && nat_le (cond b n missing) high) ≡ true
within low high missing n true is m = is
within low high missing n false is m = m

within_number : (low high missing : ℕ) (number : Option ℤ) → (nat_le low missing && nat_le missing high) ≡ true
    → (nat_le low (natural_within low high missing number) && nat_le (natural_within low high missing number) high) ≡ true
within_number low high missing None m = m
within_number low high missing (Some (pos n)) m = within low high missing n _ refl m
within_number low high missing (Some (negsuc n)) m = m

pub number_within : (name : List ℕ) (low high missing : ℕ) (table : Members) → (nat_le low missing && nat_le missing high) ≡ true
    → (nat_le low (number_at name low high missing table) && nat_le (number_at name low high missing table) high) ≡ true
number_within name low high missing table m = within_number low high missing _ m

-- a repository takes releases or snapshots
one_on : (a b : Option Bool) → is_some a ≡ true → is_some b ≡ true → not (option_map_or not a false && option_map_or not b false) ≡ true
    → (option_map_or (λ f. f) a false || option_map_or (λ f. f) b false) ≡ true
one_on None b sa sb h = cc
one_on (Some true) b sa sb h = refl
one_on (Some false) None sa sb h = cc
one_on (Some false) (Some true) sa sb h = refl
one_on (Some false) (Some false) sa sb h = cc

flag_there : (value : Option Data) → option_map_or keys.is_flag value true ≡ true → not (is_none value) ≡ true → is_some (option_and_then as_bool value) ≡ true
flag_there None fits there = cc
flag_there (Some value) fits there = fits

pub flags_on : (table : Members) → keys.releases_fit table ≡ true → keys.passes keys.is_flag (codes "snapshots") table ≡ true
    → not (is_none (get_member (codes "releases") table)) ≡ true → not (is_none (get_member (codes "snapshots") table)) ≡ true
    → (flag_at (codes "releases") table || flag_at (codes "snapshots") table) ≡ true
flags_on table fits fit there there' =
    let parts = and_parts (keys.passes keys.is_flag (codes "releases") table) _ fits in
    one_on (option_and_then as_bool (get_member (codes "releases") table)) (option_and_then as_bool (get_member (codes "snapshots") table))
    (flag_there (get_member (codes "releases") table) parts.0 there)
    (flag_there (get_member (codes "snapshots") table) fit there') parts.1
