-- The items of an array, and the list of their values.
use Rattle.std.proofs.Common.{◌≡◌, ℕ, ◌+◌, ◌<◌, suc, Bool, true, false, ◌&&◌, ◌||◌, nat_le, List, [], ◌∷◌, ◌++◌, drop, get_or, length, take, Option, Some, None, is_some, is_none, map, refl, ap, sym, ◌∙◌}
use Rattle.std.proofs.lemmas.Bool.{and_parts}
use Rattle.std.proofs.lemmas.List.{append-nil, drop_more, map-append, take_more}
use Rattle.std.proofs.lemmas.List.Elements.{filter_map-append}
use Rattle.std.proofs.lemmas.List.Folds.{list_all-map}
use Rattle.std.specs.List.{cons_option, filter_map, list_all, list_any}
use Rattle.std.specs.Option.{option_map_or}
use Rattle.toml.specs.Data.{Data, as_array, as_str, as_table}
use Rattle.toml.specs.View.{items_view, view}
use Rattle.toml.specs.declared.value.Value.{Value}
use Rattle.path_patterns.specs.Pattern.{is_pattern}
use Rattle.settings_keys.specs.Keys.{are_tables, are_texts, is_member_list, is_pattern_list, is_text_array}
use Rattle.settings_keys.specs.Ids.{first_twice, is_among, is_id}
use Rattle.settings_keys.specs.Values.{items_in, list_of, texts_in}

pub list_of-view : (values : List Value) → list_of (items_view values) ≡ map view values
list_of-view [] = refl
list_of-view (value ∷ values) = ap (λ rest. view value ∷ rest) (list_of-view values)

one_more : (p : List ℕ → Bool) (text : Option (List ℕ)) (texts : List (List ℕ)) (rest : Bool) → list_all p texts ≡ rest
    → list_all p (cons_option text texts) ≡ (option_map_or p text true && rest)
one_more p None texts rest e = e
one_more p (Some text) texts rest e = ap (λ r. p text && r) e

-- what holds of each string of some items
pub all_texts : (p : List ℕ → Bool) (items : List Value)
    → list_all p (filter_map as_str (map view items)) ≡ list_all (λ item. option_map_or p (as_str (view item)) true) items
all_texts p [] = refl
all_texts p (item ∷ items) = one_more p (as_str (view item)) _ _ (all_texts p items)

one_of : (p : List ℕ → Bool) (text : Option (List ℕ)) (texts : List (List ℕ)) (rest : Bool) → list_any p texts ≡ rest
    → list_any p (cons_option text texts) ≡ (option_map_or p text false || rest)
one_of p None texts rest e = e
one_of p (Some text) texts rest e = ap (λ r. p text || r) e

pub some_text : (p : List ℕ → Bool) (items : List Value)
    → list_any p (filter_map as_str (map view items)) ≡ list_any (λ item. option_map_or p (as_str (view item)) false) items
some_text p [] = refl
some_text p (item ∷ items) = one_of p (as_str (view item)) _ _ (some_text p items)

abbrev pub texts : List Value → List (List ℕ)
texts items = filter_map as_str (map view items)

length-one : (text : Option (List ℕ)) (texts : List (List ℕ)) (n : ℕ) → is_some text ≡ true → length texts ≡ n → length (cons_option text texts) ≡ suc n
length-one None texts n some e = cc
length-one (Some text) texts n some e = ap suc e

-- one item more
pub texts-take : (items : List Value) (i : ℕ) (d : Value) → i < length items
    → texts (take (i + 1) items) ≡ texts (take i items) ++ cons_option (as_str (view (get_or items i d))) []
texts-take items i d h =
    let front = take i items in
    let last = get_or items i d ∷ [] in
    ap texts (take_more items i d h) ∙ ap (filter_map as_str) (map-append view front last)
    ∙ filter_map-append as_str (map view front) (map view last)

pub texts-drop : (items : List Value) (i : ℕ) (d : Value) → i < length items
    → texts (drop i items) ≡ cons_option (as_str (view (get_or items i d))) (texts (drop (i + 1) items))
texts-drop items i d h = ap texts (drop_more items i d h)

-- a text that none before it is, and one that some is
pub first_twice-next : (seen : List (List ℕ)) (text : Option (List ℕ)) (rest : List (List ℕ)) → option_map_or (is_among seen) text false ≡ false
    → first_twice seen (cons_option text rest) ≡ first_twice (seen ++ cons_option text []) rest
first_twice-next seen None rest h = rw (append-nil seen) refl
first_twice-next seen (Some text) rest h = rw h refl

-- one item of a list more is looked at
pub first_twice-more : (items : List Value) (i : ℕ) (x : Value) → i < length items → x ≡ get_or items i x
    → option_map_or (is_among (texts (take i items))) (as_str (view x)) false ≡ false
    → first_twice (texts (take i items)) (texts (drop i items)) ≡ first_twice (texts (take (i + 1) items)) (texts (drop (i + 1) items))
first_twice-more items i x h e new =
    rw (texts-drop items i x h, texts-take items i x h, ← e)
    (first_twice-next (texts (take i items)) (as_str (view x)) (texts (drop (i + 1) items)) new)

-- as many strings as items, where all are strings
pub length-texts : (items : List Value) → list_all (λ item. is_some (as_str item)) (map view items) ≡ true → length (texts items) ≡ length items
length-texts [] h = refl
length-texts (item ∷ items) h =
    let parts = and_parts (is_some (as_str (view item))) _ h in
    length-one (as_str (view item)) _ _ parts.0 (length-texts items parts.1)

pub text_array-view : (value : Data) (items : List Value) → map view items ≡ items_in value
    → is_text_array value ≡ (is_some (as_array value) && list_all (λ item. is_some (as_str (view item))) items)
text_array-view value items e = rw (← e, list_all-map (λ item. is_some (as_str item)) view items) refl

-- the texts of an array of strings
pub texts_in-view : (value : Data) (items : List Value) → map view items ≡ items_in value → texts_in value ≡ texts items
texts_in-view value items e = ap (filter_map as_str) (sym e)

pub count_in-view : (value : Data) (items : List Value) → map view items ≡ items_in value → is_text_array value ≡ true
    → length (texts items) ≡ length items
count_in-view value items e h =
    length-texts items (rw e (and_parts (is_some (as_array value)) _ h).1)

pub pattern_list-view : (value : Data) (items : List Value) → map view items ≡ items_in value → is_text_array value ≡ true
    → are_texts is_pattern_list value
    ≡ (nat_le (length items) 100 && list_all (λ item. option_map_or is_pattern (as_str (view item)) true) items)
pattern_list-view value items e h =
    rw (h, texts_in-view value items e, count_in-view value items e h, all_texts is_pattern items) refl

pub member_list-view : (value : Data) (items : List Value) → map view items ≡ items_in value → is_text_array value ≡ true
    → are_texts is_member_list value
    ≡ (nat_le 1 (length items) && nat_le (length items) 16
    && list_all (λ item. option_map_or is_id (as_str (view item)) true) items && is_none (first_twice [] (texts items)))
member_list-view value items e h =
    rw (h, texts_in-view value items e, count_in-view value items e h, all_texts is_id items) refl

pub table_array-view : (value : Data) (items : List Value) → map view items ≡ items_in value
    → are_tables value ≡ (is_some (as_array value) && list_all (λ item. is_some (as_table (view item))) items)
table_array-view value items e = rw (← e, list_all-map (λ item. is_some (as_table item)) view items) refl
