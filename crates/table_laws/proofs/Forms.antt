-- What an item's form says of its numbers, its moments and its place.
use native.Mathlib.Omega.{arith}
use Rattle.std.proofs.Common.{◌≡◌, ◌≤◌, ◌<◌, ℕ, true, ◌&&◌, nat_lt, nat_le, List, [], ◌∷◌}
use Rattle.std.specs.Prelude.{is_some}
use Rattle.std.specs.List.{AllByRecursion, list_all}
use Rattle.std.proofs.lemmas.Bool.{and_parts, ltb-true, leb-true}
use Rattle.repo_model.specs.declared.item.Item.{Item}
use Rattle.repo_model.specs.declared.item.Item.TheVariants.{HostedPut, Faded, Relisted, Removed, CachedFile, CachedDoc, SessionOpened, SessionEnded, Digested}
use Rattle.repo_model.specs.State.{number_end}
use Rattle.repo_model.specs.History.{latest_moment}
use Rattle.repo_laws.specs.InRange.{IsItemInRange}
use Rattle.row_tables.specs.Items.{is_id, is_file_path, is_number, is_moment, is_print, is_item, is_kept_at, directory_at}

-- a number and a moment of their form
number-so : (n : ℕ) → is_number n ≡ true → (0 < n) × (n < number_end)
number-so n is =
    let parts = and_parts (nat_lt 0 n) (nat_le n 9223372036854775807) is in
    (ltb-true 0 n parts.0, omega (arith, leb-true n 9223372036854775807 parts.1))

moment-so : (n : ℕ) → is_moment n ≡ true → n ≤ latest_moment
moment-so n is = leb-true n 253402207200 is

-- the numbers and the moment of a file's item
file-so : (repo path : List ℕ) (blob accepted : ℕ) (b : _) → (is_id repo && (is_file_path path && (is_number blob && (b && is_moment accepted)))) ≡ true
    → (0 < blob) × (blob < number_end) × (accepted ≤ latest_moment)
file-so repo path blob accepted b is =
    let place = and_parts (is_id repo) (is_file_path path && (is_number blob && (b && is_moment accepted))) is in
    let file = and_parts (is_file_path path) (is_number blob && (b && is_moment accepted)) place.1 in
    let number = and_parts (is_number blob) (b && is_moment accepted) file.1 in
    let so = number-so blob number.0 in
    (so.0, so.1, moment-so accepted (and_parts b (is_moment accepted) number.1).1)

-- an item of its form is in range
pub form-in-range : (item : Item) → is_item item ≡ true → IsItemInRange item
form-in-range (HostedPut repo path blob print accepted) is = file-so repo path blob accepted (is_print print) is
form-in-range (Faded repo path moment) is =
    moment-so moment (and_parts (is_file_path path) (is_moment moment) (and_parts (is_id repo) (is_file_path path && is_moment moment) is).1).1
form-in-range (Relisted repo path accepted) is =
    moment-so accepted (and_parts (is_file_path path) (is_moment accepted) (and_parts (is_id repo) (is_file_path path && is_moment accepted) is).1).1
form-in-range (Removed repo path) is = tt
form-in-range (CachedFile repo path blob print accepted) is = file-so repo path blob accepted (is_print print) is
form-in-range (CachedDoc repo path checked document) is =
    let place = and_parts (is_id repo) (is_some (directory_at path) && (is_moment checked && is_kept_at path document)) is in
    let kept = and_parts (is_some (directory_at path)) (is_moment checked && is_kept_at path document) place.1 in
    moment-so checked (and_parts (is_moment checked) (is_kept_at path document) kept.1).0
form-in-range (SessionOpened session) is = (number-so session is).1
form-in-range (SessionEnded session result) is = tt
form-in-range (Digested repo path further) is = tt

pub forms-in-range : (items : List Item) → list_all is_item items ≡ true → AllByRecursion IsItemInRange items
forms-in-range [] all = tt
forms-in-range (item ∷ items) all =
    let parts = and_parts (is_item item) (list_all is_item items) all in
    (form-in-range item parts.0, forms-in-range items parts.1)
