-- Changes within the bytes that are looked at.
use Rattle.std.proofs.Common.{◌≡◌, ℕ, ◌+◌, ◌-◌, ◌^◌, ◌<◌, ◌≤◌, min, inl, inr, List, [], ◌∷◌, ◌++◌, length, take, drop, Result, Ok, Err, refl, sym, ap, ◌∙◌, append_assoc, arith, length-append, length-take}
use Rattle.std.specs.List.{flat_map}
use Rattle.std.proofs.lemmas.Bool.{cases_lt}
use Rattle.std.specs.Int.{w32, to_be_bytes}
use Rattle.std.proofs.lemmas.List.{take_at, take_all, take-append-drop}
use Rattle.std.proofs.Math.Seq.{take-append-add}
use Rattle.repo_model.specs.declared.item.Item.{Item}
use Rattle.repo_model.specs.declared.item.Item.TheVariants.{HostedPut, Faded, Relisted, Removed, CachedFile, CachedDoc, SessionOpened, SessionEnded, Digested}
use Rattle.row_tables.specs.Items.{IsChange, item_bytes, change_bytes, change_of}
use Rattle.row_tables.specs.declared.version.Version.{Version}
use Rattle.repo_rows.specs.Laws.{ReadsAgain, WasWritten}
use Rattle.row_tables.specs.Reading.{change_at, placed, taken}
use Rattle.repo_rows.proofs.FieldLaws.{IsBytes, IsBytes-take}
use Rattle.repo_rows.proofs.ItemLaws.{change_takes, change_again}

-- each item has a byte at least
some_byte : (item : Item) → 0 < length (item_bytes item)
some_byte (HostedPut repo path blob print accepted) = omega arith
some_byte (Faded repo path moment) = omega arith
some_byte (Relisted repo path accepted) = omega arith
some_byte (Removed repo path) = omega arith
some_byte (CachedFile repo path blob print accepted) = omega arith
some_byte (CachedDoc repo path checked document) = omega arith
some_byte (SessionOpened number) = omega arith
some_byte (SessionEnded session result) = omega arith
some_byte (Digested repo path further) = omega arith

few_items : (items : List Item) → length items ≤ length (flat_map item_bytes items)
few_items [] = omega arith
few_items (item ∷ items) = omega (arith, some_byte item, few_items items, length-append (item_bytes item) (flat_map item_bytes items))

pub size_of_change : (items : List Item) → length (change_bytes items) ≡ 5 + length (flat_map item_bytes items)
size_of_change items = omega (arith, length-append (to_be_bytes w32 (length items)) (flat_map item_bytes items))

pub few : (items : List Item) → length (change_bytes items) < 2 ^ 32 → length items < 2 ^ 32
few items small = omega (arith, small, size_of_change items, few_items items)

-- in each version a change has as many bytes
pub size_of : (version : Version) (items : List Item) → length (change_of version items) ≡ length (change_bytes items)
size_of version items = refl

-- the front of what is looked at
looked_at : (front rest : List ℕ) (n : ℕ) → length front ≤ n → take n (front ++ rest) ≡ front ++ take (n - length front) rest
looked_at front rest n fits =
    let e : n ≡ length front + (n - length front) = omega (arith, fits) in
    ap (λ k. take k (front ++ rest)) e ∙ take-append-add front rest (n - length front)

pub again : ReadsAgain
again version items rest is so =
    let front = change_of version items in
    let more = take (4294967295 - length front) rest in
    let short : length front < 2 ^ 32 = omega (arith, size_of version items, is.size) in
    let seen : take 4294967295 (front ++ rest) ≡ front ++ more = looked_at front rest 4294967295 (omega (arith, short)) in
    let read : change_at (front ++ more) ≡ Ok (items, more) = change_again version items more is.form so (few items is.size) in
    let size : length (front ++ more) - length more ≡ length front = omega (arith, length-append front more) in
    ap (λ l. placed (length l) (change_at l)) seen ∙ ap (placed (length (front ++ more))) read ∙ ap (λ n. Ok (items, n)) size

placed_ok : (seen : ℕ) (r : Result (List Item × List ℕ) ℕ) (items : List Item) (size : ℕ) → placed seen r ≡ Ok (items, size) → (rest : List ℕ) × (r ≡ Ok (items, rest)) × (size ≡ seen - length rest)
placed_ok seen (Err left) items size is = absurd cc
placed_ok seen (Ok x) items size is =
    let same : (x.0, seen - length x.1) ≡ (items, size) = cc in
    (x.1, ap (λ (y : List Item × ℕ). Ok (y.0, x.1)) same, sym (ap (λ (y : List Item × ℕ). y.1) same))

pub was_written : WasWritten
was_written bytes items size are is =
    let seen = take 4294967295 bytes in
    let p = placed_ok (length seen) (change_at seen) items size is in
    let t = change_takes seen (items, p.0) (IsBytes-take 4294967295 bytes are) p.1 in
    let front = change_of t.version items in
    let long : length seen ≡ length front + length p.0 = omega (arith, ap length t.parts, length-append front p.0) in
    let at : size ≡ length front = omega (arith, p.2, long) in
    let small : length (change_bytes items) < 2 ^ 32 = omega (arith, long, size_of t.version items, length-take 4294967295 bytes) in
    let whole : bytes ≡ front ++ (p.0 ++ drop 4294967295 bytes) = sym (take-append-drop 4294967295 bytes) ∙ ap (λ l. l ++ drop 4294967295 bytes) t.parts ∙ append_assoc front p.0 (drop 4294967295 bytes) in
    (record { form = t.fits; size = small }, t.version, t.of_version, ap (take size) whole ∙ take_at front (p.0 ++ drop 4294967295 bytes) size (sym at), at)

-- what is looked at, as the code cuts it
pub looked : (bytes : List ℕ) (most : ℕ) → take (min (length bytes) most) bytes ≡ take most bytes
looked bytes most = elim (cases_lt (length bytes) most) [
  | inl less ↦ let e : min (length bytes) most ≡ length bytes = omega (arith, less) in ap (λ k. take k bytes) e ∙ take_all (length bytes) bytes (omega arith) ∙ sym (take_all most bytes (omega (arith, less)))
  | inr le ↦ let e : min (length bytes) most ≡ most = omega (arith, le) in ap (λ k. take k bytes) e
]

taken_is : (bytes : List ℕ) (m : ℕ) (r : Result (List Item × List ℕ) ℕ) → m ≡ min (length bytes) 4294967295 → change_at (take m bytes) ≡ r → taken bytes ≡ placed (length (take m bytes)) r
taken_is bytes m r is read =
    let same : take 4294967295 bytes ≡ take m bytes = sym (ap (λ k. take k bytes) is ∙ looked bytes 4294967295) in
    ap (λ l. placed (length l) (change_at l)) same ∙ ap (placed (length (take m bytes))) read

pub take_ok : (bytes : List ℕ) (m : ℕ) (items made : List Item) (rest : List ℕ) (n : ℕ) → m ≡ min (length bytes) 4294967295 → change_at (take m bytes) ≡ Ok (items, rest) → made ≡ items → n ≡ length (take m bytes) - length rest → taken bytes ≡ Ok (made, n)
take_ok bytes m items made rest n is read same size = taken_is bytes m (Ok (items, rest)) is read ∙ (λ i. Ok (sym same i, sym size i))

pub take_err : (bytes : List ℕ) (m left n : ℕ) → m ≡ min (length bytes) 4294967295 → change_at (take m bytes) ≡ Err left → n ≡ length (take m bytes) - left → taken bytes ≡ Err n
take_err bytes m left n is read at = taken_is bytes m (Err left) is read ∙ ap Err (sym at)

pub is_change : (bytes : List ℕ) (m : ℕ) (items : List Item) (rest : List ℕ) → IsBytes bytes → m ≡ min (length bytes) 4294967295 → change_at (take m bytes) ≡ Ok (items, rest) → IsChange items
is_change bytes m items rest are is read = (was_written bytes items _ are (taken_is bytes m (Ok (items, rest)) is read)).0
