-- What a crash leaves of a store that tells its blobs, at each moment of its calls.
use Rattle.std.specs.Prelude.{◌≡◌, ◌⊎◌, ℕ, false, List, [], ◌∷◌, ◌++◌, Some, IfSome}
use Rattle.std.specs.List.{flat_map, fold}
use Rattle.std.specs.Option.{ForSome}
use Rattle.outside.specs.Blobs.{Shelf, bytes_at, sealed, standing_at, without_blob, without_bytes}
use Rattle.repo_model.specs.State.{is_among}

-- what a call does to the blobs: nothing, as each that only looks and each that fails; or that of a number is begun, stored or removed
pub data StoreCall : Type 0 where
  looks : StoreCall
  begins : (n : ℕ) → StoreCall
  stores : (n : ℕ) (bytes : List ℕ) → StoreCall
  removes : (n : ℕ) → StoreCall

abbrev pub with_call : Shelf → StoreCall → Shelf
with_call shelf looks = shelf
with_call shelf (begins n) = without_bytes n shelf
with_call shelf (stores n bytes) = sealed n (Some bytes) shelf
with_call shelf (removes n) = without_blob n shelf

-- what the store tells after some calls
abbrev pub with_calls : Shelf → List StoreCall → Shelf
with_calls shelf calls = fold with_call shelf calls

-- a call did this, or it failed and did nothing
abbrev pub MayHaveDone : StoreCall → Shelf → Shelf → Type 0
MayHaveDone call old new = (new ≡ with_call old call) ⊎ (new ≡ old)

-- the numbers that calls begin, store or remove a blob of
abbrev pub number_of : StoreCall → List ℕ
number_of looks = []
number_of (begins n) = n ∷ []
number_of (stores n bytes) = n ∷ []
number_of (removes n) = n ∷ []

abbrev pub numbers_changed : List StoreCall → List ℕ
numbers_changed calls = flat_map number_of calls

-- What a crash leaves at a moment of a call that finds the first shelf and leaves the second one: under each number what stood there before
-- the call, or what stands after it, and nothing else. Between calls the two are one. Under the numbers in `gone` anything may be found,
-- since that a blob is gone need not be kept.
abbrev pub IsLeftOfStore : List ℕ → Shelf → Shelf → Shelf → Type 0
IsLeftOfStore gone before behind found =
    IfSome found.blobs (λ them. ForSome before.blobs (λ old. ForSome behind.blobs (λ new. (n : ℕ) → is_among n gone ≡ false
    → (bytes_at n them ≡ bytes_at n old) ⊎ (bytes_at n them ≡ bytes_at n new))))

-- These bytes were acknowledged under a number: they stood there as some calls began, or once one of them had returned; and none since, nor
-- the one that is under way, begins, stores or removes a blob of it.
abbrev pub StaysStored : Shelf → List StoreCall → StoreCall → ℕ → List ℕ → Type 0
StaysStored shelf calls now n bytes =
    (first later : List StoreCall) × (calls ≡ first ++ later) × (standing_at n (with_calls shelf first) ≡ Some bytes)
    × (is_among n (numbers_changed (later ++ now ∷ [])) ≡ false)

-- so was each blob of the second shelf, but those of the numbers in `gone`
abbrev pub AllStayStored : List ℕ → Shelf → Shelf → List StoreCall → StoreCall → Type 0
AllStayStored gone acknowledged shelf calls now =
    (n : ℕ) (bytes : List ℕ) → is_among n gone ≡ false → standing_at n acknowledged ≡ Some bytes → StaysStored shelf calls now n bytes
