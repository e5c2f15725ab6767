-- Places of blob numbers, as a list in rising order of number.
use Rattle.std.specs.Prelude.{◌≡◌, ℕ, ◌<◌, Bool, true, false, not, ◌&&◌, ◌==◌, if◌then◌else◌, List, [], ◌∷◌, map, filter, nat_eq}
use Rattle.std.specs.List.{list_any}
use Rattle.std.specs.Map.{lookup}
use Rattle.std.specs.Option.{option_map_or}
use Rattle.blob_yard.specs.declared.places.Place.{Place}
use Rattle.blob_yard.specs.declared.places.Stand.{Stand}
use Rattle.blob_yard.specs.declared.places.Stand.TheVariants.{Draft, Kept, Condemned}

abbrev pub is_draft : Stand → Bool
is_draft Draft = true
is_draft Kept = false
is_draft Condemned = false

abbrev pub is_kept : Stand → Bool
is_kept Draft = false
is_kept Kept = true
is_kept Condemned = false

abbrev pub is_condemned : Stand → Bool
is_condemned Draft = false
is_condemned Kept = false
is_condemned Condemned = true

-- the numbers that stand so
abbrev pub numbers_of : (Stand → Bool) → List (ℕ × Place) → List ℕ
numbers_of test places = map (λ e. e.0) (filter (λ e. test e.1.stand) places)

-- the place of a number is changed
abbrev pub changed : ℕ → (Place → Place) → List (ℕ × Place) → List (ℕ × Place)
changed n f places = map (λ e. if n == e.0 then (e.0, f e.1) else e) places

-- all keys are below a number
abbrev pub AreBelow : {X : Type 0} → ℕ → List (ℕ × X) → Type 0
AreBelow n [] = Unit {0}
AreBelow n (e ∷ es) = (e.0 < n) × AreBelow n es

abbrev pub AreAbove : {X : Type 0} → ℕ → List (ℕ × X) → Type 0
AreAbove n [] = Unit {0}
AreAbove n (e ∷ es) = (n < e.0) × AreAbove n es

-- keys rise
abbrev pub AreRising : {X : Type 0} → List (ℕ × X) → Type 0
AreRising [] = Unit {0}
AreRising (e ∷ es) = AreAbove e.0 es × AreRising es

-- how many leases a number has
abbrev pub leases_at : ℕ → List (ℕ × Place) → ℕ
leases_at n places = option_map_or (λ p. p.leases) (lookup (nat_eq n) places) 0

-- garbage that nobody has borrowed
abbrev pub is_garbage : Place → Bool
is_garbage p = is_condemned p.stand && (p.leases == 0)

abbrev pub garbage_of : List (ℕ × Place) → List ℕ
garbage_of places = map (λ e. e.0) (filter (λ e. is_garbage e.1) places)

-- all numbers are in use and none is lent
abbrev pub AreKept : List (ℕ × Place) → Type 0
AreKept [] = Unit {0}
AreKept (e ∷ es) = (e.1 ≡ record { stand = Kept; leases = 0 }) × AreKept es

-- the places of all but some numbers
abbrev pub without : List ℕ → List (ℕ × Place) → List (ℕ × Place)
without ns places = filter (λ e. not (list_any (λ n. n == e.0) ns)) places
