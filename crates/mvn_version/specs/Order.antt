-- The order of versions: their keys as words of a dictionary (Maven, POM reference, "Version Order Specification").
use Rattle.std.specs.Prelude.{ℕ, List, [], ◌∷◌, ◌++◌}
use Rattle.std.specs.Cmp.Lexicographic.{slice_cmp}
use Rattle.std.specs.Ordering.{nat_cmp, ordering_then}
use Rattle.std.specs.declared.cmp.Ordering.{Ordering}
use Rattle.mvn_version.specs.Key.{key}

-- the element that stands where a key has ended
abbrev pub end_mark : List ℕ
end_mark = 6 ∷ 0 ∷ []

abbrev pub ended : List (List ℕ) → List (List ℕ)
ended k = k ++ end_mark ∷ []

abbrev pub key_cmp : List (List ℕ) → List (List ℕ) → Ordering
key_cmp j k = slice_cmp (slice_cmp nat_cmp) (ended j) (ended k)

abbrev pub version_cmp : List ℕ → List ℕ → Ordering
version_cmp v w = key_cmp (key v) (key w)

-- the order in lists of versions: by their keys, and where these are equal by their bytes
abbrev pub list_cmp : List ℕ → List ℕ → Ordering
list_cmp v w = ordering_then (version_cmp v w) (slice_cmp nat_cmp v w)
