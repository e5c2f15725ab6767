-- The directories of artifacts: what is among them as rows come, change and go, and a directory that is not.
use Rattle.std.proofs.Common.{◌≡◌, ℕ, Bool, true, false, ◌||◌, List, [], ◌∷◌, Some, None, String, Global, string_bytes, bytes_eq, Less, Equal, Greater, is_eq, refl, sym, ap, ◌∙◌}
use Rattle.std.proofs.lemmas.Bool.{false≢true}
use Rattle.std.proofs.lemmas.Slice.Eq.{bytes_eq-Decides}
use Rattle.std.specs.BTreeSet.{insert_key}
use Rattle.std.specs.List.{list_any}
use Rattle.std.specs.Ordering.{match_ordering}
use Rattle.std.specs.String.{string_cmp}
use Rattle.mvn_coords.specs.Segment.{levels, path_of_levels}
use Rattle.mvn_coords.proofs.Levels.{filled, path_of_levels-levels}
use Rattle.repo_model.specs.Data as plain
use Rattle.ordered_rows.specs.Homes.{has_home, home_above, home_of, AreElsewhere, AreHomed, IsHomed}
use Rattle.ordered_rows.proofs.MapLemmas.{at_text, same_test}

or-true : (b : Bool) → (b || true) ≡ true
or-true true = refl
or-true false = refl

-- what the set answers
pub contained : (home : List ℕ) (ks : List (String Global)) → list_any (at_text home) ks ≡ has_home ks home
contained home [] = refl
contained home (k ∷ ks) = λ i. same_test home (string_bytes k) i || contained home ks i

-- one more directory
kept-key : (test : String Global → Bool) (k : String Global) (ks : List (String Global)) → list_any test ks ≡ true → list_any test (insert_key string_cmp ks k) ≡ true
kept-key test k [] has = absurd (false≢true has)
kept-key test k (x ∷ xs) has =
    elim (string_cmp k x) as (λ o. list_any test (match_ordering o (k ∷ x ∷ xs) (x ∷ xs) (x ∷ insert_key string_cmp xs k)) ≡ true) [
      | Less ↦ ap (λ b. test k || b) has ∙ or-true (test k)
      | Equal ↦ has
      | Greater ↦ elim (test x) as (λ b. (b || list_any test xs) ≡ true → (b || list_any test (insert_key string_cmp xs k)) ≡ true) [ true ↦ λ h. refl | false ↦ λ h. kept-key test k xs h ] has
    ]

new-key : (k : String Global) (ks : List (String Global)) → has_home (insert_key string_cmp ks k) (string_bytes k) ≡ true
new-key k [] = ap (λ b. b || false) ((bytes_eq-Decides (string_bytes k) (string_bytes k)).1 refl)
new-key k (x ∷ xs) =
    elim (string_cmp k x)
    as (λ o. string_cmp k x ≡ o → has_home (match_ordering o (k ∷ x ∷ xs) (x ∷ xs) (x ∷ insert_key string_cmp xs k)) (string_bytes k) ≡ true) [
      | Less ↦ λ h. ap (λ b. b || has_home (x ∷ xs) (string_bytes k)) ((bytes_eq-Decides (string_bytes k) (string_bytes k)).1 refl)
      | Equal ↦ λ h. ap (λ b. b || has_home xs (string_bytes k)) (sym (same_test (string_bytes k) (string_bytes x)) ∙ ap is_eq h)
      | Greater ↦ λ h. ap (λ b. bytes_eq (string_bytes x) (string_bytes k) || b) (new-key k xs) ∙ or-true (bytes_eq (string_bytes x) (string_bytes k))
    ] refl

pub kept : (ks after : List (String Global)) (k : String Global) → after ≡ insert_key string_cmp ks k → (path : List ℕ) → IsHomed ks path → IsHomed after path
kept ks after k made path old home is = ap (λ s. has_home s home) made ∙ kept-key (λ x. bytes_eq (string_bytes x) home) k ks (old home is)

some-same : {A : Type 0} (x y : A) → Some x ≡ Some y → x ≡ y
some-same x y e = cc

pub homed-by : (ks : List (String Global)) (path home : List ℕ) → home_of path ≡ Some home → has_home ks home ≡ true → IsHomed ks path
homed-by ks path home is has other e = ap (has_home ks) (some-same other home (sym e ∙ is)) ∙ has

pub homed-new : (ks after : List (String Global)) (k : String Global) (path home : List ℕ) → home_of path ≡ Some home → string_bytes k ≡ home → after ≡ insert_key string_cmp ks k → IsHomed after path
homed-new ks after k path home is text made = homed-by after path home is (ap (has_home after) (sym text) ∙ ap (λ s. has_home s (string_bytes k)) made ∙ new-key k ks)

-- the same of a row
abbrev pub HomedIn : List (String Global) → plain.Row → Type 0
HomedIn ks row = IsHomed ks row.path

pub homed-kept : (ks after : List (String Global)) → ((path : List ℕ) → IsHomed ks path → IsHomed after path) → (rows : List plain.Row) → AreHomed ks rows → AreHomed after rows
homed-kept ks after more [] all = tt
homed-kept ks after more (row ∷ rows) all = (more row.path all.0, homed-kept ks after more rows all.1)

-- a directory that is not among them
pub elsewhere : (ks : List (String Global)) (home : List ℕ) (rows : List plain.Row) → has_home ks home ≡ false → AreHomed ks rows → AreElsewhere home rows
elsewhere ks home [] none all = tt
elsewhere ks home (row ∷ rows) none all = (λ is. false≢true (sym none ∙ all.0 home is), elsewhere ks home rows none all.1)

pub above-levels : (name version home : List ℕ) → home_above (name ∷ version ∷ levels home) ≡ Some home
above-levels name version home =
    let f = filled home in
    ap (λ ls. home_above (name ∷ version ∷ ls)) f.split ∙ ap (λ ls. Some (path_of_levels ls)) (sym f.split) ∙ ap (λ p. Some p) (path_of_levels-levels home)

-- the text above a path's version directory, by two cuts at a last slash
pub above-none : (path : List ℕ) → levels path ≡ path ∷ [] → None ≡ home_of path
above-none path one = sym (ap home_above one)

pub above-one : (path directory name : List ℕ) → levels path ≡ name ∷ levels directory → levels directory ≡ directory ∷ [] → None ≡ home_of path
above-one path directory name first one = sym (ap home_above (first ∙ ap (λ ls. name ∷ ls) one))

pub above-two : (path directory name home version : List ℕ) → levels path ≡ name ∷ levels directory → levels directory ≡ version ∷ levels home → Some home ≡ home_of path
above-two path directory name home version first second =
    sym (ap home_above (first ∙ ap (λ ls. name ∷ ls) second) ∙ above-levels name version home)
