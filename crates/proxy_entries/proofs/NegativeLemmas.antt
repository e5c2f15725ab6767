-- Negative entries in the entries of an ordered map.
use Rattle.std.proofs.Common.{◌≡◌, ℕ, Bool, true, false, cond, not, List, [], ◌∷◌, Option, Some, None, option_map, String, Global, string_bytes, Ordering, Less, Equal, Greater, is_eq, nat_cmp, refl, sym, ◌∙◌, ap, subst, bytes_eq}
use Rattle.std.proofs.lemmas.Cmp.{nat_list_cmp_total}
use Rattle.std.proofs.lemmas.Slice.Eq.{bytes_eq-Decides}
use Rattle.std.proofs.lemmas.Bool.{false≢true}
use Rattle.std.proofs.lemmas.List.{length-map}
use Rattle.std.specs.Prelude.{find, is_some, length}
use Rattle.std.specs.Cmp.Lexicographic.{slice_cmp}
use Rattle.std.specs.List.{AllByRecursion}
use Rattle.std.specs.List.Sorted.{IsStrictlySortedBy}
use Rattle.std.specs.Ordering.{match_ordering}
use Rattle.std.specs.Map.{keys_of, lookup, remove_entry}
use Rattle.std.specs.BTreeMap.{insert_entry}
use Rattle.std.specs.String.{string_cmp}
use Rattle.repo_model.specs.Data.{NegativeEntry}
use Rattle.repo_model.specs.Effect.{insert_negative, without_negative}
use Rattle.repo_model.specs.State.{is_negative_of}
use Rattle.proxy_entries.proofs.KeyLemmas.{at_path, at_text, same_test}
use Rattle.proxy_entries.specs.Stored.{negative_entry, shown_negative, shown_negatives}

abbrev cmp : List ℕ → List ℕ → Ordering
cmp a b = slice_cmp nat_cmp a b

-- all negative entries come after a path; each negative entry comes after all before it
abbrev pub AreAfter : List ℕ → List NegativeEntry → Type 0
AreAfter path negatives = AllByRecursion (λ (m : NegativeEntry). cmp path m.path ≡ Less) negatives

abbrev pub AreRising : List NegativeEntry → Type 0
AreRising [] = Unit {0}
AreRising (m ∷ negatives) = AreAfter m.path negatives × AreRising negatives

after-shown : (k : String Global) (es : List (String Global × ℕ)) → AllByRecursion (λ y. string_cmp k y ≡ Less) (keys_of es) → AreAfter (string_bytes k) (shown_negatives es)
after-shown k [] h = tt
after-shown k (e ∷ es) h = (h.0, after-shown k es h.1)

pub rising-shown : (es : List (String Global × ℕ)) → IsStrictlySortedBy string_cmp (keys_of es) → AreRising (shown_negatives es)
unfolding IsStrictlySortedBy
rising-shown [] h = tt
rising-shown (e ∷ es) h = (after-shown e.0 es h.0, rising-shown es h.1)

-- what comes after a later path comes after an earlier one
after-later : (a b : List ℕ) (negatives : List NegativeEntry) → cmp a b ≡ Less → AreAfter b negatives → AreAfter a negatives
after-later a b [] h all = tt
after-later a b (m ∷ negatives) h all = (nat_list_cmp_total.trans a b m.path h all.0, after-later a b negatives h all.1)

after-without : (a path : List ℕ) (negatives : List NegativeEntry) → AreAfter a negatives → AreAfter a (without_negative path negatives)
after-without a path [] all = tt
after-without a path (m ∷ negatives) all =
    elim (is_negative_of path m) as (λ b. AreAfter a (cond (not b) (m ∷ without_negative path negatives) (without_negative path negatives))) [
      | true ↦ after-without a path negatives all.1
      | false ↦ (all.0, after-without a path negatives all.1)
    ]

-- a path that comes before all negative entries is none of theirs, and its negative entry stands in front
apart : (path : List ℕ) (negatives : List NegativeEntry) → AreAfter path negatives → without_negative path negatives ≡ negatives
apart path [] h = refl
apart path (m ∷ negatives) h =
    ap (λ b. cond (not b) (m ∷ without_negative path negatives) (without_negative path negatives)) (sym (same_test path m.path) ∙ ap is_eq h.0)
    ∙ ap (λ r. m ∷ r) (apart path negatives h.1)

in_front : (new : NegativeEntry) (negatives : List NegativeEntry) → AreAfter new.path negatives → insert_negative new negatives ≡ new ∷ negatives
in_front new [] h = refl
in_front new (m ∷ negatives) h = ap (λ o. match_ordering o (new ∷ m ∷ negatives) (new ∷ m ∷ negatives) (m ∷ insert_negative new negatives)) h.0

-- what the map has at a path
pub found : (path : List ℕ) (es : List (String Global × ℕ)) → option_map (shown_negative path) (lookup (at_text path) es) ≡ find (is_negative_of path) (shown_negatives es)
found path [] = refl
found path (e ∷ es) =
    ap (λ b. option_map (shown_negative path) (cond b (Some e.1) (lookup (at_text path) es))) (same_test path (string_bytes e.0))
    ∙ elim (bytes_eq (string_bytes e.0) path)
    as (λ b. bytes_eq (string_bytes e.0) path ≡ b → option_map (shown_negative path) (cond b (Some e.1) (lookup (at_text path) es)) ≡ cond b (Some (negative_entry e)) (find (is_negative_of path) (shown_negatives es))) [
      | true ↦ λ is. ap (λ p. Some (shown_negative p e.1)) (sym ((bytes_eq-Decides (string_bytes e.0) path).0 is))
      | false ↦ λ is. found path es
    ] refl

-- a negative entry is written
pub written : (k : String Global) (v : ℕ) (es : List (String Global × ℕ)) → IsStrictlySortedBy string_cmp (keys_of es)
    → shown_negatives (insert_entry string_cmp es k v) ≡ insert_negative (shown_negative (string_bytes k) v) (without_negative (string_bytes k) (shown_negatives es))
unfolding IsStrictlySortedBy
written k v [] sorted = refl
written k v (e ∷ es) sorted =
    let path = string_bytes k in
    let new = shown_negative path v in
    let m = negative_entry e in
    let negatives = shown_negatives es in
    let rest = without_negative path negatives in
    let after : AreAfter m.path negatives = after-shown e.0 es sorted.0 in
    let test : (o : Ordering) → cmp path m.path ≡ o → is_negative_of path m ≡ is_eq o = λ o h. sym (same_test path m.path) ∙ ap is_eq h in
    elim (cmp path m.path)
    as (λ o. cmp path m.path ≡ o
    → shown_negatives (match_ordering o ((k, v) ∷ e ∷ es) ((e.0, v) ∷ es) (e ∷ insert_entry string_cmp es k v))
    ≡ insert_negative new (cond (not (is_negative_of path m)) (m ∷ rest) rest)) [
      | Less ↦ λ h.
          let all : AreAfter path (m ∷ negatives) = (h, after-later path m.path negatives h after) in
          sym (ap (insert_negative new) (apart path (m ∷ negatives) all) ∙ in_front new (m ∷ negatives) all)
      | Equal ↦ λ h.
          let same = at_path path m.path h in
          let all : AreAfter path negatives = subst (λ p. AreAfter p negatives) same after in
          ap (λ p. shown_negative p v ∷ negatives) same
          ∙ sym (ap (λ b. insert_negative new (cond (not b) (m ∷ rest) rest)) (test Equal h) ∙ ap (insert_negative new) (apart path negatives all) ∙ in_front new negatives all)
      | Greater ↦ λ h.
          ap (λ r. m ∷ r) (written k v es sorted.1)
          ∙ sym (ap (λ b. insert_negative new (cond (not b) (m ∷ rest) rest)) (test Greater h) ∙ ap (λ o. match_ordering o (new ∷ m ∷ rest) (new ∷ m ∷ rest) (m ∷ insert_negative new rest)) h)
    ] refl

-- the negative entry of a path is taken out
pub removed : (path : List ℕ) (es : List (String Global × ℕ)) → IsStrictlySortedBy string_cmp (keys_of es) → shown_negatives (remove_entry (at_text path) es) ≡ without_negative path (shown_negatives es)
unfolding IsStrictlySortedBy
removed path [] sorted = refl
removed path (e ∷ es) sorted =
    let test = same_test path (string_bytes e.0) in
    let rest : List NegativeEntry = without_negative path (shown_negatives es) in
    elim (bytes_eq (string_bytes e.0) path)
    as (λ b. bytes_eq (string_bytes e.0) path ≡ b → shown_negatives (remove_entry (at_text path) (e ∷ es)) ≡ cond (not b) (negative_entry e ∷ rest) rest) [
      | true ↦ λ here.
          let path_is : string_bytes e.0 ≡ path = (bytes_eq-Decides (string_bytes e.0) path).0 here in
          ap (λ b. shown_negatives (cond b es (e ∷ remove_entry (at_text path) es))) (test ∙ here)
          ∙ sym (apart path (shown_negatives es) (subst (λ p. AreAfter p (shown_negatives es)) path_is (after-shown e.0 es sorted.0)))
      | false ↦ λ there.
          ap (λ b. shown_negatives (cond b es (e ∷ remove_entry (at_text path) es))) (test ∙ there)
          ∙ ap (λ r. negative_entry e ∷ r) (removed path es sorted.1)
    ] refl

-- a negative entry is written, and then that of another path is taken out; or the other way round
pub other-first : (new : NegativeEntry) (path : List ℕ) (negatives : List NegativeEntry) → AreRising negatives → bytes_eq new.path path ≡ false
    → without_negative path (insert_negative new negatives) ≡ insert_negative new (without_negative path negatives)
other-first new path [] up other = ap (λ b. cond (not b) (new ∷ []) []) other
other-first new path (m ∷ negatives) up other =
    let rest = without_negative path negatives in
    let some : Bool → List NegativeEntry = λ b. cond (not b) (m ∷ rest) rest in
    let first : (ms : List NegativeEntry) → without_negative path (new ∷ ms) ≡ new ∷ without_negative path ms = λ ms. ap (λ b. cond (not b) (new ∷ without_negative path ms) (without_negative path ms)) other in
    elim (cmp new.path m.path)
    as (λ o. cmp new.path m.path ≡ o
    → without_negative path (match_ordering o (new ∷ m ∷ negatives) (new ∷ m ∷ negatives) (m ∷ insert_negative new negatives)) ≡ insert_negative new (some (is_negative_of path m))) [
      | Less ↦ λ h.
          let all : AreAfter new.path (m ∷ negatives) = (h, after-later new.path m.path negatives h up.0) in
          first (m ∷ negatives) ∙ sym (in_front new (without_negative path (m ∷ negatives)) (after-without new.path path (m ∷ negatives) all))
      | Equal ↦ λ h.
          let stays : is_negative_of path m ≡ false = ap (λ p. bytes_eq p path) (at_path new.path m.path h) ∙ other in
          first (m ∷ negatives)
          ∙ ap (λ b. new ∷ some b) stays
          ∙ sym (ap (λ b. insert_negative new (some b)) stays ∙ ap (λ o. match_ordering o (new ∷ m ∷ rest) (new ∷ m ∷ rest) (m ∷ insert_negative new rest)) h)
      | Greater ↦ λ h.
          elim (is_negative_of path m)
          as (λ b. cond (not b) (m ∷ without_negative path (insert_negative new negatives)) (without_negative path (insert_negative new negatives)) ≡ insert_negative new (some b)) [
            | true ↦ other-first new path negatives up.1 other
            | false ↦
                ap (λ r. m ∷ r) (other-first new path negatives up.1 other)
                ∙ sym (ap (λ o. match_ordering o (new ∷ m ∷ rest) (new ∷ m ∷ rest) (m ∷ insert_negative new rest)) h)
          ]
    ] refl

-- ---- what the map says of a path
pub negatives-length : (es : List (String Global × ℕ)) → length (shown_negatives es) ≡ length es
negatives-length es = length-map es negative_entry

some-found : (o : Option ℕ) (path : List ℕ) → is_some o ≡ true → (m : NegativeEntry) × (option_map (shown_negative path) o ≡ Some m)
some-found None path is = absurd (false≢true is)
some-found (Some moment) path is = (shown_negative path moment, refl)

pub there : (path : List ℕ) (es : List (String Global × ℕ)) → is_some (lookup (at_text path) es) ≡ true → (m : NegativeEntry) × (find (is_negative_of path) (shown_negatives es) ≡ Some m)
there path es is =
    let some = some-found (lookup (at_text path) es) path is in
    (some.0, sym (found path es) ∙ some.1)

none-found : (o : Option ℕ) (path : List ℕ) → is_some o ≡ false → option_map (shown_negative path) o ≡ None
none-found None path is = refl
none-found (Some moment) path is = absurd (false≢true (sym is))

pub free : (path : List ℕ) (es : List (String Global × ℕ)) → is_some (lookup (at_text path) es) ≡ false → find (is_negative_of path) (shown_negatives es) ≡ None
free path es is = sym (found path es) ∙ none-found (lookup (at_text path) es) path is
