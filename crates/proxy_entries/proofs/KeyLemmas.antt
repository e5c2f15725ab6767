-- Paths as keys of an ordered map.
use Rattle.std.proofs.Common.{◌≡◌, ℕ, List, Bool, true, false, Option, Some, None, option_map, String, Global, string_bytes, Bor, Equal, is_eq, nat_cmp, refl, sym, ◌∙◌, ap, bytes_eq}
use Rattle.std.proofs.lemmas.Map.Text.{is_eq-slice_cmp}
use Rattle.std.proofs.lemmas.Slice.Eq.{bytes_eq-Decides}
use Rattle.std.proofs.lemmas.Bool.{false_from_ne_true, both_ways}
use Rattle.std.specs.Cmp.Lexicographic.{slice_cmp}
use Rattle.std.specs.BTreeMap.{is_at}
use Rattle.std.specs.Option.{option_copied}

abbrev pub at_text : List ℕ → String Global → Bool
at_text path k = is_at (λ x. slice_cmp nat_cmp path (string_bytes x)) k

-- the test of the map and that of the list
pub same_test : (path key : List ℕ) → is_eq (slice_cmp nat_cmp path key) ≡ bytes_eq key path
same_test path key =
    is_eq-slice_cmp path key ∙ elim (bytes_eq path key) as (λ b. bytes_eq path key ≡ b → b ≡ bytes_eq key path) [
      | true ↦ λ is. sym ((bytes_eq-Decides key path).1 (sym ((bytes_eq-Decides path key).0 is)))
      | false ↦ λ other. sym (false_from_ne_true (bytes_eq key path) (λ is. both_ways (bytes_eq path key) other ((bytes_eq-Decides path key).1 (sym ((bytes_eq-Decides key path).0 is)))))
    ] refl

-- the key that compares as equal is the path
pub at_path : (path key : List ℕ) → slice_cmp nat_cmp path key ≡ Equal → key ≡ path
at_path path key is = (bytes_eq-Decides key path).0 (sym (same_test path key) ∙ ap is_eq is)

pub option_map-copied : {A B : Type 0} (f : A → B) (o : Option (Bor A)) → option_map (λ r. f r.now) o ≡ option_map f (option_copied o)
option_map-copied f None = refl
option_map-copied f (Some x) = refl
