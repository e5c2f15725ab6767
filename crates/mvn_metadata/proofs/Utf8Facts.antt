-- Segments of a path are text in UTF-8, and what is no text is no segment.
use Rattle.std.proofs.Common.{◌≡◌, ℕ, Bool, true, false, ◌&&◌, List, [], ◌∷◌, ◌<◌, refl, arith, length, lit<}
use Rattle.std.specs.Prelude.{zero, suc, slice_index, nat_lt, nat_le, not, bytes_eq, codes}
use Rattle.std.specs.List.{list_all}
use Rattle.std.specs.Str.{IsUtf8}
use Rattle.std.proofs.lemmas.Str.{IsUtf8-from_ascii}
use Rattle.std.proofs.lemmas.Bool.Decides.{nat_tests}
use Rattle.mvn_coords.specs.Segment.{are_group_bytes, is_path_byte, is_segment}
use Rattle.mvn_metadata.proofs.Bools.{first, second}

path_byte_small : (b : ℕ) → is_path_byte b ≡ true → b < 128
path_byte_small b h = grind (arith, nat_tests)

pub each_small : (bs : List ℕ) → list_all is_path_byte bs ≡ true → (i : ℕ) → slice_index bs i < 128
each_small [] h i = lit< tt
each_small (b ∷ bs) h zero = path_byte_small b (first (is_path_byte b) (list_all is_path_byte bs) h)
each_small (b ∷ bs) h (suc i) = each_small bs (second (is_path_byte b) (list_all is_path_byte bs) h) i

pub path_bytes_utf8 : (bs : List ℕ) → list_all is_path_byte bs ≡ true → IsUtf8 bs
path_bytes_utf8 bs h = IsUtf8-from_ascii bs (each_small bs h)

pub segment_utf8 : (s : List ℕ) → is_segment s ≡ true → IsUtf8 s
segment_utf8 s h =
    path_bytes_utf8 s (second (nat_lt 0 (length s) && nat_le (length s) 255 && not (bytes_eq s (codes ".")) && not (bytes_eq s (codes ".."))) (list_all is_path_byte s) h)

pub false_test : (b : Bool) → ¬ (b ≡ true) → b ≡ false
false_test true h = absurd (h refl)
false_test false h = refl

pub no_group_part : (bs : List ℕ) → ¬ (IsUtf8 bs) → (is_segment bs && are_group_bytes bs) ≡ false
no_group_part bs none = false_test (is_segment bs && are_group_bytes bs) (λ e. none (segment_utf8 bs (first (is_segment bs) (are_group_bytes bs) e)))
